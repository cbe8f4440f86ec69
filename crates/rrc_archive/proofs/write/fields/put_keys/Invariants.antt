-- SPDX-License-Identifier: MIT
-- the keys so far were put, and the others are left
use Rattle.std.proofs.Common.{drop}
use Rattle.rrc_archive.specs.Archive.{keys_fields}
use Rattle.rrc_text.proofs.OutputLemmas.{Leaves}
use Rattle.rrc_archive.proofs.write.fields.put_keys.Given as goal

abbrev pub invariant-loop-key : goal.invariant-loop-key
invariant-loop-key g l =
    let rest = drop l.key-index l.keys in
    Leaves g.W.Write.contents l.initial.output l.output (keys_fields l.keys) (keys_fields rest)
