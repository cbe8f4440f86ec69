-- SPDX-License-Identifier: MIT
use Rattle.std.proofs.Common.{◌∙◌, sym}
use Rattle.rrc_replay.proofs.ArchiveLemmas.{same_snapshot}
use Rattle.rrc_replay.proofs.history.is_snapshot.Goals as goal

pub returns : goal.returns
returns c = λ yes.
    sym c.snapshot.view_is
    ∙ same_snapshot (record { rules = c.snapshot.inside.rules; first = c.snapshot.inside.first; entries = c.snapshot.inside.entries })
    c.args.rules c.args.first c.args.entries.now (sym c.has_same_numbers.ensures ∙ c.if-not-has_same_numbers.false) c.if-snapshot-first.false (c.has_entries.ensures yes)
