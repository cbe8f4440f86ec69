-- SPDX-License-Identifier: MIT
use Rattle.std.proofs.Common.{ap}
use Rattle.rrc_archive.specs.Archive.{keys_fields}
use Rattle.rrc_text.proofs.OutputLemmas.{then, front_left, less_left}
use Rattle.rrc_archive.proofs.write.fields.put_keys.Goals as goal

pub loop-key-preserved : goal.loop-key-preserved
loop-key-preserved g c =
    let i = c.loop-key.key-index in
    let within = c.loop-key-test.true in
    let left = front_left c.args.keys.now i c.key-item.result within c.key-item.is in
    let puts = then c.put_word.ensures c.put_key_fields.ensures in
    less_left c.loop-key.invariant (ap keys_fields left) puts
