-- SPDX-License-Identifier: MIT
use Rattle.rrc_text.proofs.OutputLemmas.{then}
use Rattle.rrc_archive.proofs.write.archive.put_entry.Goals as goal

pub returns : goal.returns
returns g c =
    let held = then c.put_key_fields.ensures (then c.put_word-4.ensures c.put_body.ensures) in
    let timed = then c.put_number-2.ensures (then c.put_word-3.ensures held) in
    then c.put_word.ensures (then c.put_number.ensures (then c.put_word-2.ensures timed))
