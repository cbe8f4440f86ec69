-- SPDX-License-Identifier: MIT
use Rattle.rrc_text.proofs.OutputLemmas.{then}
use Rattle.rrc_archive.proofs.write.archive.put_offered.Goals as goal

pub returns : goal.returns
returns g c =
    let told = then c.put_body.ensures (then c.put_word-5.ensures c.put_outcome.ensures) in
    let offered = then c.put_key_fields.ensures (then c.put_word-4.ensures told) in
    let timed = then c.put_number.ensures (then c.put_word-3.ensures offered) in
    let tagged = then c.put_tag.ensures (then c.put_word-2.ensures timed) in
    rw (← c.offer.view_is) (then c.put_word.ensures tagged)
