-- SPDX-License-Identifier: MIT
use Rattle.rrc_text.proofs.OutputLemmas.{then}
use Rattle.rrc_archive.proofs.write.archive.put_asked.Goals as goal

pub returns : goal.returns
returns g c =
    let classed = then c.put_class.ensures (then c.put_word-5.ensures c.put_replied.ensures) in
    let kind = then c.put_slot.ensures classed in
    let asked = then c.put_name.ensures (then c.put_word-4.ensures kind) in
    let timed = then c.put_number.ensures (then c.put_word-3.ensures asked) in
    let tagged = then c.put_tag.ensures (then c.put_word-2.ensures timed) in
    rw (← c.ask.view_is) (then c.put_word.ensures tagged)
