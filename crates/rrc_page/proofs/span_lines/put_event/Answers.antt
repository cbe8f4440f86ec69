-- SPDX-License-Identifier: MIT
use Rattle.rrc_text.proofs.OutputLemmas.{then}
use Rattle.rrc_page.proofs.span_lines.put_event.Goals as goal

pub returns : goal.returns
returns g c =
    let timed = then c.put_tag.ensures (then c.put_word-2.ensures c.put_number-2.ensures) in
    then c.put_number.ensures (then c.put_word.ensures timed)
