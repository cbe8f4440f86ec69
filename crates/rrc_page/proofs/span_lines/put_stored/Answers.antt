-- SPDX-License-Identifier: MIT
use Rattle.rrc_text.proofs.OutputLemmas.{then}
use Rattle.rrc_page.proofs.span_lines.put_stored.Goals as goal

pub returns : goal.returns
returns g c =
    let keyed = then c.put_event.ensures (then c.put_word-3.ensures c.put_key.ensures) in
    let named = then c.put_kind.ensures (then c.put_word-2.ensures keyed) in
    rw (← c.offer.view_is) (then c.put_word.ensures named)
