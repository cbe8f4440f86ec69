-- SPDX-License-Identifier: MIT
use Rattle.rrc_shelf.proofs.Filling.{writes_on, writes_both}
use Rattle.rrc_shelf.proofs.text.put_datum.Goals as goal

pub returns : goal.returns
returns c = writes_both c.args.at _ c.args.octets.now _ _ _ (writes_on _ _ _ _ c.put.ensures) (writes_on _ _ _ _ c.put-2.ensures)
