-- SPDX-License-Identifier: MIT
use Rattle.rrc_page.proofs.SpansLaw.{spans_right}
use Rattle.rrc_page.proofs.spans.spans_are_right.Goals as goal

pub returns : goal.returns
returns c = spans_right
