-- SPDX-License-Identifier: MIT
-- the histories of some parts were put, and those of the others are left
use Rattle.std.proofs.Common.{◌≡◌, ◌++◌, drop}
use Rattle.rrc_page.specs.Texts.{histories_text}
use Rattle.rrc_page.proofs.histories.histories_text.Given as goal

abbrev pub invariant-loop-whole : goal.invariant-loop-whole
invariant-loop-whole l = l.text.items ++ histories_text (drop l.whole-index l.wholes) ≡ histories_text l.wholes
