-- SPDX-License-Identifier: MIT
-- what is left of the text says, behind what was read, what the whole text says
use Rattle.std.proofs.Common.{◌≡◌, drop, []}
use Rattle.rrc_name.specs.Reading.{name_from}
use Rattle.rrc_name.specs.declared.text.Escape.TheVariants.{Unescaped}
use Rattle.rrc_name.proofs.text.wire_in.Given as goal

abbrev pub invariant-loop-octet : goal.invariant-loop-octet
invariant-loop-octet l =
    name_from l.before.items l.label.items l.escape (drop l.octet-index l.text) ≡ name_from [] [] Unescaped l.text
