-- SPDX-License-Identifier: MIT
-- What a function that reads a line of an archive answers, beside what it gives.
use Rattle.std.specs.Prelude.{◌≡◌, Option, Some, Result, Ok, Err}
use Rattle.rrc_text.specs.declared.read.line_fault.LineFault.{LineFault}
use Rattle.rrc_text.specs.declared.read.line_fault.LineFault.TheVariants.{NotOne, Memory}

-- the answer, seen by a view, is what the octets say; none where they say what no answer is
abbrev pub Tells : {X Y : Type 0} → (X → Y) → Result X LineFault → Option Y → Type 0
Tells view (Ok answer) said = said ≡ Some (view answer)
Tells {X} view (Err NotOne) said = (answer : X) → said ≡ Some (view answer) → ⊥
Tells view (Err Memory) said = Unit {0}

-- a fact of octets that were refused
abbrev pub IfNotOne : {X : Type 0} → Result X LineFault → Type 0 → Type 0
IfNotOne (Ok answer) fact = Unit {0}
IfNotOne (Err NotOne) fact = fact
IfNotOne (Err Memory) fact = Unit {0}
