-- SPDX-License-Identifier: MIT
-- What a function that reads octets answers.
use Rattle.std.specs.Prelude.{◌≡◌, Option, Some, None, option_and_then, Result, Ok, Err}
use Rattle.rrc_text.specs.declared.read.line_fault.LineFault.{LineFault}
use Rattle.rrc_text.specs.declared.read.line_fault.LineFault.TheVariants.{NotOne, Memory}

-- what follows, where the octets say something
infixl 10 ◌>>=◌
abbrev pub ◌>>=◌ : {A B : Type 0} → Option A → (A → Option B) → Option B
said >>= next = option_and_then next said

-- the answer, seen by a view, is what the octets say, unless memory was refused
abbrev pub Gives : {X Y : Type 0} → (X → Y) → Result X LineFault → Option Y → Type 0
Gives view (Ok answer) said = said ≡ Some (view answer)
Gives view (Err NotOne) said = said ≡ None
Gives view (Err Memory) said = Unit {0}
