-- SPDX-License-Identifier: MIT
-- What a write meets that goes wrong.
use Rattle.std.specs.Prelude.{◌≡◌, ℕ, Result, IsErr, IsOkAnd}
use Rattle.rrc_fakes.specs.declared.writer.Stumble.{Stumble}
use Rattle.rrc_fakes.specs.declared.writer.Stumble.TheVariants.{Fails, TakesNothing}

-- the write failed, or it took nothing
abbrev pub Stumbles : {E : Type 0} → Stumble → Result ℕ E → Type 0
Stumbles Fails result = IsErr result
Stumbles TakesNothing result = IsOkAnd result (λ count. count ≡ 0)
