-- SPDX-License-Identifier: MIT
-- The numbers of refusals.
use Rattle.std.specs.Prelude.{ℕ}
use Rattle.rrc_cache.specs.declared.refusal.Refusal.{Refusal}
use Rattle.rrc_cache.specs.declared.refusal.Refusal.TheVariants.{HistoryFull, MomentTooLarge, Memory}

-- the number that a refusal has
abbrev pub number_of : Refusal → ℕ
number_of HistoryFull = 1
number_of MomentTooLarge = 2
number_of Memory = 3
