-- SPDX-License-Identifier: MIT
-- The names of a chain of aliases, as a loop puts them one behind the other.
use Rattle.std.proofs.Common.{◌≡◌, ℕ, suc, ◌+◌, ◌-◌, ◌<◌, ◌≤◌, List, [], ◌∷◌, Some, None, refl, ap, arith}
use Rattle.std.specs.Option.{option_map_or}
use Rattle.rrc_wire.specs.declared.record.Rr.{Rr}
use Rattle.rrc_sets.specs.Aliases.{target_of, chain}

module _ (answer : List Rr) (most i : ℕ) (name : List ℕ) where
  left : i < most → most - i ≡ suc (most - (i + 1))
  left below = omega (arith, below)

  pub chain-None : i < most → target_of answer name ≡ None → chain (most - i) answer name ≡ name ∷ []
  unfolding chain
  chain-None below none = rw (left below) (ap (λ target. name ∷ option_map_or (chain (most - (i + 1)) answer) target []) none)

  pub chain-Some : i < most → (target : List ℕ) → target_of answer name ≡ Some target → chain (most - i) answer name ≡ name ∷ chain (most - (i + 1)) answer target
  unfolding chain
  chain-Some below target some = rw (left below) (ap (λ next. name ∷ option_map_or (chain (most - (i + 1)) answer) next []) some)

  pub chain-past : most ≤ i → chain (most - i) answer name ≡ name ∷ []
  unfolding chain
  chain-past past = let none : most - i ≡ 0 = omega (arith, past) in rw none refl
