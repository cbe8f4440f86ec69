-- SPDX-License-Identifier: MIT
-- Steps that are counted down, as a loop counts them up.
use Rattle.std.proofs.Common.{◌≡◌, ℕ, suc, ◌+◌, ◌-◌, ◌<◌, ◌≤◌, List, true, false, cond, Some, None, refl, ap, ◌∙◌, arith}
use Rattle.std.specs.Option.{option_map_or}
use Rattle.rrc_wire.specs.declared.record.Rr.{Rr}
use Rattle.rrc_name.specs.Order.{is_at_or_below}
use Rattle.rrc_sets.specs.Aliases.{target_of, end_of_chain}
use Rattle.rrc_sets.specs.Kinds.{end_within}

module _ (answer : List Rr) (i : ℕ) (name : List ℕ) (below : i < 17) where
  left : 17 - i ≡ suc (17 - (i + 1))
  left = omega arith

  pub end_of_chain-None : target_of answer name ≡ None → end_of_chain (17 - i) answer name ≡ Some name
  unfolding end_of_chain
  end_of_chain-None none = rw left (ap (λ target. option_map_or (end_of_chain (17 - (i + 1)) answer) target (Some name)) none)

  pub end_of_chain-Some : (target : List ℕ) → target_of answer name ≡ Some target → end_of_chain (17 - i) answer name ≡ end_of_chain (17 - (i + 1)) answer target
  unfolding end_of_chain
  end_of_chain-Some target some = rw left (ap (λ next. option_map_or (end_of_chain (17 - (i + 1)) answer) next (Some name)) some)

pub end_of_chain-past : (answer : List Rr) (i : ℕ) (name : List ℕ) → 17 ≤ i → end_of_chain (17 - i) answer name ≡ None
unfolding end_of_chain
end_of_chain-past answer i name past = let none : 17 - i ≡ 0 = omega arith in rw none refl

-- ---- within a zone

module _ (zone : List ℕ) (answer : List Rr) (i : ℕ) (name : List ℕ) (below : i < 17) where
  one_more : 17 - i ≡ suc (17 - (i + 1))
  one_more = omega arith

  pub end_within-outside : is_at_or_below name zone ≡ false → end_within zone (17 - i) answer name ≡ Some name
  unfolding end_within
  end_within-outside outside =
      rw one_more (ap (λ b. cond b (option_map_or (end_within zone (17 - (i + 1)) answer) (target_of answer name) (Some name)) (Some name)) outside)

  pub end_within-None : is_at_or_below name zone ≡ true → target_of answer name ≡ None → end_within zone (17 - i) answer name ≡ Some name
  unfolding end_within
  end_within-None inside none =
      rw one_more (ap (λ b. cond b (option_map_or (end_within zone (17 - (i + 1)) answer) (target_of answer name) (Some name)) (Some name)) inside
      ∙ ap (λ target. option_map_or (end_within zone (17 - (i + 1)) answer) target (Some name)) none)

  pub end_within-Some : is_at_or_below name zone ≡ true → (target : List ℕ) → target_of answer name ≡ Some target
      → end_within zone (17 - i) answer name ≡ end_within zone (17 - (i + 1)) answer target
  unfolding end_within
  end_within-Some inside target some =
      rw one_more (ap (λ b. cond b (option_map_or (end_within zone (17 - (i + 1)) answer) (target_of answer name) (Some name)) (Some name)) inside
      ∙ ap (λ next. option_map_or (end_within zone (17 - (i + 1)) answer) next (Some name)) some)

pub end_within-past : (zone : List ℕ) (answer : List Rr) (i : ℕ) (name : List ℕ) → 17 ≤ i → end_within zone (17 - i) answer name ≡ None
unfolding end_within
end_within-past zone answer i name past = let none : 17 - i ≡ 0 = omega arith in rw none refl
