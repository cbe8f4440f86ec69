-- SPDX-License-Identifier: MIT
-- What fits its key of the sets that C hands in, and what does not.
use Rattle.std.proofs.Common.{◌≡◌, ℕ, Bool, true, false, ◌&&◌, ◌≤◌, List, [], ◌∷◌, length, Result, Ok, Err, refl, sym, ap, subst, ◌∙◌, inl, inr, arith}
use Rattle.std.specs.Prelude.{OnOk, nat_eq}
use Rattle.std.specs.Cmp.{first_so, second_so, nat_eq_equiv}
use Rattle.std.specs.Cmp.Lexicographic.{pointwise, lists_equiv}
use Rattle.rrc_name.specs.Key.{KeyOf}
use Rattle.rrc_name.specs.Wire.{folded}
use Rattle.rrc_name.specs.declared.slot.Slot.TheVariants.{Set}
use Rattle.rrc_history.specs.Fits.{fits, has_items, is_lifetime, is_set}
use Rattle.rrc_history.specs.declared.body.Body.TheVariants.{Positive}
use Rattle.rrc_history.specs.declared.body.Trust.{Trust}
use Rattle.rrc_shelf.specs.Checks.{number_of, unless, Refuses}
use Rattle.rrc_shelf.specs.Asks.{data_text}
use Rattle.rrc_shelf.specs.declared.status.Status.TheVariants.{WrongBody}

pub on_ok : {A E : Type 0} (result : Result A E) (P Q : Type 0) → (P → Q) → OnOk result P → OnOk result Q
on_ok (Ok value) P Q step is = step is
on_ok (Err fault) P Q step is = tt

some_data : (items : List (List ℕ)) → has_items items ≡ true → 1 ≤ length (data_text items)
some_data [] some = absurd cc
some_data (first ∷ items) some = omega arith

no_data : (items : List (List ℕ)) → has_items items ≡ false → data_text items ≡ []
no_data [] none = refl
no_data (first ∷ items) none = absurd cc

module _ (key : KeyOf) (trust : Trust) (ttl : ℕ) (owner : List ℕ) (items : List (List ℕ)) (text : List ℕ) (stand : data_text items ≡ text) where
  last_so : fits key (Positive trust ttl owner items) ≡ true → (has_items items && is_lifetime ttl) ≡ true
  last_so fit =
      second_so (pointwise nat_eq (folded owner) key.name) (has_items items && is_lifetime ttl)
      (second_so (is_set key.slot) (pointwise nat_eq (folded owner) key.name && (has_items items && is_lifetime ttl)) fit)

  some_text : has_items items ≡ true → 1 ≤ length text
  some_text some = subst (λ (octets : List ℕ). 1 ≤ length octets) stand (some_data items some)

  -- a set that fits has data
  pub some_where_fit : fits key (Positive trust ttl owner items) ≡ true → 1 ≤ length text
  some_where_fit fit = some_text (first_so (has_items items) (is_lifetime ttl) (last_so fit))

  -- and its ttl is one
  pub life_where_fit : fits key (Positive trust ttl owner items) ≡ true → is_lifetime ttl ≡ true
  life_where_fit fit = second_so (has_items items) (is_lifetime ttl) (last_so fit)

  -- what does not fit under its own name lacks data or a ttl
  pub lacks_where_unfit : (rtype class number : ℕ) → key ≡ record { name = folded owner; class = class; slot = Set rtype }
      → (number ≡ number_of WrongBody) × (fits key (Positive trust ttl owner items) ≡ false)
      → Refuses (unless WrongBody (1 ≤ length text) ∷ unless WrongBody (is_lifetime ttl ≡ true) ∷ []) number
  lacks_where_unfit rtype class number is (told, unfit) = by (has_items items) refl
    where
      own : fits (record { name = folded owner; class = class; slot = Set rtype }) (Positive trust ttl owner items) ≡ false
      own = subst (λ (k : KeyOf). fits k (Positive trust ttl owner items) ≡ false) is unfit

      lacks : (has_items items && is_lifetime ttl) ≡ false
      lacks = sym (ap (λ b. b && (has_items items && is_lifetime ttl)) ((lists_equiv nat_eq_equiv).refl (folded owner))) ∙ own

      no_text : has_items items ≡ false → 1 ≤ length text → ⊥
      no_text none some = let size = ap length (sym stand ∙ no_data items none) in omega (arith, some, size)

      no_life : has_items items ≡ true → is_lifetime ttl ≡ true → ⊥
      no_life some life = let bad : true ≡ false = sym life ∙ sym (ap (λ b. b && is_lifetime ttl) some) ∙ lacks in absurd cc

      by : (b : Bool) → has_items items ≡ b → Refuses (unless WrongBody (1 ≤ length text) ∷ unless WrongBody (is_lifetime ttl ≡ true) ∷ []) number
      by false none = inl (told, no_text none)
      by true some = inr (some_text some, inl (told, no_life some))
