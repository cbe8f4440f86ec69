-- SPDX-License-Identifier: MIT
-- What trees find once the key and the number of one more entry are in them.
use Rattle.std.proofs.Common.{◌≡◌, ℕ, List, [], ◌∷◌, ◌++◌, Bool, true, false, cond, ◌||◌, ◌==◌, refl, sym, ap, ◌∙◌}
use Rattle.std.specs.BTreeSet as set
use Rattle.std.specs.Cmp.{unsigned_ties}
use Rattle.std.specs.Ordering.{nat_cmp, is_eq}
use Rattle.std.proofs.lemmas.List.Folds.{list_any-append}
use Rattle.rrc_name.specs.Key.{KeyOf, key_eq, key_order}
use Rattle.rrc_name.specs.lemmas.KeyLaws.{key_eq-laws, key_order-ties}
use Rattle.rrc_history.specs.declared.snapshot.Entry.{Entry}
use Rattle.rrc_history.specs.Snapshots.{has_key, has_number}

behind : (has is : Bool) → (has || (is || false)) ≡ cond is true has
behind true true = refl
behind true false = refl
behind false true = refl
behind false false = refl

module _ (before : List Entry) (entry : Entry) where
  -- the key of the entry is found, and all others are found as before
  pub keys-more : (old new : set.BTreeSet KeyOf) (own : KeyOf) → own ≡ entry.key
      → ((key : KeyOf) → set.contains key_order old key ≡ has_key key before)
      → ((key : KeyOf) → set.contains key_order new key ≡ cond (is_eq (key_order own key)) true (set.contains key_order old key))
      → (key : KeyOf) → set.contains key_order new key ≡ has_key key (before ++ entry ∷ [])
  keys-more old new own same finds updates key =
      updates key
      ∙ (ap (cond (is_eq (key_order own key)) true) (finds key)
      ∙ (ap (λ b. cond b true (has_key key before)) (sym (key_order-ties own key) ∙ (ap (λ k. key_eq k key) same ∙ key_eq-laws.symm entry.key key))
      ∙ sym (list_any-append (λ (e : Entry). key_eq key e.key) before (entry ∷ []) ∙ behind (has_key key before) (key_eq key entry.key))))

  -- the number of the entry is found, and all others are found as before
  pub numbers-more : (old new : set.BTreeSet ℕ) → ((number : ℕ) → set.contains nat_cmp old number ≡ has_number number before)
      → ((number : ℕ) → set.contains nat_cmp new number ≡ cond (is_eq (nat_cmp entry.number number)) true (set.contains nat_cmp old number))
      → (number : ℕ) → set.contains nat_cmp new number ≡ has_number number (before ++ entry ∷ [])
  numbers-more old new finds updates number =
      updates number
      ∙ (ap (cond (is_eq (nat_cmp entry.number number)) true) (finds number)
      ∙ (ap (λ b. cond b true (has_number number before)) (sym (unsigned_ties entry.number number))
      ∙ sym (list_any-append (λ (e : Entry). e.number == number) before (entry ∷ []) ∙ behind (has_number number before) (entry.number == number))))
