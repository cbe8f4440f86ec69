-- SPDX-License-Identifier: MIT
-- What a tree of items finds, and what it finds once one more is in it.
use Rattle.std.proofs.Common.{◌≡◌, ℕ, List, [], ◌∷◌, ◌++◌, Some, Bool, true, false, cond, ◌||◌, nat_eq, refl, sym, ap, subst, ◌∙◌}
use Rattle.std.specs.List.{list_any}
use Rattle.std.specs.Global.{Vec}
use Rattle.std.specs.Ordering.{nat_cmp, is_eq}
use Rattle.std.specs.BTreeSet as set
use Rattle.std.specs.Cmp.{unsigned_ties, nat_eq_equiv}
use Rattle.std.specs.Cmp.Lexicographic.{pointwise, slice_cmp, bytes_decides, lists_ties, lists_equiv}
use Rattle.std.proofs.lemmas.List.Folds.{list_any-append}
use Rattle.rrc_wire.specs.SameRdata.{lowered_rdata, same_rdata}
use Rattle.rrc_trace.specs.Grammar.{with_item}
use Rattle.rrc_trace.specs.Repeats.{has_lowered, octets_order, FindsRepeats}

module _ (rtype : ℕ) (items : List (List ℕ)) (item : List ℕ) (seen : set.BTreeSet (Vec ℕ)) (own : Vec ℕ) (finds : FindsRepeats rtype (Some seen) items)
    (lowered : own.items ≡ lowered_rdata rtype item) where
  -- a tree that has an item's octets has one that is the same
  pub has-same : set.contains octets_order seen own ≡ list_any (same_rdata rtype item) items
  unfolding same_rdata
  has-same = finds own ∙ ap (has_lowered rtype items) lowered

  behind : (has is : Bool) → (has || (is || false)) ≡ cond is true has
  behind true true = refl
  behind true false = refl
  behind false true = refl
  behind false false = refl

  -- the item that is put in is found by its octets, and all others are found as before
  has-more : (low : List ℕ) → has_lowered rtype (with_item rtype items item) low ≡ cond (pointwise nat_eq (lowered_rdata rtype item) low) true (has_lowered rtype items low)
  unfolding same_rdata
  has-more low = by (list_any (same_rdata rtype item) items) refl (pointwise nat_eq (lowered_rdata rtype item) low) refl
    where
      is_low : List ℕ → Bool
      is_low other = pointwise nat_eq low (lowered_rdata rtype other)

      by : (repeat : Bool) → list_any (λ other. pointwise nat_eq (lowered_rdata rtype item) (lowered_rdata rtype other)) items ≡ repeat
          → (is : Bool) → pointwise nat_eq (lowered_rdata rtype item) low ≡ is
          → list_any is_low (cond repeat items (items ++ item ∷ [])) ≡ cond (pointwise nat_eq (lowered_rdata rtype item) low) true (list_any is_low items)
      by true repeats true is =
          subst (λ other. list_any (λ o. pointwise nat_eq other (lowered_rdata rtype o)) items ≡ true) ((bytes_decides (lowered_rdata rtype item) low).0 is) repeats
          ∙ ap (λ b. cond b true (list_any is_low items)) (sym is)
      by true repeats false is = ap (λ b. cond b true (list_any is_low items)) (sym is)
      by false repeats is says =
          list_any-append is_low items (item ∷ [])
          ∙ (behind (list_any is_low items) (pointwise nat_eq low (lowered_rdata rtype item))
          ∙ ap (λ b. cond b true (list_any is_low items)) ((lists_equiv nat_eq_equiv).symm low (lowered_rdata rtype item)))

  -- with those octets put in, a tree has the items with this one
  pub finds-more : (new : set.BTreeSet (Vec ℕ)) → ((low : Vec ℕ) → set.contains octets_order new low ≡ cond (is_eq (octets_order own low)) true (set.contains octets_order seen low))
      → FindsRepeats rtype (Some new) (with_item rtype items item)
  finds-more new updates = λ low.
      updates low
      ∙ (ap (cond (is_eq (octets_order own low)) true) (finds low)
      ∙ (ap (λ b. cond b true (has_lowered rtype items low.items)) (sym (lists_ties nat_cmp unsigned_ties own.items low.items))
      ∙ (ap (λ (o : List ℕ). cond (pointwise nat_eq o low.items) true (has_lowered rtype items low.items)) lowered
      ∙ sym (has-more low.items))))
