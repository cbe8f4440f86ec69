-- SPDX-License-Identifier: MIT
-- The sets of some records and one more are the sets of those records with that one put in.
use Rattle.std.proofs.Common.{◌≡◌, List, [], ◌∷◌, ◌++◌, Bool, true, false, cond, not, ◌||◌, refl, sym, ap, ◌∙◌, map}
use Rattle.std.specs.Cmp.{IsEquivalence}
use Rattle.std.specs.Prelude.{filter}
use Rattle.std.specs.List.{list_any, AllByRecursion}
use Rattle.std.proofs.lemmas.List.{map-append, append-nil}
use Rattle.std.proofs.lemmas.Bool.{or_parts}
use Rattle.std.proofs.lemmas.List.Elements.{filter-append}
use Rattle.rrc_wire.specs.declared.record.Rr.{Rr}
use Rattle.rrc_wire.specs.SameRdata.{same_rdata}
use Rattle.rrc_wire.specs.SameRdataLaws.{same_rdata-equiv}
use Rattle.rrc_sets.specs.Uniques.{uniques}
use Rattle.rrc_sets.specs.Sets.{SetOf, same_set, set_of, sets_of}
use Rattle.rrc_sets.specs.Gathering.{alone, with_value, grown, with_record}
use Rattle.rrc_sets.proofs.SameSets.{same_set-laws}

module _ {A : Type 0} (same : A → A → Bool) (laws : IsEquivalence same) where
  -- a value that is not the same as z stays unlike it, whatever is the same as it
  unlike : (x u z : A) → same x z ≡ false → same x u ≡ true → same u z ≡ false
  unlike x u z apart along = sym (laws.congr x u z along) ∙ apart

  any-filter : (x z : A) → same x z ≡ false → (us : List A)
      → list_any (λ other. same other z) (filter (λ other. not (same x other)) us) ≡ list_any (λ other. same other z) us
  any-filter x z apart [] = refl
  any-filter x z apart (u ∷ us) = by (any-filter x z apart us) (same x u) refl
    where
      kept : List A
      kept = filter (λ other. not (same x other)) us

      by : list_any (λ other. same other z) kept ≡ list_any (λ other. same other z) us → (is : Bool) → same x u ≡ is
          → list_any (λ other. same other z) (cond (not is) (u ∷ kept) kept) ≡ (same u z || list_any (λ other. same other z) us)
      by rest true along = rest ∙ ap (λ b. b || list_any (λ other. same other z) us) (sym (unlike x u z apart along))
      by rest false along = ap (λ b. same u z || b) rest

  -- the first of all of a list are the first of its uniques
  list_any-uniques : (z : A) (xs : List A) → list_any (λ other. same other z) (uniques same xs) ≡ list_any (λ other. same other z) xs
  list_any-uniques z [] = refl
  list_any-uniques z (x ∷ xs) = by (list_any-uniques z xs) (same x z) refl
    where
      by : list_any (λ other. same other z) (uniques same xs) ≡ list_any (λ other. same other z) xs → (is : Bool) → same x z ≡ is
          → (is || list_any (λ other. same other z) (filter (λ other. not (same x other)) (uniques same xs))) ≡ (is || list_any (λ other. same other z) xs)
      by rest true is = refl
      by rest false is = any-filter x z is (uniques same xs) ∙ rest

  push-head : (x z : A) (us : List A) → x ∷ filter (λ other. not (same x other)) (with_value same us z) ≡ with_value same (x ∷ filter (λ other. not (same x other)) us) z
  push-head x z us = by (same x z) refl (list_any (λ other. same other z) us) refl
    where
      unlike_x : A → Bool
      unlike_x other = not (same x other)

      kept : List A
      kept = filter unlike_x us

      last : (is : Bool) → same x z ≡ is → filter unlike_x (us ++ z ∷ []) ≡ kept ++ cond (not is) (z ∷ []) []
      last is e = filter-append unlike_x us (z ∷ []) ∙ ap (λ b. kept ++ cond (not b) (z ∷ []) []) e

      by : (is : Bool) → same x z ≡ is → (any : Bool) → list_any (λ other. same other z) us ≡ any
          → x ∷ filter unlike_x (cond any us (us ++ z ∷ []))
          ≡ cond (is || list_any (λ other. same other z) kept) (x ∷ kept) (x ∷ (kept ++ z ∷ []))
      by true is true any = refl
      by true is false any = ap (λ l. x ∷ l) (last true is ∙ append-nil kept)
      by false is true any = ap (λ b. cond b (x ∷ kept) (x ∷ (kept ++ z ∷ []))) (sym (any-filter x z is us ∙ any))
      by false is false any =
          ap (λ l. x ∷ l) (last false is) ∙ ap (λ b. cond b (x ∷ kept) (x ∷ (kept ++ z ∷ []))) (sym (any-filter x z is us ∙ any))

  -- the uniques of a list and one more value
  pub uniques-push : (xs : List A) (z : A) → uniques same (xs ++ z ∷ []) ≡ with_value same (uniques same xs) z
  uniques-push [] z = refl
  uniques-push (x ∷ xs) z =
      ap (λ us. x ∷ filter (λ other. not (same x other)) us) (uniques-push xs z) ∙ push-head x z (uniques same xs)

  -- no two are the same
  abbrev pub AreUnlike : List A → Type 0
  AreUnlike [] = Unit {0}
  AreUnlike (x ∷ xs) = AllByRecursion (λ other. same x other ≡ false) xs × AreUnlike xs

  all-filter : (P : A → Type 0) (p : A → Bool) (xs : List A) → AllByRecursion P xs → AllByRecursion P (filter p xs)
  all-filter P p [] all = tt
  all-filter P p (x ∷ xs) all =
      let rest : AllByRecursion P (filter p xs) = all-filter P p xs all.1 in
      elim (p x) as (λ b. AllByRecursion P (cond b (x ∷ filter p xs) (filter p xs))) [ true ↦ (all.0, rest) | false ↦ rest ]

  unlike-filter : (p : A → Bool) (xs : List A) → AreUnlike xs → AreUnlike (filter p xs)
  unlike-filter p [] all = tt
  unlike-filter p (x ∷ xs) all =
      let rest : AreUnlike (filter p xs) = unlike-filter p xs all.1 in
      elim (p x) as (λ b. AreUnlike (cond b (x ∷ filter p xs) (filter p xs))) [
        | true ↦ (all-filter (λ other. same x other ≡ false) p xs all.0, rest)
        | false ↦ rest
      ]

  unlike-first : (x : A) (xs : List A) → AllByRecursion (λ other. same x other ≡ false) (filter (λ other. not (same x other)) xs)
  unlike-first x [] = tt
  unlike-first x (y ∷ ys) = by (unlike-first x ys) (same x y) refl
    where
      kept : List A
      kept = filter (λ other. not (same x other)) ys

      by : AllByRecursion (λ other. same x other ≡ false) kept → (is : Bool) → same x y ≡ is → AllByRecursion (λ other. same x other ≡ false) (cond (not is) (y ∷ kept) kept)
      by rest true is = rest
      by rest false is = (is, rest)

  pub uniques-unlike : (xs : List A) → AreUnlike (uniques same xs)
  uniques-unlike [] = tt
  uniques-unlike (x ∷ xs) =
      (unlike-first x (uniques same xs), unlike-filter (λ other. not (same x other)) (uniques same xs) (uniques-unlike xs))

-- the set of a record whose set has these records
made : Rr → List Rr → SetOf
unfolding set_of
made first own = record {
  owner = first.owner;
  class = first.class;
  rtype = first.rtype;
  items = uniques (same_rdata first.rtype) (map (λ rr. rr.rdata) own);
  ttls = map (λ rr. rr.ttl) own;
}

made-push : (first : Rr) (own : List Rr) (rr : Rr) → made first (own ++ rr ∷ []) ≡ grown (made first own) rr
unfolding made
made-push first own rr =
    let data_are : map (λ (r : Rr). r.rdata) (own ++ rr ∷ []) ≡ map (λ (r : Rr). r.rdata) own ++ rr.rdata ∷ [] = map-append (λ (r : Rr). r.rdata) own (rr ∷ []) in
    let items_are = ap (uniques (same_rdata first.rtype)) data_are ∙ uniques-push (same_rdata first.rtype) (same_rdata-equiv first.rtype) (map (λ (r : Rr). r.rdata) own) rr.rdata in
    let ttls_are : map (λ (r : Rr). r.ttl) (own ++ rr ∷ []) ≡ map (λ (r : Rr). r.ttl) own ++ rr.ttl ∷ [] = map-append (λ (r : Rr). r.ttl) own (rr ∷ []) in
    λ i. record { owner = first.owner; class = first.class; rtype = first.rtype; items = items_are i; ttls = ttls_are i }

module _ (records : List Rr) (rr : Rr) where
  more : List Rr
  more = records ++ rr ∷ []

  of_set : Rr → Bool
  of_set first = same_set first rr

  own-more : (first : Rr) (is : Bool) → same_set first rr ≡ is
      → filter (same_set first) (records ++ rr ∷ []) ≡ filter (same_set first) records ++ cond is (rr ∷ []) []
  own-more first is e = filter-append (same_set first) records (rr ∷ []) ∙ ap (λ b. filter (same_set first) records ++ cond b (rr ∷ []) []) e

  grows : (first : Rr) → same_set first rr ≡ true → set_of (records ++ rr ∷ []) first ≡ grown (set_of records first) rr
  unfolding set_of made
  grows first is = ap (made first) (own-more first true is) ∙ made-push first (filter (same_set first) records) rr

  stays : (first : Rr) → same_set first rr ≡ false → set_of (records ++ rr ∷ []) first ≡ set_of records first
  unfolding set_of made
  stays first is = ap (made first) (own-more first false is ∙ append-nil (filter (same_set first) records))

  no_own : (rs : List Rr) → list_any (λ other. same_set other rr) rs ≡ false → filter (same_set rr) rs ≡ []
  no_own [] none = refl
  no_own (r ∷ rs) none =
      let parts = or_parts (same_set r rr) (list_any (λ other. same_set other rr) rs) none in
      let apart : same_set rr r ≡ false = same_set-laws.symm rr r ∙ parts.0 in
      ap (λ b. cond b (r ∷ filter (same_set rr) rs) (filter (same_set rr) rs)) apart ∙ no_own rs parts.1

  own_set : list_any (λ other. same_set other rr) records ≡ false → set_of (records ++ rr ∷ []) rr ≡ alone rr
  unfolding set_of made
  own_set none =
      let own = own-more rr true (same_set-laws.refl rr) ∙ ap (λ rs. rs ++ rr ∷ []) (no_own records none) in
      ap (made rr) own

  all_stay : (first : Rr) → same_set first rr ≡ true → (firsts : List Rr) → AllByRecursion (λ other. same_set first other ≡ false) firsts
      → map (set_of (records ++ rr ∷ [])) firsts ≡ map (set_of records) firsts
  all_stay first is [] apart = refl
  all_stay first is (other ∷ others) apart =
      let unlike_rr : same_set other rr ≡ false =
      same_set-laws.symm other rr ∙ (sym (same_set-laws.congr first rr other is) ∙ apart.0) in
      let one = stays other unlike_rr in
      let rest = all_stay first is others apart.1 in
      ap (λ set. set ∷ map (set_of (records ++ rr ∷ [])) others) one ∙ ap (λ sets. set_of records other ∷ sets) rest

  put-in : (firsts : List Rr) → AreUnlike same_set same_set-laws firsts
      → (list_any (λ other. same_set other rr) firsts ≡ false → set_of (records ++ rr ∷ []) rr ≡ alone rr)
      → map (set_of (records ++ rr ∷ [])) (with_value same_set firsts rr) ≡ with_record (map (set_of records) firsts) rr
  unfolding with_record set_of
  put-in [] unlike new = ap (λ set. set ∷ []) (new refl)
  put-in (first ∷ firsts) unlike new = by (put-in firsts unlike.1) (same_set first rr) refl
    where
      head : (any : Bool) → map (set_of (records ++ rr ∷ [])) (cond any (first ∷ firsts) (first ∷ (firsts ++ rr ∷ [])))
          ≡ set_of (records ++ rr ∷ []) first ∷ map (set_of (records ++ rr ∷ [])) (cond any firsts (firsts ++ rr ∷ []))
      head true = refl
      head false = refl

      by : ((list_any (λ other. same_set other rr) firsts ≡ false → set_of (records ++ rr ∷ []) rr ≡ alone rr)
          → map (set_of (records ++ rr ∷ [])) (with_value same_set firsts rr) ≡ with_record (map (set_of records) firsts) rr)
          → (is : Bool) → same_set first rr ≡ is
          → map (set_of (records ++ rr ∷ [])) (cond (is || list_any (λ other. same_set other rr) firsts) (first ∷ firsts) (first ∷ (firsts ++ rr ∷ [])))
          ≡ cond is (grown (set_of records first) rr ∷ map (set_of records) firsts) (set_of records first ∷ with_record (map (set_of records) firsts) rr)
      by further true is =
          ap (λ set. set ∷ map (set_of (records ++ rr ∷ [])) firsts) (grows first is)
          ∙ ap (λ sets. grown (set_of records first) rr ∷ sets) (all_stay first is firsts unlike.0)
      by further false is =
          let rest = further (λ none. new (ap (λ b. b || list_any (λ other. same_set other rr) firsts) is ∙ none)) in
          head (list_any (λ other. same_set other rr) firsts)
          ∙ (ap (λ set. set ∷ map (set_of (records ++ rr ∷ [])) (with_value same_set firsts rr)) (stays first is)
          ∙ ap (λ sets. set_of records first ∷ sets) rest)

-- the sets of some records and one more are the sets of the records with that one put in
pub sets_of-push : (records : List Rr) (rr : Rr) → sets_of (records ++ rr ∷ []) ≡ with_record (sets_of records) rr
unfolding sets_of
sets_of-push records rr =
    ap (map (set_of (records ++ rr ∷ []))) (uniques-push same_set same_set-laws records rr)
    ∙ put-in records rr (uniques same_set records) (uniques-unlike same_set same_set-laws records)
    (λ none. own_set records rr (sym (list_any-uniques same_set same_set-laws rr records) ∙ none))
