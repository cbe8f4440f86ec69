-- SPDX-License-Identifier: MIT
-- What trees find in the sets, and what they find once a record is put in.
use Rattle.std.proofs.Common.{◌≡◌, ℕ, zero, suc, ◌+◌, ◌<◌, List, [], ◌∷◌, ◌++◌, length, get_or, Option, Some, None, Bool, true, false, cond, not, ◌&&◌, ◌||◌, nat_eq, refl, sym, ap, subst, ◌∙◌, arith}
use Rattle.std.specs.List.{list_any, position_or_len}
use Rattle.std.specs.Option.{option_map, unwrap_or}
use Rattle.std.specs.Global.{Vec}
use Rattle.std.specs.Ordering.{nat_cmp, is_eq}
use Rattle.std.specs.BTreeMap as map
use Rattle.std.specs.BTreeSet as set
use Rattle.std.specs.Cmp.{IsEquivalence, first_so, second_so, both_tied, unsigned_ties, on_equiv, nat_eq_equiv}
use Rattle.std.specs.Cmp.Lexicographic.{pointwise, slice_cmp, bytes_decides, lists_ties, lists_equiv}
use Rattle.std.proofs.lemmas.Cmp.{and_equiv}
use Rattle.std.proofs.Math.Dec.{eqb-suc-zero, eqb-zero-suc, eqb-suc-suc}
use Rattle.std.proofs.lemmas.Bool.Decides.{Decides-eqb}
use Rattle.std.proofs.lemmas.List.Folds.{list_any-append}
use Rattle.rrc_name.specs.Wire.{folded, same_name}
use Rattle.rrc_wire.specs.declared.record.Rr.{Rr}
use Rattle.rrc_wire.specs.SameRdata.{lowered_rdata, same_rdata}
use Rattle.rrc_sets.specs.Sets.{SetOf}
use Rattle.rrc_sets.specs.Gathering.{holds, grown, with_record}
use Rattle.rrc_sets.specs.Trees.{place_at, has_lowered, has_at, pair_order, FindsPlaces, FindsData}
use Rattle.rrc_sets.proofs.Places.{takes}

-- the place that is found is that of the set that takes the record, or the next one
pub place-found : (rr : Rr) (sets : List SetOf) → unwrap_or (place_at sets rr.rtype (folded rr.owner)) (length sets) ≡ position_or_len (takes rr) sets
place-found rr [] = refl
place-found rr (set ∷ sets) = by (holds set rr) (place-found rr sets)
  where
    later : (found : Option ℕ) → unwrap_or (option_map suc found) (length (set ∷ sets)) ≡ 1 + unwrap_or found (length sets)
    later None = omega arith
    later (Some place) = omega arith

    by : (is : Bool) → unwrap_or (place_at sets rr.rtype (folded rr.owner)) (length sets) ≡ position_or_len (takes rr) sets
        → unwrap_or (cond is (Some 0) (option_map suc (place_at sets rr.rtype (folded rr.owner)))) (length (set ∷ sets)) ≡ cond (not is) (1 + position_or_len (takes rr) sets) 0
    by true rest = refl
    by false rest = later (place_at sets rr.rtype (folded rr.owner)) ∙ ap (λ place. 1 + place) rest

-- whether a type and lowered owner are the same as others
abbrev pub same_key : ℕ × List ℕ → ℕ × List ℕ → Bool
same_key a b = nat_eq a.0 b.0 && pointwise nat_eq a.1 b.1

same_key-laws : IsEquivalence same_key
same_key-laws = and_equiv (on_equiv (λ (k : ℕ × List ℕ). k.0) nat_eq_equiv) (on_equiv (λ (k : ℕ × List ℕ). k.1) (lists_equiv nat_eq_equiv))

-- once a record is put in, its type and owner are found at its place, and all others where they were
pub place-put : (rr : Rr) (rtype : ℕ) (owner : List ℕ) (sets : List SetOf)
    → place_at (with_record sets rr) rtype owner
    ≡ cond (same_key (rr.rtype, folded rr.owner) (rtype, owner)) (Some (position_or_len (takes rr) sets)) (place_at sets rtype owner)
unfolding with_record
place-put rr rtype owner [] = refl
place-put rr rtype owner (set ∷ sets) = by (holds set rr) refl (place-put rr rtype owner sets)
  where
    at : ℕ
    at = position_or_len (takes rr) sets

    own : ℕ × List ℕ
    own = (set.rtype, folded set.owner)

    mine : ℕ × List ℕ
    mine = (rr.rtype, folded rr.owner)

    key : ℕ × List ℕ
    key = (rtype, owner)

    apart : holds set rr ≡ false → same_key mine key ≡ true → same_key own key ≡ false
    apart is same =
        same_key-laws.symm own key ∙ (sym (same_key-laws.congr mine key own same) ∙ (same_key-laws.symm mine own ∙ is))

    first : (is_own is_mine : Bool) → is_own ≡ is_mine
        → cond is_own (Some 0) (option_map suc (place_at sets rtype owner)) ≡ cond is_mine (Some 0) (cond is_own (Some 0) (option_map suc (place_at sets rtype owner)))
    first true is_mine is = ap (λ b. cond b (Some 0) (Some 0)) is
    first false is_mine is = ap (λ b. cond b (Some 0) (option_map suc (place_at sets rtype owner))) is

    further : (is_own is_mine : Bool) → (is_mine ≡ true → is_own ≡ false) → (place : ℕ)
        → cond is_own (Some 0) (option_map suc (cond is_mine (Some place) (place_at sets rtype owner)))
        ≡ cond is_mine (Some (1 + place)) (cond is_own (Some 0) (option_map suc (place_at sets rtype owner)))
    further true true no_both place = absurd (let e : true ≡ false = no_both refl in cc)
    further true false no_both place = refl
    further false true no_both place = ap Some (omega arith)
    further false false no_both place = refl

    by : (is : Bool) → holds set rr ≡ is → place_at (with_record sets rr) rtype owner ≡ cond (same_key mine key) (Some at) (place_at sets rtype owner)
        → place_at (cond is (grown set rr ∷ sets) (set ∷ with_record sets rr)) rtype owner
        ≡ cond (same_key mine key) (Some (cond (not is) (1 + at) 0)) (place_at (set ∷ sets) rtype owner)
    by true is rest = first (same_key own key) (same_key mine key) (same_key-laws.congr own mine key is)
    by false is rest =
        ap (λ found. cond (same_key own key) (Some 0) (option_map suc found)) rest ∙ further (same_key own key) (same_key mine key) (apart is) at

same_type : (set : SetOf) (rr : Rr) → holds set rr ≡ true → set.rtype ≡ rr.rtype
same_type set rr is = (Decides-eqb set.rtype rr.rtype).0 (first_so (nat_eq set.rtype rr.rtype) (same_name set.owner rr.owner) is)

-- data that are the same as some of a set are lowered to octets that one of these is lowered to
has-grown : (set : SetOf) (rr : Rr) (low : List ℕ) → set.rtype ≡ rr.rtype
    → has_lowered (grown set rr) low ≡ cond (pointwise nat_eq (lowered_rdata rr.rtype rr.rdata) low) true (has_lowered set low)
unfolding same_rdata
has-grown set rr low one_type =
    by (list_any (λ other. same_rdata set.rtype other rr.rdata) set.items) refl (pointwise nat_eq own low) refl
    ∙ ap (λ rtype. cond (pointwise nat_eq (lowered_rdata rtype rr.rdata) low) true (has_lowered set low)) one_type
  where
    own : List ℕ
    own = lowered_rdata set.rtype rr.rdata

    is_low : List ℕ → Bool
    is_low item = pointwise nat_eq (lowered_rdata set.rtype item) low

    behind : (has is : Bool) → (has || (is || false)) ≡ cond is true has
    behind true true = refl
    behind true false = refl
    behind false true = refl
    behind false false = refl

    by : (repeat : Bool) → list_any (λ other. pointwise nat_eq (lowered_rdata set.rtype other) own) set.items ≡ repeat
        → (is : Bool) → pointwise nat_eq own low ≡ is
        → list_any is_low (cond repeat set.items (set.items ++ rr.rdata ∷ [])) ≡ cond (pointwise nat_eq own low) true (has_lowered set low)
    by true repeats true is =
        subst (λ other. list_any (λ item. pointwise nat_eq (lowered_rdata set.rtype item) other) set.items ≡ true) ((bytes_decides own low).0 is) repeats
        ∙ ap (λ b. cond b true (has_lowered set low)) (sym is)
    by true repeats false is = ap (λ b. cond b true (has_lowered set low)) (sym is)
    by false repeats is says = list_any-append is_low set.items (rr.rdata ∷ []) ∙ behind (has_lowered set low) (pointwise nat_eq own low)

-- once a record is put in, the set at its place has its data, and every set what it had
pub has-put : (rr : Rr) (low : List ℕ) (sets : List SetOf) (place : ℕ)
    → has_at (with_record sets rr) place low
    ≡ cond (nat_eq (position_or_len (takes rr) sets) place && pointwise nat_eq (lowered_rdata rr.rtype rr.rdata) low) true (has_at sets place low)
unfolding with_record
has-put rr low [] zero = one (pointwise nat_eq (lowered_rdata rr.rtype rr.rdata) low)
  where
    one : (is : Bool) → (is || false) ≡ cond is true false
    one true = refl
    one false = refl
has-put rr low [] (suc place) = ap (λ b. cond (b && pointwise nat_eq (lowered_rdata rr.rtype rr.rdata) low) true false) (sym (eqb-zero-suc place))
has-put rr low (set ∷ sets) place = by place (holds set rr) refl (has-put rr low sets)
  where
    own : Bool
    own = pointwise nat_eq (lowered_rdata rr.rtype rr.rdata) low

    at : ℕ
    at = position_or_len (takes rr) sets

    next : 1 + at ≡ suc at
    next = omega arith

    by : (place : ℕ) (is : Bool) → holds set rr ≡ is
        → ((place : ℕ) → has_at (with_record sets rr) place low ≡ cond (nat_eq at place && own) true (has_at sets place low))
        → has_at (cond is (grown set rr ∷ sets) (set ∷ with_record sets rr)) place low
        ≡ cond (nat_eq (cond (not is) (1 + at) 0) place && own) true (has_at (set ∷ sets) place low)
    by zero true is rest = has-grown set rr low (same_type set rr is)
    by (suc place) true is rest = ap (λ b. cond (b && own) true (has_at sets place low)) (sym (eqb-zero-suc place))
    by zero false is rest = ap (λ b. cond (b && own) true (has_lowered set low)) (sym (ap (λ n. nat_eq n 0) next ∙ eqb-suc-zero at))
    by (suc place) false is rest = rest place ∙ ap (λ b. cond (b && own) true (has_at sets place low)) (sym (ap (λ n. nat_eq n (suc place)) next ∙ eqb-suc-suc at place))

-- whether data are new to the set at their place
pub has-own : (rr : Rr) (d : SetOf) (sets : List SetOf) → position_or_len (takes rr) sets < length sets
    → has_at sets (position_or_len (takes rr) sets) (lowered_rdata rr.rtype rr.rdata)
    ≡ list_any (λ item. same_rdata (get_or sets (position_or_len (takes rr) sets) d).rtype item rr.rdata) (get_or sets (position_or_len (takes rr) sets) d).items
unfolding same_rdata
has-own rr d [] inside = absurd (omega arith)
has-own rr d (set ∷ sets) inside = by (holds set rr) refl (has-own rr d sets) inside
  where
    at : ℕ
    at = position_or_len (takes rr) sets

    next : 1 + at ≡ suc at
    next = omega arith

    IsOwn : List SetOf → ℕ → Type 0
    IsOwn all place =
        has_at all place (lowered_rdata rr.rtype rr.rdata)
        ≡ list_any (λ item. pointwise nat_eq (lowered_rdata (get_or all place d).rtype item) (lowered_rdata (get_or all place d).rtype rr.rdata)) (get_or all place d).items

    by : (is : Bool) → holds set rr ≡ is → (at < length sets → IsOwn sets at) → cond (not is) (1 + at) 0 < length (set ∷ sets) → IsOwn (set ∷ sets) (cond (not is) (1 + at) 0)
    by true is rest within = ap (λ rtype. has_lowered set (lowered_rdata rtype rr.rdata)) (sym (same_type set rr is))
    by false is rest within = subst (IsOwn (set ∷ sets)) (sym next) (rest (omega arith))

-- how a pair compares tells whether it is the same as another
pair-ties : (a b : ℕ × Vec ℕ) → is_eq (pair_order a b) ≡ same_key (a.0, a.1.items) (b.0, b.1.items)
pair-ties a b =
    sym (both_tied (nat_eq a.0 b.0) (pointwise nat_eq a.1.items b.1.items) (nat_cmp a.0 b.0) (slice_cmp nat_cmp a.1.items b.1.items) (unsigned_ties a.0 b.0)
    (lists_ties nat_cmp unsigned_ties a.1.items b.1.items))

module _ (sets : List SetOf) (rr : Rr) where
  abbrev pub own_place : Option ℕ
  own_place = place_at sets rr.rtype (folded rr.owner)

  -- a type and lowered owner that are a record's are found where these are
  own-found : (rtype : ℕ) (owner : List ℕ) → same_key (rr.rtype, folded rr.owner) (rtype, owner) ≡ true → place_at sets rtype owner ≡ own_place
  own-found rtype owner same =
      let types : rr.rtype ≡ rtype = (Decides-eqb rr.rtype rtype).0 (first_so (nat_eq rr.rtype rtype) (pointwise nat_eq (folded rr.owner) owner) same) in
      let owners : folded rr.owner ≡ owner = (bytes_decides (folded rr.owner) owner).0 (second_so (nat_eq rr.rtype rtype) (pointwise nat_eq (folded rr.owner) owner) same) in
      sym (ap (λ (t : ℕ). place_at sets t (folded rr.owner)) types ∙ ap (place_at sets rtype) owners)

  module _ (places : map.BTreeMap (ℕ × Vec ℕ) ℕ) (key : ℕ × Vec ℕ) (finds : FindsPlaces places sets) (types : key.0 ≡ rr.rtype) (owners : key.1.items ≡ folded rr.owner) where
    -- what the map finds at the key of a record
    pub key-found : map.get pair_order places key ≡ own_place
    key-found = finds key ∙ (ap (λ (t : ℕ). place_at sets t key.1.items) types ∙ ap (place_at sets rr.rtype) owners)

    -- where it finds a place, it finds all places once the record is put in
    pub FindsPlaces-stay : (place : ℕ) → map.get pair_order places key ≡ Some place → FindsPlaces places (with_record sets rr)
    FindsPlaces-stay place is = λ other.
        let at : place ≡ position_or_len (takes rr) sets = ap (λ found. unwrap_or found (length sets)) (sym (sym key-found ∙ is)) ∙ place-found rr sets in
        let kept = chosen (same_key (rr.rtype, folded rr.owner) (other.0, other.1.items)) (place_at sets other.0 other.1.items) (position_or_len (takes rr) sets)
        (λ same. own-found other.0 other.1.items same ∙ (sym key-found ∙ (is ∙ ap Some at))) in
        finds other ∙ (kept ∙ sym (place-put rr other.0 other.1.items sets))
      where
        chosen : (same : Bool) (found : Option ℕ) (at : ℕ) → (same ≡ true → found ≡ Some at) → found ≡ cond same (Some at) found
        chosen true found at is = is refl
        chosen false found at is = refl

    -- and where it finds none, once the next place is put under that key
    pub FindsPlaces-put : (new : map.BTreeMap (ℕ × Vec ℕ) ℕ) → map.get pair_order places key ≡ None
        → ((other : ℕ × Vec ℕ) → map.get pair_order new other ≡ cond (is_eq (pair_order key other)) (Some (length sets)) (map.get pair_order places other))
        → FindsPlaces new (with_record sets rr)
    FindsPlaces-put new is updates = λ other.
        let next = length sets in
        let at : next ≡ position_or_len (takes rr) sets = ap (λ found. unwrap_or found next) (sym (sym key-found ∙ is)) ∙ place-found rr sets in
        updates other
        ∙ (ap (cond (is_eq (pair_order key other)) (Some next)) (finds other)
        ∙ (ap (λ b. cond b (Some next) (place_at sets other.0 other.1.items)) (pair-ties key other)
        ∙ (ap (λ (t : ℕ). cond (same_key (t, key.1.items) (other.0, other.1.items)) (Some next) (place_at sets other.0 other.1.items)) types
        ∙ (ap (λ (o : List ℕ). cond (same_key (rr.rtype, o) (other.0, other.1.items)) (Some next) (place_at sets other.0 other.1.items)) owners
        ∙ (ap (λ (p : ℕ). cond (same_key (rr.rtype, folded rr.owner) (other.0, other.1.items)) (Some p) (place_at sets other.0 other.1.items)) at
        ∙ sym (place-put rr other.0 other.1.items sets))))))

-- a tree finds the data once those of a record that is put in stand in it
pub FindsData-put : (seen new : set.BTreeSet (ℕ × Vec ℕ)) (sets : List SetOf) (rr : Rr) (place : ℕ) (low : Vec ℕ) → FindsData seen sets → place ≡ position_or_len (takes rr) sets
    → low.items ≡ lowered_rdata rr.rtype rr.rdata
    → ((datum : ℕ × Vec ℕ) → set.contains pair_order new datum ≡ cond (is_eq (pair_order (place, low) datum)) true (set.contains pair_order seen datum))
    → FindsData new (with_record sets rr)
FindsData-put seen new sets rr place low finds at is updates = λ datum.
    updates datum
    ∙ (ap (cond (is_eq (pair_order (place, low) datum)) true) (finds datum)
    ∙ (ap (λ b. cond b true (has_at sets datum.0 datum.1.items)) (pair-ties (place, low) datum)
    ∙ (ap (λ (p : ℕ). cond (same_key (p, low.items) (datum.0, datum.1.items)) true (has_at sets datum.0 datum.1.items)) at
    ∙ (ap (λ (own : List ℕ). cond (same_key (position_or_len (takes rr) sets, own) (datum.0, datum.1.items)) true (has_at sets datum.0 datum.1.items)) is
    ∙ sym (has-put rr datum.1.items sets datum.0)))))
