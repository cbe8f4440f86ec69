-- SPDX-License-Identifier: MIT
-- Lowering the names of plain data keeps their parts apart.
use Rattle.std.proofs.Common.{◌≡◌, ℕ, ◌-◌, ◌≤◌, Bool, true, false, cond, true≢false, ◌⊎◌, ⊎_elim, List, [], ◌∷◌, ◌++◌, length, map, Option, Some, None, refl, sym, ap, subst, ◌∙◌, arith, length-append, take, drop, Decides, MatchOption}
use Rattle.std.specs.Prelude.{⊤, nat_eq}
use Rattle.std.specs.Cmp.Lexicographic.{pointwise, bytes_decides}
use Rattle.std.specs.List.{AllByRecursion, concat}
use Rattle.std.proofs.lemmas.Bool.Decides.{Decides-like, Decides-at, same_from_decides}
use Rattle.std.proofs.lemmas.List.{take_at, drop_at, length-map, length-drop, map-append}
use Rattle.std.specs.Char.{to_ascii_lowercase}
use Rattle.rrc_name.specs.Wire.{IsWireForm, folded}
use Rattle.rrc_name.proofs.WireForms.{folded-IsWireForm}
use Rattle.rrc_wire.specs.Layout.{LayoutOf, layout_of}
use Rattle.rrc_wire.specs.Plain.{Parts, octets_of, AreParts, Fills, parts_in, is_plain}
use Rattle.rrc_wire.specs.SameRdata.{lowered_parts, lowered_by, lowered_rdata, LowersNames, IsSameRdata, same_rdata}
use Rattle.rrc_wire.specs.SameRdataLaws.{same_rdata-Decides}
use Rattle.rrc_wire.proofs.PlainParts.{found_parts, parts_in-octets_of, is_plain-Decides}

-- names lowered one by one are lowered end to end
pub concat-folded : (names : List (List ℕ)) → concat (map folded names) ≡ folded (concat names)
concat-folded [] = refl
concat-folded (name ∷ names) = ap (λ rest. folded name ++ rest) (concat-folded names) ∙ sym (map-append to_ascii_lowercase name (concat names))

folded-names : (names : List (List ℕ)) → AllByRecursion IsWireForm names → AllByRecursion IsWireForm (map folded names)
folded-names [] all = tt
folded-names (name ∷ names) all = (folded-IsWireForm name all.0, folded-names names all.1)

-- lowered parts are parts of the same layout
pub lowered-AreParts : (layout : LayoutOf) (parts : Parts) → AreParts layout parts → AreParts layout (lowered_parts parts)
lowered-AreParts layout parts are =
    record { before = are.before; names = length-map parts.names folded ∙ are.names; wire_forms = folded-names parts.names are.wire_forms; behind = are.behind }

-- data that begin alike go on alike
same_halves : (a b c d : List ℕ) → length a ≡ length b → a ++ c ≡ b ++ d → (a ≡ b) × (c ≡ d)
same_halves a b c d size is = (
  sym (take_at a c (length b) size) ∙ (ap (take (length b)) is ∙ take_at b d (length b) refl),
  sym (drop_at a c (length b) size) ∙ (ap (drop (length b)) is ∙ drop_at b d (length b) refl),
)

abbrev pub SameParts : Parts → Parts → Type 0
SameParts p q = ((p.before ≡ q.before) × (folded (concat p.names) ≡ folded (concat q.names))) × (p.behind ≡ q.behind)

pub same_parts-lowered : (p q : Parts) → SameParts p q → octets_of (lowered_parts p) ≡ octets_of (lowered_parts q)
same_parts-lowered p q ((before, names), behind) =
    let low : concat (map folded p.names) ≡ concat (map folded q.names) = concat-folded p.names ∙ (names ∙ sym (concat-folded q.names)) in
    cc

pub lowered-same_parts : (layout : LayoutOf) (p q : Parts) → AreParts layout p → AreParts layout q → octets_of (lowered_parts p) ≡ octets_of (lowered_parts q) → SameParts p q
lowered-same_parts layout p q are are_other is =
    let low = concat (map folded p.names) in
    let low_other = concat (map folded q.names) in
    let first : (p.before ≡ q.before) × (low ++ p.behind ≡ low_other ++ q.behind) =
    same_halves p.before q.before (low ++ p.behind) (low_other ++ q.behind) (are.before ∙ sym are_other.before) is in
    let size : length low ≡ length low_other = omega (arith, ap length first.1, length-append low p.behind, length-append low_other q.behind, are.behind, are_other.behind) in
    let rest : (low ≡ low_other) × (p.behind ≡ q.behind) = same_halves low low_other p.behind q.behind size first.1 in
    ((first.0, sym (concat-folded p.names) ∙ (rest.0 ∙ concat-folded q.names)), rest.1)

-- whether the parts are the same tells whether the lowered data are
pub same_parts-Decides : (layout : LayoutOf) (a b : List ℕ) → Fills layout a → Fills layout b → (r : Bool) → Decides r (SameParts (parts_in layout a) (parts_in layout b))
    → Decides r (lowered_by (Some layout) a ≡ lowered_by (Some layout) b)
same_parts-Decides layout a b fills fills_other r decides =
    let are : AreParts layout (parts_in layout a) = subst (AreParts layout) (sym (found_parts layout a fills)) fills.are_parts in
    let are_other : AreParts layout (parts_in layout b) = subst (AreParts layout) (sym (found_parts layout b fills_other)) fills_other.are_parts in
    Decides-like r (same_parts-lowered (parts_in layout a) (parts_in layout b)) (lowered-same_parts layout (parts_in layout a) (parts_in layout b) are are_other) decides

-- lowered data are plain where the data are

length-lowered_parts : (parts : Parts) → length (octets_of (lowered_parts parts)) ≡ length (octets_of parts)
length-lowered_parts parts =
    let low = concat (map folded parts.names) in
    let names : length low ≡ length (concat parts.names) = ap length (concat-folded parts.names) ∙ length-map (concat parts.names) to_ascii_lowercase in
    omega (arith, length-append parts.before (low ++ parts.behind), length-append low parts.behind, length-append parts.before (concat parts.names ++ parts.behind), length-append (concat parts.names) parts.behind)

-- the data with their names lowered fill the same layout, and are as long
pub record StaysPlain (layout : Option LayoutOf) (octets low : List ℕ) : Type 0 where
  pub size : length low ≡ length octets
  pub fills : MatchOption layout ⊤ (λ l. Fills l low)

stays_plain : (layout : Option LayoutOf) (octets : List ℕ) → MatchOption layout ⊤ (λ l. Fills l octets) → StaysPlain layout octets (lowered_by layout octets)
stays_plain None octets fills = record { size = refl; fills = tt }
stays_plain (Some layout) octets fills =
    let found = found_parts layout octets fills in
    let low : octets_of (lowered_parts (parts_in layout octets)) ≡ octets_of (lowered_parts fills.parts) = ap (λ p. octets_of (lowered_parts p)) found in
    record {
      size = ap length low ∙ (length-lowered_parts fills.parts ∙ ap length fills.whole);
      fills = record { parts = lowered_parts fills.parts; are_parts = lowered-AreParts layout fills.parts fills.are_parts; whole = sym low };
    }

pub length-lowered_by : (layout : LayoutOf) (octets : List ℕ) → Fills layout octets → length (lowered_by (Some layout) octets) ≡ length octets
length-lowered_by layout octets fills = (stays_plain (Some layout) octets fills).size

lowered_where : (b : Bool) (rtype : ℕ) (octets : List ℕ) → is_plain rtype octets ≡ b → lowered_rdata rtype octets ≡ cond b (lowered_by (layout_of rtype) octets) octets
unfolding lowered_rdata
lowered_where b rtype octets is = ap (λ t. cond t (lowered_by (layout_of rtype) octets) octets) is

pub lowered_is_plain : (b : Bool) (rtype : ℕ) (octets : List ℕ) → is_plain rtype octets ≡ b → is_plain rtype (lowered_rdata rtype octets) ≡ b
lowered_is_plain false rtype octets is = ap (is_plain rtype) (lowered_where false rtype octets is) ∙ is
lowered_is_plain true rtype octets is =
    let plain = (is_plain-Decides rtype octets).0 is in
    let stays = stays_plain (layout_of rtype) octets plain.fills in
    ap (is_plain rtype) (lowered_where true rtype octets is)
    ∙ (is_plain-Decides rtype (lowered_by (layout_of rtype) octets)).1 (record { short = omega (arith, stays.size, plain.short); fills = stays.fills })

-- data made of parts are lowered name by name
pub lowers_names : LowersNames
lowers_names rtype layout parts is are short =
    let octets = octets_of parts in
    let fills : MatchOption (layout_of rtype) ⊤ (λ l. Fills l octets) =
    subst (λ (l : Option LayoutOf). MatchOption l ⊤ (λ (one : LayoutOf). Fills one octets)) (sym is) (record { parts = parts; are_parts = are; whole = refl }) in
    lowered_where true rtype octets ((is_plain-Decides rtype octets).1 (record { short = short; fills = fills }))
    ∙ (ap (λ (l : Option LayoutOf). lowered_by l octets) is ∙ ap (λ p. octets_of (lowered_parts p)) (parts_in-octets_of layout parts are))

-- data that are the same are plain both, or none of them
same_plain : (rtype : ℕ) (a b : List ℕ) → IsSameRdata rtype a b → is_plain rtype a ≡ is_plain rtype b
same_plain rtype a b same =
    sym (lowered_is_plain (is_plain rtype a) rtype a refl) ∙ (ap (is_plain rtype) same ∙ lowered_is_plain (is_plain rtype b) rtype b refl)

-- where one of them is not plain, equality of octets tells
pub not_plain-Decides : (rtype : ℕ) (a b : List ℕ) → (is_plain rtype a ≡ false) ⊎ (is_plain rtype b ≡ false) → (r : Bool) → Decides r (a ≡ b) → Decides r (IsSameRdata rtype a b)
not_plain-Decides rtype a b one r decides =
    Decides-like r (λ same. ap (lowered_rdata rtype) same)
    (λ same.
    let both = same_plain rtype a b same in
    let no : is_plain rtype a ≡ false = ⊎_elim (λ h. h) (λ h. both ∙ h) one in
    sym (lowered_where false rtype a no) ∙ (same ∙ lowered_where false rtype b (sym both ∙ no)))
    decides

-- without a layout equality of octets tells
lowered-opaque : (layout : Option LayoutOf) (b : Bool) (octets : List ℕ) → layout ≡ None → cond b (lowered_by layout octets) octets ≡ octets
lowered-opaque layout false octets is = refl
lowered-opaque layout true octets is = ap (λ (l : Option LayoutOf). lowered_by l octets) is

pub lowered-no_layout : (rtype : ℕ) (octets : List ℕ) → layout_of rtype ≡ None → lowered_rdata rtype octets ≡ octets
lowered-no_layout rtype octets is = lowered_where (is_plain rtype octets) rtype octets refl ∙ lowered-opaque (layout_of rtype) (is_plain rtype octets) octets is

pub lowered-not_plain : (rtype : ℕ) (octets : List ℕ) → is_plain rtype octets ≡ false → lowered_rdata rtype octets ≡ octets
lowered-not_plain rtype octets is = lowered_where false rtype octets is

pub lowered-plain : (rtype : ℕ) (layout : LayoutOf) (octets : List ℕ) → layout_of rtype ≡ Some layout → is_plain rtype octets ≡ true
    → lowered_rdata rtype octets ≡ lowered_by (Some layout) octets
lowered-plain rtype layout octets is plain = lowered_where true rtype octets plain ∙ ap (λ (l : Option LayoutOf). lowered_by l octets) is

pub opaque-Decides : (rtype : ℕ) (a b : List ℕ) → layout_of rtype ≡ None → (r : Bool) → Decides r (a ≡ b) → Decides r (IsSameRdata rtype a b)
opaque-Decides rtype a b is r decides =
    let low : (octets : List ℕ) → lowered_rdata rtype octets ≡ octets = λ octets. lowered-no_layout rtype octets is in
    Decides-like r (λ same. ap (lowered_rdata rtype) same) (λ same. sym (low a) ∙ (same ∙ low b)) decides

-- plain data of a layout are the same where their lowered parts are
pub plain-Decides : (rtype : ℕ) (layout : LayoutOf) (a b : List ℕ) → layout_of rtype ≡ Some layout → is_plain rtype a ≡ true → is_plain rtype b ≡ true
    → (r : Bool) → Decides r (lowered_by (Some layout) a ≡ lowered_by (Some layout) b) → Decides r (IsSameRdata rtype a b)
plain-Decides rtype layout a b is plain plain_other r decides =
    let low : (octets : List ℕ) → is_plain rtype octets ≡ true → lowered_rdata rtype octets ≡ lowered_by (Some layout) octets =
    λ octets h. lowered-plain rtype layout octets is h in
    Decides-like r (λ same. low a plain ∙ (same ∙ sym (low b plain_other))) (λ same. sym (low a plain) ∙ (same ∙ low b plain_other)) decides

-- plain data of a type with a layout fill it
pub plain_fills : (rtype : ℕ) (layout : LayoutOf) (octets : List ℕ) → layout_of rtype ≡ Some layout → is_plain rtype octets ≡ true → Fills layout octets
plain_fills rtype layout octets is plain =
    subst (λ (l : Option LayoutOf). MatchOption l ⊤ (λ (one : LayoutOf). Fills one octets)) is ((is_plain-Decides rtype octets).0 plain).fills

pub same_rdata-told : (rtype : ℕ) (a b : List ℕ) (r : Bool) → Decides r (IsSameRdata rtype a b) → r ≡ same_rdata rtype a b
same_rdata-told rtype a b r decides = same_from_decides r (same_rdata rtype a b) decides (same_rdata-Decides rtype a b)

-- the parts as slices of the octets

pub record Split (layout : LayoutOf) (octets : List ℕ) : Type 0 where
  pub before : layout.before ≤ length octets
  pub behind : layout.behind ≤ length (drop layout.before octets)
  pub names : take (length (drop layout.before octets) - layout.behind) (drop layout.before octets) ≡ concat (parts_in layout octets).names
  pub last : drop (length (drop layout.before octets) - layout.behind) (drop layout.before octets) ≡ (parts_in layout octets).behind

pub split_of : (layout : LayoutOf) (octets : List ℕ) → Fills layout octets → Split layout octets
split_of layout octets fills =
    let p = fills.parts in
    let names = concat p.names in
    let found = found_parts layout octets fills in
    let rest : drop layout.before octets ≡ names ++ p.behind = ap (drop layout.before) (sym fills.whole) ∙ drop_at p.before (names ++ p.behind) layout.before fills.are_parts.before in
    let size = length-append names p.behind in
    let left : length names ≡ length (drop layout.before octets) - layout.behind = omega (arith, ap length rest, size, fills.are_parts.behind) in
    record {
      before = omega (arith, ap length fills.whole, length-append p.before (names ++ p.behind), fills.are_parts.before);
      behind = omega (arith, ap length rest, size, fills.are_parts.behind);
      names = ap (take (length (drop layout.before octets) - layout.behind)) rest ∙ (take_at names p.behind (length (drop layout.before octets) - layout.behind) left
          ∙ ap (λ (parts : Parts). concat parts.names) (sym found));
      last = ap (drop (length (drop layout.before octets) - layout.behind)) rest ∙ (drop_at names p.behind (length (drop layout.before octets) - layout.behind) left
          ∙ ap (λ (parts : Parts). parts.behind) (sym found));
    }

-- the octets with the slice of their names lowered are the data with their names lowered
pub lowered_slice : (layout : LayoutOf) (octets : List ℕ) → Fills layout octets → (before behind : ℕ) → before ≡ layout.before → behind ≡ layout.behind
    → take before octets ++ (folded (take (length octets - behind - before) (drop before octets)) ++ drop (length octets - behind - before) (drop before octets))
    ≡ octets_of (lowered_parts (parts_in layout octets))
lowered_slice layout octets fills before behind from till =
    let p = parts_in layout octets in
    let split = split_of layout octets fills in
    let rest = drop layout.before octets in
    let size : length octets - behind - before ≡ length rest - layout.behind = omega (arith, from, till, length-drop layout.before octets) in
    ap (λ at. take at octets ++ (folded (take (length octets - behind - before) (drop at octets)) ++ drop (length octets - behind - before) (drop at octets))) from
    ∙ (ap (λ many. take layout.before octets ++ (folded (take many rest) ++ drop many rest)) size
    ∙ (ap (λ names. take layout.before octets ++ (folded names ++ drop (length rest - layout.behind) rest)) split.names
    ∙ (ap (λ behind. take layout.before octets ++ (folded (concat p.names) ++ behind)) split.last
    ∙ ap (λ names. take layout.before octets ++ (names ++ p.behind)) (sym (concat-folded p.names)))))

-- the tests of a chain, from the first on

-- one test more, which is made where the tests before it hold
pub one_test_more : {P Q : Type 0} (first all : Bool) → Decides first P → ((first ≡ true) × Decides all Q) ⊎ ((first ≡ false) × (all ≡ false)) → Decides all (P × Q)
one_test_more first all decides both = (
  λ h. ⊎_elim (λ (is, next). (decides.0 is, next.0 h)) (λ (_, fails). absurd (true≢false (sym h ∙ fails))) both,
  λ (p, q). ⊎_elim (λ (_, next). next.1 q) (λ (fails, _). absurd (true≢false (sym (decides.1 p) ∙ fails))) both,
)

-- equality of slices tells whether the lists are the same that they are known as
pub slices-Decides : (r : Bool) (x y p q : List ℕ) → r ≡ pointwise nat_eq x y → x ≡ p → y ≡ q → Decides r (p ≡ q)
slices-Decides r x y p q is from other =
    Decides-like r (λ same. sym from ∙ (same ∙ other)) (λ same. from ∙ (same ∙ sym other)) (Decides-at r (pointwise nat_eq x y) is (bytes_decides x y))

pub names-Decides : (r : Bool) (x y p q : List ℕ) → Decides r (folded x ≡ folded y) → x ≡ p → y ≡ q → Decides r (folded p ≡ folded q)
names-Decides r x y p q decides from other =
    Decides-like r (λ same. ap folded (sym from) ∙ (same ∙ ap folded other)) (λ same. ap folded from ∙ (same ∙ ap folded (sym other))) decides
