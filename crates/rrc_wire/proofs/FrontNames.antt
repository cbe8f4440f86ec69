-- SPDX-License-Identifier: MIT
-- Names at the front of octets, with others behind them.
use Rattle.std.proofs.Common.{◌≡◌, ℕ, zero, suc, ◌+◌, ◌-◌, ◌<◌, ◌≤◌, List, [], ◌∷◌, ◌++◌, length, refl, sym, ap, subst, ◌∙◌, arith, append_assoc, length-append, get_or, take, drop, false, ◌==◌}
use Rattle.std.specs.List.{AllByRecursion, concat}
use Rattle.std.proofs.lemmas.Bool.Decides.{nat_tests}
use Rattle.std.proofs.lemmas.List.{append_cancel_left, take-append-drop, drop_at, length-take-le, get_or-drop}
use Rattle.std.proofs.lemmas.List.Elements.{All-from_get_or, All-take, recursion_from_All}
use Rattle.std.proofs.Math.Seq.{take-append_seam, drop-append_seam}
use Rattle.rrc_name.specs.Wire.{wire_of, labels_within, labels_of, IsLabel, IsWireForm}
use Rattle.rrc_name.proofs.WireForms.{wire_form_of}
use Rattle.rrc_wire.specs.Plain.{IsNameThen, AreNamesThen, names_in}

-- the labels of a name are read from octets that begin with it
labels_within-then : (labels : List (List ℕ)) (behind : List ℕ) (most : ℕ) → AllByRecursion IsLabel labels → length (wire_of labels) ≤ most
    → labels_within most (wire_of labels ++ behind) ≡ labels
unfolding labels_within
labels_within-then [] behind zero all fits = refl
labels_within-then [] behind (suc most) all fits = refl
labels_within-then (label ∷ labels) behind zero all fits = absurd (omega arith)
labels_within-then (label ∷ labels) behind (suc most) all fits =
    let size : (length label == 0) ≡ false = grind (arith, nat_tests, all.0.some) in
    let less : length (wire_of labels) ≤ most = omega (arith, length-append label (wire_of labels)) in
    let parted : (label ++ wire_of labels) ++ behind ≡ label ++ (wire_of labels ++ behind) = append_assoc label (wire_of labels) behind in
    rw (size, parted, take-append_seam, drop-append_seam) (ap (λ rest. label ∷ rest) (labels_within-then labels behind most all.1 less))

pub labels_of-then : (labels : List (List ℕ)) (behind : List ℕ) → AllByRecursion IsLabel labels → labels_of (wire_of labels ++ behind) ≡ labels
labels_of-then labels behind all = labels_within-then labels behind (length (wire_of labels ++ behind)) all (omega (arith, length-append (wire_of labels) behind))

-- the name that octets begin with
pub front_name : (name behind : List ℕ) → IsWireForm name → wire_of (labels_of (name ++ behind)) ≡ name
front_name name behind is = subst (λ n. wire_of (labels_of (n ++ behind)) ≡ n) is.whole (ap wire_of (labels_of-then (labels_of name) behind is.labels))

-- the names that octets begin with
pub names_in-then : (names : List (List ℕ)) (behind : List ℕ) → AllByRecursion IsWireForm names → names_in (length names) (concat names ++ behind) ≡ names
names_in-then [] behind all = refl
names_in-then (name ∷ names) behind all =
    let octets = concat names ++ behind in
    let parted : (name ++ concat names) ++ behind ≡ name ++ octets = append_assoc name (concat names) behind in
    let first : wire_of (labels_of (name ++ octets)) ≡ name = front_name name octets all.0 in
    let others : drop (length name) (name ++ octets) ≡ octets = drop_at name octets (length name) refl in
    ap (names_in (suc (length names))) parted
    ∙ (ap (λ n. n ∷ names_in (length names) (drop (length n) (name ++ octets))) first
    ∙ ap (λ rest. name ∷ rest) (ap (names_in (length names)) others ∙ names_in-then names behind all.1))

-- what one name more at the front says

-- a name that octets begin with is at its end, or begins with a label
pub data Begins (most : ℕ) (octets behind : List ℕ) : Type 0 where
  ends : 1 ≤ most → 0 ∷ behind ≡ octets → Begins most octets behind
  goes_on : (label rest : List ℕ) → IsLabel label → length label + 2 ≤ most → length label ∷ (label ++ rest) ≡ octets
      → IsNameThen (most - (length label + 1)) rest behind → Begins most octets behind

wire_of-some : (labels : List (List ℕ)) → 1 ≤ length (wire_of labels)
wire_of-some [] = omega arith
wire_of-some (first ∷ labels) = omega arith

begins_with : (labels : List (List ℕ)) (most : ℕ) (octets behind : List ℕ) → AllByRecursion IsLabel labels → length (wire_of labels) ≤ most → wire_of labels ++ behind ≡ octets
    → Begins most octets behind
begins_with [] most octets behind all short whole = ends (omega arith) whole
begins_with (label ∷ labels) most octets behind all short whole =
    let size = length-append label (wire_of labels) in
    let some = wire_of-some labels in
    goes_on label (wire_of labels ++ behind) all.0 (omega arith)
    (ap (λ rest. length label ∷ rest) (sym (append_assoc label (wire_of labels) behind)) ∙ whole)
    (record { labels = labels; are_labels = all.1; short = omega arith; whole = refl })

pub begins : (most : ℕ) (octets behind : List ℕ) → IsNameThen most octets behind → Begins most octets behind
begins most octets behind is = begins_with is.labels most octets behind is.are_labels is.short is.whole

-- no octets are no name
pub nothing_begins : (most : ℕ) (octets behind : List ℕ) → length octets ≡ 0 → IsNameThen most octets behind → ⊥
nothing_begins most octets behind none is = absurd (omega (arith, ap length is.whole, none, length-append (wire_of is.labels) behind, wire_of-some is.labels))

-- the label that other octets follow fits
pub record Fits (most size : ℕ) (others behind : List ℕ) : Type 0 where
  pub few : size ≤ 63
  pub here : size ≤ length others
  pub room : size + 2 ≤ most
  pub rest : IsNameThen (most - (size + 1)) (drop size others) behind

fits_where : (most size : ℕ) (others behind : List ℕ) → 1 ≤ size → Begins most (size ∷ others) behind → Fits most size others behind
fits_where most size others behind some (ends room is) = absurd (omega (arith, ap (λ octets. get_or octets 0 0) is))
fits_where most size others behind some (goes_on label rest is_label room is goes) =
    let same : length label ≡ size = ap (λ octets. get_or octets 0 0) is in
    let behind_size : label ++ rest ≡ others = ap (drop 1) is in
    let left : rest ≡ drop size others = sym (drop_at label rest size same) ∙ ap (drop size) behind_size in
    record {
      few = omega (arith, is_label.few);
      here = omega (arith, ap length behind_size, length-append label rest);
      room = omega arith;
      rest = subst (λ r. IsNameThen (most - (size + 1)) r behind) left (subst (λ n. IsNameThen (most - (n + 1)) rest behind) same goes);
    }

pub fits : (most size : ℕ) (others behind : List ℕ) → 1 ≤ size → IsNameThen most (size ∷ others) behind → Fits most size others behind
fits most size others behind some is = fits_where most size others behind some (begins most (size ∷ others) behind is)

-- a label before a name makes one
pub label_before : (most size : ℕ) (others behind : List ℕ) → ((i : ℕ) → get_or others i 0 < 256) → 1 ≤ size → size ≤ 63 → size ≤ length others → size + 1 ≤ most
    → IsNameThen (most - (size + 1)) (drop size others) behind → IsNameThen most (size ∷ others) behind
label_before most size others behind octets some few here room is =
    let P : ℕ → Type 0 = λ octet. octet < 256 in
    let label = take size others in
    let same : length label ≡ size = length-take-le size others here in
    let small : AllByRecursion P label = recursion_from_All P label (All-take P size others (All-from_get_or P others 0 (λ i _. octets i))) in
    record {
      labels = label ∷ is.labels;
      are_labels = (record { some = omega arith; few = omega arith; octets = small }, is.are_labels);
      short = omega (arith, length-append label (wire_of is.labels), is.short);
      whole = ap (λ n. n ∷ ((label ++ wire_of is.labels) ++ behind)) same
          ∙ ap (λ rest. size ∷ rest) (append_assoc label (wire_of is.labels) behind ∙ (ap (λ rest. label ++ rest) is.whole ∙ take-append-drop size others));
    }

-- whole names

pub name_is : (octets behind : List ℕ) → (is : IsNameThen 255 octets behind) → IsWireForm (wire_of is.labels)
name_is octets behind is = wire_form_of is.labels is.are_labels is.short

-- what is behind a name is behind it alone
pub one_behind : (octets behind other : List ℕ) → IsNameThen 255 octets behind → IsNameThen 255 octets other → behind ≡ other
one_behind octets behind other is is_other =
    let same : is.labels ≡ is_other.labels =
    sym (labels_of-then is.labels behind is.are_labels) ∙ (ap labels_of (is.whole ∙ sym is_other.whole) ∙ labels_of-then is_other.labels other is_other.are_labels) in
    append_cancel_left (wire_of is.labels) behind other (is.whole ∙ (sym is_other.whole ∙ ap (λ labels. wire_of labels ++ other) (sym same)))

-- a name before others makes one more
pub name_before : (count : ℕ) (octets middle behind : List ℕ) → IsNameThen 255 octets middle → AreNamesThen count middle behind → AreNamesThen (suc count) octets behind
name_before count octets middle behind is are =
    let name = wire_of is.labels in
    record {
      names = name ∷ are.names;
      as_many = ap suc are.as_many;
      wire_forms = (name_is octets middle is, are.wire_forms);
      whole = append_assoc name (concat are.names) behind ∙ (ap (λ rest. name ++ rest) are.whole ∙ is.whole);
    }

-- the first of some names, and the others behind it
pub record FirstName (count : ℕ) (octets behind : List ℕ) : Type 0 where
  pub middle : List ℕ
  pub first : IsNameThen 255 octets middle
  pub others : AreNamesThen count middle behind

first_of : (names : List (List ℕ)) (count : ℕ) (octets behind : List ℕ) → length names ≡ suc count → AllByRecursion IsWireForm names → concat names ++ behind ≡ octets
    → FirstName count octets behind
first_of [] count octets behind as_many all whole = absurd (omega arith)
first_of (name ∷ names) count octets behind as_many all whole =
    record {
      middle = concat names ++ behind;
      first = record {
        labels = labels_of name;
        are_labels = all.0.labels;
        short = omega (arith, ap length all.0.whole, all.0.short);
        whole = ap (λ n. n ++ (concat names ++ behind)) all.0.whole ∙ (sym (append_assoc name (concat names) behind) ∙ whole);
      };
      others = record { names = names; as_many = omega arith; wire_forms = all.1; whole = refl };
    }

pub first_name : (count : ℕ) (octets behind : List ℕ) → AreNamesThen (suc count) octets behind → FirstName count octets behind
first_name count octets behind are = first_of are.names count octets behind are.as_many are.wire_forms are.whole

-- the walk over a name

-- what is behind a name in the rest, with so much room for it, is behind one in all octets, and the other way round
pub record Leaves (octets : List ℕ) (room : ℕ) (rest : List ℕ) : Type 0 where
  pub some : 1 ≤ room
  pub small : (i : ℕ) → get_or rest i 0 < 256
  pub all : (behind : List ℕ) → IsNameThen room rest behind → IsNameThen 255 octets behind
  pub left : (behind : List ℕ) → IsNameThen 255 octets behind → IsNameThen room rest behind

pub leaves_all : (octets : List ℕ) → ((i : ℕ) → get_or octets i 0 < 256) → Leaves octets 255 octets
leaves_all octets small = record { some = omega arith; small = small; all = λ behind is. is; left = λ behind is. is }

-- behind a label that fits
pub leaves_behind_label : (octets : List ℕ) (room size : ℕ) (others rest : List ℕ) → (size ≡ 0 → ⊥) → size ≤ 63 → size ≤ length others → size + 2 ≤ room → rest ≡ drop size others
    → Leaves octets room (size ∷ others) → Leaves octets (room - (size + 1)) rest
leaves_behind_label octets room size others rest some few here fits_in is leaves =
    let small : (i : ℕ) → get_or others i 0 < 256 = λ i. leaves.small (suc i) in
    subst (Leaves octets (room - (size + 1))) (sym is) (record {
      some = omega arith;
      small = λ i. subst (λ n. n < 256) (sym (get_or-drop size others i 0)) (small (size + i));
      all = λ behind is. leaves.all behind (label_before room size others behind small (omega (arith, some)) few here (omega arith) is);
      left = λ behind is. (fits room size others behind (omega (arith, some)) (leaves.left behind is)).rest;
    })

-- a label that does not fit is of no name
pub leaves_nothing : (octets : List ℕ) (room size : ℕ) (others behind : List ℕ) → (size ≡ 0 → ⊥) → Leaves octets room (size ∷ others) → IsNameThen 255 octets behind → Fits room size others behind
leaves_nothing octets room size others behind some leaves is = fits room size others behind (omega (arith, some)) (leaves.left behind is)

-- the walk over names

-- what is behind the names left in the rest is behind all of them in all octets, and the other way round
pub record LeavesNames (octets : List ℕ) (count left_over : ℕ) (rest : List ℕ) : Type 0 where
  pub all : (behind : List ℕ) → AreNamesThen left_over rest behind → AreNamesThen count octets behind
  pub left : (behind : List ℕ) → AreNamesThen count octets behind → AreNamesThen left_over rest behind

-- behind one name more
pub leaves_behind_name : (octets : List ℕ) (count i : ℕ) (rest next : List ℕ) → i < count → IsNameThen 255 rest next → LeavesNames octets count (count - i) rest
    → LeavesNames octets count (count - (i + 1)) next
leaves_behind_name octets count i rest next more is leaves =
    let left : count - i ≡ suc (count - (i + 1)) = omega arith in
    record {
      all = λ behind are. leaves.all behind (subst (λ n. AreNamesThen n rest behind) (sym left) (name_before (count - (i + 1)) rest next behind is are));
      left = λ behind are.
          let first = first_name (count - (i + 1)) rest behind (subst (λ n. AreNamesThen n rest behind) left (leaves.left behind are)) in
          subst (λ middle. AreNamesThen (count - (i + 1)) middle behind) (one_behind rest first.middle next first.first is) first.others;
    }

-- where no name begins, fewer do
pub leaves_fewer : (octets : List ℕ) (count i : ℕ) (rest behind : List ℕ) → i < count → ((next : List ℕ) → IsNameThen 255 rest next → ⊥) → LeavesNames octets count (count - i) rest
    → AreNamesThen count octets behind → ⊥
leaves_fewer octets count i rest behind more none leaves are =
    let left : count - i ≡ suc (count - (i + 1)) = omega arith in
    let first = first_name (count - (i + 1)) rest behind (subst (λ n. AreNamesThen n rest behind) left (leaves.left behind are)) in
    none first.middle first.first

-- what is behind some names is behind them alone
pub one_behind_names : (count : ℕ) (octets behind other : List ℕ) → AreNamesThen count octets behind → AreNamesThen count octets other → behind ≡ other
one_behind_names count octets behind other are are_other =
    let same : are.names ≡ are_other.names =
    sym (names_in-then are.names behind are.wire_forms)
    ∙ (ap (λ n. names_in n (concat are.names ++ behind)) (are.as_many ∙ sym are_other.as_many)
    ∙ (ap (names_in (length are_other.names)) (are.whole ∙ sym are_other.whole) ∙ names_in-then are_other.names other are_other.wire_forms)) in
    append_cancel_left (concat are.names) behind other (are.whole ∙ (sym are_other.whole ∙ ap (λ names. concat names ++ other) (sym same)))
