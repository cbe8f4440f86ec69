-- SPDX-License-Identifier: MIT
-- What is read of a text is the name that it spells, or its first fault.
use Rattle.std.proofs.Common.{◌≡◌, ◌≢◌, ◌⊎◌, ℕ, zero, suc, ◌+◌, ◌<◌, ◌≤◌, true, false, List, [], ◌∷◌, ◌++◌, length, Option, Some, None, Result, Ok, Err, MatchResult, refl, sym, ap, subst, ◌∙◌, arith, inl, inr, append_assoc, length-append, ◌==◌, ⊎_elim}
use Rattle.std.specs.List.{AllByRecursion}
use Rattle.std.proofs.lemmas.Bool.Decides.{nat_tests, eqb_tells}
use Rattle.std.proofs.lemmas.List.{append-nil}
use Rattle.rrc_name.specs.declared.fault.NameFault.{NameFault}
use Rattle.rrc_name.specs.declared.fault.NameFault.TheVariants.{EmptyLabel, LabelTooLong, NameTooLong, BadEscape, Memory}
use Rattle.rrc_name.specs.declared.text.Escape.TheVariants.{Unescaped}
use Rattle.rrc_name.specs.Wire.{wire_of, front_of, MakeName}
use Rattle.rrc_name.specs.Reading.{and_then, with_label, name_ends, name_from}
use Rattle.rrc_name.specs.Text.{SpellsOctet, itself, escaped, decimal, SpellsLabel, no_octet, octet_more, SpellsLabels, no_label, label_more, Spells, last_dot, no_last_dot, EndsLabel, SpellsNothing, IsFaulty, bad_escape, empty_label, no_text, label_too_long, name_too_long, IsFirstFaultOf}
use Rattle.rrc_name.proofs.WireForms.{wire_of-front, front_of-push, all_labels-push}
use Rattle.rrc_name.proofs.OctetReading.{octet_from, octet_from-spelled, octet_from-begins, name_from-octet, name_from-nothing, found_octet}

-- what reading tells of a text
abbrev pub Tells : List ℕ → Result (List ℕ) NameFault → Type 0
Tells text r = MatchResult r (Spells text) (IsFirstFaultOf text)

-- what is spelled is an octet
pub spelled-octet : (first : List ℕ) (octet : ℕ) → SpellsOctet first octet → octet < 256
spelled-octet first octet (itself graphic no_dot no_backslash) = omega (arith, graphic.1)
spelled-octet first octet (escaped graphic no_digit) = omega (arith, graphic.1)
spelled-octet first octet (decimal few few_tens few_ones sums fits) = omega arith

pub spelled-octets : (first label : List ℕ) → SpellsLabel first label → AllByRecursion (λ o. o < 256) label
spelled-octets first label no_octet = tt
spelled-octets text label (octet_more {first = first} {behind = behind} {label = others} {octet = octet} one rest) = (spelled-octet first octet one, spelled-octets behind others rest)

-- one more octet of a label
pub push_octet : (first label more : List ℕ) (octet : ℕ) → SpellsLabel first label → SpellsOctet more octet → SpellsLabel (first ++ more) (label ++ octet ∷ [])
push_octet first label more octet no_octet one = subst (λ t. SpellsLabel t (octet ∷ [])) (append-nil more) (octet_more one no_octet)
push_octet text label more octet (octet_more {first = first} {behind = behind} {label = others} {octet = o} at rest) one =
    subst (λ t. SpellsLabel t (o ∷ (others ++ octet ∷ []))) (sym (append_assoc first behind more)) (octet_more at (push_octet behind others more octet rest one))

-- one more label, with its dot
pub push_label : (front : List ℕ) (labels : List (List ℕ)) (first label : List ℕ) → SpellsLabels front labels → SpellsLabel first label
    → SpellsLabels (front ++ (first ++ 46 ∷ [])) (labels ++ label ∷ [])
push_label front labels first label no_label one = label_more one no_label
push_label front labels first label (label_more {first = f} {behind = behind} {label = l} {labels = others} at rest) one =
    subst (λ t. SpellsLabels t (l ∷ (others ++ label ∷ []))) (sym (append_assoc f (46 ∷ behind) (first ++ 46 ∷ [])))
    (label_more at (push_label behind others first label rest one))

-- a label of no octets is spelled by no text
no_octet_is : (first : List ℕ) → SpellsLabel first [] → first ≡ []
no_octet_is first no_octet = refl

pub length-push : (labels : List (List ℕ)) (label : List ℕ) → length (wire_of (labels ++ label ∷ [])) ≡ length (front_of labels) + length label + 2
length-push labels label =
    let front = length-append (front_of labels) (length label ∷ label) in
    let whole = length-append (front_of (labels ++ label ∷ [])) (0 ∷ []) in
    omega (arith, ap length (front_of-push labels label), front, ap length (wire_of-front (labels ++ label ∷ [])), whole)

-- what the test of a label that ends says of it
abbrev WithLabel : List ℕ → List ℕ → Result (List ℕ) NameFault → Type 0
WithLabel before label (Ok more) = (1 ≤ length label) × (length label ≤ 63) × (length before + length label + 2 ≤ 255) × (more ≡ before ++ length label ∷ label)
WithLabel before label (Err EmptyLabel) = length label ≡ 0
WithLabel before label (Err LabelTooLong) = 63 < length label
WithLabel before label (Err NameTooLong) = (1 ≤ length label) × (length label ≤ 63) × (255 < length before + length label + 2)
WithLabel before label (Err BadEscape) = ⊥
WithLabel before label (Err Memory) = ⊥

with_label-tells : (before label : List ℕ) (r : Result (List ℕ) NameFault) → with_label before label ≡ r → WithLabel before label r
with_label-tells before label (Ok more) h = (grind (arith, nat_tests), grind (arith, nat_tests), grind (arith, nat_tests), grind (arith, nat_tests))
with_label-tells before label (Err EmptyLabel) h = grind (arith, nat_tests)
with_label-tells before label (Err LabelTooLong) h = grind (arith, nat_tests)
with_label-tells before label (Err NameTooLong) h = (grind (arith, nat_tests), grind (arith, nat_tests), grind (arith, nat_tests))
with_label-tells before label (Err BadEscape) h = grind (arith, nat_tests)
with_label-tells before label (Err Memory) h = grind (arith, nat_tests)

-- what was read of a text, where `rest` is left: whole labels with their dots, and a part of a label behind them
record HasRead (whole front first : List ℕ) (labels : List (List ℕ)) (label rest : List ℕ) : Type 0 where
  no_root : whole ≢ 46 ∷ []
  parts : whole ≡ front ++ (first ++ rest)
  labels_before : SpellsLabels front labels
  make_name : MakeName labels
  part : SpellsLabel first label

-- what is wrong behind the labels is the first fault
faulty : (whole front first : List ℕ) (labels : List (List ℕ)) (label rest : List ℕ) (fault : NameFault) → HasRead whole front first labels label rest
    → IsFaulty labels (first ++ rest) fault → IsFirstFaultOf whole fault
faulty whole front first labels label rest fault read is = record {
  no_root = read.no_root;
  labels = labels;
  front = front;
  rest = first ++ rest;
  whole = read.parts;
  labels_before = read.labels_before;
  make_name = read.make_name;
  faulty = is;
}

-- a label that ends, with those before it, makes a name
make_name-more : (whole front first : List ℕ) (labels : List (List ℕ)) (label rest more : List ℕ) → HasRead whole front first labels label rest
    → WithLabel (front_of labels) label (Ok more) → MakeName (labels ++ label ∷ [])
make_name-more whole front first labels label rest more read fits = record {
  all = all_labels-push labels label read.make_name.all (record { some = fits.0; few = fits.1; octets = spelled-octets first label read.part });
  short = omega (arith, length-push labels label, fits.2);
}

-- the fault of a label that ends before its dot
label_faulty : (whole front first : List ℕ) (labels : List (List ℕ)) (label rest : List ℕ) (fault : NameFault) → HasRead whole front first labels label rest
    → 1 ≤ length label → EndsLabel rest → WithLabel (front_of labels) label (Err fault) → IsFirstFaultOf whole fault
label_faulty whole front first labels label rest EmptyLabel read some ends is = absurd (omega (arith, is))
label_faulty whole front first labels label rest LabelTooLong read some ends is = faulty whole front first labels label rest LabelTooLong read (label_too_long read.part ends is)
label_faulty whole front first labels label rest NameTooLong read some ends is =
    faulty whole front first labels label rest NameTooLong read (name_too_long read.part ends some is.1 (omega (arith, length-push labels label, is.2)))
label_faulty whole front first labels label rest BadEscape read some ends is = absurd is
label_faulty whole front first labels label rest Memory read some ends is = absurd is

-- where the text ends, so does a label of some octets
pub name_ends-label : (before label : List ℕ) → 1 ≤ length label → name_ends before label Unescaped ≡ and_then (with_label before label) (λ more. Ok (more ++ 0 ∷ []))
name_ends-label before label some =
    let test : (length label == 0) ≡ false = grind (arith, nat_tests) in rw test refl

-- where the text ends behind a dot, the name does
pub name_ends-dot : (before : List ℕ) → 1 ≤ length before → name_ends before [] Unescaped ≡ Ok (before ++ 0 ∷ [])
name_ends-dot before some =
    let test : (length before == 0) ≡ false = grind (arith, nat_tests) in rw test refl

abbrev IsTold : List ℕ → List ℕ → Type 0
IsTold whole text =
    (front first : List ℕ) (labels : List (List ℕ)) (label : List ℕ) → HasRead whole front first labels label text → Tells whole (name_from (front_of labels) label Unescaped text)

-- a dot where a label would begin
dot_at_once : (whole front first : List ℕ) (labels : List (List ℕ)) (text : List ℕ) → HasRead whole front first labels [] (46 ∷ text) → IsFirstFaultOf whole EmptyLabel
dot_at_once whole front first labels text read =
    faulty whole front first labels [] (46 ∷ text) EmptyLabel read (subst (λ f. IsFaulty labels (f ++ 46 ∷ text) EmptyLabel) (sym (no_octet_is first read.part)) empty_label)

-- what reading tells where a dot ends a label of some octets
at_dot : (whole front first : List ℕ) (labels : List (List ℕ)) (label text : List ℕ) → IsTold whole text → HasRead whole front first labels label (46 ∷ text) → 1 ≤ length label
    → (r : Result (List ℕ) NameFault) → WithLabel (front_of labels) label r → Tells whole (and_then r (λ more. name_from more [] Unescaped text))
at_dot whole front first labels label text rest read some (Err fault) is =
    label_faulty whole front first labels label (46 ∷ text) fault read some (inr (text, refl)) is
at_dot whole front first labels label text rest read some (Ok more) is =
    let octets : front_of (labels ++ label ∷ []) ≡ more = front_of-push labels label ∙ sym is.3 in
    let told = rest (front ++ (first ++ 46 ∷ [])) [] (labels ++ label ∷ []) [] (record {
      no_root = read.no_root;
      parts = read.parts ∙ (ap (λ t. front ++ t) (sym (append_assoc first (46 ∷ []) text)) ∙ sym (append_assoc front (first ++ 46 ∷ []) text));
      labels_before = push_label front labels first label read.labels_before read.part;
      make_name = make_name-more whole front first labels label (46 ∷ text) more read is;
      part = no_octet;
    }) in
    subst (λ b. Tells whole (name_from b [] Unescaped text)) octets told

-- what reading tells where the text ends behind some octets of a label
at_end : (whole front first : List ℕ) (labels : List (List ℕ)) (label : List ℕ) → HasRead whole front first labels label [] → 1 ≤ length label
    → (r : Result (List ℕ) NameFault) → WithLabel (front_of labels) label r → Tells whole (and_then r (λ more. Ok (more ++ 0 ∷ [])))
at_end whole front first labels label read some (Err fault) is = label_faulty whole front first labels label [] fault read some (inl refl) is
at_end whole front first labels label read some (Ok more) is =
    let octets : wire_of (labels ++ label ∷ []) ≡ more ++ 0 ∷ [] = wire_of-front (labels ++ label ∷ []) ∙ ap (λ b. b ++ 0 ∷ []) (front_of-push labels label ∙ sym is.3) in
    let text : whole ≡ front ++ first = read.parts ∙ ap (λ t. front ++ t) (append-nil first) in
    subst (λ w. Spells w (more ++ 0 ∷ [])) (sym text) (subst (λ n. Spells (front ++ first) n) octets
    (no_last_dot read.labels_before read.part (make_name-more whole front first labels label [] more read is)))

-- what reading tells where the text ends behind a dot, or is empty
at_last_dot : (whole front first : List ℕ) (labels : List (List ℕ)) → HasRead whole front first labels [] [] → Tells whole (name_ends (front_of labels) [] Unescaped)
at_last_dot whole front first [] read =
    faulty whole front first [] [] [] EmptyLabel read (subst (λ f. IsFaulty [] (f ++ []) EmptyLabel) (sym (no_octet_is first read.part)) (no_text refl))
at_last_dot whole front first (label ∷ labels) read =
    let octets : wire_of (label ∷ labels) ≡ front_of (label ∷ labels) ++ 0 ∷ [] = wire_of-front (label ∷ labels) in
    let text : whole ≡ front = read.parts ∙ (ap (λ f. front ++ (f ++ [])) (no_octet_is first read.part) ∙ append-nil front) in
    let name = front_of (label ∷ labels) ++ 0 ∷ [] in
    subst (Tells whole) (sym (name_ends-dot (front_of (label ∷ labels)) (omega arith)))
    (subst (λ w. Spells w name) (sym text) (subst (λ n. Spells front n) octets (last_dot read.labels_before (omega arith) read.make_name)))

-- what reads as no octet spells nothing
spells_nothing : (octet : ℕ) (text : List ℕ) → octet ≢ 46 → octet_from Unescaped (octet ∷ text) ≡ None → SpellsNothing (octet ∷ text)
spells_nothing octet text no_dot none = record {
  goes_on = λ ends. ⊎_elim (λ (e : octet ∷ text ≡ []). absurd (cc)) (λ dot. no_dot (head_is dot.0 dot.1)) ends;
  no_octet = λ first behind spelled parts spells. absurd (not_none spelled behind (sym none ∙ (ap (octet_from Unescaped) parts ∙ octet_from-spelled first behind spelled spells)));
}
  where
    head_is : (behind : List ℕ) → octet ∷ text ≡ 46 ∷ behind → octet ≡ 46
    head_is behind e = cc

    not_none : (spelled : ℕ) (behind : List ℕ) → None ≡ found_octet spelled behind → ⊥
    not_none spelled behind e = cc

-- what reading tells where the next octet ends the label, or is faulty
tells_none : (whole text : List ℕ) → IsTold whole text → (octet : ℕ) (front first : List ℕ) (labels : List (List ℕ)) (label : List ℕ)
    → HasRead whole front first labels label (octet ∷ text) → octet_from Unescaped (octet ∷ text) ≡ None
    → ((octet == 46) ≡ true) × (octet ≡ 46) ⊎ ((octet == 46) ≡ false) × (octet ≢ 46)
    → Tells whole (name_from (front_of labels) label Unescaped (octet ∷ text))
tells_none whole text rest octet front first labels label read none (inr other) =
    subst (Tells whole) (sym (name_from-nothing (octet ∷ text) (front_of labels) label Unescaped none other.1))
    (faulty whole front first labels label (octet ∷ text) BadEscape read (bad_escape read.part (spells_nothing octet text other.1 none)))
tells_none whole text rest octet front first labels [] read none (inl dot) =
    subst (λ o. HasRead whole front first labels [] (o ∷ text) → Tells whole (name_from (front_of labels) [] Unescaped (o ∷ text))) (sym dot.1)
    (λ (h : HasRead whole front first labels [] (46 ∷ text)). dot_at_once whole front first labels text h) read
tells_none whole text rest octet front first labels (o ∷ label) read none (inl dot) =
    subst (λ d. HasRead whole front first labels (o ∷ label) (d ∷ text) → Tells whole (name_from (front_of labels) (o ∷ label) Unescaped (d ∷ text))) (sym dot.1)
    (λ (h : HasRead whole front first labels (o ∷ label) (46 ∷ text)).
    at_dot whole front first labels (o ∷ label) text rest h (omega arith) (with_label (front_of labels) (o ∷ label)) (with_label-tells (front_of labels) (o ∷ label) (with_label (front_of labels) (o ∷ label)) refl)) read

tells_end : (whole front first : List ℕ) (labels : List (List ℕ)) (label : List ℕ) → HasRead whole front first labels label []
    → Tells whole (name_ends (front_of labels) label Unescaped)
tells_end whole front first labels [] read = at_last_dot whole front first labels read
tells_end whole front first labels (o ∷ label) read =
    subst (Tells whole) (sym (name_ends-label (front_of labels) (o ∷ label) (omega arith)))
    (at_end whole front first labels (o ∷ label) read (omega arith) (with_label (front_of labels) (o ∷ label)) (with_label-tells (front_of labels) (o ∷ label) (with_label (front_of labels) (o ∷ label)) refl))

-- reading tells what a text spells, or its first fault
tells : (most : ℕ) (whole text : List ℕ) → length text ≤ most → IsTold whole text
tells most whole [] few front first labels label read = tells_end whole front first labels label read
tells zero whole (octet ∷ text) few front first labels label read = absurd (omega arith)
tells (suc most) whole (octet ∷ text) few front first labels label read =
    by (octet_from Unescaped (octet ∷ text)) refl (λ behind less. tells most whole behind less)
  where
    by : (found : Option (ℕ × List ℕ)) → octet_from Unescaped (octet ∷ text) ≡ found → ((behind : List ℕ) → length behind ≤ most → IsTold whole behind)
        → Tells whole (name_from (front_of labels) label Unescaped (octet ∷ text))
    by None is rest = tells_none whole text (rest text (omega arith)) octet front first labels label read is (eqb_tells octet 46)
    by (Some found) is rest =
        let begins = octet_from-begins (octet ∷ text) found.0 found.1 is in
        let told = rest found.1 (omega (arith, begins.shorter)) front (first ++ begins.first) labels (label ++ found.0 ∷ []) (record {
          no_root = read.no_root;
          parts = read.parts ∙ ap (λ t. front ++ t) (ap (λ t. first ++ t) begins.whole ∙ sym (append_assoc first begins.first found.1));
          labels_before = read.labels_before;
          make_name = read.make_name;
          part = push_octet first label begins.first found.0 read.part begins.spells;
        }) in
        subst (Tells whole) (sym (name_from-octet (octet ∷ text) (front_of labels) label Unescaped found.0 found.1 is)) told

-- what is read of a text is what it spells, or its first fault, but for the dot that is the root
pub name_from-tells : (text : List ℕ) → text ≢ 46 ∷ [] → Tells text (name_from [] [] Unescaped text)
name_from-tells text no_root = tells (length text) text text (omega arith) [] [] [] [] (record {
  no_root = no_root;
  parts = refl;
  labels_before = no_label;
  make_name = record { all = tt; short = omega arith };
  part = no_octet;
})
