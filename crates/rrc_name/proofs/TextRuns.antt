-- SPDX-License-Identifier: MIT
-- A text that spells a name is read as that name, and a text that has a first fault as that fault.
use Rattle.std.proofs.Common.{◌≡◌, ◌≢◌, ◌⊎◌, ℕ, ◌+◌, ◌<◌, ◌≤◌, Bool, true, false, List, [], ◌∷◌, ◌++◌, length, Option, Some, None, Ok, Err, refl, sym, ap, ◌∙◌, arith, inl, inr, append_assoc, length-append, ◌==◌, if◌then◌else◌}
use Rattle.std.specs.List.{AllByRecursion}
use Rattle.std.specs.Prelude.{bytes_eq, nat_lt}
use Rattle.std.proofs.lemmas.Bool.Decides.{nat_tests}
use Rattle.std.proofs.lemmas.List.{append-nil}
use Rattle.std.proofs.lemmas.Slice.Eq.{bytes_eq-Decides}
use Rattle.rrc_name.specs.declared.fault.NameFault.{NameFault}
use Rattle.rrc_name.specs.declared.fault.NameFault.TheVariants.{EmptyLabel, LabelTooLong, NameTooLong}
use Rattle.rrc_name.specs.declared.text.Escape.TheVariants.{Unescaped}
use Rattle.rrc_name.specs.Wire.{wire_of, front_of, IsLabel}
use Rattle.rrc_name.specs.Reading.{and_then, with_label, name_from, name_in}
use Rattle.rrc_name.specs.Text.{SpellsLabel, no_octet, octet_more, SpellsLabels, no_label, label_more, Spells, root, last_dot, no_last_dot, EndsLabel, SpellsNothing, IsFaulty, bad_escape, empty_label, no_text, label_too_long, name_too_long, IsFirstFaultOf}
use Rattle.rrc_name.proofs.WireForms.{wire_of-front, front_of-push}
use Rattle.rrc_name.proofs.OctetReading.{octet_from, octet_from-spelled, octet_from-begins, name_from-octet, name_from-nothing, GoesOn}
use Rattle.rrc_name.proofs.TextReading.{length-push, name_ends-label, name_ends-dot}

-- a label is read from what spells it
read_label : (first label : List ℕ) → SpellsLabel first label → (before part text : List ℕ)
    → name_from before part Unescaped (first ++ text) ≡ name_from before (part ++ label) Unescaped text
read_label first label no_octet before part text = ap (λ l. name_from before l Unescaped text) (sym (append-nil part))
read_label first label (octet_more {first = one} {behind = behind} {label = others} {octet = octet} spells rest) before part text =
    ap (λ t. name_from before part Unescaped t) (append_assoc one behind text)
    ∙ (name_from-octet (one ++ (behind ++ text)) before part Unescaped octet (behind ++ text) (octet_from-spelled one (behind ++ text) octet spells)
    ∙ (read_label behind others rest before (part ++ octet ∷ []) text
    ∙ ap (λ l. name_from before l Unescaped text) (append_assoc part (octet ∷ []) others)))

with_label-fits : (before label : List ℕ) → IsLabel label → length before + length label + 2 ≤ 255 → with_label before label ≡ Ok (before ++ length label ∷ label)
with_label-fits before label is fits =
    let some : (length label == 0) ≡ false = grind (arith, nat_tests, is.some) in
    let few : nat_lt 63 (length label) ≡ false = grind (arith, nat_tests, is.few) in
    let room : nat_lt 255 (length before + length label + 2) ≡ false = grind (arith, nat_tests) in
    rw (some, few, room) refl

with_label-long : (before label : List ℕ) → 63 < length label → with_label before label ≡ Err LabelTooLong
with_label-long before label long =
    let some : (length label == 0) ≡ false = grind (arith, nat_tests) in
    let many : nat_lt 63 (length label) ≡ true = grind (arith, nat_tests) in
    rw (some, many) refl

with_label-no_room : (before label : List ℕ) → 1 ≤ length label → length label ≤ 63 → 255 < length before + length label + 2
    → with_label before label ≡ Err NameTooLong
with_label-no_room before label is few over =
    let some : (length label == 0) ≡ false = grind (arith, nat_tests) in
    let short : nat_lt 63 (length label) ≡ false = grind (arith, nat_tests) in
    let room : nat_lt 255 (length before + length label + 2) ≡ true = grind (arith, nat_tests) in
    rw (some, short, room) refl

some_octet : (labels : List (List ℕ)) → 1 ≤ length (wire_of labels)
some_octet [] = omega arith
some_octet (label ∷ labels) = omega arith

-- labels are read from what spells them
read_labels : (front : List ℕ) (labels : List (List ℕ)) → SpellsLabels front labels → AllByRecursion IsLabel labels → (before text : List ℕ) → length before + length (wire_of labels) ≤ 255
    → name_from before [] Unescaped (front ++ text) ≡ name_from (before ++ front_of labels) [] Unescaped text
read_labels front labels no_label all before text fits = ap (λ b. name_from b [] Unescaped text) (sym (append-nil before))
read_labels front labels (label_more {first = first} {behind = behind} {label = label} {labels = others} spells rest) all before text fits =
    let room : length before + length label + 2 ≤ 255 = omega (arith, length-append label (wire_of others), some_octet others) in
    let more = before ++ length label ∷ label in
    let fits_more : length more + length (wire_of others) ≤ 255 = omega (arith, length-append before (length label ∷ label), length-append label (wire_of others)) in
    ap (λ t. name_from before [] Unescaped t) (append_assoc first (46 ∷ behind) text)
    ∙ (read_label first label spells before [] (46 ∷ (behind ++ text))
    ∙ (ap (λ r. and_then r (λ b. name_from b [] Unescaped (behind ++ text))) (with_label-fits before label all.0 room)
    ∙ (read_labels behind others rest all.1 more text fits_more
    ∙ ap (λ b. name_from b [] Unescaped text) (append_assoc before (length label ∷ label) (front_of others)))))

-- the last label of some is one, and has room
record IsLast (labels : List (List ℕ)) (label : List ℕ) : Type 0 where
  before : AllByRecursion IsLabel labels
  is_label : IsLabel label

last_label : (labels : List (List ℕ)) (label : List ℕ) → AllByRecursion IsLabel (labels ++ label ∷ []) → IsLast labels label
last_label [] label all = record { before = tt; is_label = all.0 }
last_label (first ∷ labels) label all =
    let rest = last_label labels label all.1 in record { before = (all.0, rest.before); is_label = rest.is_label }

-- what spells a name is the dot that is the root, or is read as it
spelled_is_read : (text name : List ℕ) → Spells text name → (text ≡ 46 ∷ []) × (name ≡ 0 ∷ []) ⊎ (name_from [] [] Unescaped text ≡ Ok name)
spelled_is_read text name root = inl (refl, refl)
spelled_is_read text name (last_dot {labels = labels} spells some make) =
    inr (ap (λ t. name_from [] [] Unescaped t) (sym (append-nil text))
    ∙ (read_labels text labels spells make.all [] [] (omega (arith, make.short))
    ∙ (name_ends-dot (front_of labels) (some_front labels some) ∙ ap Ok (sym (wire_of-front labels)))))
  where
    some_front : (labels : List (List ℕ)) → 1 ≤ length labels → 1 ≤ length (front_of labels)
    some_front [] some = absurd (omega arith)
    some_front (label ∷ labels) some = omega arith
spelled_is_read text name (no_last_dot {front = front} {last = last} {label = label} {labels = labels} spells spells_last make) =
    let parts = last_label labels label make.all in
    let many = length-push labels label in
    let fits : length (wire_of labels) ≤ 255 = omega (arith, make.short, ap length (wire_of-front labels), length-append (front_of labels) (0 ∷ [])) in
    let octets : wire_of (labels ++ label ∷ []) ≡ (front_of labels ++ length label ∷ label) ++ 0 ∷ [] = wire_of-front (labels ++ label ∷ []) ∙ ap (λ b. b ++ 0 ∷ []) (front_of-push labels label) in
    inr (read_labels front labels spells parts.before [] last (omega arith)
    ∙ (ap (λ t. name_from (front_of labels) [] Unescaped t) (sym (append-nil last))
    ∙ (read_label last label spells_last (front_of labels) [] []
    ∙ (name_ends-label (front_of labels) label parts.is_label.some
    ∙ (ap (λ r. and_then r (λ more. Ok (more ++ 0 ∷ []))) (with_label-fits (front_of labels) label parts.is_label (omega (arith, make.short))) ∙ ap Ok (sym octets))))))

-- a label that ends and is faulty is read as its fault
label_fault_is_read : (before label behind : List ℕ) (fault : NameFault) → 1 ≤ length label → EndsLabel behind → with_label before label ≡ Err fault
    → name_from before label Unescaped behind ≡ Err fault
label_fault_is_read before label behind fault some (inl none) is =
    ap (λ t. name_from before label Unescaped t) none ∙ (name_ends-label before label some ∙ ap (λ r. and_then r (λ more. Ok (more ++ 0 ∷ []))) is)
label_fault_is_read before label behind fault some (inr dot) is =
    ap (λ t. name_from before label Unescaped t) dot.1 ∙ ap (λ r. and_then r (λ more. name_from more [] Unescaped dot.0)) is

-- what spells nothing is read as no octet
nothing_is_read : (text : List ℕ) → SpellsNothing text → (found : Option (ℕ × List ℕ)) → octet_from Unescaped text ≡ found → octet_from Unescaped text ≡ None
nothing_is_read text nothing None is = is
nothing_is_read text nothing (Some found) is =
    let begins = octet_from-begins text found.0 found.1 is in
    absurd (nothing.no_octet begins.first found.1 found.0 begins.whole begins.spells)

goes_on : (text : List ℕ) → SpellsNothing text → GoesOn Unescaped text
goes_on [] nothing = nothing.goes_on (inl refl)
goes_on (octet ∷ text) nothing = λ dot. nothing.goes_on (inr (text, ap (λ o. o ∷ text) dot))

-- what is faulty behind whole labels is read as that fault
fault_is_read : (labels : List (List ℕ)) (rest : List ℕ) (fault : NameFault) → IsFaulty labels rest fault → name_from (front_of labels) [] Unescaped rest ≡ Err fault
fault_is_read labels rest fault (bad_escape {first = first} {behind = behind} {label = label} spells nothing) =
    read_label first label spells (front_of labels) [] behind
    ∙ name_from-nothing behind (front_of labels) label Unescaped (nothing_is_read behind nothing (octet_from Unescaped behind) refl) (goes_on behind nothing)
fault_is_read labels rest fault empty_label = refl
fault_is_read labels rest fault (no_text none) = ap (λ l. name_from (front_of l) [] Unescaped []) none
fault_is_read labels rest fault (label_too_long {first = first} {behind = behind} {label = label} spells ends long) =
    read_label first label spells (front_of labels) [] behind
    ∙ label_fault_is_read (front_of labels) label behind LabelTooLong (omega arith) ends (with_label-long (front_of labels) label long)
fault_is_read labels rest fault (name_too_long {first = first} {behind = behind} {label = label} spells ends some few over) =
    read_label first label spells (front_of labels) [] behind
    ∙ label_fault_is_read (front_of labels) label behind NameTooLong some ends
    (with_label-no_room (front_of labels) label some few (omega (arith, length-push labels label)))

first_fault_is_read : (text : List ℕ) (fault : NameFault) → IsFirstFaultOf text fault → name_from [] [] Unescaped text ≡ Err fault
first_fault_is_read text fault is =
    ap (λ t. name_from [] [] Unescaped t) is.whole
    ∙ (read_labels is.front is.labels is.labels_before is.make_name.all [] is.rest (omega (arith, is.make_name.short)) ∙ fault_is_read is.labels is.rest fault is.faulty)

-- a text other than the dot that is the root is read octet by octet
pub name_in-other : (text : List ℕ) → text ≢ 46 ∷ [] → (test : Bool) → bytes_eq text (46 ∷ []) ≡ test → name_in text ≡ name_from [] [] Unescaped text
name_in-other text no_root true is = absurd (no_root ((bytes_eq-Decides text (46 ∷ [])).0 is))
name_in-other text no_root false is = ap (λ b. if b then Ok (0 ∷ []) else name_from [] [] Unescaped text) is

-- what spells a name is read as that name
pub name_in-spelled : (text name : List ℕ) → Spells text name → name_in text ≡ Ok name
name_in-spelled text name is = by (spelled_is_read text name is)
  where
    by : (text ≡ 46 ∷ []) × (name ≡ 0 ∷ []) ⊎ (name_from [] [] Unescaped text ≡ Ok name) → name_in text ≡ Ok name
    by (inl is_root) = ap name_in is_root.0 ∙ ap Ok (sym is_root.1)
    by (inr read) = name_in-other text no_root (bytes_eq text (46 ∷ [])) refl ∙ read
      where
        no_root : text ≢ 46 ∷ []
        no_root e = let none : Err EmptyLabel ≡ Ok name = sym (ap (λ t. name_from [] [] Unescaped t) e) ∙ read in cc

-- a first fault is read as that fault
pub name_in-fault : (text : List ℕ) (fault : NameFault) → IsFirstFaultOf text fault → name_in text ≡ Err fault
name_in-fault text fault is = name_in-other text is.no_root (bytes_eq text (46 ∷ [])) refl ∙ first_fault_is_read text fault is
