-- SPDX-License-Identifier: MIT
-- The octet that a text begins with, as it is read and by the grammar.
use Rattle.std.proofs.Common.{◌≡◌, ◌≢◌, ℕ, ◌+◌, ◌-◌, ◌*◌, ◌<◌, ◌≤◌, true, false, List, [], ◌∷◌, ◌++◌, length, Option, Some, None, Err, refl, sym, ap, subst, ◌∙◌, arith, length-append, ◌==◌}
use Rattle.std.specs.Char.{is_ascii_graphic, is_ascii_digit}
use Rattle.std.specs.Prelude.{nat_le}
use Rattle.std.proofs.lemmas.Bool.Decides.{nat_tests}
use Rattle.rrc_name.specs.declared.fault.NameFault.TheVariants.{BadEscape}
use Rattle.rrc_name.specs.declared.text.Escape.{Escape}
use Rattle.rrc_name.specs.declared.text.Escape.TheVariants.{Unescaped, Begun, OneDigit, TwoDigits}
use Rattle.rrc_name.specs.declared.text.Spelled.{Spelled}
use Rattle.rrc_name.specs.declared.text.Spelled.TheVariants.{Part, Octet, Dot, NoSpelling}
use Rattle.rrc_name.specs.Reading.{spelled_by, name_from}
use Rattle.rrc_name.specs.Text.{IsGraphic, IsNoDigit, SpellsOctet, itself, escaped, decimal}

-- the octet that a text begins with, and the text behind what spells it
abbrev pub octet_from : Escape → List ℕ → Option (ℕ × List ℕ)
octet_from escape [] = None
octet_from escape (octet ∷ text) =
    elim (spelled_by escape octet) [
      | Part more ↦ octet_from more text
      | Octet spelled ↦ Some (spelled, text)
      | Dot ↦ None
      | NoSpelling ↦ None
    ]

spelled_itself : (octet : ℕ) → IsGraphic octet → octet ≢ 46 → octet ≢ 92 → spelled_by Unescaped octet ≡ Octet octet
spelled_itself octet graphic no_dot no_backslash =
    let dot : (octet == 46) ≡ false = grind (arith, nat_tests) in
    let backslash : (octet == 92) ≡ false = grind (arith, nat_tests) in
    let test : is_ascii_graphic octet ≡ true = grind (arith, nat_tests, graphic.0, graphic.1) in
    rw (dot, backslash, test) refl

spelled_escaped : (octet : ℕ) → IsGraphic octet → IsNoDigit octet → spelled_by Begun octet ≡ Octet octet
spelled_escaped octet graphic no_digit =
    let digit : is_ascii_digit octet ≡ false = grind (arith, nat_tests, no_digit) in
    let test : is_ascii_graphic octet ≡ true = grind (arith, nat_tests, graphic.0, graphic.1) in
    rw (digit, test) refl

digit-Begun : (digit : ℕ) → digit ≤ 9 → spelled_by Begun (48 + digit) ≡ Part (OneDigit digit)
digit-Begun digit small =
    let test : is_ascii_digit (48 + digit) ≡ true = grind (arith, nat_tests) in
    let same : 48 + digit - 48 ≡ digit = omega arith in
    rw (test, same) refl

digit-OneDigit : (hundreds digit : ℕ) → digit ≤ 9 → spelled_by (OneDigit hundreds) (48 + digit) ≡ Part (TwoDigits hundreds digit)
digit-OneDigit hundreds digit small =
    let test : is_ascii_digit (48 + digit) ≡ true = grind (arith, nat_tests) in
    let same : 48 + digit - 48 ≡ digit = omega arith in
    rw (test, same) refl

digit-TwoDigits : (hundreds tens digit octet : ℕ) → digit ≤ 9 → 100 * hundreds + 10 * tens + digit ≡ octet → octet ≤ 255
    → spelled_by (TwoDigits hundreds tens) (48 + digit) ≡ Octet octet
digit-TwoDigits hundreds tens digit octet small sums fits =
    let test : is_ascii_digit (48 + digit) ≡ true = grind (arith, nat_tests) in
    let same : 48 + digit - 48 ≡ digit = omega arith in
    let fit : nat_le octet 255 ≡ true = grind (arith, nat_tests) in
    rw (test, same, sums, fit) refl

on-Part : (escape more : Escape) (octet : ℕ) (text : List ℕ) → spelled_by escape octet ≡ Part more → octet_from escape (octet ∷ text) ≡ octet_from more text
on-Part escape more octet text is = rw (is, octet_from) refl

on-Octet : (escape : Escape) (octet spelled : ℕ) (text : List ℕ) → spelled_by escape octet ≡ Octet spelled
    → octet_from escape (octet ∷ text) ≡ Some (spelled, text)
on-Octet escape octet spelled text is = rw (is, octet_from) refl

-- what spells an octet is read as it
pub octet_from-spelled : (first behind : List ℕ) (octet : ℕ) → SpellsOctet first octet → octet_from Unescaped (first ++ behind) ≡ Some (octet, behind)
octet_from-spelled first behind octet (itself graphic no_dot no_backslash) = on-Octet Unescaped octet octet behind (spelled_itself octet graphic no_dot no_backslash)
octet_from-spelled first behind octet (escaped graphic no_digit) = on-Octet Begun octet octet behind (spelled_escaped octet graphic no_digit)
octet_from-spelled first behind octet (decimal {hundreds = hundreds} {tens = tens} {ones = ones} few few_tens few_ones sums fits) =
    on-Part Begun (OneDigit hundreds) (48 + hundreds) ((48 + tens) ∷ (48 + ones) ∷ behind) (digit-Begun hundreds few)
    ∙ (on-Part (OneDigit hundreds) (TwoDigits hundreds tens) (48 + tens) ((48 + ones) ∷ behind) (digit-OneDigit hundreds tens few_tens)
    ∙ on-Octet (TwoDigits hundreds tens) (48 + ones) octet behind (digit-TwoDigits hundreds tens ones octet few_ones sums fits))

-- a text begins with what spells an octet
pub record BeginsWithOctet (text : List ℕ) (octet : ℕ) (behind : List ℕ) : Type 0 where
  pub first : List ℕ
  pub spells : SpellsOctet first octet
  pub whole : text ≡ first ++ behind
  pub shorter : length behind < length text

record IsItself (octet spelled : ℕ) : Type 0 where
  same : spelled ≡ octet
  graphic_low : 33 ≤ octet
  graphic_high : octet ≤ 126
  no_dot : octet ≢ 46
  no_backslash : octet ≢ 92

itself_is : (octet spelled : ℕ) → spelled_by Unescaped octet ≡ Octet spelled → IsItself octet spelled
itself_is octet spelled is = record {
  same = grind (arith, nat_tests);
  graphic_low = grind (arith, nat_tests);
  graphic_high = grind (arith, nat_tests);
  no_dot = λ e. grind (arith, nat_tests);
  no_backslash = λ e. grind (arith, nat_tests);
}

record IsEscaped (octet spelled : ℕ) : Type 0 where
  same : spelled ≡ octet
  graphic_low : 33 ≤ octet
  graphic_high : octet ≤ 126
  no_digit : IsNoDigit octet

escaped_is : (octet spelled : ℕ) → spelled_by Begun octet ≡ Octet spelled → IsEscaped octet spelled
escaped_is octet spelled is = record {
  same = grind (arith, nat_tests);
  graphic_low = grind (arith, nat_tests);
  graphic_high = grind (arith, nat_tests);
  no_digit = grind (arith, nat_tests);
}

backslash_is : (octet : ℕ) (more : Escape) → spelled_by Unescaped octet ≡ Part more → (octet ≡ 92) × (more ≡ Begun)
backslash_is octet more is = (grind (arith, nat_tests), grind (arith, nat_tests))

-- an octet that is a digit, by its value
record IsDigit (octet digit : ℕ) : Type 0 where
  few : digit ≤ 9
  octet_is : octet ≡ 48 + digit

abbrev IsHundreds : ℕ → Escape → Type 0
IsHundreds octet Unescaped = ⊥
IsHundreds octet Begun = ⊥
IsHundreds octet (OneDigit hundreds) = IsDigit octet hundreds
IsHundreds octet (TwoDigits hundreds tens) = ⊥

hundreds_is : (octet : ℕ) (more : Escape) → spelled_by Begun octet ≡ Part more → IsHundreds octet more
hundreds_is octet Unescaped is = grind (arith, nat_tests)
hundreds_is octet Begun is = grind (arith, nat_tests)
hundreds_is octet (OneDigit hundreds) is = record { few = grind (arith, nat_tests); octet_is = grind (arith, nat_tests) }
hundreds_is octet (TwoDigits hundreds tens) is = grind (arith, nat_tests)

abbrev IsTens : ℕ → ℕ → Escape → Type 0
IsTens octet hundreds Unescaped = ⊥
IsTens octet hundreds Begun = ⊥
IsTens octet hundreds (OneDigit other) = ⊥
IsTens octet hundreds (TwoDigits other tens) = (other ≡ hundreds) × IsDigit octet tens

tens_is : (octet hundreds : ℕ) (more : Escape) → spelled_by (OneDigit hundreds) octet ≡ Part more → IsTens octet hundreds more
tens_is octet hundreds Unescaped is = grind (arith, nat_tests)
tens_is octet hundreds Begun is = grind (arith, nat_tests)
tens_is octet hundreds (OneDigit other) is = grind (arith, nat_tests)
tens_is octet hundreds (TwoDigits other tens) is = (grind (arith, nat_tests), record { few = grind (arith, nat_tests); octet_is = grind (arith, nat_tests) })

record IsLast (octet hundreds tens spelled : ℕ) : Type 0 where
  digit : IsDigit octet (octet - 48)
  sums : 100 * hundreds + 10 * tens + (octet - 48) ≡ spelled
  fits : spelled ≤ 255

last_is : (octet hundreds tens spelled : ℕ) → spelled_by (TwoDigits hundreds tens) octet ≡ Octet spelled → IsLast octet hundreds tens spelled
last_is octet hundreds tens spelled is = record {
  digit = record { few = grind (arith, nat_tests); octet_is = grind (arith, nat_tests) };
  sums = grind (arith, nat_tests);
  fits = grind (arith, nat_tests);
}

abbrev pub found_octet : ℕ → List ℕ → Option (ℕ × List ℕ)
found_octet octet behind = Some (octet, behind)

-- the text that an octet was read from begins with what spells it
took : (whole first text : List ℕ) (spelled octet : ℕ) (behind : List ℕ) → SpellsOctet first spelled → whole ≡ first ++ text → 1 ≤ length first
    → found_octet spelled text ≡ found_octet octet behind → BeginsWithOctet whole octet behind
took whole first text spelled octet behind spells parts some found =
    let same : spelled ≡ octet = ap (λ (f : Option (ℕ × List ℕ)). elim f [ None ↦ spelled | Some pair ↦ pair.0 ]) found in
    let same_behind : text ≡ behind = ap (λ (f : Option (ℕ × List ℕ)). elim f [ None ↦ text | Some pair ↦ pair.1 ]) found in
    let split : whole ≡ first ++ behind = parts ∙ ap (λ t. first ++ t) same_behind in
    record { first = first; spells = subst (SpellsOctet first) same spells; whole = split; shorter = omega (arith, ap length split, length-append first behind) }

-- the last of three digits
last_begins : (text : List ℕ) (hundreds tens octet : ℕ) (behind : List ℕ) → hundreds ≤ 9 → tens ≤ 9 → octet_from (TwoDigits hundreds tens) text ≡ Some (octet, behind)
    → BeginsWithOctet (92 ∷ (48 + hundreds) ∷ (48 + tens) ∷ text) octet behind
last_begins [] hundreds tens octet behind few few_tens is = absurd cc
last_begins (next ∷ text) hundreds tens octet behind few few_tens is = by (spelled_by (TwoDigits hundreds tens) next) refl
  where
    by : (spelled : Spelled) → spelled_by (TwoDigits hundreds tens) next ≡ spelled → BeginsWithOctet (92 ∷ (48 + hundreds) ∷ (48 + tens) ∷ next ∷ text) octet behind
    by (Octet spelled) at =
        let last = last_is next hundreds tens spelled at in
        took (92 ∷ (48 + hundreds) ∷ (48 + tens) ∷ next ∷ text) (92 ∷ (48 + hundreds) ∷ (48 + tens) ∷ (48 + (next - 48)) ∷ []) text spelled octet behind
        (decimal few few_tens last.digit.few last.sums last.fits)
        (ap (λ n. 92 ∷ (48 + hundreds) ∷ (48 + tens) ∷ n ∷ text) last.digit.octet_is) (omega arith) (rw (at, octet_from) at is)
    by (Part more) at = absurd (part_is_none more at)
      where
        part_is_none : (more : Escape) → spelled_by (TwoDigits hundreds tens) next ≡ Part more → ⊥
        part_is_none more is = grind (arith, nat_tests)
    by Dot at = absurd (cc (rw (at, octet_from) at is))
    by NoSpelling at = absurd (cc (rw (at, octet_from) at is))

-- the second of three digits
second_begins : (text : List ℕ) (hundreds octet : ℕ) (behind : List ℕ) → hundreds ≤ 9 → octet_from (OneDigit hundreds) text ≡ Some (octet, behind)
    → BeginsWithOctet (92 ∷ (48 + hundreds) ∷ text) octet behind
second_begins [] hundreds octet behind few is = absurd cc
second_begins (next ∷ text) hundreds octet behind few is = by (spelled_by (OneDigit hundreds) next) refl
  where
    on : (more : Escape) → IsTens next hundreds more → octet_from more text ≡ Some (octet, behind) → BeginsWithOctet (92 ∷ (48 + hundreds) ∷ next ∷ text) octet behind
    on (TwoDigits other tens) tens_are found =
        subst (λ n. BeginsWithOctet (92 ∷ (48 + hundreds) ∷ n ∷ text) octet behind) (sym tens_are.1.octet_is)
        (last_begins text hundreds tens octet behind few tens_are.1.few (subst (λ h. octet_from (TwoDigits h tens) text ≡ Some (octet, behind)) tens_are.0 found))
    on Unescaped none found = absurd none
    on Begun none found = absurd none
    on (OneDigit other) none found = absurd none

    by : (spelled : Spelled) → spelled_by (OneDigit hundreds) next ≡ spelled → BeginsWithOctet (92 ∷ (48 + hundreds) ∷ next ∷ text) octet behind
    by (Part more) at = on more (tens_is next hundreds more at) (rw (at, octet_from) at is)
    by (Octet spelled) at = absurd (grind (arith, nat_tests))
    by Dot at = absurd (cc (rw (at, octet_from) at is))
    by NoSpelling at = absurd (cc (rw (at, octet_from) at is))

-- what stands behind a backslash
escape_begins : (text : List ℕ) (octet : ℕ) (behind : List ℕ) → octet_from Begun text ≡ Some (octet, behind) → BeginsWithOctet (92 ∷ text) octet behind
escape_begins [] octet behind is = absurd cc
escape_begins (next ∷ text) octet behind is = by (spelled_by Begun next) refl
  where
    on : (more : Escape) → IsHundreds next more → octet_from more text ≡ Some (octet, behind) → BeginsWithOctet (92 ∷ next ∷ text) octet behind
    on (OneDigit hundreds) digit found =
        subst (λ n. BeginsWithOctet (92 ∷ n ∷ text) octet behind) (sym digit.octet_is) (second_begins text hundreds octet behind digit.few found)
    on Unescaped none found = absurd none
    on Begun none found = absurd none
    on (TwoDigits hundreds tens) none found = absurd none

    by : (spelled : Spelled) → spelled_by Begun next ≡ spelled → BeginsWithOctet (92 ∷ next ∷ text) octet behind
    by (Part more) at = on more (hundreds_is next more at) (rw (at, octet_from) at is)
    by (Octet spelled) at =
        let one = escaped_is next spelled at in
        took (92 ∷ next ∷ text) (92 ∷ next ∷ []) text spelled octet behind
        (subst (λ o. SpellsOctet (92 ∷ next ∷ []) o) (sym one.same) (escaped (one.graphic_low, one.graphic_high) one.no_digit)) refl (omega arith) (rw (at, octet_from) at is)
    by Dot at = absurd (cc (rw (at, octet_from) at is))
    by NoSpelling at = absurd (cc (rw (at, octet_from) at is))

-- an octet that is read is spelled by what the text begins with
pub octet_from-begins : (text : List ℕ) (octet : ℕ) (behind : List ℕ) → octet_from Unescaped text ≡ Some (octet, behind) → BeginsWithOctet text octet behind
octet_from-begins [] octet behind is = absurd cc
octet_from-begins (next ∷ text) octet behind is = by (spelled_by Unescaped next) refl
  where
    by : (spelled : Spelled) → spelled_by Unescaped next ≡ spelled → BeginsWithOctet (next ∷ text) octet behind
    by (Part more) at =
        let begun = backslash_is next more at in
        let found : octet_from more text ≡ Some (octet, behind) = rw (at, octet_from) at is in
        subst (λ n. BeginsWithOctet (n ∷ text) octet behind) (sym begun.0)
        (escape_begins text octet behind (subst (λ e. octet_from e text ≡ Some (octet, behind)) begun.1 found))
    by (Octet spelled) at =
        let one = itself_is next spelled at in
        took (next ∷ text) (next ∷ []) text spelled octet behind
        (subst (λ o. SpellsOctet (next ∷ []) o) (sym one.same) (itself (one.graphic_low, one.graphic_high) one.no_dot one.no_backslash)) refl (omega arith) (rw (at, octet_from) at is)
    by Dot at = absurd (cc (rw (at, octet_from) at is))
    by NoSpelling at = absurd (cc (rw (at, octet_from) at is))

-- reading a name, an octet that is read joins the label
pub name_from-octet : (text : List ℕ) (before label : List ℕ) (escape : Escape) (octet : ℕ) (behind : List ℕ) → octet_from escape text ≡ Some (octet, behind)
    → name_from before label escape text ≡ name_from before (label ++ octet ∷ []) Unescaped behind
name_from-octet [] before label escape octet behind is = absurd cc
name_from-octet (next ∷ text) before label escape octet behind is = by (spelled_by escape next) refl (λ more. name_from-octet text before label more octet behind)
  where
    by : (spelled : Spelled) → spelled_by escape next ≡ spelled
        → ((more : Escape) → octet_from more text ≡ Some (octet, behind) → name_from before label more text ≡ name_from before (label ++ octet ∷ []) Unescaped behind)
        → name_from before label escape (next ∷ text) ≡ name_from before (label ++ octet ∷ []) Unescaped behind
    by (Part more) at rest = rw (at, name_from) (rest more (rw (at, octet_from) at is))
    by (Octet spelled) at rest =
        let found : found_octet spelled text ≡ found_octet octet behind = rw (at, octet_from) at is in
        rw (at, name_from) (ap (λ (f : Option (ℕ × List ℕ)). elim f [ None ↦ name_from before label Unescaped text | Some pair ↦ name_from before (label ++ pair.0 ∷ []) Unescaped pair.1 ]) found)
    by Dot at rest = absurd (cc (rw (at, octet_from) at is))
    by NoSpelling at rest = absurd (cc (rw (at, octet_from) at is))

-- within a label, or within what spells an octet of one
abbrev pub GoesOn : Escape → List ℕ → Type 0
GoesOn Unescaped [] = ⊥
GoesOn Unescaped (octet ∷ text) = octet ≢ 46
GoesOn Begun text = Unit {0}
GoesOn (OneDigit hundreds) text = Unit {0}
GoesOn (TwoDigits hundreds tens) text = Unit {0}

part-GoesOn : (escape more : Escape) (octet : ℕ) (text : List ℕ) → spelled_by escape octet ≡ Part more → GoesOn more text
part-GoesOn escape Begun octet text is = tt
part-GoesOn escape (OneDigit hundreds) octet text is = tt
part-GoesOn escape (TwoDigits hundreds tens) octet text is = tt
part-GoesOn escape Unescaped octet text is = absurd (none escape is)
  where
    none : (escape : Escape) → spelled_by escape octet ≡ Part Unescaped → ⊥
    none Unescaped is = grind (arith, nat_tests)
    none Begun is = grind (arith, nat_tests)
    none (OneDigit hundreds) is = grind (arith, nat_tests)
    none (TwoDigits hundreds tens) is = grind (arith, nat_tests)

dot_is : (escape : Escape) (octet : ℕ) (text : List ℕ) → spelled_by escape octet ≡ Dot → GoesOn escape (octet ∷ text) → ⊥
dot_is Unescaped octet text is goes_on = goes_on (grind (arith, nat_tests))
dot_is Begun octet text is goes_on = grind (arith, nat_tests)
dot_is (OneDigit hundreds) octet text is goes_on = grind (arith, nat_tests)
dot_is (TwoDigits hundreds tens) octet text is goes_on = grind (arith, nat_tests)

-- reading a name, what spells nothing is a bad escape
pub name_from-nothing : (text : List ℕ) (before label : List ℕ) (escape : Escape) → octet_from escape text ≡ None → GoesOn escape text
    → name_from before label escape text ≡ Err BadEscape
name_from-nothing [] before label Unescaped is goes_on = absurd goes_on
name_from-nothing [] before label Begun is goes_on = refl
name_from-nothing [] before label (OneDigit hundreds) is goes_on = refl
name_from-nothing [] before label (TwoDigits hundreds tens) is goes_on = refl
name_from-nothing (next ∷ text) before label escape is goes_on = by (spelled_by escape next) refl (λ more. name_from-nothing text before label more)
  where
    by : (spelled : Spelled) → spelled_by escape next ≡ spelled
        → ((more : Escape) → octet_from more text ≡ None → GoesOn more text → name_from before label more text ≡ Err BadEscape)
        → name_from before label escape (next ∷ text) ≡ Err BadEscape
    by (Part more) at rest = rw (at, name_from) (rest more (rw (at, octet_from) at is) (part-GoesOn escape more next text at))
    by (Octet spelled) at rest = absurd (cc (rw (at, octet_from) at is))
    by Dot at rest = absurd (dot_is escape next text at goes_on)
    by NoSpelling at rest = rw (at, name_from) refl
