-- SPDX-License-Identifier: MIT
-- Names in lines.
use Rattle.std.proofs.Common.{◌≡◌, ℕ, ◌<◌, ◌+◌, List, [], ◌∷◌, Some, None, Result, Ok, Err, refl, subst, arith}
use Rattle.std.specs.Str.{IsAscii}
use Rattle.std.proofs.lemmas.Str.{IsAscii-append}
use Rattle.std.proofs.lemmas.Str.Ascii.{IsAscii-nil, IsAscii-push}
use Rattle.rrc_name.specs.declared.fault.NameFault.{NameFault}
use Rattle.rrc_name.specs.Text.{SpellsOctet, itself, escaped, decimal, SpellsLabel, no_octet, octet_more, SpellsLabels, no_label, label_more, Spells, root, last_dot, no_last_dot}
use Rattle.rrc_name.specs.Reading.{name_in}
use Rattle.rrc_name.proofs.TextReading.{Tells}
use Rattle.rrc_name.proofs.TextLaw.{name_in-tells}
use Rattle.rrc_name.proofs.TextRuns.{name_in-spelled}
use Rattle.rrc_text.specs.Names.{name_of, SaysWhatIsSpelled}
use Rattle.rrc_text.proofs.SaidLemmas.{said_last}

one_more : (octet : ℕ) (octets : List ℕ) → octet < 128 → IsAscii octets → IsAscii (octet ∷ octets)
one_more octet octets below ascii = IsAscii-append (octet ∷ []) octets (IsAscii-push [] octet IsAscii-nil below) ascii

-- what spells something is ASCII
octet-ascii : (text : List ℕ) (octet : ℕ) → SpellsOctet text octet → IsAscii text
octet-ascii text octet (itself graphic no_dot no_backslash) = one_more octet [] (omega (arith, graphic.1)) IsAscii-nil
octet-ascii text octet (escaped graphic no_digit) = one_more 92 (octet ∷ []) (omega arith) (one_more octet [] (omega (arith, graphic.1)) IsAscii-nil)
octet-ascii text octet (decimal {hundreds = hundreds} {tens = tens} {ones = ones} few few_tens few_ones sums fits) =
    let last : IsAscii ((48 + ones) ∷ []) = one_more (48 + ones) [] (omega (arith, few_ones)) IsAscii-nil in
    let two : IsAscii ((48 + tens) ∷ (48 + ones) ∷ []) = one_more (48 + tens) ((48 + ones) ∷ []) (omega (arith, few_tens)) last in
    let digits : IsAscii ((48 + hundreds) ∷ (48 + tens) ∷ (48 + ones) ∷ []) = one_more (48 + hundreds) ((48 + tens) ∷ (48 + ones) ∷ []) (omega (arith, few)) two in
    one_more 92 ((48 + hundreds) ∷ (48 + tens) ∷ (48 + ones) ∷ []) (omega arith) digits

label-ascii : (text label : List ℕ) → SpellsLabel text label → IsAscii text
label-ascii text label no_octet = IsAscii-nil
label-ascii text label (octet_more {first = first} {behind = behind} {label = others} {octet = octet} spells rest) =
    IsAscii-append first behind (octet-ascii first octet spells) (label-ascii behind others rest)

labels-ascii : (text : List ℕ) (labels : List (List ℕ)) → SpellsLabels text labels → IsAscii text
labels-ascii text labels no_label = IsAscii-nil
labels-ascii text labels (label_more {first = first} {behind = behind} {label = label} {labels = others} spells rest) =
    IsAscii-append first (46 ∷ behind) (label-ascii first label spells) (one_more 46 behind (omega arith) (labels-ascii behind others rest))

name-ascii : (text name : List ℕ) → Spells text name → IsAscii text
name-ascii text name root = one_more 46 [] (omega arith) IsAscii-nil
name-ascii text name (last_dot {labels = labels} spells some make) = labels-ascii text labels spells
name-ascii text name (no_last_dot {front = front} {last = last} {label = label} {labels = labels} spells spells_last make) =
    IsAscii-append front last (labels-ascii front labels spells) (label-ascii last label spells_last)

-- a field that is not ASCII says no name
pub says_no_name : (field : List ℕ) → ¬ IsAscii field → name_of field ≡ None
says_no_name field not_ascii = by (name_in field) refl (name_in-tells field)
  where
    by : (read : Result (List ℕ) NameFault) → name_in field ≡ read → Tells field read → name_of field ≡ None
    by (Ok name) is spells = absurd (not_ascii (name-ascii field name spells))
    by (Err fault) is first = rw (is, name_of) refl

pub says_what_is_spelled : SaysWhatIsSpelled
says_what_is_spelled field name = (by (name_in field) refl (name_in-tells field), λ spells. rw (name_in-spelled field name spells, name_of) refl)
  where
    by : (read : Result (List ℕ) NameFault) → name_in field ≡ read → Tells field read → name_of field ≡ Some name → Spells field name
    by (Ok found) is spells says =
        let same : Some found ≡ Some name = rw (is, name_of) at says in subst (Spells field) (said_last same) spells
    by (Err fault) is first says = let no : None ≡ Some name = rw (is, name_of) at says in absurd cc
