-- SPDX-License-Identifier: MIT
-- How the text of a name is read, octet by octet. What a text spells, and what its first fault is, stands in Text.
use Rattle.std.specs.Prelude.{ℕ, ◌+◌, ◌-◌, ◌*◌, List, [], ◌∷◌, ◌++◌, length, if◌then◌else◌, ◌==◌, nat_lt, nat_le, bytes_eq, Result, Ok, Err, MatchResult}
use Rattle.std.specs.Char.{is_ascii_graphic, is_ascii_digit}
use Rattle.rrc_name.specs.declared.text.Escape.{Escape}
use Rattle.rrc_name.specs.declared.text.Escape.TheVariants.{Unescaped, Begun, OneDigit, TwoDigits}
use Rattle.rrc_name.specs.declared.text.Spelled.{Spelled}
use Rattle.rrc_name.specs.declared.text.Spelled.TheVariants.{Part, Octet, Dot, NoSpelling}
use Rattle.rrc_name.specs.declared.fault.NameFault.{NameFault}
use Rattle.rrc_name.specs.declared.fault.NameFault.TheVariants.{EmptyLabel, LabelTooLong, NameTooLong, BadEscape}
use Rattle.rrc_name.specs.Text.{Spells, IsFirstFaultOf}

-- what follows an answer, or its fault
abbrev pub and_then : Result (List ℕ) NameFault → (List ℕ → Result (List ℕ) NameFault) → Result (List ℕ) NameFault
and_then (Ok answer) next = next answer
and_then (Err fault) next = Err fault

-- what the next octet of a text spells: behind a backslash three decimal digits, of at most 255, or one graphic octet; else
-- the dot between labels, or a graphic octet
abbrev pub spelled_by : Escape → ℕ → Spelled
spelled_by Unescaped octet =
    if octet == 46 then Dot else if octet == 92 then Part Begun else if is_ascii_graphic octet then Octet octet else NoSpelling
spelled_by Begun octet =
    if is_ascii_digit octet then Part (OneDigit (octet - 48)) else if is_ascii_graphic octet then Octet octet else NoSpelling
spelled_by (OneDigit hundreds) octet =
    if is_ascii_digit octet then Part (TwoDigits hundreds (octet - 48)) else NoSpelling
spelled_by (TwoDigits hundreds tens) octet =
    let number = 100 * hundreds + 10 * tens + (octet - 48) in
    if is_ascii_digit octet then if nat_le number 255 then Octet number else NoSpelling else NoSpelling

-- the wire form of some labels with one more at its end, where that is a label and the name is not too long
abbrev pub with_label : List ℕ → List ℕ → Result (List ℕ) NameFault
with_label before label =
    if length label == 0 then Err EmptyLabel
    else if nat_lt 63 (length label) then Err LabelTooLong
    else if nat_lt 255 (length before + length label + 2) then Err NameTooLong
    else Ok (before ++ length label ∷ label)

-- a name ends with a label or with the dot behind one
abbrev pub name_ends : List ℕ → List ℕ → Escape → Result (List ℕ) NameFault
name_ends before label Unescaped =
    if length label == 0
    then if length before == 0 then Err EmptyLabel else Ok (before ++ 0 ∷ [])
    else and_then (with_label before label) (λ labels. Ok (labels ++ 0 ∷ []))
name_ends before label escape = Err BadEscape

-- the name of a text, read from the left; before it stand whole labels, in wire form, and the octets of this label so far
abbrev pub name_from : List ℕ → List ℕ → Escape → List ℕ → Result (List ℕ) NameFault
name_from before label escape [] = name_ends before label escape
name_from before label escape (octet ∷ text) =
    elim (spelled_by escape octet) [
      | Part more ↦ name_from before label more text
      | Octet spelled ↦ name_from before (label ++ spelled ∷ []) Unescaped text
      | Dot ↦ and_then (with_label before label) (λ labels. name_from labels [] Unescaped text)
      | NoSpelling ↦ Err BadEscape
    ]

-- a text is a dot, the root, or labels with dots between them
abbrev pub name_in : List ℕ → Result (List ℕ) NameFault
name_in text = if bytes_eq text (46 ∷ []) then Ok (0 ∷ []) else name_from [] [] Unescaped text

-- the reading answers the name that a text spells, or the text's first fault
abbrev pub IsReadAsSpelled : Type 0
IsReadAsSpelled = (text : List ℕ) → MatchResult (name_in text) (Spells text) (IsFirstFaultOf text)
