-- SPDX-License-Identifier: MIT
-- A number of 64 bits is read as its digits spell it.
use Rattle.std.proofs.Common.{◌≡◌, ◌==◌, ◌<◌, ◌≤◌, ◌+◌, ◌-◌, ◌*◌, ◌^◌, ℕ, List, [], ◌∷◌, length, drop, slice_index, cond, Option, Some, None, Bool, true, false, refl, sym, ap, subst, ◌∙◌, arith, le-leb}
use Rattle.std.specs.Char.{is_ascii_digit, digit_value}
use Rattle.std.specs.Str.{IsAscii}
use Rattle.std.specs.Str.Parse.{AllDigits, IsNumeral, digits_value, digits_value_after, without_leading_plus}
use Rattle.std.proofs.lemmas.Str.{digit_value_digit, IsUtf8-from_ascii}
use Rattle.std.specs.Str.{IsUtf8}
use Rattle.std.proofs.lemmas.Str.Parse.{digit_from_value}
use Rattle.std.proofs.lemmas.Str.Ascii.{IsAscii-nil, IsAscii-cons}
use Rattle.rrc_text.specs.Numbers.{number_behind, number_of}
use Rattle.rrc_archive.specs.ArchiveFields.{count_of}
use Rattle.rrc_text.proofs.SaidLemmas.{said_last}
use Rattle.rrc_text.proofs.NumeralLemmas.{digit-value, value-digit, within-is, at_most-says}

digit-ascii : (digit : ℕ) → digit_value digit < 10 → is_ascii_digit digit ≡ true
digit-ascii digit small =
    let range = digit_from_value digit small in
    let same : 48 + (digit - 48) ≡ digit = omega (arith, range) in
    subst (λ (d : ℕ). is_ascii_digit d ≡ true) same (value-digit (digit - 48) (omega (arith, range)))

ascii-digit : (digit : ℕ) → is_ascii_digit digit ≡ true → digit_value digit < 10
ascii-digit digit is =
    let value = digit-value digit is in
    omega (arith, value.small, value.same, digit_value_digit digit (omega (arith, value.small, value.same), omega (arith, value.small, value.same)))

digits-behind : (digits : List ℕ) (number : ℕ) → AllDigits 10 digits → number_behind number digits ≡ Some (digits_value_after 10 number digits)
digits-behind [] number all = refl
digits-behind (digit ∷ digits) number all =
    let value = digit_value_digit digit (digit_from_value digit all.0) in
    let next : 10 * number + (digit - 48) ≡ number * 10 + digit_value digit = omega (arith, value) in
    rw (digit-ascii digit all.0) (ap (λ (n : ℕ). number_behind n digits) next ∙ digits-behind digits (number * 10 + digit_value digit) all.1)

-- a numeral is read as its value
pub numeral-read : (digits : List ℕ) → IsNumeral 10 digits → number_of digits ≡ Some (digits_value 10 digits)
numeral-read [] is = absurd (omega (arith, is.0))
numeral-read (digit ∷ digits) is = digits-behind (digit ∷ digits) 0 is.1

all-digits : (digits : List ℕ) (number result : ℕ) → number_behind number digits ≡ Some result → AllDigits 10 digits
all-digits [] number result is = tt
all-digits (digit ∷ digits) number result is = by (is_ascii_digit digit) refl (all-digits digits (10 * number + (digit - 48)) result)
  where
    by : (ascii : Bool) → is_ascii_digit digit ≡ ascii → (number_behind (10 * number + (digit - 48)) digits ≡ Some result → AllDigits 10 digits)
        → AllDigits 10 (digit ∷ digits)
    by true ascii later = (ascii-digit digit ascii, later (rw ascii at is))
    by false other later = let never : None ≡ Some result = rw other at is in absurd cc

read-numeral : (digits : List ℕ) (number : ℕ) → number_of digits ≡ Some number → IsNumeral 10 digits
read-numeral [] number is = absurd cc
read-numeral (digit ∷ digits) number is = (omega arith, all-digits (digit ∷ digits) 0 number is)

-- a numeral of 64 bits, as std reads it
abbrev IsCount : List ℕ → Type 0
IsCount digits = IsNumeral 10 digits × (digits_value 10 digits < 2 ^ 64)

pub count-read : (field text : List ℕ) (count : ℕ) → text ≡ field → IsCount (without_leading_plus text) → count ≡ digits_value 10 (without_leading_plus text)
    → count_of field ≡ Some count
count-read field text count same is value =
    let read : count_of text ≡ Some count =
    within-is (2 ^ 64 - 1) (number_of (without_leading_plus text)) count (numeral-read (without_leading_plus text) is.0 ∙ ap (λ (n : ℕ). some n) (sym value)) (omega (arith, is.1, value)) in
    subst (λ (t : List ℕ). count_of t ≡ Some count) same read
  where
    some : ℕ → Option ℕ
    some n = Some n

counted : (field : List ℕ) (count : ℕ) → count_of field ≡ Some count → IsCount (without_leading_plus field)
counted field count is =
    let within = at_most-says (2 ^ 64 - 1) (number_of (without_leading_plus field)) count is in
    let numeral = read-numeral (without_leading_plus field) count within.is in
    let value : digits_value 10 (without_leading_plus field) ≡ count = said_last (sym (numeral-read (without_leading_plus field) numeral) ∙ within.is) in
    (numeral, omega (arith, value, within.few))

none-said : {X : Type 0} (said : Option X) → ((value : X) → said ≡ Some value → ⊥) → said ≡ None
none-said None never = refl
none-said (Some value) never = absurd (never value refl)

pub count-not_read : (field text : List ℕ) → text ≡ field → ¬ IsCount (without_leading_plus text) → count_of field ≡ None
count-not_read field text same not =
    subst (λ (t : List ℕ). count_of t ≡ None) same (none-said (count_of text) (λ count is. not (counted text count is)))

digits-are_ascii : (digits : List ℕ) → AllDigits 10 digits → IsAscii digits
digits-are_ascii [] all = IsAscii-nil
digits-are_ascii (digit ∷ digits) all =
    IsAscii-cons digit digits (omega (arith, digit_from_value digit all.0)) (digits-are_ascii digits all.1)

count-is_ascii : (field : List ℕ) → AllDigits 10 (without_leading_plus field) → IsAscii field
count-is_ascii [] all = IsAscii-nil
count-is_ascii (octet ∷ field) all = by (octet == 43) refl all
  where
    by : (plus : Bool) → (octet == 43) ≡ plus → AllDigits 10 (drop (cond plus 1 0) (octet ∷ field)) → IsAscii (octet ∷ field)
    by true plus all = IsAscii-cons octet field (omega (arith, Rattle.std.proofs.Common.eqb-true octet 43 plus)) (digits-are_ascii field all)
    by false other all = digits-are_ascii (octet ∷ field) all

-- octets that are no text say no number
pub count-not_text : (field : List ℕ) → ¬ IsUtf8 field → count_of field ≡ None
count-not_text field not =
    none-said (count_of field) (λ count is. not (IsUtf8-from_ascii field (count-is_ascii field (counted field count is).0.1)))
