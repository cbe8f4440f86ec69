-- SPDX-License-Identifier: MIT
-- The fields of an archive are read as they are written.
use Rattle.std.proofs.Common.{◌≡◌, ◌≢◌, ◌==◌, ◌<◌, ◌≤◌, ◌+◌, ◌-◌, ◌^◌, ℕ, zero, suc, List, [], ◌∷◌, ◌++◌, length, take, drop, map, get_or, Option, Some, None, Bool, true, false, option_map, option_and_then, refl, sym, ap, subst, ◌∙◌, arith, append_assoc, append-nil, decimal, codes, bytes_eq, ne_eqb, eqb-true}
use Rattle.std.specs.List.{All, AllByRecursion, slice_split}
use Rattle.std.specs.Str.Parse.{IsNumeral, digits_value, without_leading_plus}
use Rattle.std.proofs.lemmas.Bool.{false_from_ne_true}
use Rattle.std.proofs.lemmas.Fmt.{decimal_is_IsNumeral}
use Rattle.std.proofs.lemmas.List.Splits.{slice_split_none, slice_split_at}
use Rattle.std.proofs.lemmas.Slice.Eq.{bytes_eq-Decides}
use Rattle.std.proofs.lemmas.Str.Parse.{digit_at, without_leading_plus_none}
use Rattle.hex.specs.Hex.{IsBytes}
use Rattle.rrc_name.specs.Wire.{IsWireForm, labels_of}
use Rattle.rrc_name.specs.Text.{text_of}
use Rattle.rrc_name.specs.declared.slot.Slot.{Slot}
use Rattle.rrc_name.specs.declared.slot.Slot.TheVariants.{Set, Nx, Failed}
use Rattle.rrc_name.proofs.ReadAgain.{read_again}
use Rattle.rrc_history.specs.Fits.{has_items}
use Rattle.rrc_history.specs.Lives.{rank}
use Rattle.rrc_history.specs.declared.body.Trust.{Trust}
use Rattle.rrc_history.specs.declared.body.Trust.TheVariants.{Additional, NonAuthoritativeAnswer, Authority, AuthoritativeAnswer}
use Rattle.rrc_text.specs.declared.kind.Kind.{Kind}
use Rattle.rrc_text.specs.Gives.{◌>>=◌}
use Rattle.rrc_text.specs.Grammar.{StandsApart}
use Rattle.rrc_text.specs.Fields.{field_at, said_at}
use Rattle.rrc_text.specs.Commas.{is_comma}
use Rattle.rrc_text.specs.Names.{name_of}
use Rattle.rrc_text.specs.Numbers.{number_of, ttl_of, word_of, slash_in, kind_at, kind_of, trust_of}
use Rattle.rrc_text.specs.Numbers.{rank as trust_by_rank}
use Rattle.rrc_text.specs.Octets.{octets_of}
use Rattle.rrc_text.specs.Replies.{item_text, items_text, more_items_text, slot_text, class_text}
use Rattle.rrc_archive.specs.ArchiveFields.{count_of, slot_of, slot_cut, slot_and_class_of, with_written, written_behind, data_of}
use Rattle.rrc_archive.specs.ArchiveFits.{FitsSlot}
use Rattle.rrc_archive.specs.ArchiveLaw.{IsNumber, HoldsItems}
use Rattle.rrc_archive.proofs.CancelLemmas.{Above}
use Rattle.rrc_archive.proofs.CancelFields.{above-digits, above-append, name-above, item-above, item-read}
use Rattle.rrc_archive.proofs.CountLemmas.{numeral-read, count-read}
use Rattle.rrc_text.proofs.FieldLemmas.{field_at-of}
use Rattle.rrc_text.proofs.NameLemmas.{says_what_is_spelled}
use Rattle.rrc_text.proofs.NumeralLemmas.{within-is, rank-small, rank-ranked, slash-none, slash-behind, take-front, drop-front}

-- what stands behind a space is read as a value, and what stands apart behind it is left
pub record Reads {X : Type 0} (at : List ℕ → Option (X × List ℕ)) (text : X → List ℕ) (Fits : X → Type 0) : Type 0 where
  pub back : (value : X) (behind : List ℕ) → Fits value → StandsApart behind → at (32 ∷ (text value ++ behind)) ≡ Some (value, behind)

pub above-lower : (t u : ℕ) (octets : List ℕ) → t ≤ u → Above u octets → Above t octets
above-lower t u [] low above = tt
above-lower t u (octet ∷ octets) low above = (omega (arith, low, above.0), above-lower t u octets low above.1)

unspaced : (octets : List ℕ) → Above 32 octets → AllByRecursion (λ octet. octet ≢ 32) octets
unspaced [] above = tt
unspaced (octet ∷ octets) above = (λ e. absurd (omega (arith, e, above.0)), unspaced octets above.1)

some-said : {X : Type 0} (said : List ℕ → Option X) (field : List ℕ) (value : X) → said [] ≡ None → said field ≡ Some value → 0 < length field
some-said said [] value none is = let never : None ≡ Some value = sym none ∙ is in absurd cc
some-said said (octet ∷ field) value none is = omega arith

-- a field that says a value
pub field-read : {X : Type 0} (said : List ℕ → Option X) (field behind : List ℕ) (value : X) → Above 32 field → said [] ≡ None → said field ≡ Some value
    → StandsApart behind → said_at said (32 ∷ (field ++ behind)) ≡ Some (value, behind)
field-read said field behind value above none is apart =
    let some = some-said said field value none is in
    let found : field_at (32 ∷ (field ++ behind)) ≡ Some (field, behind) =
    field_at-of (32 ∷ []) field behind (refl, tt) (record { some = omega (arith, some); unspaced = unspaced field above }) apart in
    rw (found, is) refl

pub number-decimal : (n : ℕ) → IsNumber n → number_of (decimal n) ≡ Some n
number-decimal n is =
    let numeral = decimal_is_IsNumeral n is in numeral-read (decimal n) numeral.0 ∙ ap (λ (m : ℕ). some m) numeral.1
  where
    some : ℕ → Option ℕ
    some m = Some m

unsigned : (n : ℕ) → IsNumber n → without_leading_plus (decimal n) ≡ decimal n
unsigned n is =
    let numeral = (decimal_is_IsNumeral n is).0 in
    let first = digit_at (decimal n) 0 numeral.1 numeral.0 in
    without_leading_plus_none (decimal n) (λ plus. absurd (omega (arith, first, plus)))

pub count-decimal : (n : ℕ) → IsNumber n → count_of (decimal n) ≡ Some n
count-decimal n is =
    let numeral = decimal_is_IsNumeral n is in
    let same : without_leading_plus (decimal n) ≡ decimal n = unsigned n is in
    count-read (decimal n) (decimal n) n refl
    (subst (λ (digits : List ℕ). IsNumeral 10 digits × (digits_value 10 digits < 2 ^ 64)) (sym same) (numeral.0, omega (arith, numeral.1, is)))
    (sym numeral.1 ∙ ap (digits_value 10) (sym same))

ttl-decimal : (n : ℕ) → n < 2 ^ 32 → ttl_of (decimal n) ≡ Some n
ttl-decimal n few = within-is (2 ^ 32 - 1) (number_of (decimal n)) n (number-decimal n (omega (arith, few))) (omega (arith, few))

word-decimal : (n : ℕ) → n < 2 ^ 16 → word_of (decimal n) ≡ Some n
word-decimal n few = within-is (2 ^ 16 - 1) (number_of (decimal n)) n (number-decimal n (omega (arith, few))) (omega (arith, few))

pub decimal-above : (n : ℕ) → IsNumber n → Above 47 (decimal n)
decimal-above n is = above-digits (decimal n) (decimal_is_IsNumeral n is).0.1

spaceless : (n : ℕ) → IsNumber n → Above 32 (decimal n)
spaceless n is = above-lower 32 47 (decimal n) (omega arith) (decimal-above n is)

pub counts : Reads (said_at count_of) decimal IsNumber
counts = record { back = λ n behind is apart. field-read count_of (decimal n) behind n (spaceless n is) refl (count-decimal n is) apart }

pub ttls : Reads (said_at ttl_of) decimal (λ n. n < 2 ^ 32)
ttls = record { back = λ n behind few apart. field-read ttl_of (decimal n) behind n (spaceless n (omega (arith, few))) refl (ttl-decimal n few) apart }

pub rank-number : (trust : Trust) → IsNumber (rank trust)
rank-number Additional = omega arith
rank-number NonAuthoritativeAnswer = omega arith
rank-number Authority = omega arith
rank-number AuthoritativeAnswer = omega arith

trust-decimal : (trust : Trust) → trust_of (decimal (rank trust)) ≡ Some trust
trust-decimal trust =
    ap (option_and_then trust_by_rank)
    (within-is 4 (number_of (decimal (rank trust))) (rank trust) (number-decimal (rank trust) (rank-number trust)) (rank-small trust))
    ∙ rank-ranked trust

pub trusts : Reads (said_at trust_of) (λ trust. decimal (rank trust)) (λ (trust : Trust). Unit {0})
trusts = record {
  back = λ trust behind fits apart.
      field-read trust_of (decimal (rank trust)) behind trust (spaceless (rank trust) (rank-number trust)) refl (trust-decimal trust) apart;
}

name-said : (name : List ℕ) → IsWireForm name → name_of (text_of name) ≡ Some name
name-said name is = (says_what_is_spelled (text_of name) name).1 (read_again name is)

pub names : Reads (said_at name_of) text_of IsWireForm
names = record {
  back = λ name behind is apart. field-read name_of (text_of name) behind name (name-above (labels_of name)) refl (name-said name is) apart;
}

-- the first of some digits
first-digit : (digits : List ℕ) → IsNumeral 10 digits → get_or digits 0 0 ≤ 57
first-digit digits is = omega (arith, digit_at digits 0 is.1 is.0)

first-taken : (octets : List ℕ) → get_or (take 6 octets) 0 0 ≡ get_or octets 0 0
first-taken [] = refl
first-taken (octet ∷ octets) = refl

other-word : (octets word : List ℕ) → get_or octets 0 0 < get_or word 0 0 → bytes_eq octets word ≡ false
other-word octets word less =
    false_from_ne_true (bytes_eq octets word)
    (λ same. absurd (omega (arith, less, ap (λ (o : List ℕ). get_or o 0 0) ((bytes_eq-Decides octets word).0 same))))

slot-said : (slot : Slot) → FitsSlot slot → slot_of (slot_text slot) ≡ Some slot
slot-said (Set rtype) few =
    let numeral = (decimal_is_IsNumeral rtype (omega (arith, few))).0 in
    let low = first-digit (decimal rtype) numeral in
    let no_nx : bytes_eq (decimal rtype) (codes "nx") ≡ false = other-word (decimal rtype) (codes "nx") (omega (arith, low)) in
    let no_failed : bytes_eq (take 6 (decimal rtype)) (codes "failed") ≡ false =
    other-word (take 6 (decimal rtype)) (codes "failed") (omega (arith, low, first-taken (decimal rtype))) in
    rw (no_nx, no_failed, word-decimal rtype few) refl
slot-said Nx few = refl
slot-said (Failed rtype) few = rw (word-decimal rtype few) refl

slot-above : (slot : Slot) → FitsSlot slot → Above 47 (slot_text slot)
slot-above (Set rtype) few = decimal-above rtype (omega (arith, few))
slot-above Nx few = (omega arith, (omega arith, tt))
slot-above (Failed rtype) few =
    above-append 47 (codes "failed") (decimal rtype)
    (omega arith, (omega arith, (omega arith, (omega arith, (omega arith, (omega arith, tt)))))) (decimal-above rtype (omega (arith, few)))

unslashed : (octets : List ℕ) → Above 47 octets → AllByRecursion (λ octet. octet ≢ 47) octets
unslashed [] above = tt
unslashed (octet ∷ octets) above = (λ e. absurd (omega (arith, e, above.0)), unslashed octets above.1)

class-above : (class : ℕ) → class < 2 ^ 16 → Above 32 (class_text class)
class-above class few = by (class == 1) refl
  where
    by : (one : Bool) → (class == 1) ≡ one → Above 32 (class_text class)
    by true is = rw is tt
    by false is = rw is (omega arith, spaceless class (omega (arith, few)))

abbrev pub kind_text : Slot → ℕ → List ℕ
kind_text slot class = slot_text slot ++ class_text class

pub kind-above : (slot : Slot) (class : ℕ) → FitsSlot slot → class < 2 ^ 16 → Above 32 (kind_text slot class)
kind-above slot class fits few =
    above-append 32 (slot_text slot) (class_text class) (above-lower 32 47 (slot_text slot) (omega arith) (slot-above slot fits)) (class-above class few)

module _ (slot : Slot) (class : ℕ) (fits : FitsSlot slot) where
  uncut : (class == 1) ≡ true → kind_text slot class ≡ slot_text slot
  uncut is = let none : class_text class ≡ [] = rw is refl in ap (λ (c : List ℕ). slot_text slot ++ c) none ∙ append-nil (slot_text slot)

  cut : (class == 1) ≡ false → kind_text slot class ≡ slot_text slot ++ 47 ∷ decimal class
  cut is = let some : class_text class ≡ 47 ∷ decimal class = rw is refl in ap (λ (c : List ℕ). slot_text slot ++ c) some

  slash-nowhere : slash_in (slot_text slot) ≡ None
  slash-nowhere = slash-none (slot_text slot) (unslashed (slot_text slot) (slot-above slot fits))

  slash-there : slash_in (slot_text slot ++ 47 ∷ decimal class) ≡ Some (length (slot_text slot))
  slash-there = slash-behind (slot_text slot) (decimal class) (unslashed (slot_text slot) (slot-above slot fits))

  slot-front : take (length (slot_text slot)) (slot_text slot ++ 47 ∷ decimal class) ≡ slot_text slot
  slot-front = take-front (slot_text slot) (47 ∷ decimal class)

  class-behind : drop (length (slot_text slot) + 1) (slot_text slot ++ 47 ∷ decimal class) ≡ decimal class
  class-behind = drop-front (slot_text slot) (decimal class) 47

  kind-said : class < 2 ^ 16 → slot_and_class_of (kind_text slot class) ≡ Some (slot, class)
  kind-said few = by (class == 1) refl
    where
      by : (one : Bool) → (class == 1) ≡ one → slot_and_class_of (kind_text slot class) ≡ Some (slot, class)
      by true is =
          let one : 1 ≡ class = sym (eqb-true class 1 is) in
          ap slot_and_class_of (uncut is) ∙ (ap (slot_cut (slot_text slot)) slash-nowhere
          ∙ (ap (λ (s : Option Slot). s >>= λ slot. Some (slot, 1)) (slot-said slot fits) ∙ ap (λ (c : ℕ). some (slot, c)) one))
        where
          some : Slot × ℕ → Option (Slot × ℕ)
          some p = Some p
      by false is =
          let front : slot_of (take (length (slot_text slot)) (slot_text slot ++ 47 ∷ decimal class)) ≡ Some slot = ap slot_of slot-front ∙ slot-said slot fits in
          let behind : word_of (drop (length (slot_text slot) + 1) (slot_text slot ++ 47 ∷ decimal class)) ≡ Some class = ap word_of class-behind ∙ word-decimal class few in
          ap slot_and_class_of (cut is) ∙ (ap (slot_cut (slot_text slot ++ 47 ∷ decimal class)) slash-there ∙ rw (front, behind) refl)

pub kinds : Reads (said_at slot_and_class_of) (λ (p : Slot × ℕ). kind_text p.0 p.1) (λ (p : Slot × ℕ). FitsSlot p.0 × (p.1 < 2 ^ 16))
kinds = record {
  back = λ p behind fits apart.
      field-read slot_and_class_of (kind_text p.0 p.1) behind p (kind-above p.0 p.1 fits.0 fits.1) refl (kind-said p.0 p.1 fits.0 fits.1) apart;
}

-- the type and the class of an ask
type-said : (rtype class : ℕ) → rtype < 2 ^ 16 → class < 2 ^ 16 → kind_of (kind_text (Set rtype) class) ≡ Some (record { rtype = rtype; class = class })
type-said rtype class fits few = by (class == 1) refl
  where
    some : Kind → Option Kind
    some k = Some k

    by : (one : Bool) → (class == 1) ≡ one → kind_of (kind_text (Set rtype) class) ≡ Some (record { rtype = rtype; class = class })
    by true is =
        let one : 1 ≡ class = sym (eqb-true class 1 is) in
        ap kind_of (uncut (Set rtype) class fits is) ∙ (ap (kind_at (decimal rtype)) (slash-nowhere (Set rtype) class fits)
        ∙ (rw (word-decimal rtype fits) refl ∙ ap (λ (c : ℕ). some (record { rtype = rtype; class = c })) one))
    by false is =
        let front : word_of (take (length (decimal rtype)) (decimal rtype ++ 47 ∷ decimal class)) ≡ Some rtype = ap word_of (slot-front (Set rtype) class fits) ∙ word-decimal rtype fits in
        let behind : word_of (drop (length (decimal rtype) + 1) (decimal rtype ++ 47 ∷ decimal class)) ≡ Some class = ap word_of (class-behind (Set rtype) class fits) ∙ word-decimal class few in
        ap kind_of (cut (Set rtype) class fits is) ∙ (ap (kind_at (decimal rtype ++ 47 ∷ decimal class)) (slash-there (Set rtype) class fits) ∙ rw (front, behind) refl)

pub types : Reads (said_at kind_of) (λ (kind : Kind). kind_text (Set kind.rtype) kind.class) (λ (kind : Kind). (kind.rtype < 2 ^ 16) × (kind.class < 2 ^ 16))
types = record {
  back = λ kind behind fits apart.
      field-read kind_of (kind_text (Set kind.rtype) kind.class) behind kind (kind-above (Set kind.rtype) kind.class fits.0 fits.1) refl
      (type-said kind.rtype kind.class fits.0 fits.1) apart;
}

pub soas : Reads (said_at octets_of) item_text IsBytes
soas = record {
  back = λ soa behind is apart.
      field-read octets_of (item_text soa) behind soa (above-lower 32 44 (item_text soa) (omega arith) (item-above soa is)) refl (item-read soa is) apart;
}

no_comma : (octets : List ℕ) → Above 44 octets → All (λ octet. is_comma octet ≡ false) octets
no_comma [] above = λ k d below. absurd (omega (arith, below))
no_comma (octet ∷ octets) above = λ k d below. at (no_comma octets above.1) k d below
  where
    at : All (λ octet. is_comma octet ≡ false) octets → (k d : ℕ) → k < length (octet ∷ octets) → is_comma (get_or (octet ∷ octets) k d) ≡ false
    at others zero d below = ne_eqb octet 44 (λ e. absurd (omega (arith, e, above.0)))
    at others (suc k) d below = others k d (omega (arith, below))

pieces : (item : List ℕ) (items : List (List ℕ)) → HoldsItems (item ∷ items) → slice_split is_comma (items_text (item ∷ items)) ≡ map item_text (item ∷ items)
pieces item [] held =
    ap (slice_split is_comma) (append-nil (item_text item)) ∙ slice_split_none is_comma (item_text item) (no_comma (item_text item) (item-above item held.0))
pieces item (next ∷ items) held =
    slice_split_at is_comma (item_text item) 44 (items_text (next ∷ items)) (no_comma (item_text item) (item-above item held.0)) refl
    ∙ ap (λ (others : List (List ℕ)). item_text item ∷ others) (pieces next items held.1)

written : (front items : List (List ℕ)) → HoldsItems items → written_behind front (map item_text items) ≡ Some (front ++ items)
written front [] held = ap (λ (items : List (List ℕ)). some items) (sym (append-nil front))
  where
    some : List (List ℕ) → Option (List (List ℕ))
    some items = Some items
written front (item ∷ items) held =
    let one : with_written front (item_text item) ≡ Some (front ++ item ∷ []) = ap (option_map (λ item. front ++ item ∷ [])) (item-read item held.0) in
    ap (λ (o : Option (List (List ℕ))). o >>= λ more. written_behind more (map item_text items)) one
    ∙ (written (front ++ item ∷ []) items held.1 ∙ ap (λ (all : List (List ℕ)). some all) (append_assoc front (item ∷ []) items))
  where
    some : List (List ℕ) → Option (List (List ℕ))
    some items = Some items

data-said : (items : List (List ℕ)) → has_items items ≡ true → HoldsItems items → data_of (items_text items) ≡ Some items
data-said [] some held = absurd cc
data-said (item ∷ items) some held = ap (written_behind []) (pieces item items held) ∙ written [] (item ∷ items) held

more-above : (items : List (List ℕ)) → HoldsItems items → Above 32 (more_items_text items)
more-above [] held = tt
more-above (item ∷ items) held = (
  omega arith,
  above-append 32 (item_text item) (more_items_text items)
      (above-lower 32 44 (item_text item) (omega arith) (item-above item held.0)) (more-above items held.1),
)

pub items-above : (items : List (List ℕ)) → HoldsItems items → Above 32 (items_text items)
items-above [] held = tt
items-above (item ∷ items) held =
    above-append 32 (item_text item) (more_items_text items) (above-lower 32 44 (item_text item) (omega arith) (item-above item held.0)) (more-above items held.1)

pub sets : Reads (said_at data_of) items_text (λ items. (has_items items ≡ true) × HoldsItems items)
sets = record {
  back = λ items behind fits apart. field-read data_of (items_text items) behind items (items-above items fits.1) refl (data-said items fits.0 fits.1) apart;
}
