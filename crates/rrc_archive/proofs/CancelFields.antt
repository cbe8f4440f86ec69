-- SPDX-License-Identifier: MIT
-- The fields of an archive are told apart from what stands behind them.
use Rattle.std.proofs.Common.{◌≡◌, ◌==◌, ℕ, suc, zero, ◌<◌, ◌≤◌, ◌/◌, ◌%◌, List, [], ◌∷◌, ◌++◌, length, slice_index, Bool, true, false, Some, Ok, refl, sym, ap, ◌∙◌, arith, append_assoc, decimal, codes, eqb-true, ne_eqb, ◌||◌}
use Rattle.std.specs.List.{flat_map}
use Rattle.std.specs.Char.{is_ascii_graphic, digit_value}
use Rattle.std.specs.Str.Parse.{AllDigits, digits_value}
use Rattle.std.proofs.lemmas.Fmt.{decimal_is_IsNumeral}
use Rattle.std.proofs.lemmas.Bool.Decides.{nat_tests}
use Rattle.hex.specs.Hex.{decode_of, encode_lower, encode_with, lower_digits, IsBytes}
use Rattle.hex.proofs.HexLemmas.{decode_of-encode_lower}
use Rattle.rrc_name.specs.Wire.{IsWireForm, labels_of}
use Rattle.rrc_name.specs.Text.{text_of, spelling_of, dotted}
use Rattle.rrc_name.specs.Key.{KeyOf}
use Rattle.rrc_name.specs.declared.slot.Slot.{Slot}
use Rattle.rrc_name.specs.declared.slot.Slot.TheVariants.{Set, Nx, Failed}
use Rattle.rrc_name.proofs.ReadAgain.{read_again}
use Rattle.rrc_text.specs.Names.{name_of}
use Rattle.rrc_text.specs.Octets.{octets_of}
use Rattle.rrc_text.specs.Replies.{item_text, items_text, more_items_text, slot_text, class_text}
use Rattle.rrc_archive.specs.Archive.{key_fields, tag_fields}
use Rattle.rrc_archive.specs.ArchiveLaw.{IsNumber, HoldsSlot, HoldsKey, HoldsTag, HoldsItems}
use Rattle.rrc_history.specs.declared.event.Tag.{Tag}
use Rattle.rrc_text.proofs.NameLemmas.{says_what_is_spelled}
use Rattle.rrc_archive.proofs.CancelLemmas.{Above, Stops, Cancels, field, lower, pair, through, beside, tail-of, head-of, strip, none-above, none-front, stops-higher}

digit-above : (c : ℕ) → digit_value c < 10 → 47 < c
digit-above c h = grind (arith, nat_tests)

pub above-digits : (digits : List ℕ) → AllDigits 10 digits → Above 47 digits
above-digits [] all = tt
above-digits (c ∷ digits) all = (digit-above c all.0, above-digits digits all.1)

pub decimals : Cancels 47 decimal IsNumber
decimals =
    field 47 decimal IsNumber (λ ds. Some (digits_value 10 ds))
    (λ n h. above-digits (decimal n) (decimal_is_IsNumeral n h).0.1)
    (λ n h. ap Some (decimal_is_IsNumeral n h).1)

pub above-append : (t : ℕ) (x y : List ℕ) → Above t x → Above t y → Above t (x ++ y)
above-append t [] y ax ay = ay
above-append t (octet ∷ x) y ax ay = (ax.0, above-append t x y ax.1 ay)

spelling-above : (octet : ℕ) → Above 32 (spelling_of octet)
spelling-above octet = by (octet == 46 || octet == 92) refl (is_ascii_graphic octet) refl
  where
    by : (dot : Bool) → (octet == 46 || octet == 92) ≡ dot → (graphic : Bool) → is_ascii_graphic octet ≡ graphic → Above 32 (spelling_of octet)
    by true dot graphic is = rw dot (omega arith, (grind (arith, nat_tests, dot), tt))
    by false dot true is = rw (dot, is) (grind (arith, nat_tests, is), tt)
    by false dot false is = rw (dot, is) (omega arith, (omega arith, (omega arith, (omega arith, tt))))

label-above : (label : List ℕ) → Above 32 (flat_map spelling_of label)
label-above [] = tt
label-above (octet ∷ label) = above-append 32 (spelling_of octet) (flat_map spelling_of label) (spelling-above octet) (label-above label)

dotted-above : (labels : List (List ℕ)) → Above 32 (dotted labels)
dotted-above [] = tt
dotted-above (label ∷ labels) = above-append 32 (flat_map spelling_of label) (46 ∷ dotted labels) (label-above label) (omega arith, dotted-above labels)

pub name-above : (labels : List (List ℕ)) → Above 32 (Rattle.rrc_name.specs.Text.text_of_labels labels)
name-above [] = (omega arith, tt)
name-above (label ∷ labels) = dotted-above (label ∷ labels)

pub names : Cancels 32 text_of IsWireForm
names =
    field 32 text_of IsWireForm name_of
    (λ name is. name-above (labels_of name))
    (λ name is. (says_what_is_spelled (text_of name) name).1 (read_again name is))

digit-at : (digits : List ℕ) (i : ℕ) → Above 44 digits → i < length digits → 44 < slice_index digits i
digit-at [] i all within = absurd (omega arith)
digit-at (digit ∷ digits) zero all within = all.0
digit-at (digit ∷ digits) (suc i) all within = digit-at digits i all.1 (omega arith)

hex-above : (octets : List ℕ) → IsBytes octets → Above 44 (encode_lower octets)
unfolding encode_with
hex-above [] bytes = tt
hex-above (octet ∷ octets) bytes =
    let small : octet < 256 = bytes 0 in
    (digit-at lower_digits (octet / 16) (search arith) (omega arith), (digit-at lower_digits (octet % 16) (search arith) (omega arith), hex-above octets (λ i. bytes (suc i))))

pub item-above : (item : List ℕ) → IsBytes item → Above 44 (item_text item)
item-above [] bytes = (omega arith, tt)
item-above (octet ∷ octets) bytes = hex-above (octet ∷ octets) bytes

hex-read : (a b : ℕ) (x octets : List ℕ) → decode_of (a ∷ b ∷ x) ≡ Ok octets → octets_of (a ∷ b ∷ x) ≡ Some octets
hex-read a b x octets is = by (a == 45) refl
  where
    long : (suc (suc (length x)) == 0) ≡ false
    long = ne_eqb (suc (suc (length x))) 0 (λ none. absurd (omega (arith, none)))

    by : (dash : Bool) → (a == 45) ≡ dash → octets_of (a ∷ b ∷ x) ≡ Some octets
    by true dash = rw (dash, long, is) refl
    by false dash = rw (dash, long, is) refl

pub item-read : (item : List ℕ) → IsBytes item → octets_of (item_text item) ≡ Some item
unfolding encode_with
item-read [] bytes = refl
item-read (octet ∷ octets) bytes =
    hex-read (slice_index lower_digits (octet / 16)) (slice_index lower_digits (octet % 16)) (encode_with lower_digits octets) (octet ∷ octets)
    (decode_of-encode_lower (octet ∷ octets) bytes)

pub one_item : Cancels 44 item_text IsBytes
one_item = field 44 item_text IsBytes octets_of item-above item-read

pub item-some : (item : List ℕ) → 0 < length (item_text item)
unfolding encode_with
item-some [] = omega arith
item-some (octet ∷ octets) = omega arith

stops-items : (items r : List (List ℕ)) (s : List ℕ) → Stops 32 s → Stops 44 (more_items_text items ++ s)
stops-items [] r s stops = stops-higher 32 44 s (omega arith) stops
stops-items (item ∷ items) r s stops = omega arith

more-items : (xs ys : List (List ℕ)) (r s : List ℕ) → HoldsItems xs → HoldsItems ys → Stops 32 r → Stops 32 s
    → more_items_text xs ++ r ≡ more_items_text ys ++ s → (xs ≡ ys) × (r ≡ s)
more-items [] [] r s px py sr ss e = (refl, e)
more-items [] (y ∷ ys) r s px py sr ss e = absurd (none-above 32 44 ((item_text y ++ more_items_text ys) ++ s) r sr (omega arith) e)
more-items (x ∷ xs) [] r s px py sr ss e = absurd (none-above 32 44 ((item_text x ++ more_items_text xs) ++ r) s ss (omega arith) (sym e))
more-items (x ∷ xs) (y ∷ ys) r s px py sr ss e =
    let split : item_text x ++ (more_items_text xs ++ r) ≡ item_text y ++ (more_items_text ys ++ s) =
    sym (append_assoc (item_text x) (more_items_text xs) r) ∙ tail-of e ∙ append_assoc (item_text y) (more_items_text ys) s in
    let one = one_item.same x y (more_items_text xs ++ r) (more_items_text ys ++ s) px.0 py.0 (stops-items xs [] r sr) (stops-items ys [] s ss) split in
    let rest = more-items xs ys r s px.1 py.1 sr ss one.1 in
    ((λ i. one.0 i ∷ rest.0 i), rest.1)

all-items : (xs ys : List (List ℕ)) (r s : List ℕ) → HoldsItems xs → HoldsItems ys → Stops 32 r → Stops 32 s
    → items_text xs ++ r ≡ items_text ys ++ s → (xs ≡ ys) × (r ≡ s)
all-items [] [] r s px py sr ss e = (refl, e)
all-items [] (y ∷ ys) r s px py sr ss e =
    absurd (none-front 44 (item_text y) r (more_items_text ys ++ s) (item-some y) (item-above y py.0) (stops-higher 32 44 r (omega arith) sr)
    (e ∙ append_assoc (item_text y) (more_items_text ys) s))
all-items (x ∷ xs) [] r s px py sr ss e =
    absurd (none-front 44 (item_text x) s (more_items_text xs ++ r) (item-some x) (item-above x px.0) (stops-higher 32 44 s (omega arith) ss)
    (sym e ∙ append_assoc (item_text x) (more_items_text xs) r))
all-items (x ∷ xs) (y ∷ ys) r s px py sr ss e =
    let split : item_text x ++ (more_items_text xs ++ r) ≡ item_text y ++ (more_items_text ys ++ s) =
    sym (append_assoc (item_text x) (more_items_text xs) r) ∙ e ∙ append_assoc (item_text y) (more_items_text ys) s in
    let one = one_item.same x y (more_items_text xs ++ r) (more_items_text ys ++ s) px.0 py.0 (stops-items xs [] r sr) (stops-items ys [] s ss) split in
    let rest = more-items xs ys r s px.1 py.1 sr ss one.1 in
    ((λ i. one.0 i ∷ rest.0 i), rest.1)

pub items : Cancels 32 items_text HoldsItems
items = record { same = all-items }

pub soas : Cancels 32 item_text IsBytes
soas = lower 32 44 item_text IsBytes (omega arith) one_item

pub numbers : Cancels 32 decimal IsNumber
numbers = lower 32 47 decimal IsNumber (omega arith) decimals

digit-below : (c : ℕ) → digit_value c < 10 → c ≤ 57
digit-below c h = grind (arith, nat_tests)

none-digit : (digits x y : List ℕ) (octet : ℕ) → 0 < length digits → AllDigits 10 digits → 57 < octet → digits ++ x ≡ octet ∷ y → ⊥
none-digit [] x y octet some all high e = absurd (omega (arith, some))
none-digit (digit ∷ digits) x y octet some all high e = absurd (omega (arith, digit-below digit all.0, high, head-of e))

none-number : (n : ℕ) (x y : List ℕ) (octet : ℕ) → IsNumber n → 57 < octet → decimal n ++ x ≡ octet ∷ y → ⊥
none-number n x y octet is high e =
    let digits = (decimal_is_IsNumeral n is).0 in none-digit (decimal n) x y octet digits.0 digits.1 high e

one-slot : (a b : Slot) (r s : List ℕ) → HoldsSlot a → HoldsSlot b → Stops 47 r → Stops 47 s → slot_text a ++ r ≡ slot_text b ++ s → (a ≡ b) × (r ≡ s)
one-slot (Set m) (Set n) r s pa pb sr ss e = let c = decimals.same m n r s pa pb sr ss e in (ap Set c.0, c.1)
one-slot (Set m) Nx r s pa pb sr ss e = absurd (none-number m r _ 110 pa (omega arith) e)
one-slot (Set m) (Failed n) r s pa pb sr ss e = absurd (none-number m r _ 102 pa (omega arith) e)
one-slot Nx (Set n) r s pa pb sr ss e = absurd (none-number n s _ 110 pb (omega arith) (sym e))
one-slot Nx Nx r s pa pb sr ss e = (refl, strip (codes "nx") r s e)
one-slot Nx (Failed n) r s pa pb sr ss e = let h : 110 ≡ 102 = head-of e in absurd (omega (arith, h))
one-slot (Failed m) (Set n) r s pa pb sr ss e = absurd (none-number n s _ 102 pb (omega arith) (sym e))
one-slot (Failed m) Nx r s pa pb sr ss e = let h : 102 ≡ 110 = head-of e in absurd (omega (arith, h))
one-slot (Failed m) (Failed n) r s pa pb sr ss e =
    let c = decimals.same m n r s pa pb sr ss (strip (codes "failed") (decimal m ++ r) (decimal n ++ s) e) in (ap Failed c.0, c.1)

pub slots : Cancels 47 slot_text HoldsSlot
slots = record { same = one-slot }

one-class : (a b : ℕ) (r s : List ℕ) → IsNumber a → IsNumber b → Stops 32 r → Stops 32 s → class_text a ++ r ≡ class_text b ++ s → (a ≡ b) × (r ≡ s)
one-class a b r s pa pb sr ss e = by (a == 1) refl (b == 1) refl
  where
    by : (one : Bool) → (a == 1) ≡ one → (other : Bool) → (b == 1) ≡ other → (a ≡ b) × (r ≡ s)
    by true is true are = let rest : r ≡ s = rw (is, are) at e in (eqb-true a 1 is ∙ sym (eqb-true b 1 are), rest)
    by true is false are = let rest : r ≡ 47 ∷ (decimal b ++ s) = rw (is, are) at e in absurd (none-above 32 47 (decimal b ++ s) r sr (omega arith) rest)
    by false is true are = let rest : 47 ∷ (decimal a ++ r) ≡ s = rw (is, are) at e in absurd (none-above 32 47 (decimal a ++ r) s ss (omega arith) (sym rest))
    by false is false are = let rest : 47 ∷ (decimal a ++ r) ≡ 47 ∷ (decimal b ++ s) = rw (is, are) at e in numbers.same a b r s pa pb sr ss (tail-of rest)

pub classes : Cancels 32 class_text IsNumber
classes = record { same = one-class }

stops-class : (class : ℕ) (r : List ℕ) → Stops 32 r → Stops 47 (class_text class ++ r)
stops-class class r stops = by (class == 1) refl
  where
    by : (one : Bool) → (class == 1) ≡ one → Stops 47 (class_text class ++ r)
    by true is = rw is (stops-higher 32 47 r (omega arith) stops)
    by false is = rw is (omega arith)

abbrev pub slot_and_class : Slot × ℕ → List ℕ
slot_and_class p = slot_text p.0 ++ class_text p.1

pub kinds : Cancels 32 slot_and_class (λ (p : Slot × ℕ). HoldsSlot p.0 × IsNumber p.1)
kinds = beside 32 47 slot_text HoldsSlot class_text IsNumber slots classes stops-class

pub tags : Cancels 32 tag_fields HoldsTag
tags =
    through 32 (λ (p : ℕ × ℕ). decimal p.0 ++ (32 ∷ decimal p.1)) (λ (p : ℕ × ℕ). IsNumber p.0 × IsNumber p.1)
    (λ (tag : Tag). (tag.line, tag.place)) (λ p. record { line = p.0; place = p.1 }) (λ tag. refl)
    (pair 32 decimal IsNumber decimal IsNumber numbers numbers)

pub keys : Cancels 32 key_fields HoldsKey
keys =
    through 32 (λ (p : List ℕ × (Slot × ℕ)). text_of p.0 ++ (32 ∷ slot_and_class p.1)) (λ (p : List ℕ × (Slot × ℕ)). IsWireForm p.0 × (HoldsSlot p.1.0 × IsNumber p.1.1))
    (λ (key : KeyOf). (key.name, (key.slot, key.class))) (λ p. record { name = p.0; class = p.1.1; slot = p.1.0 }) (λ key. refl)
    (pair 32 text_of IsWireForm slot_and_class (λ (p : Slot × ℕ). HoldsSlot p.0 × IsNumber p.1) names kinds)
