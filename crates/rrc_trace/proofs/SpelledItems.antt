-- SPDX-License-Identifier: MIT
-- What a field says as it is read is what it says by the grammar: octets in hexadecimal, and the items of a put.
use Rattle.std.proofs.Common.{◌≡◌, ◌==◌, ◌<◌, ◌≤◌, ℕ, ◌+◌, List, [], ◌∷◌, length, get_or, Option, Some, None, Result, Ok, Err, Bool, true, false, cond, fold, refl, sym, ap, subst, ◌∙◌, arith, nat_le, bytes_eq, leb-true, le-leb, ne_eqb}
use Rattle.std.specs.List.{All, AllZip, AllByRecursion, AllPass, join_with_byte, slice_split, count_by}
use Rattle.std.specs.Result.{result_ok}
use Rattle.std.proofs.lemmas.Bool.{false_from_ne_true}
use Rattle.std.proofs.lemmas.List.Splits.{slice_split_none, slice_split_at, length-slice_split, join_with_byte-slice_split}
use Rattle.std.proofs.lemmas.Slice.Eq.{bytes_eq-Decides}
use Rattle.hex.specs.declared.error.FromHexError.{FromHexError}
use Rattle.hex.specs.Hex.{is_hex_digit, decode_of}
use Rattle.hex.proofs.HexLemmas.{decode_of-ok}
use Rattle.rrc_wire.specs.Plain.{IsPlain, is_plain}
use Rattle.rrc_wire.proofs.PlainParts.{is_plain-Decides}
use Rattle.rrc_text.specs.Gives.{◌>>=◌}
use Rattle.rrc_text.specs.Octets.{octets_of}
use Rattle.rrc_trace.specs.Messages.{fetched_of}
use Rattle.rrc_trace.specs.Items.{plain_of, item_of, with_piece, items_behind, items_of}
use Rattle.rrc_text.specs.Commas.{is_comma}
use Rattle.rrc_trace.specs.Grammar.{IsHex, SpellsOctets, dash, hex, SpellsFetched, no_message, message, AreItems, with_item}
use Rattle.rrc_text.proofs.SaidLemmas.{said_first, said_last}

ok_of : (spelled : Result (List ℕ) FromHexError) (octets : List ℕ) → result_ok spelled ≡ Some octets → spelled ≡ Ok octets
ok_of (Ok found) octets is = ap (λ (o : List ℕ). ok o) (said_last is)
  where
    ok : List ℕ → Result (List ℕ) FromHexError
    ok o = Ok o
ok_of (Err fault) octets is = absurd cc

no_end : (digit : ℕ) (digits : List ℕ) → (length (digit ∷ digits) == 0) ≡ false
no_end digit digits = ne_eqb (length (digit ∷ digits)) 0 (λ none. omega (arith, none))

-- octets that are no dash are hexadecimal digits
octets-hex : (digits octets : List ℕ) → bytes_eq digits (45 ∷ []) ≡ false → octets_of digits ≡ Some octets → IsHex digits octets
octets-hex [] octets undashed is = absurd cc
octets-hex (digit ∷ digits) octets undashed is =
    let spelled : result_ok (decode_of (digit ∷ digits)) ≡ Some octets = rw (undashed, no_end digit digits) at is in
    record { some = omega arith; spelled = ok_of (decode_of (digit ∷ digits)) octets spelled }

-- a dash is no hexadecimal digit
hex-undashed : (digits octets : List ℕ) → IsHex digits octets → bytes_eq digits (45 ∷ []) ≡ false
hex-undashed digits octets is =
    false_from_ne_true (bytes_eq digits (45 ∷ []))
    (λ dashed. let never : decode_of (45 ∷ []) ≡ Ok octets = subst (λ (d : List ℕ). decode_of d ≡ Ok octets) ((bytes_eq-Decides digits (45 ∷ [])).0 dashed) is.spelled in absurd cc)

hex-octets : (digits octets : List ℕ) → IsHex digits octets → octets_of digits ≡ Some octets
hex-octets [] octets is = absurd (omega (arith, is.some))
hex-octets (digit ∷ digits) octets is = rw (hex-undashed (digit ∷ digits) octets is, no_end digit digits, is.spelled) refl

pub octets-say : (field octets : List ℕ) → octets_of field ≡ Some octets → SpellsOctets field octets
octets-say field octets is = by (bytes_eq field (45 ∷ [])) refl
  where
    by : (dashed : Bool) → bytes_eq field (45 ∷ []) ≡ dashed → SpellsOctets field octets
    by true dashed =
        let none : [] ≡ octets = said_last (rw dashed at is) in
        subst (λ (f : List ℕ). SpellsOctets f octets) (sym ((bytes_eq-Decides field (45 ∷ [])).0 dashed))
        (subst (SpellsOctets (45 ∷ [])) none dash)
    by false undashed = hex (octets-hex field octets undashed is)

pub say_octets : (field octets : List ℕ) → SpellsOctets field octets → octets_of field ≡ Some octets
say_octets field octets dash = refl
say_octets field octets (hex is) = hex-octets field octets is

abbrev some_octets : List ℕ → Option (List ℕ)
some_octets octets = Some octets

pub fetched-says : (field : List ℕ) (octets : Option (List ℕ)) → fetched_of field ≡ Some octets → SpellsFetched field octets
fetched-says field octets is = by (bytes_eq field (45 ∷ [])) refl
  where
    by : (dashed : Bool) → bytes_eq field (45 ∷ []) ≡ dashed → SpellsFetched field octets
    by true dashed =
        let none : None ≡ octets = said_last (rw dashed at is) in
        subst (λ (f : List ℕ). SpellsFetched f octets) (sym ((bytes_eq-Decides field (45 ∷ [])).0 dashed))
        (subst (SpellsFetched (45 ∷ [])) none no_message)
    by false undashed =
        let told : octets_of field >>= (λ found. Some (some_octets found)) ≡ Some octets =
        subst (λ dashed. cond dashed (Some None) (octets_of field >>= (λ found. Some (some_octets found))) ≡ Some octets) undashed is in
        let found = said_first (octets_of field) (λ found. Some (some_octets found)) octets told in
        subst (SpellsFetched field) (said_last found.1.1) (message (octets-hex field found.0 undashed found.1.0))

pub says_fetched : (field : List ℕ) (octets : Option (List ℕ)) → SpellsFetched field octets → fetched_of field ≡ Some octets
says_fetched field octets no_message = refl
says_fetched field octets (message {octets = found} is) = rw (hex-octets field found is, hex-undashed field found is) refl

module _ (rtype : ℕ) where
  record IsPlainAs (octets item : List ℕ) : Type 0 where
    plain : IsPlain rtype octets
    same : octets ≡ item

  plain_of-says : (octets item : List ℕ) → plain_of rtype octets ≡ Some item → IsPlainAs octets item
  plain_of-says octets item is = by (is_plain rtype octets) refl
    where
      by : (plain : Bool) → is_plain rtype octets ≡ plain → IsPlainAs octets item
      by false not_plain = let never : None ≡ Some item = rw not_plain at is in absurd cc
      by true plain = record { plain = (is_plain-Decides rtype octets).0 plain; same = said_last (rw plain at is) }

  item_of-is : (piece octets : List ℕ) → SpellsOctets piece octets → IsPlain rtype octets → item_of rtype piece ≡ Some octets
  item_of-is piece octets spells plain =
      let is : is_plain rtype octets ≡ true = (is_plain-Decides rtype octets).1 plain in rw (say_octets piece octets spells, is) refl

  -- data as they are written, the pieces that spell them, and what is left of them behind others
  record AreWritten (items pieces all : List (List ℕ)) : Type 0 where
    written : List (List ℕ)
    spelled : AllZip SpellsOctets pieces written
    plain : AllByRecursion (IsPlain rtype) written
    firsts : all ≡ fold (with_item rtype) items written

  one_more : (items more : List (List ℕ)) (piece : List ℕ) (pieces all : List (List ℕ)) → with_piece rtype items piece ≡ Some more
      → AreWritten more pieces all → AreWritten items (piece ∷ pieces) all
  one_more items more piece pieces all is rest = by (item_of rtype piece) refl
    where
      by : (item : Option (List ℕ)) → item_of rtype piece ≡ item → AreWritten items (piece ∷ pieces) all
      by None said = let never : None ≡ Some more = rw said at is in absurd cc
      by (Some item) said =
          let same : with_item rtype items item ≡ more = said_last (rw said at is) in
          let octets = said_first (octets_of piece) (plain_of rtype) item said in
          let plain = plain_of-says octets.0 item octets.1.1 in
          record {
            written = item ∷ rest.written;
            spelled = (octets-say piece item (octets.1.0 ∙ ap some_octets plain.same), rest.spelled);
            plain = (subst (IsPlain rtype) plain.same plain.plain, rest.plain);
            firsts = rest.firsts ∙ ap (λ (first : List (List ℕ)). fold (with_item rtype) first rest.written) (sym same);
          }

  items-written : (items pieces all : List (List ℕ)) → items_behind rtype items pieces ≡ Some all → AreWritten items pieces all
  items-written items [] all is = record { written = []; spelled = tt; plain = tt; firsts = sym (said_last is) }
  items-written items (piece ∷ pieces) all is =
      let more = said_first (with_piece rtype items piece) (λ more. items_behind rtype more pieces) all is in
      one_more items more.0 piece pieces all more.1.0 (items-written more.0 pieces all more.1.1)

  written-items : (items pieces written : List (List ℕ)) → AllZip SpellsOctets pieces written → AllByRecursion (IsPlain rtype) written
      → items_behind rtype items pieces ≡ Some (fold (with_item rtype) items written)
  written-items items [] [] spelled plain = refl
  written-items items [] (octets ∷ written) spelled plain = absurd spelled
  written-items items (piece ∷ pieces) [] spelled plain = absurd spelled
  written-items items (piece ∷ pieces) (octets ∷ written) spelled plain =
      rw (item_of-is piece octets spelled.0 plain.0) (written-items (with_item rtype items octets) pieces written spelled.1 plain.1)

  pub items-say : (field : List ℕ) (items : List (List ℕ)) → items_of rtype field ≡ Some items → AreItems rtype field items
  items-say field items is = by (nat_le (length (slice_split is_comma field)) 256) refl
    where
      by : (few : Bool) → nat_le (length (slice_split is_comma field)) 256 ≡ few → AreItems rtype field items
      by false few = let never : None ≡ Some items = rw few at is in absurd cc
      by true few =
          let told : items_behind rtype [] (slice_split is_comma field) ≡ Some items = rw few at is in
          let are : AreWritten [] (slice_split is_comma field) items = items-written [] (slice_split is_comma field) items told in
          let count : length (slice_split is_comma field) ≡ count_by is_comma field + 1 = length-slice_split is_comma field in
          record {
            pieces = slice_split is_comma field;
            written = are.written;
            between_commas = sym (join_with_byte-slice_split 44 field);
            some = omega (arith, count);
            few = leb-true (length (slice_split is_comma field)) 256 few;
            spelled = are.spelled;
            plain = are.plain;
            firsts = are.firsts;
          }

abbrev IsNoComma : ℕ → Type 0
IsNoComma octet = is_comma octet ≡ false

-- a hexadecimal digit is no comma
digit-no_comma : (octet : ℕ) → is_hex_digit octet ≡ true → IsNoComma octet
digit-no_comma octet is =
    ne_eqb octet 44 (λ comma. let never : is_hex_digit 44 ≡ true = subst (λ (o : ℕ). is_hex_digit o ≡ true) comma is in absurd cc)

-- a piece that spells octets has no comma
no_commas : (piece octets : List ℕ) → SpellsOctets piece octets → All IsNoComma piece
no_commas piece octets dash = λ k d below. at k below d
  where
    at : (k : ℕ) → k < 1 → (d : ℕ) → IsNoComma (get_or (45 ∷ []) k d)
    at k below d = let first : k ≡ 0 = omega (arith, below) in subst (λ (n : ℕ). IsNoComma (get_or (45 ∷ []) n d)) (sym first) refl
no_commas piece octets (hex is) =
    let digits : AllPass is_hex_digit piece = (decode_of-ok piece octets is.spelled).1 in λ k d below. digit-no_comma (get_or piece k d) (digits k d below)

-- pieces with commas between are cut again at the commas
split-joined : (pieces written : List (List ℕ)) → 1 ≤ length pieces → AllZip SpellsOctets pieces written
    → slice_split is_comma (join_with_byte 44 pieces) ≡ pieces
split-joined [] written some spelled = absurd (omega (arith, some))
split-joined (piece ∷ pieces) [] some spelled = absurd spelled
split-joined (piece ∷ []) (octets ∷ written) some spelled = slice_split_none is_comma piece (no_commas piece octets spelled.0)
split-joined (piece ∷ next ∷ pieces) (octets ∷ written) some spelled =
    slice_split_at is_comma piece 44 (join_with_byte 44 (next ∷ pieces)) (no_commas piece octets spelled.0) refl
    ∙ ap (λ (others : List (List ℕ)). piece ∷ others) (split-joined (next ∷ pieces) written (omega arith) spelled.1)

pub say_items : (rtype : ℕ) (field : List ℕ) (items : List (List ℕ)) → AreItems rtype field items → items_of rtype field ≡ Some items
say_items rtype field items are =
    let cut : slice_split is_comma field ≡ are.pieces = ap (slice_split is_comma) are.between_commas ∙ split-joined are.pieces are.written are.some are.spelled in
    let few : nat_le (length (slice_split is_comma field)) 256 ≡ true = le-leb (length (slice_split is_comma field)) 256 (omega (arith, ap length cut, are.few)) in
    rw few (ap (items_behind rtype []) cut ∙ (written-items rtype [] are.pieces are.written are.spelled are.plain ∙ ap (λ (all : List (List ℕ)). some_items all) (sym are.firsts)))
  where
    some_items : List (List ℕ) → Option (List (List ℕ))
    some_items all = Some all
