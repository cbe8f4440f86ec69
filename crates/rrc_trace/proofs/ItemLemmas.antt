-- SPDX-License-Identifier: MIT
-- Items are read piece by piece.
use Rattle.std.proofs.Common.{◌≡◌, ℕ, ◌+◌, ◌<◌, ◌≤◌, List, [], ◌∷◌, length, Option, Some, None, true, false, Bool, refl, sym, ap, ◌∙◌, arith, cond, nat_le, Err}
use Rattle.std.specs.List.{slice_split}
use Rattle.std.proofs.lemmas.List.Splits.{length-slice_split}
use Rattle.std.proofs.lemmas.Bool.Decides.{nat_tests}
use Rattle.rrc_text.specs.Gives.{◌>>=◌, Gives}
use Rattle.rrc_text.specs.declared.read.line_fault.LineFault.{LineFault}
use Rattle.rrc_text.specs.declared.read.line_fault.LineFault.TheVariants.{NotOne, Memory}
use Rattle.rrc_wire.specs.Plain.{IsPlain, is_plain}
use Rattle.rrc_wire.proofs.PlainParts.{is_plain-Decides}
use Rattle.rrc_text.specs.Octets.{octets_of}
use Rattle.rrc_text.specs.Commas.{is_comma, cut_at_comma}
use Rattle.rrc_trace.specs.Items.{item_of, with_piece, items_behind, items_of}
use Rattle.rrc_text.proofs.CommaLemmas.{uncut, split_at_comma, split_uncut}

-- a piece that says plain data
pub says_item : (rtype : ℕ) (piece octets item : List ℕ) → octets_of piece ≡ Some octets → item ≡ octets → IsPlain rtype octets → item_of rtype piece ≡ Some item
says_item rtype piece octets item said same plain =
    let is : is_plain rtype octets ≡ true = (is_plain-Decides rtype octets).1 plain in rw (said, is) (ap Some (sym same))

-- a piece that says data that are not plain
pub says_no_item : (rtype : ℕ) (piece octets : List ℕ) → octets_of piece ≡ Some octets → ¬ IsPlain rtype octets → item_of rtype piece ≡ None
says_no_item rtype piece octets said not_plain = by (is_plain rtype octets) refl
  where
    by : (plain : Bool) → is_plain rtype octets ≡ plain → item_of rtype piece ≡ None
    by true plain = absurd (not_plain ((is_plain-Decides rtype octets).0 plain))
    by false plain = rw (said, plain) refl

-- so many pieces of the field are read into items, and the rest is left
pub record IsRead (rtype : ℕ) (field : List ℕ) (items : List (List ℕ)) (seen : ℕ) (rest : List ℕ) : Type 0 where
  pub told : items_behind rtype items (slice_split is_comma rest) ≡ items_behind rtype [] (slice_split is_comma field)
  pub count : seen + length (slice_split is_comma rest) ≡ length (slice_split is_comma field)

pub IsRead-none : (rtype : ℕ) (field : List ℕ) → IsRead rtype field [] 0 field
IsRead-none rtype field = record { told = refl; count = omega arith }

behind : (rtype : ℕ) (items : List (List ℕ)) (piece : List ℕ) (pieces : List (List ℕ)) (said : Option (List (List ℕ))) → with_piece rtype items piece ≡ said
    → items_behind rtype items (piece ∷ pieces) ≡ (said >>= λ more. items_behind rtype more pieces)
behind rtype items piece pieces said h = ap (λ o. o >>= λ more. items_behind rtype more pieces) h

module _ (rtype : ℕ) (field : List ℕ) (items : List (List ℕ)) (seen : ℕ) (rest : List ℕ) (read : IsRead rtype field items seen rest) where
  pub IsRead-more : (piece more : List ℕ) (others : List (List ℕ)) → cut_at_comma rest ≡ Some (piece, more) → with_piece rtype items piece ≡ Some others
      → IsRead rtype field others (seen + 1) more
  IsRead-more piece more others comma said =
      let cut = split_at_comma rest piece more comma in
      record {
        told = sym (ap (items_behind rtype items) cut ∙ behind rtype items piece (slice_split is_comma more) (Some others) said) ∙ read.told;
        count = omega (arith, ap length cut, read.count);
      }

  no_items : items_behind rtype [] (slice_split is_comma field) ≡ None → items_of rtype field ≡ None
  no_items h =
      elim (nat_le (length (slice_split is_comma field)) 256) as (λ few. cond few (items_behind rtype [] (slice_split is_comma field)) None ≡ None) [
        | true ↦ h
        | false ↦ refl
      ]

  pub bad_piece : (fault : LineFault) (others : List (List ℕ)) (piece more : List ℕ) → cut_at_comma rest ≡ Some (piece, more)
      → Gives {X = Unit {0}} (λ _. others) (Err fault) (with_piece rtype items piece) → Gives {X = List (List ℕ)} (λ answer. answer) (Err fault) (items_of rtype field)
  bad_piece NotOne others piece more comma said =
      no_items (sym read.told ∙ (ap (items_behind rtype items) (split_at_comma rest piece more comma)
      ∙ behind rtype items piece (slice_split is_comma more) None said))
  bad_piece Memory others piece more comma said = tt

  pub bad_last_piece : (fault : LineFault) (others : List (List ℕ)) → cut_at_comma rest ≡ None
      → Gives {X = Unit {0}} (λ _. others) (Err fault) (with_piece rtype items rest) → Gives {X = List (List ℕ)} (λ answer. answer) (Err fault) (items_of rtype field)
  bad_last_piece NotOne others uncut said =
      no_items (sym read.told ∙ (ap (items_behind rtype items) (split_uncut rest uncut) ∙ behind rtype items rest [] None said))
  bad_last_piece Memory others uncut said = tt

  pub last_piece : (more : List (List ℕ)) → seen < 256 → cut_at_comma rest ≡ None → with_piece rtype items rest ≡ Some more → items_of rtype field ≡ Some more
  last_piece more within uncut piece =
      let one = split_uncut rest uncut in
      let few : nat_le (length (slice_split is_comma field)) 256 ≡ true = grind (arith, nat_tests, read.count, ap length one) in
      rw few (sym read.told ∙ (ap (items_behind rtype items) one ∙ behind rtype items rest [] (Some more) piece))

  pub too_many_pieces : 256 ≤ seen → items_of rtype field ≡ None
  too_many_pieces past =
      let some = length-slice_split is_comma rest in
      let many : nat_le (length (slice_split is_comma field)) 256 ≡ false = grind (arith, nat_tests, read.count, some) in
      rw many refl
