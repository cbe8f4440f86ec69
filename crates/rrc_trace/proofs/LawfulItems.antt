-- SPDX-License-Identifier: MIT
-- The items of a put by the grammar are lawful.
use Rattle.std.proofs.Common.{◌≡◌, ℕ, ◌≤◌, ◌+◌, List, [], ◌∷◌, ◌++◌, length, Bool, true, false, fold, refl, sym, subst, arith, length-append}
use Rattle.std.specs.List.{All, AllByRecursion, IsDistinct, list_any}
use Rattle.std.proofs.lemmas.List.Elements.{All-nil, All-push, length_all_zip}
use Rattle.std.proofs.lemmas.Map.Keys.{IsDistinct-push}
use Rattle.rrc_history.specs.Fits.{has_items}
use Rattle.rrc_wire.specs.Plain.{IsPlain}
use Rattle.rrc_wire.specs.SameRdata.{same_rdata}
use Rattle.rrc_wire.specs.SameRdataLaws.{same_rdata-equiv}
use Rattle.rrc_trace.specs.Grammar.{SpellsOctets, AreItems, with_item}

-- plain data of a type, so many at most and no two the same
pub record AreUnlike (rtype : ℕ) (items : List (List ℕ)) (most : ℕ) : Type 0 where
  pub few : length items ≤ most
  pub plain : All (IsPlain rtype) items
  pub distinct : IsDistinct (same_rdata rtype) items

module _ (rtype : ℕ) where
  none_distinct : IsDistinct (same_rdata rtype) []
  unfolding IsDistinct
  none_distinct = tt

  none_unlike : AreUnlike rtype [] 0
  none_unlike = record { few = omega arith; plain = All-nil (IsPlain rtype); distinct = none_distinct }

  with_item-some : (items : List (List ℕ)) (item : List ℕ) → has_items (with_item rtype items item) ≡ true
  with_item-some [] item = refl
  with_item-some (first ∷ items) item = by (list_any (same_rdata rtype item) (first ∷ items)) refl
    where
      by : (repeated : Bool) → list_any (same_rdata rtype item) (first ∷ items) ≡ repeated → has_items (with_item rtype (first ∷ items) item) ≡ true
      by true is = rw is refl
      by false is = rw is refl

  with_item-unlike : (items : List (List ℕ)) (most : ℕ) (item : List ℕ) → AreUnlike rtype items most → IsPlain rtype item → AreUnlike rtype (with_item rtype items item) (most + 1)
  with_item-unlike items most item are plain = by (list_any (same_rdata rtype item) items) refl
    where
      by : (repeated : Bool) → list_any (same_rdata rtype item) items ≡ repeated → AreUnlike rtype (with_item rtype items item) (most + 1)
      by true is = rw is (record { few = omega (arith, are.few); plain = are.plain; distinct = are.distinct })
      by false is =
          let more : length (items ++ item ∷ []) ≡ length items + 1 = length-append items (item ∷ []) in
          rw is (record {
            few = omega (arith, more, are.few);
            plain = All-push (IsPlain rtype) items item are.plain plain;
            distinct = IsDistinct-push (same_rdata-equiv rtype) items item are.distinct is;
          })

  -- one item or more, so many at most, of which no two are the same
  pub record AreTaken (most : ℕ) (items : List (List ℕ)) : Type 0 where
    pub some : has_items items ≡ true
    pub unlike : AreUnlike rtype items most

  items-behind : (items : List (List ℕ)) (most : ℕ) (written : List (List ℕ)) → AreTaken most items → AllByRecursion (IsPlain rtype) written
      → AreTaken (most + length written) (fold (with_item rtype) items written)
  items-behind items most [] are plain =
      record { some = are.some; unlike = record { few = omega (arith, are.unlike.few); plain = are.unlike.plain; distinct = are.unlike.distinct } }
  items-behind items most (item ∷ written) are plain =
      let more : AreTaken (most + 1) (with_item rtype items item) =
      record { some = with_item-some items item; unlike = with_item-unlike items most item are.unlike plain.0 } in
      let behind : AreTaken (most + 1 + length written) (fold (with_item rtype) (with_item rtype items item) written) =
      items-behind (with_item rtype items item) (most + 1) written more plain.1 in
      let few : length (fold (with_item rtype) (with_item rtype items item) written) ≤ most + length (item ∷ written) = omega (arith, behind.unlike.few) in
      record { some = behind.some; unlike = record { few = few; plain = behind.unlike.plain; distinct = behind.unlike.distinct } }

  -- as many items are left at most as are written
  written-taken : (written : List (List ℕ)) → 1 ≤ length written → AllByRecursion (IsPlain rtype) written → AreTaken (length written) (fold (with_item rtype) [] written)
  written-taken [] some plain = absurd (omega (arith, some))
  written-taken (item ∷ written) some plain =
      let first : AreTaken 1 (with_item rtype [] item) = record { some = with_item-some [] item; unlike = with_item-unlike [] 0 item none_unlike plain.0 } in
      let behind : AreTaken (1 + length written) (fold (with_item rtype) (with_item rtype [] item) written) = items-behind (with_item rtype [] item) 1 written first plain.1 in
      let few : length (fold (with_item rtype) (with_item rtype [] item) written) ≤ length (item ∷ written) = omega (arith, behind.unlike.few) in
      record { some = behind.some; unlike = record { few = few; plain = behind.unlike.plain; distinct = behind.unlike.distinct } }

  pub items-taken : (field : List ℕ) (items : List (List ℕ)) → AreItems rtype field items → AreTaken 256 items
  items-taken field items are =
      let as_many : length are.pieces ≡ length are.written = length_all_zip SpellsOctets are.pieces are.written are.spelled in
      let taken : AreTaken (length are.written) (fold (with_item rtype) [] are.written) = written-taken are.written (omega (arith, are.some, as_many)) are.plain in
      subst (AreTaken 256) (sym are.firsts)
      (record { some = taken.some; unlike = record { few = omega (arith, taken.unlike.few, are.few, as_many); plain = taken.unlike.plain; distinct = taken.unlike.distinct } })
