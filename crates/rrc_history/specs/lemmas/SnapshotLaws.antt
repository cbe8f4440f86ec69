-- SPDX-License-Identifier: MIT
-- Where no entry of a snapshot is wrong, they are what they ought to be.
use Rattle.std.specs.Prelude.{◌≡◌, ℕ, ◌<◌, ◌≤◌, List, [], ◌∷◌, ◌++◌, length, Bool, true, false, ◌||◌, ◌==◌, nat_le, nat_lt, Option, Some, None}
use Rattle.std.specs.List.{AllByRecursion}
use Rattle.std.specs.Option.{option_or}
use Rattle.std.proofs.Common.{refl, sym, ap, subst, ◌∙◌, arith, append_assoc}
use Rattle.std.proofs.lemmas.Bool.Decides.{nat_tests}
use Rattle.std.proofs.lemmas.List.{length-append, append-nil}
use Rattle.rrc_name.specs.Key.{KeyOf, key_eq}
use Rattle.rrc_name.specs.lemmas.KeyLaws.{key_eq-laws}
use Rattle.rrc_history.specs.declared.snapshot.Entry.{Entry}
use Rattle.rrc_history.specs.declared.snapshot.SnapshotFault.{SnapshotFault}
use Rattle.rrc_history.specs.declared.snapshot.SnapshotFault.TheVariants.{TooMany, RepeatedKey, BadNumber, WrongBody, BadMoment}
use Rattle.rrc_history.specs.Fits.{fits}
use Rattle.rrc_history.specs.Lives.{LAST_MOMENT, IsTimely}
use Rattle.rrc_history.specs.Entries.{LacksKey, AreApart}
use Rattle.rrc_history.specs.Snapshots.{has_key, has_number, entry_fault, fault_behind}
use Rattle.rrc_history.specs.Sound.{IsBefore, IsFit, AreNumberedApart, AreSound, SoundWithNoFault}
use Rattle.rrc_history.specs.lemmas.Apart.{apart_before}

-- nothing is wrong with an entry behind others
record IsSoundBehind (capacity first : ℕ) (before : List Entry) (entry : Entry) : Type 0 where
  room : length before < capacity
  key : has_key entry.key before ≡ false
  below : entry.number < first
  number : has_number entry.number before ≡ false
  fit : fits entry.key entry.body ≡ true
  timely : entry.moment ≤ LAST_MOMENT

no_entry_fault : (capacity first : ℕ) (before : List Entry) (entry : Entry) → entry_fault capacity first before entry ≡ None → IsSoundBehind capacity first before entry
no_entry_fault capacity first before entry h =
    by (nat_le capacity (length before)) refl (has_key entry.key before) refl (nat_le first entry.number) refl (has_number entry.number before) refl
    (fits entry.key entry.body) refl (nat_lt LAST_MOMENT entry.moment) refl
  where
    by : (full : Bool) → nat_le capacity (length before) ≡ full → (repeated : Bool) → has_key entry.key before ≡ repeated
        → (late : Bool) → nat_le first entry.number ≡ late → (numbered : Bool) → has_number entry.number before ≡ numbered
        → (fit : Bool) → fits entry.key entry.body ≡ fit → (untimely : Bool) → nat_lt LAST_MOMENT entry.moment ≡ untimely
        → IsSoundBehind capacity first before entry
    by true a repeated b late c numbered d fit e untimely f = let bad : Some TooMany ≡ None = rw a at h in absurd cc
    by false a true b late c numbered d fit e untimely f = let bad : Some RepeatedKey ≡ None = rw (a, b) at h in absurd cc
    by false a false b true c numbered d fit e untimely f = let bad : Some BadNumber ≡ None = rw (a, b, c) at h in absurd cc
    by false a false b false c true d fit e untimely f = let bad : Some BadNumber ≡ None = rw (a, b, c, d) at h in absurd cc
    by false a false b false c false d false e untimely f = let bad : Some WrongBody ≡ None = rw (a, b, c, d, e) at h in absurd cc
    by false a false b false c false d true e true f = let bad : Some BadMoment ≡ None = rw (a, b, c, d, e, f) at h in absurd cc
    by false a false b false c false d true e false f = record {
      room = grind (arith, nat_tests);
      key = b;
      below = grind (arith, nat_tests);
      number = d;
      fit = e;
      timely = grind (arith, nat_tests);
    }

-- one more behind the others
all_more : (P : Entry → Type 0) (before : List Entry) (entry : Entry) → AllByRecursion P before → P entry → AllByRecursion P (before ++ entry ∷ [])
all_more P [] entry all here = (here, tt)
all_more P (first ∷ before) entry all here = (all.0, all_more P before entry all.1 here)

or_parts : (a b : Bool) → (a || b) ≡ false → (a ≡ false) × (b ≡ false)
or_parts true b h = absurd cc
or_parts false b h = (refl, h)

apart_more : (before : List Entry) (entry : Entry) → AreApart before → has_key entry.key before ≡ false → AreApart (before ++ entry ∷ [])
apart_more [] entry apart new = (tt, tt)
apart_more (first ∷ before) entry apart new =
    let parts = or_parts (key_eq entry.key first.key) (has_key entry.key before) new in (
      all_more (λ other. key_eq first.key other.key ≡ false) before entry apart.0 (key_eq-laws.symm first.key entry.key ∙ parts.0),
      apart_more before entry apart.1 parts.1,
    )

numbered_more : (before : List Entry) (entry : Entry) → AreNumberedApart before → has_number entry.number before ≡ false → AreNumberedApart (before ++ entry ∷ [])
numbered_more [] entry apart new = (tt, tt)
numbered_more (first ∷ before) entry apart new =
    let parts = or_parts (first.number == entry.number) (has_number entry.number before) new in
    (all_more (λ other. (first.number == other.number) ≡ false) before entry apart.0 parts.0, numbered_more before entry apart.1 parts.1)

sound_more : (capacity first : ℕ) (before : List Entry) (entry : Entry) → AreSound capacity first before → IsSoundBehind capacity first before entry
    → AreSound capacity first (before ++ entry ∷ [])
sound_more capacity first before entry sound is = record {
  few = omega (arith, length-append before (entry ∷ []), is.room);
  apart = apart_more before entry sound.apart is.key;
  before = all_more (IsBefore first) before entry sound.before is.below;
  numbered = numbered_more before entry sound.numbered is.number;
  fit = all_more IsFit before entry sound.fit is.fit;
  timely = all_more IsTimely before entry sound.timely is.timely;
}

no_fault : (fault later : Option SnapshotFault) → option_or fault later ≡ None → (fault ≡ None) × (later ≡ None)
no_fault None later h = (refl, h)
no_fault (Some fault) later h = absurd cc

sound_behind : (capacity first : ℕ) (before entries : List Entry) → AreSound capacity first before → fault_behind capacity first before entries ≡ None
    → AreSound capacity first (before ++ entries)
sound_behind capacity first before [] sound none = let P : List Entry → Type 0 = AreSound capacity first in subst P (sym (append-nil before)) sound
sound_behind capacity first before (entry ∷ entries) sound none =
    let both = no_fault (entry_fault capacity first before entry) (fault_behind capacity first (before ++ entry ∷ []) entries) none in
    let P : List Entry → Type 0 = AreSound capacity first in
    subst P (append_assoc before (entry ∷ []) entries)
    (sound_behind capacity first (before ++ entry ∷ []) entries (sound_more capacity first before entry sound (no_entry_fault capacity first before entry both.0)) both.1)

-- entries of which none is wrong are sound
pub sound_by : (capacity first : ℕ) (entries : List Entry) → fault_behind capacity first [] entries ≡ None → AreSound capacity first entries
sound_by capacity first entries none =
    sound_behind capacity first [] entries (record { few = omega arith; apart = tt; before = tt; numbered = tt; fit = tt; timely = tt }) none

-- ---- sound entries have no fault

-- what holds of all entries holds of one among them
all_middle : (P : Entry → Type 0) (before : List Entry) (entry : Entry) (behind : List Entry) → AllByRecursion P (before ++ entry ∷ behind) → P entry
all_middle P [] entry behind all = all.0
all_middle P (first ∷ before) entry behind all = all_middle P before entry behind all.1

lacks_key : (key : KeyOf) (entries : List Entry) → LacksKey key entries → has_key key entries ≡ false
lacks_key key [] lacks = refl
lacks_key key (entry ∷ entries) lacks = let other = lacks.0 in rw other (lacks_key key entries lacks.1)

lacks_number : (before : List Entry) (entry : Entry) (behind : List Entry) → AreNumberedApart (before ++ entry ∷ behind) → has_number entry.number before ≡ false
lacks_number [] entry behind apart = refl
lacks_number (first ∷ before) entry behind apart =
    let other = all_middle (λ e. (first.number == e.number) ≡ false) before entry behind apart.0 in
    rw other (lacks_number before entry behind apart.1)

sound_middle : (capacity first : ℕ) (before : List Entry) (entry : Entry) (behind : List Entry) → AreSound capacity first (before ++ entry ∷ behind)
    → IsSoundBehind capacity first before entry
sound_middle capacity first before entry behind sound = record {
  room = omega (arith, length-append before (entry ∷ behind), sound.few);
  key = lacks_key entry.key before (apart_before before entry behind sound.apart);
  below = all_middle (IsBefore first) before entry behind sound.before;
  number = lacks_number before entry behind sound.numbered;
  fit = all_middle IsFit before entry behind sound.fit;
  timely = all_middle IsTimely before entry behind sound.timely;
}

sound_entry : (capacity first : ℕ) (before : List Entry) (entry : Entry) → IsSoundBehind capacity first before entry → entry_fault capacity first before entry ≡ None
sound_entry capacity first before entry is =
    let room : nat_le capacity (length before) ≡ false = not_le capacity (length before) is.room in
    let key : has_key entry.key before ≡ false = is.key in
    let below : nat_le first entry.number ≡ false = not_le first entry.number is.below in
    let number : has_number entry.number before ≡ false = is.number in
    let fit : fits entry.key entry.body ≡ true = is.fit in
    let timely : nat_lt LAST_MOMENT entry.moment ≡ false = not_lt LAST_MOMENT entry.moment is.timely in
    rw (room, key, below, number, fit, timely) refl
  where
    not_le : (a b : ℕ) → b < a → nat_le a b ≡ false
    not_le a b less = grind (arith, nat_tests)

    not_lt : (a b : ℕ) → b ≤ a → nat_lt a b ≡ false
    not_lt a b le = grind (arith, nat_tests)

sound_none : (capacity first : ℕ) (before entries : List Entry) → AreSound capacity first (before ++ entries) → fault_behind capacity first before entries ≡ None
sound_none capacity first before [] sound = refl
sound_none capacity first before (entry ∷ entries) sound =
    let here : entry_fault capacity first before entry ≡ None = sound_entry capacity first before entry (sound_middle capacity first before entry entries sound) in
    let P : List Entry → Type 0 = AreSound capacity first in
    ap (λ fault. option_or fault (fault_behind capacity first (before ++ entry ∷ []) entries)) here
    ∙ sound_none capacity first (before ++ entry ∷ []) entries (subst P (sym (append_assoc before (entry ∷ []) entries)) sound)

-- no entry is wrong exactly where they are sound
pub sound_exactly : SoundWithNoFault
sound_exactly rules first entries = (sound_by rules.capacity first entries, sound_none rules.capacity first [] entries)
