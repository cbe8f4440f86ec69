-- SPDX-License-Identifier: MIT
-- What an event leaves of the contents.
use Rattle.std.specs.Prelude.{◌≡◌, ℕ, ◌≤◌, List, [], ◌∷◌, Bool, true, false, if◌then◌else◌, Some, None, filter}
use Rattle.std.proofs.Common.{subst, refl, sym, ap, ◌∙◌, arith}
use Rattle.rrc_name.specs.Key.{KeyOf, key_eq}
use Rattle.rrc_history.specs.declared.event.Event.{Event}
use Rattle.rrc_history.specs.declared.snapshot.Entry.{Entry}
use Rattle.rrc_history.specs.declared.snapshot.Snapshot.{Snapshot}
use Rattle.rrc_history.specs.Past.{held, touch, touched, is_evicted, number_after, FallsBelow, AreContents}
use Rattle.rrc_history.specs.Entries.{staying}
use Rattle.rrc_history.specs.lemmas.EntryLaws.{entry_at-staying}

-- a higher bound
pub falls_weaker : (snapshot : Snapshot) (past : List Event) (a b : ℕ) (entries : List Entry) → a ≤ b → FallsBelow snapshot past a entries → FallsBelow snapshot past b entries
falls_weaker snapshot past a b [] le falls = tt
falls_weaker snapshot past a b (entry ∷ entries) le falls = (omega (arith, falls.0), falls.1)

-- leaving entries out
pub falls_filter : (snapshot : Snapshot) (past : List Event) (number : ℕ) (stays : Entry → Bool) (entries : List Entry) → FallsBelow snapshot past number entries → FallsBelow snapshot past number (filter stays entries)
falls_filter snapshot past number stays [] falls = tt
falls_filter snapshot past number stays (entry ∷ entries) falls = by (stays entry) refl (falls_filter snapshot past (touch snapshot past entry.key) stays entries falls.1)
  where
    by : (b : Bool) → stays entry ≡ b → FallsBelow snapshot past (touch snapshot past entry.key) (filter stays entries) → FallsBelow snapshot past number (filter stays (entry ∷ entries))
    by true is rest = rw is (falls.0, rest)
    by false is rest = rw is (falls_weaker snapshot past (touch snapshot past entry.key) number (filter stays entries) (omega (arith, falls.0)) rest)

-- an event that doesn't touch a key leaves when it was touched last
pub touch-other : (snapshot : Snapshot) (past : List Event) (event : Event) (key : KeyOf) → is_evicted key (touched snapshot past event) ≡ false
    → touch snapshot (event ∷ past) key ≡ touch snapshot past key
unfolding touch
touch-other snapshot past event key is = rw is refl

-- an event that touches a key
pub touch-same : (snapshot : Snapshot) (past : List Event) (event : Event) (key : KeyOf) → is_evicted key (touched snapshot past event) ≡ true
    → touch snapshot (event ∷ past) key ≡ number_after snapshot past
unfolding touch
touch-same snapshot past event key is = rw is refl

-- the entries that stay, of keys that the event doesn't touch
pub falls_staying : (snapshot : Snapshot) (past : List Event) (event : Event) (out : KeyOf → Bool)
    → ((key : KeyOf) → out key ≡ false → is_evicted key (touched snapshot past event) ≡ false)
    → (number : ℕ) (entries : List Entry) → FallsBelow snapshot past number entries → FallsBelow snapshot (event ∷ past) number (staying out entries)
falls_staying snapshot past event out apart number [] falls = tt
falls_staying snapshot past event out apart number (entry ∷ entries) falls =
    by (out entry.key) refl (falls_staying snapshot past event out apart (touch snapshot past entry.key) entries falls.1)
  where
    by : (gone : Bool) → out entry.key ≡ gone → FallsBelow snapshot (event ∷ past) (touch snapshot past entry.key) (staying out entries)
        → FallsBelow snapshot (event ∷ past) number (staying out (entry ∷ entries))
    by true is rest = rw is (falls_weaker snapshot (event ∷ past) (touch snapshot past entry.key) number (staying out entries) (omega (arith, falls.0)) rest)
    by false is rest =
        let same = touch-other snapshot past event entry.key (apart entry.key is) in
        rw (is, same) (falls.0, rest)

-- an event that touches nothing, or keys that go
pub contents_staying : (snapshot : Snapshot) (past : List Event) (event : Event) (out : KeyOf → Bool) (entries : List Entry) → AreContents snapshot past entries
    → ((key : KeyOf) → out key ≡ false → is_evicted key (touched snapshot past event) ≡ false)
    → ((key : KeyOf) → held snapshot (event ∷ past) key ≡ (if out key then None else held snapshot past key))
    → AreContents snapshot (event ∷ past) (staying out entries)
contents_staying snapshot past event out entries are apart leaves = record {
  agree = λ key. entry_at-staying out key entries ∙ (ap (λ h. if out key then None else h) (are.agree key) ∙ sym (leaves key));
  falling = falls_weaker snapshot (event ∷ past) (number_after snapshot past) (number_after snapshot (event ∷ past)) (staying out entries) (omega arith)
      (falls_staying snapshot past event out apart (number_after snapshot past) entries are.falling);
}

-- an event that touches a key and leaves an entry under it
pub contents_touched : (snapshot : Snapshot) (past : List Event) (event : Event) (out : KeyOf → Bool) (entries : List Entry) (front : Entry) → AreContents snapshot past entries
    → is_evicted front.key (touched snapshot past event) ≡ true
    → ((key : KeyOf) → out key ≡ false → is_evicted key (touched snapshot past event) ≡ false)
    → ((key : KeyOf) → held snapshot (event ∷ past) key ≡ (if key_eq key front.key then Some front else if out key then None else held snapshot past key))
    → AreContents snapshot (event ∷ past) (front ∷ staying out entries)
contents_touched snapshot past event out entries front are at apart leaves = record {
  agree = λ key. ap (λ h. if key_eq key front.key then Some front else h) (entry_at-staying out key entries ∙ ap (λ h. if out key then None else h) (are.agree key)) ∙ sym (leaves key);
  falling =
      let same = touch-same snapshot past event front.key at in
      rw same (omega arith, falls_staying snapshot past event out apart (number_after snapshot past) entries are.falling);
}

-- nothing goes
pub staying-all : (entries : List Entry) → staying (λ key. false) entries ≡ entries
staying-all [] = refl
staying-all (entry ∷ entries) = ap (λ es. entry ∷ es) (staying-all entries)

-- an event that touches nothing and changes nothing
pub contents_same : (snapshot : Snapshot) (past : List Event) (event : Event) (entries : List Entry) → AreContents snapshot past entries
    → touched snapshot past event ≡ None → ((key : KeyOf) → held snapshot (event ∷ past) key ≡ held snapshot past key) → AreContents snapshot (event ∷ past) entries
contents_same snapshot past event entries are none leaves =
    subst (AreContents snapshot (event ∷ past)) (staying-all entries)
    (contents_staying snapshot past event (λ key. false) entries are (λ key _. ap (is_evicted key) none) leaves)
