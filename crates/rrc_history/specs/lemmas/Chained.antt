-- SPDX-License-Identifier: MIT
-- A past that goes on from the closing of another is one past with it: the same is held, touched in the same order, and right.
use Rattle.std.specs.Prelude.{◌≡◌, ℕ, ◌<◌, ◌≤◌, ◌⊎◌, List, [], ◌∷◌, ◌++◌, length, reverse, Bool, true, false, if◌then◌else◌, Option, Some, None}
use Rattle.std.specs.List.{AllByRecursion}
use Rattle.std.proofs.Common.{refl, sym, ap, subst, ◌∙◌, arith, inl, inr}
use Rattle.std.proofs.lemmas.List.{length-append, reverse-append}
use Rattle.rrc_name.specs.Key.{KeyOf, key_eq}
use Rattle.rrc_name.specs.lemmas.KeyLaws.{key_eq-same}
use Rattle.rrc_history.specs.declared.event.Event.{Event}
use Rattle.rrc_history.specs.declared.event.Event.TheVariants.{Offered, Asked, Swept}
use Rattle.rrc_history.specs.declared.event.Outcome.TheVariants.{Kept, Cleared, LessTrusted}
use Rattle.rrc_history.specs.declared.rules.Rules.{Rules}
use Rattle.rrc_history.specs.declared.snapshot.Entry.{Entry}
use Rattle.rrc_history.specs.declared.snapshot.Snapshot.{Snapshot}
use Rattle.rrc_history.specs.Asked.{AskOf}
use Rattle.rrc_history.specs.Judged.{Found, verdict, reply_by, answering, key_in}
use Rattle.rrc_history.specs.Past.{entry_at, held, held_after_offer, found, key_at, touched, touch, place_of, is_among, is_evicted, number_after, FallsBelow, AreContents}
use Rattle.rrc_history.specs.Right.{evicted_by, is_swept, IsRightThen, IsLegal}
use Rattle.rrc_history.specs.Chapters.{IsClosing, LeadTo}
use Rattle.rrc_name.specs.declared.slot.Slot.TheVariants.{Set, Nx, Failed}
use Rattle.rrc_history.specs.lemmas.ContentsLaws.{touch-same, touch-other}
use Rattle.rrc_history.specs.lemmas.OneHistory.{found_below, first_found}

-- ---- what is held and touched

-- events behind both pasts have the same number
number-joined : (snapshot closing : Snapshot) (past later : List Event) → IsClosing snapshot past closing → number_after snapshot (later ++ past) ≡ number_after closing later
number-joined snapshot closing past later closes = omega (arith, length-append later past, closes.first)

pub held-joined : (snapshot closing : Snapshot) (past : List Event) → IsClosing snapshot past closing → (key : KeyOf) (later : List Event)
    → held snapshot (later ++ past) key ≡ held closing later key
unfolding held
held-joined snapshot closing past closes key [] = sym (closes.contents.agree key)
held-joined snapshot closing past closes key (Offered outcome tag offer evicted ∷ later) =
    ap (λ n. held_after_offer n offer outcome evicted key (held snapshot (later ++ past) key)) (number-joined snapshot closing past later closes)
    ∙ ap (λ h. held_after_offer (number_after closing later) offer outcome evicted key h) (held-joined snapshot closing past closes key later)
held-joined snapshot closing past closes key (Asked tag ask reply ∷ later) = held-joined snapshot closing past closes key later
held-joined snapshot closing past closes key (Swept tag moment gone ∷ later) =
    ap (λ h. if is_among key gone then None else h) (held-joined snapshot closing past closes key later)

found-joined : (snapshot closing : Snapshot) (past : List Event) → IsClosing snapshot past closing → (ask : AskOf) (later : List Event)
    → found snapshot (later ++ past) ask ≡ found closing later ask
found-joined snapshot closing past closes ask later =
    λ i. record {
      set = held-joined snapshot closing past closes (key_at ask (Set ask.rtype)) later i;
      nx = held-joined snapshot closing past closes (key_at ask Nx) later i;
      failed = held-joined snapshot closing past closes (key_at ask (Failed ask.rtype)) later i;
    }

touched-joined : (snapshot closing : Snapshot) (past : List Event) → IsClosing snapshot past closing → (event : Event) (later : List Event)
    → touched snapshot (later ++ past) event ≡ touched closing later event
touched-joined snapshot closing past closes (Offered outcome tag offer evicted) later = refl
touched-joined snapshot closing past closes (Asked tag ask reply) later = ap (λ f. key_in (answering f ask reply)) (found-joined snapshot closing past closes ask later)
touched-joined snapshot closing past closes (Swept tag moment gone) later = refl

-- a key that isn't out holds what it held
before_out : (out : Bool) (before : Option Entry) (entry : Entry) → (if out then None else before) ≡ Some entry → before ≡ Some entry
before_out true before entry h = absurd cc
before_out false before entry h = h

-- an event that does not touch a key stores nothing under it
held-untouched : (snapshot : Snapshot) (past : List Event) (event : Event) (key : KeyOf) (entry : Entry) → is_evicted key (touched snapshot past event) ≡ false
    → held snapshot (event ∷ past) key ≡ Some entry → held snapshot past key ≡ Some entry
unfolding held
held-untouched snapshot past (Offered Kept tag offer evicted) key entry apart h =
    before_out (is_evicted key evicted) (held snapshot past key) entry (rw apart at h)
held-untouched snapshot past (Offered Cleared tag offer evicted) key entry apart h = before_out (key_eq key offer.key) (held snapshot past key) entry h
held-untouched snapshot past (Offered LessTrusted tag offer evicted) key entry apart h = h
held-untouched snapshot past (Asked tag ask reply) key entry apart h = h
held-untouched snapshot past (Swept tag moment gone) key entry apart h = before_out (is_among key gone) (held snapshot past key) entry h

-- the key was touched since the closing
record IsTouched (snapshot closing : Snapshot) (past later : List Event) (key : KeyOf) : Type 0 where
  same : touch snapshot (later ++ past) key ≡ touch closing later key
  since : closing.first ≤ touch closing later key

-- the key was not touched since the closing; what it holds stands there
record IsUntouched (snapshot closing : Snapshot) (past later : List Event) (key : KeyOf) : Type 0 where
  before : touch snapshot (later ++ past) key ≡ touch snapshot past key
  place : touch closing later key ≡ place_of key closing.entries
  stands : (entry : Entry) → held closing later key ≡ Some entry → entry_at key closing.entries ≡ Some entry

touched_or_not : (snapshot closing : Snapshot) (past : List Event) → IsClosing snapshot past closing → (key : KeyOf) (later : List Event)
    → IsTouched snapshot closing past later key ⊎ IsUntouched snapshot closing past later key
unfolding touch held
touched_or_not snapshot closing past closes key [] = inr (record { before = refl; place = refl; stands = λ entry h. h })
touched_or_not snapshot closing past closes key (event ∷ later) =
    by (is_evicted key (touched closing later event)) refl (touched_or_not snapshot closing past closes key later)
  where
    both : (b : Bool) → is_evicted key (touched closing later event) ≡ b → is_evicted key (touched snapshot (later ++ past) event) ≡ b
    both b is = ap (is_evicted key) (touched-joined snapshot closing past closes event later) ∙ is

    by : (b : Bool) → is_evicted key (touched closing later event) ≡ b → IsTouched snapshot closing past later key ⊎ IsUntouched snapshot closing past later key
        → IsTouched snapshot closing past (event ∷ later) key ⊎ IsUntouched snapshot closing past (event ∷ later) key
    by true is before =
        let one = touch-same snapshot (later ++ past) event key (both true is) in
        let other = touch-same closing later event key is in
        inl (record { same = one ∙ (number-joined snapshot closing past later closes ∙ sym other); since = omega (arith, other) })
    by false is (inl t) =
        let one = touch-other snapshot (later ++ past) event key (both false is) in
        let other = touch-other closing later event key is in
        inl (record { same = one ∙ (t.same ∙ sym other); since = omega (arith, other, t.since) })
    by false is (inr u) =
        let one = touch-other snapshot (later ++ past) event key (both false is) in
        let other = touch-other closing later event key is in
        inr (record {
          before = one ∙ u.before;
          place = other ∙ u.place;
          stands = λ entry h. u.stands entry (held-untouched closing later event key entry is h);
        })

-- ---- the order of touch

place_of_le : (key : KeyOf) (entries : List Entry) → place_of key entries ≤ length entries
place_of_le key [] = omega arith
place_of_le key (entry ∷ entries) = by (key_eq key entry.key) refl (place_of_le key entries)
  where
    by : (same : Bool) → key_eq key entry.key ≡ same → place_of key entries ≤ length entries → place_of key (entry ∷ entries) ≤ length (entry ∷ entries)
    by true is rest = rw is (omega arith)
    by false is rest = rw is (omega arith)

-- of two entries the one farther from the last was touched later
place_order : (snapshot : Snapshot) (past : List Event) (number : ℕ) (entries : List Entry) (a b : KeyOf) (x y : Entry) → FallsBelow snapshot past number entries
    → entry_at a entries ≡ Some x → entry_at b entries ≡ Some y → place_of a entries < place_of b entries → touch snapshot past a < touch snapshot past b
place_order snapshot past number [] a b x y falls at_a at_b less = absurd cc
place_order snapshot past number (entry ∷ entries) a b x y falls at_a at_b less =
    by (place_order snapshot past (touch snapshot past entry.key) entries a b x y falls.1) (key_eq a entry.key) refl (key_eq b entry.key) refl
  where
    by : (entry_at a entries ≡ Some x → entry_at b entries ≡ Some y → place_of a entries < place_of b entries → touch snapshot past a < touch snapshot past b)
        → (first : Bool) → key_eq a entry.key ≡ first → (second : Bool) → key_eq b entry.key ≡ second → touch snapshot past a < touch snapshot past b
    by behind true is_a true is_b = let no : length entries < length entries = rw (is_a, is_b) at less in absurd (omega arith)
    by behind true is_a false is_b = let no : length entries < place_of b entries = rw (is_a, is_b) at less in absurd (omega (arith, place_of_le b entries))
    by behind false is_a true is_b =
        let same : touch snapshot past b ≡ touch snapshot past entry.key = ap (touch snapshot past) (key_eq-same b entry.key is_b) in
        let at : entry_at a entries ≡ Some x = rw is_a at at_a in
        let below = found_below snapshot past (touch snapshot past entry.key) entries a x falls.1 at in
        omega (arith, same, below)
    by behind false is_a false is_b = behind (rw is_a at at_a) (rw is_b at at_b) (rw (is_a, is_b) at less)

-- a list that falls below a number is no longer than it
length_below : (snapshot : Snapshot) (past : List Event) (number : ℕ) (entries : List Entry) → FallsBelow snapshot past number entries → length entries ≤ number
length_below snapshot past number [] falls = omega arith
length_below snapshot past number (entry ∷ entries) falls = omega (arith, falls.0, length_below snapshot past (touch snapshot past entry.key) entries falls.1)

-- the key holds something
abbrev Holds : Snapshot → List Event → KeyOf → Type 0
Holds snapshot past key = (entry : Entry) × (held snapshot past key ≡ Some entry)

-- what was touched later since the closing was touched later since the snapshot
order-joined : (snapshot closing : Snapshot) (past : List Event) → IsClosing snapshot past closing → (later : List Event) (a b : KeyOf)
    → Holds closing later a → Holds closing later b → touch closing later a < touch closing later b
    → touch snapshot (later ++ past) a < touch snapshot (later ++ past) b
order-joined snapshot closing past closes later a b holds_a holds_b less =
    by (touched_or_not snapshot closing past closes a later) (touched_or_not snapshot closing past closes b later)
  where
    falls : FallsBelow snapshot past (number_after snapshot past) closing.entries
    falls = closes.contents.falling

    by : IsTouched snapshot closing past later a ⊎ IsUntouched snapshot closing past later a → IsTouched snapshot closing past later b ⊎ IsUntouched snapshot closing past later b
        → touch snapshot (later ++ past) a < touch snapshot (later ++ past) b
    by (inl t) (inl u) = omega (arith, t.same, u.same)
    by (inr t) (inl u) =
        let below = found_below snapshot past (number_after snapshot past) closing.entries a holds_a.0 falls (t.stands holds_a.0 holds_a.1) in
        omega (arith, t.before, u.same, u.since, closes.first, below)
    by (inl t) (inr u) =
        let few = length_below snapshot past (number_after snapshot past) closing.entries falls in
        absurd (omega (arith, t.since, u.place, place_of_le b closing.entries, few, closes.first))
    by (inr t) (inr u) =
        let places : place_of a closing.entries < place_of b closing.entries = omega (arith, t.place, u.place) in
        let order =
        place_order snapshot past (number_after snapshot past) closing.entries a b holds_a.0 holds_b.0 falls
        (t.stands holds_a.0 holds_a.1) (u.stands holds_b.0 holds_b.1) places in
        omega (arith, t.before, u.before, order)

-- what was touched before a number since the closing was touched before it since the snapshot
below-joined : (snapshot closing : Snapshot) (past : List Event) → IsClosing snapshot past closing → (later : List Event) (key : KeyOf)
    → Holds closing later key → touch closing later key < number_after closing later → touch snapshot (later ++ past) key < number_after snapshot (later ++ past)
below-joined snapshot closing past closes later key holds less = by (touched_or_not snapshot closing past closes key later)
  where
    by : IsTouched snapshot closing past later key ⊎ IsUntouched snapshot closing past later key → touch snapshot (later ++ past) key < number_after snapshot (later ++ past)
    by (inl t) = omega (arith, t.same, number-joined snapshot closing past later closes)
    by (inr u) =
        let below =
        found_below snapshot past (number_after snapshot past) closing.entries key holds.0 closes.contents.falling (u.stands holds.0 holds.1) in
        omega (arith, u.before, length-append later past, below)

-- ---- contents

-- something is found under the entry's key
abbrev IsFoundIn : List Entry → Entry → Type 0
IsFoundIn entries entry = (found : Entry) × (entry_at entry.key entries ≡ Some found)

found_behind : (first : Entry) (entries some : List Entry) → AllByRecursion (IsFoundIn entries) some → AllByRecursion (IsFoundIn (first ∷ entries)) some
found_behind first entries [] all = tt
found_behind first entries (entry ∷ some) all = (by (key_eq entry.key first.key) refl, found_behind first entries some all.1)
  where
    by : (same : Bool) → key_eq entry.key first.key ≡ same → IsFoundIn (first ∷ entries) entry
    by true is = (first, rw is refl)
    by false is = (all.0.0, rw is (all.0.1))

all_found : (entries : List Entry) → AllByRecursion (IsFoundIn entries) entries
all_found [] = tt
all_found (entry ∷ entries) = ((entry, first_found entry entries), found_behind entry entries entries (all_found entries))

falls_joined : (snapshot closing : Snapshot) (past : List Event) → IsClosing snapshot past closing → (later : List Event) (all : List Entry)
    → ((key : KeyOf) → entry_at key all ≡ held closing later key) → (key : KeyOf) → Holds closing later key → (entries : List Entry)
    → AllByRecursion (IsFoundIn all) entries → FallsBelow closing later (touch closing later key) entries
    → FallsBelow snapshot (later ++ past) (touch snapshot (later ++ past) key) entries
falls_joined snapshot closing past closes later all agree key holds [] are falls = tt
falls_joined snapshot closing past closes later all agree key holds (entry ∷ entries) are falls =
    let here : Holds closing later entry.key = (are.0.0, sym (agree entry.key) ∙ are.0.1) in
    (order-joined snapshot closing past closes later entry.key key here holds falls.0, falls_joined snapshot closing past closes later all agree entry.key here entries are.1 falls.1)

pub contents-joined : (snapshot closing : Snapshot) (past : List Event) → IsClosing snapshot past closing → (later : List Event) (entries : List Entry)
    → AreContents closing later entries → AreContents snapshot (later ++ past) entries
contents-joined snapshot closing past closes later entries are = record {
  agree = λ key. are.agree key ∙ sym (held-joined snapshot closing past closes key later);
  falling = by entries are.agree (all_found entries) are.falling;
}
  where
    by : (all : List Entry) → ((key : KeyOf) → entry_at key all ≡ held closing later key) → AllByRecursion (IsFoundIn all) all
        → FallsBelow closing later (number_after closing later) all → FallsBelow snapshot (later ++ past) (number_after snapshot (later ++ past)) all
    by [] agree found falls = tt
    by (entry ∷ rest) agree found falls =
        let here : Holds closing later entry.key = (found.0.0, sym (agree entry.key) ∙ found.0.1) in (
          below-joined snapshot closing past closes later entry.key here falls.0,
          falls_joined snapshot closing past closes later (entry ∷ rest) agree entry.key here rest found.1 falls.1,
        )

-- ---- what is right

right-joined : (snapshot closing : Snapshot) (past : List Event) → IsClosing snapshot past closing → (later : List Event) (event : Event)
    → IsRightThen closing later event → IsRightThen snapshot (later ++ past) event
right-joined snapshot closing past closes later (Offered outcome tag offer evicted) right =
    let same : held closing later offer.key ≡ held snapshot (later ++ past) offer.key = sym (held-joined snapshot closing past closes offer.key later) in
    record {
      timely = right.timely;
      judged = right.judged ∙ ap (λ (h : Option Entry). verdict h offer) same;
      entries = right.entries;
      contents = contents-joined snapshot closing past closes later right.entries right.contents;
      evicts =
          right.evicts
          ∙ (ap (λ (h : Option Entry). evicted_by closing.rules.capacity right.entries h outcome) same
          ∙ ap (λ (r : Rules). evicted_by r.capacity right.entries (held snapshot (later ++ past) offer.key) outcome) closes.rules);
    }
right-joined snapshot closing past closes later (Asked tag ask reply) right = record {
  timely = right.timely;
  answered =
      right.answered
      ∙ (ap (λ (f : Found). reply_by closing.rules.stale f ask) (sym (found-joined snapshot closing past closes ask later))
      ∙ ap (λ (r : Rules). reply_by r.stale (found snapshot (later ++ past) ask) ask) closes.rules);
}
right-joined snapshot closing past closes later (Swept tag moment gone) right = record {
  timely = right.timely;
  sorted = right.sorted;
  expired = λ key.
      right.expired key
      ∙ (ap (λ (h : Option Entry). is_swept closing.rules.stale h moment) (sym (held-joined snapshot closing past closes key later))
      ∙ ap (λ (r : Rules). is_swept r.stale (held snapshot (later ++ past) key) moment) closes.rules);
}

pub legal-joined : (snapshot closing : Snapshot) (past : List Event) → IsClosing snapshot past closing → IsLegal snapshot past → (later : List Event)
    → IsLegal closing later → IsLegal snapshot (later ++ past)
legal-joined snapshot closing past closes legal [] right = legal
legal-joined snapshot closing past closes legal (event ∷ later) right = (
  record {
    numbered = omega (arith, right.0.numbered, number-joined snapshot closing past later closes);
    right = right-joined snapshot closing past closes later event right.0.right;
  },
  legal-joined snapshot closing past closes legal later right.1,
)

pub closing-joined : (snapshot closing last : Snapshot) (past later : List Event) → IsClosing snapshot past closing → IsClosing closing later last
    → IsClosing snapshot (later ++ past) last
closing-joined snapshot closing last past later closes ends = record {
  rules = ends.rules ∙ closes.rules;
  first = ends.first ∙ sym (number-joined snapshot closing past later closes);
  contents = contents-joined snapshot closing past closes later last.entries ends.contents;
}

-- events that lead to a closing, and then events that lead on from it
pub lead-joined : (snapshot closing last : Snapshot) (events later : List Event) → LeadTo snapshot events closing → LeadTo closing later last
    → LeadTo snapshot (events ++ later) last
lead-joined snapshot closing last events later leads on =
    let turned : reverse later ++ reverse events ≡ reverse (events ++ later) = sym (reverse-append events later) in
    record {
      legal = subst (IsLegal snapshot) turned (legal-joined snapshot closing (reverse events) leads.closes leads.legal (reverse later) on.legal);
      closes = let P : List Event → Type 0 = λ past. IsClosing snapshot past last in
          subst P turned (closing-joined snapshot closing last (reverse events) (reverse later) leads.closes on.closes);
    }
