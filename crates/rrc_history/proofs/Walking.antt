-- SPDX-License-Identifier: MIT
-- A walk over events, the oldest first, has the events behind it with the newest first.
use Rattle.std.specs.Prelude.{◌≡◌, ℕ, ◌+◌, ◌<◌, ◌≤◌, Option, Bool, true, false, if◌then◌else◌, List, [], ◌∷◌, ◌++◌, length, reverse}
use Rattle.std.proofs.Common.{refl, arith, sym, ap, ◌∙◌, take, drop, get_or}
use Rattle.std.proofs.lemmas.List.{take_more, drop_more, take-append-drop, reverse-append, length-reverse, length-take-le}
use Rattle.rrc_name.specs.Key.{KeyOf}
use Rattle.rrc_history.specs.declared.event.Event.{Event}
use Rattle.rrc_history.specs.declared.event.Event.TheVariants.{Offered, Asked, Swept}
use Rattle.rrc_history.specs.declared.snapshot.Entry.{Entry}
use Rattle.rrc_history.specs.declared.snapshot.Snapshot.{Snapshot}
use Rattle.rrc_history.specs.Past.{held, touch, touched, entry_at, place_of, is_evicted, number_after}
use Rattle.rrc_history.specs.Auditing.{held_after_event}

-- the next event stands in front of those behind the walk
pub reverse_more : {X : Type 0} (xs : List X) (i : ℕ) (d : X) → i < length xs → reverse (take (i + 1) xs) ≡ get_or xs i d ∷ reverse (take i xs)
reverse_more xs i d less = ap reverse (take_more xs i d less) ∙ reverse-append (take i xs) (get_or xs i d ∷ [])

-- a list is what stands before a place, what stands there, and what stands behind
pub split_at : {X : Type 0} (xs : List X) (i : ℕ) (d : X) → i < length xs → xs ≡ take i xs ++ get_or xs i d ∷ drop (i + 1) xs
split_at xs i d less = sym (take-append-drop i xs) ∙ ap (λ behind. take i xs ++ behind) (drop_more xs i d less)

number_at : (snapshot : Snapshot) (events : List Event) (i : ℕ) → i ≤ length events → number_after snapshot (reverse (take i events)) ≡ snapshot.first + i
number_at snapshot events i le =
    let turned : length (reverse (take i events)) ≡ length (take i events) = length-reverse (take i events) in
    let taken : length (take i events) ≡ i = length-take-le i events le in
    omega (arith, turned, taken)

-- ---- what a key holds

pub held_start : (snapshot : Snapshot) (key : KeyOf) (entries : List Entry) (now : Option Entry) → now ≡ entry_at key entries → entries ≡ snapshot.entries → now ≡ held snapshot [] key
unfolding held
held_start snapshot key entries now is same = is ∙ ap (entry_at key) same

held_step : (snapshot : Snapshot) (past : List Event) (event : Event) (key : KeyOf)
    → held_after_event (number_after snapshot past) event key (held snapshot past key) ≡ held snapshot (event ∷ past) key
unfolding held
held_step snapshot past (Offered outcome tag offer evicted) key = refl
held_step snapshot past (Asked tag ask reply) key = refl
held_step snapshot past (Swept tag moment gone) key = refl

pub held_more : (snapshot : Snapshot) (events : List Event) (i : ℕ) (event : Event) (key : KeyOf) (before after : Option Entry) → i < length events
    → event ≡ get_or events i event → before ≡ held snapshot (reverse (take i events)) key → after ≡ held_after_event (snapshot.first + i) event key before
    → after ≡ held snapshot (reverse (take (i + 1) events)) key
held_more snapshot events i event key before after less is was now =
    let past : List Event = reverse (take i events) in
    let number : snapshot.first + i ≡ number_after snapshot past = sym (number_at snapshot events i (omega (arith, less))) in
    let more : event ∷ past ≡ reverse (take (i + 1) events) = ap (λ e. e ∷ past) is ∙ sym (reverse_more events i event less) in
    now
    ∙ (ap (λ (n : ℕ). held_after_event n event key before) number
    ∙ (ap (held_after_event (number_after snapshot past) event key) was ∙ (held_step snapshot past event key ∙ ap (λ es. held snapshot es key) more)))

-- ---- when a key was touched

pub touch_start : (snapshot : Snapshot) (key : KeyOf) (entries : List Entry) (now : ℕ) → now ≡ place_of key entries → entries ≡ snapshot.entries → now ≡ touch snapshot [] key
unfolding touch
touch_start snapshot key entries now is same = is ∙ ap (place_of key) same

touch_step : (snapshot : Snapshot) (past : List Event) (event : Event) (key : KeyOf)
    → (if is_evicted key (touched snapshot past event) then number_after snapshot past else touch snapshot past key) ≡ touch snapshot (event ∷ past) key
unfolding touch
touch_step snapshot past event key = refl

pub touch_more : (snapshot : Snapshot) (events : List Event) (i : ℕ) (event : Event) (key : KeyOf) (is_touched : Bool) (before after : ℕ) → i < length events
    → event ≡ get_or events i event → before ≡ touch snapshot (reverse (take i events)) key → is_touched ≡ is_evicted key (touched snapshot (reverse (take i events)) event)
    → after ≡ (if is_touched then snapshot.first + i else before) → after ≡ touch snapshot (reverse (take (i + 1) events)) key
touch_more snapshot events i event key is_touched before after less is was by now =
    let past : List Event = reverse (take i events) in
    let number : snapshot.first + i ≡ number_after snapshot past = sym (number_at snapshot events i (omega (arith, less))) in
    let more : event ∷ past ≡ reverse (take (i + 1) events) = ap (λ e. e ∷ past) is ∙ sym (reverse_more events i event less) in
    now
    ∙ (ap (λ (n : ℕ). if is_touched then n else before) number
    ∙ (ap (λ (n : ℕ). if is_touched then number_after snapshot past else n) was
    ∙ (ap (λ b. if b then number_after snapshot past else touch snapshot past key) by ∙ (touch_step snapshot past event key ∙ ap (λ es. touch snapshot es key) more))))

pub chosen_then : (b : Bool) (x y z : ℕ) → b ≡ true → x ≡ y → x ≡ (if b then y else z)
chosen_then b x y z is same = rw is same

pub chosen_else : (b : Bool) (x y z : ℕ) → b ≡ false → x ≡ z → x ≡ (if b then y else z)
chosen_else b x y z is same = rw is same
