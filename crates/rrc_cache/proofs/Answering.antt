-- SPDX-License-Identifier: MIT
-- What a past leaves after an ask.
use Rattle.std.proofs.Common.{◌≡◌, ℕ, ◌+◌, ◌^◌, ◌<◌, ◌≤◌, List, [], ◌∷◌, length, Option, Some, None, ◌||◌, true, false, ◌⊎◌, inl, inr, Bool, refl, sym, ap, subst, ◌∙◌, arith}
use Rattle.std.specs.Prelude.{IfSome, nat_le}
use Rattle.std.proofs.lemmas.Bool.{leb-false, leb-true}
use Rattle.rrc_name.specs.Key.{KeyOf, key_eq}
use Rattle.rrc_name.specs.lemmas.KeyLaws.{key_eq-laws, key_eq-same}
use Rattle.rrc_history.specs.lemmas.Apart.{staying-lacks}
use Rattle.rrc_history.specs.declared.event.Event.{Event}
use Rattle.rrc_history.specs.declared.event.Event.TheVariants.{Asked}
use Rattle.rrc_history.specs.declared.event.Reply.{Reply}
use Rattle.rrc_history.specs.declared.event.Tag.{Tag}
use Rattle.rrc_history.specs.declared.snapshot.Entry.{Entry}
use Rattle.rrc_history.specs.declared.snapshot.Snapshot.{Snapshot}
use Rattle.rrc_history.specs.Asked.{AskOf}
use Rattle.rrc_history.specs.Judged.{reply_by, answering, governing, is_miss, key_in}
use Rattle.rrc_history.specs.Past.{entry_at, key_at, number_after}
use Rattle.rrc_name.specs.declared.slot.Slot.{Slot}
use Rattle.rrc_name.specs.declared.slot.Slot.TheVariants.{Set, Nx}
use Rattle.rrc_history.specs.lemmas.EntryLaws.{entry_at-key}
use Rattle.rrc_history.specs.lemmas.TrustHolds.{governing-is_held}
use Rattle.std.specs.Option.{option_map}
use Rattle.rrc_history.specs.Right.{IsRight}
use Rattle.rrc_history.specs.Entries.{goes, found_among, promoted, in_front, answered_from, AreApart, LacksKey}
use Rattle.rrc_history.specs.lemmas.OfferLaws.{length-staying_found}
use Rattle.rrc_history.specs.lemmas.AskLaws.{found-contents, ask_contents}
use Rattle.rrc_history.specs.Lives.{LAST_MOMENT}
use Rattle.rrc_history.specs.Views.{held_in}
use Rattle.rrc_history.specs.declared.judge.Held.{Held}
use Rattle.rrc_cache.specs.Ages.{age_by, ahead_of, slot_age}
use Rattle.rrc_cache.specs.Calls.{Leaves}
use Rattle.rrc_cache.specs.Taken.{HasName, HasClass, IsAnswered, IsMove, slot_of}
use Rattle.rrc_cache.proofs.Leaving.{right_leaves}
use Rattle.rrc_cache.proofs.Sound.{made_of, made_answered_from}

-- an answer leaves as many entries as there were, or fewer
length-promoted : (key : KeyOf) (entries : List Entry) → length (promoted key entries) ≤ length entries
length-promoted key entries = by (entry_at key entries) refl
  where
    by : (f : Option Entry) → entry_at key entries ≡ f → length (in_front key f entries) ≤ length entries
    by None is = omega arith
    by (Some entry) is =
        let gone : goes key None key ≡ true = ap (λ b. b || false) (key_eq-laws.refl key) in
        omega (arith, length-staying_found (goes key None) key entries entry is gone)

length-answered_from : (key : Option KeyOf) (entries : List Entry) → length (answered_from key entries) ≤ length entries
length-answered_from None entries = omega arith
length-answered_from (Some key) entries = length-promoted key entries

pub ask_leaves : (snapshot : Snapshot) (past : List Event) (entries : List Entry) (tag : Tag) (ask : AskOf) (reply : Reply) (slot : Option Slot) (kept : List Entry)
    → Leaves snapshot past entries → number_after snapshot past < 2 ^ 62 → ask.moment ≤ LAST_MOMENT → IsAnswered snapshot.rules.stale ask entries reply slot
    → kept ≡ answered_from (option_map (key_at ask) slot) entries → Leaves snapshot (Asked tag ask reply ∷ past) kept
ask_leaves snapshot past entries tag ask reply slot kept leaves below timely answered touched =
    let event : Event = Asked tag ask reply in
    let key : Option KeyOf = key_in (answering (found_among entries ask) ask reply) in
    let is : kept ≡ answered_from key entries = touched ∙ answered.moves in
    let right : IsRight snapshot past event = record {
      numbered = below;
      right = record {
        timely = timely;
        answered = answered.answered ∙ ap (λ f. reply_by snapshot.rules.stale f ask) (found-contents snapshot past ask entries leaves.contents);
      };
    } in
    let few : length (answered_from key entries) ≤ snapshot.rules.capacity = omega (arith, length-answered_from key entries, leaves.kept.few) in
    let P : List Entry → Type 0 = Leaves snapshot (event ∷ past) in
    subst P (sym is)
    (right_leaves snapshot past event (answered_from key entries) leaves.legal right (ask_contents snapshot past tag ask reply entries leaves.contents) few
    (made_answered_from (number_after snapshot past) key entries (made_of snapshot.rules.capacity (number_after snapshot past) entries leaves.kept)))

-- ---- the entry that answers

-- the entry that answers is the set or the nx
answering-held : (entries : List Entry) (ask : AskOf) (reply : Reply) (entry : Entry) → answering (found_among entries ask) ask reply ≡ Some entry
    → (entry_at (key_at ask (Set ask.rtype)) entries ≡ Some entry) ⊎ (entry_at (key_at ask Nx) entries ≡ Some entry)
answering-held entries ask reply entry h = by (is_miss reply) refl
  where
    by : (b : Bool) → is_miss reply ≡ b → (entry_at (key_at ask (Set ask.rtype)) entries ≡ Some entry) ⊎ (entry_at (key_at ask Nx) entries ≡ Some entry)
    by true is = let bad : None ≡ Some entry = rw is at h in absurd cc
    by false is = governing-is_held (entry_at (key_at ask (Set ask.rtype)) entries) (entry_at (key_at ask Nx) entries) ask.moment entry (rw is at h)

-- it has the ask's name
pub answering-named : (entries : List Entry) (ask : AskOf) (reply : Reply) (a : Option Entry) → a ≡ answering (found_among entries ask) ask reply → IfSome a (HasName ask.name)
answering-named entries ask reply None is = tt
answering-named entries ask reply (Some entry) is =
    elim (answering-held entries ask reply entry (sym is)) [
      | inl at ↦ ap (λ (k : KeyOf). k.name) (sym (entry_at-key (key_at ask (Set ask.rtype)) entries entry at))
      | inr at ↦ ap (λ (k : KeyOf). k.name) (sym (entry_at-key (key_at ask Nx) entries entry at))
    ]

-- and its class
answering-classed : (entries : List Entry) (ask : AskOf) (reply : Reply) (a : Option Entry) → a ≡ answering (found_among entries ask) ask reply → IfSome a (HasClass ask.class)
answering-classed entries ask reply None is = tt
answering-classed entries ask reply (Some entry) is =
    elim (answering-held entries ask reply entry (sym is)) [
      | inl at ↦ ap (λ (k : KeyOf). k.class) (sym (entry_at-key (key_at ask (Set ask.rtype)) entries entry at))
      | inr at ↦ ap (λ (k : KeyOf). k.class) (sym (entry_at-key (key_at ask Nx) entries entry at))
    ]

-- so its key is that of the ask's name and class and its slot
answering-keyed : (ask : AskOf) (a : Option Entry) → IfSome a (HasName ask.name) → IfSome a (HasClass ask.class) → option_map (λ (entry : Entry). key_at ask entry.key.slot) a ≡ key_in a
answering-keyed ask None named classed = refl
answering-keyed ask (Some entry) named classed =
    let names : ask.name ≡ entry.key.name = sym named in
    let classes : ask.class ≡ entry.key.class = sym classed in
    λ i. Some (record { name = names i; class = classes i; slot = entry.key.slot })

-- the slot of the entry that answers moves it
slot_moves : (ask : AskOf) (entries : List Entry) (reply : Reply) (a : Option Entry) (slot : Option Slot) → a ≡ answering (found_among entries ask) ask reply
    → slot ≡ slot_of a → IsMove ask entries reply slot
slot_moves ask entries reply a slot gave is =
    ap (λ key. answered_from key entries)
    (ap (option_map (key_at ask)) is ∙ (mapped a ∙ (answering-keyed ask a (answering-named entries ask reply a gave) (answering-classed entries ask reply a gave) ∙ ap key_in gave)))
  where
    mapped : (a' : Option Entry) → option_map (key_at ask) (slot_of a') ≡ option_map (λ (entry : Entry). key_at ask entry.key.slot) a'
    mapped None = refl
    mapped (Some entry) = refl

-- the entry that none stands before is in front
in_front_stays : (key : KeyOf) (entries : List Entry) → AreApart entries → ahead_of key entries ≤ 0 → promoted key entries ≡ entries
in_front_stays key [] apart few = refl
in_front_stays key (entry ∷ entries) apart few = by (key_eq key entry.key) refl few
  where
    by : (b : Bool) → key_eq key entry.key ≡ b → ahead_of key (entry ∷ entries) ≤ 0 → promoted key (entry ∷ entries) ≡ entry ∷ entries
    by true is first =
        let gone : goes key None entry.key ≡ true = ap (λ b. b || false) is in
        let P : KeyOf → Type 0 = λ k. LacksKey k entries in
        rw (is, gone) (ap (λ es. entry ∷ es) (staying-lacks key entries (subst P (sym (key_eq-same key entry.key is)) apart.0)))
    by false is first =
        let more : ahead_of key entries + 1 ≤ 0 = rw is at first in
        absurd omega (arith, more)

-- so where the age of the one that answers is 0, no slot moves it, and else its own does
pub moves_by_age : (ask : AskOf) (entries : List Entry) (reply : Reply) (lent : Option Held) (slot : Option Slot) (age : ℕ)
    → option_map held_in lent ≡ answering (found_among entries ask) ask reply → IfSome lent (λ held. ahead_of held.key.now entries ≤ age) → AreApart entries
    → (age ≡ 0 → slot ≡ None) → (0 < age → slot ≡ slot_of (option_map held_in lent)) → IsMove ask entries reply slot
moves_by_age ask entries reply lent slot age gave few apart in_front behind = by (nat_le 1 age) refl
  where
    by : (b : Bool) → nat_le 1 age ≡ b → IsMove ask entries reply slot
    by true ge =
        let more : 1 ≤ age = leb-true 1 age ge in
        slot_moves ask entries reply (option_map held_in lent) slot gave (behind (omega (arith, more)))
    by false lt =
        let less : age < 1 = leb-false 1 age lt in
        let none : age ≡ 0 = omega (arith, less) in
        ap (λ s. answered_from (option_map (key_at ask) s) entries) (in_front none) ∙ (sym (stays lent few none) ∙ ap (λ a. answered_from (key_in a) entries) gave)
      where
        stays : (l : Option Held) → IfSome l (λ held. ahead_of held.key.now entries ≤ age) → age ≡ 0 → answered_from (key_in (option_map held_in l)) entries ≡ entries
        stays None before none = refl
        stays (Some held) before none = in_front_stays held.key.now entries apart (omega (arith, before, none))

-- the answer, and the slot that moves the entry that gave it
pub answered_at : (stale : ℕ) (ask : AskOf) (entries : List Entry) (reply : Reply) (a : Option Entry) (slot : Option Slot) → reply ≡ reply_by stale (found_among entries ask) ask
    → a ≡ answering (found_among entries ask) ask reply → slot ≡ slot_of a → IsAnswered stale ask entries reply slot
answered_at stale ask entries reply a slot answered gave is = record {
  answered = answered;
  moves = slot_moves ask entries reply a slot gave is;
}

-- ---- its age

-- what holds where something is lent, where that is an entry
held_so : (C : Type 0) (lent : Option Held) (entry : Entry) → IfSome lent (λ _. C) → option_map held_in lent ≡ Some entry → C
held_so C None entry so is = absurd cc
held_so C (Some held) entry so is = so

-- no more entries stand before the one that governs than the age of its slot tells
pub governing_ahead : (entries : List Entry) (ask : AskOf) (set nx governs : Option Held) (set_age nx_age : ℕ)
    → option_map held_in set ≡ entry_at (key_at ask (Set ask.rtype)) entries → option_map held_in nx ≡ entry_at (key_at ask Nx) entries
    → IfSome set (λ _. ahead_of (key_at ask (Set ask.rtype)) entries ≤ set_age) → IfSome nx (λ _. ahead_of (key_at ask Nx) entries ≤ nx_age)
    → option_map held_in governs ≡ governing (option_map held_in set) (option_map held_in nx) ask.moment
    → IfSome governs (λ held. ahead_of held.key.now entries ≤ age_by (option_map held_in governs) set_age nx_age)
governing_ahead entries ask set nx None set_age nx_age at_set at_nx ahead_set ahead_nx is = tt
governing_ahead entries ask set nx (Some held) set_age nx_age at_set at_nx ahead_set ahead_nx is =
    elim (governing-is_held (option_map held_in set) (option_map held_in nx) ask.moment (held_in held) (sym is)) [
      | inl it ↦
          subst P (entry_at-key (key_at ask (Set ask.rtype)) entries (held_in held) (sym at_set ∙ it))
          (held_so (P (key_at ask (Set ask.rtype))) set (held_in held) ahead_set it)
      | inr it ↦ subst P (entry_at-key (key_at ask Nx) entries (held_in held) (sym at_nx ∙ it)) (held_so (P (key_at ask Nx)) nx (held_in held) ahead_nx it)
    ]
  where
    P : KeyOf → Type 0
    P key = ahead_of key entries ≤ slot_age key.slot set_age nx_age
