-- SPDX-License-Identifier: MIT
-- What is due behind the closing of the events before a bad one is due in its place.
use Rattle.std.proofs.Common.{◌≡◌, ℕ, suc, ◌+◌, ◌⊎◌, inl, inr, List, [], ◌∷◌, ◌++◌, length, take, reverse, Option, None, Some, refl, sym, ap, subst, ◌∙◌, arith}
use Rattle.std.specs.Prelude.{option_to_list}
use Rattle.std.proofs.lemmas.List.{reverse-append, reverse-reverse}
use Rattle.rrc_name.specs.Key.{KeyOf}
use Rattle.rrc_name.specs.declared.slot.Slot.TheVariants.{Set, Nx, Failed}
use Rattle.rrc_history.specs.declared.event.Event.{Event}
use Rattle.rrc_history.specs.declared.event.Event.TheVariants.{Offered, Asked, Swept}
use Rattle.rrc_history.specs.declared.snapshot.Entry.{Entry}
use Rattle.rrc_history.specs.declared.snapshot.Snapshot.{Snapshot}
use Rattle.rrc_history.specs.Audits.{IsFirstBad}
use Rattle.rrc_history.specs.Chapters.{IsClosing, LeadTo}
use Rattle.rrc_history.specs.Past.{held, key_at}
use Rattle.rrc_history.specs.Right.{IsLegal, IsRight}
use Rattle.rrc_history.specs.lemmas.Chained.{held-joined, legal-joined}
use Rattle.rrc_cache.specs.Restored.{IsWhyNotRestored}
use Rattle.rrc_cache.specs.declared.classless.ChapterFault.{ChapterFault}
use Rattle.rrc_cache.specs.declared.classless.ChapterFault.TheVariants.{BadNumber, NotLegal, Memory}
use Rattle.rrc_replay.specs.declared.unlawful.Due.{Due}
use Rattle.rrc_replay.specs.Unlawful.{held_under, IsDueThere, IsWhyUnlawful}
use Rattle.rrc_replay.proofs.AuditLemmas.{never_bad}

-- legal events are refused as chapter 1 for memory alone
pub never_refused : (snapshot : Snapshot) (events : List Event) (fault : ChapterFault) → (fault ≡ BadNumber) ⊎ ((place : ℕ) × (fault ≡ NotLegal place))
    → IsLegal snapshot (reverse events) → IsWhyNotRestored 1 snapshot events fault → ⊥
never_refused snapshot events BadNumber is legal (inl none) = absurd (omega (arith, none))
never_refused snapshot events BadNumber is legal (inr large) = absurd (omega (arith, large))
never_refused snapshot events (NotLegal place) is legal why = never_bad snapshot events place legal why.1
never_refused snapshot events Memory (inl is) legal why = absurd cc
never_refused snapshot events Memory (inr is) legal why = let no = is.1 in absurd cc

-- ---- the events up to a place

taken : (before : List Event) (event : Event) (behind : List Event) → take (suc (length before)) (before ++ event ∷ behind) ≡ before ++ event ∷ []
taken [] event behind = refl
taken (first ∷ before) event behind = ap (λ events. first ∷ events) (taken before event behind)

abbrev first_of : Event → List Event → Event
first_of event [] = event
first_of event (first ∷ events) = first

abbrev rest_of : List Event → List Event
rest_of [] = []
rest_of (first ∷ events) = events

turned_end : (before : List Event) (event : Event) → reverse (before ++ event ∷ []) ≡ event ∷ reverse before
turned_end before event = reverse-append before (event ∷ [])

-- lists that are the same with an event behind each
pub record SameEnds (before others : List Event) (event other : Event) : Type 0 where
  pub front : others ≡ before
  pub last : other ≡ event

same_ends : (before others : List Event) (event other : Event) → before ++ event ∷ [] ≡ others ++ other ∷ [] → SameEnds before others event other
same_ends before others event other h =
    let both : event ∷ reverse before ≡ other ∷ reverse others = sym (turned_end before event) ∙ (ap reverse h ∙ turned_end others other) in
    let back : reverse before ≡ reverse others = ap rest_of both in
    record {
      front = sym (sym (reverse-reverse before) ∙ (ap reverse back ∙ reverse-reverse others));
      last = sym (ap (first_of event) both);
    }

-- what was cut at the first bad event
cut_same : (snapshot : Snapshot) (events : List Event) (place next : ℕ) (before : List Event) (written : Event) → (bad : IsFirstBad snapshot events place)
    → next ≡ suc place → take next events ≡ before ++ written ∷ [] → SameEnds before bad.before written bad.event
cut_same snapshot events place next before written bad follows cut =
    let number : next ≡ suc (length bad.before) = follows ∙ ap suc (sym bad.at) in
    let whole : take next (bad.before ++ bad.event ∷ bad.behind) ≡ before ++ written ∷ [] = ap (take next) (sym bad.are) ∙ cut in
    let front : take next (bad.before ++ bad.event ∷ bad.behind) ≡ bad.before ++ bad.event ∷ [] =
    ap (λ (n : ℕ). take n (bad.before ++ bad.event ∷ bad.behind)) number ∙ taken bad.before bad.event bad.behind in
    same_ends before bad.before written bad.event (sym whole ∙ front)

pub legal_before : (snapshot : Snapshot) (events : List Event) (place : ℕ) (before : List Event) (written : Event) → IsFirstBad snapshot events place
    → take (place + 1) events ≡ before ++ written ∷ [] → IsLegal snapshot (reverse before)
legal_before snapshot events place before written bad cut =
    let next : place + 1 ≡ suc place = omega arith in
    let same = cut_same snapshot events place (place + 1) before written bad next cut in
    subst (λ es. IsLegal snapshot (reverse es)) same.front bad.legal

-- ---- what is due

keys_joined : (snapshot closing : Snapshot) (past : List Event) → IsClosing snapshot past closing → (written : Event)
    → held_under closing [] written ≡ held_under snapshot past written
keys_joined snapshot closing past closes (Offered outcome tag offer evicted) = ap option_to_list (sym (held-joined snapshot closing past closes offer.key []))
keys_joined snapshot closing past closes (Asked tag ask reply) =
    let set : KeyOf = key_at ask (Set ask.rtype) in
    let nx : KeyOf = key_at ask Nx in
    let failed : KeyOf = key_at ask (Failed ask.rtype) in
    let at : (key : KeyOf) → held closing [] key ≡ held snapshot past key = λ key. sym (held-joined snapshot closing past closes key []) in
    ap (λ (h : Option Entry). option_to_list h ++ (option_to_list (held closing [] nx) ++ option_to_list (held closing [] failed))) (at set)
    ∙ (ap (λ (h : Option Entry). option_to_list (held snapshot past set) ++ (option_to_list h ++ option_to_list (held closing [] failed))) (at nx)
    ∙ ap (λ (h : Option Entry). option_to_list (held snapshot past set) ++ (option_to_list (held snapshot past nx) ++ option_to_list h)) (at failed))
keys_joined snapshot closing past closes (Swept tag moment gone) = refl

due_joined : (snapshot closing : Snapshot) (past : List Event) → IsClosing snapshot past closing → IsLegal snapshot past → (written : Event) (due : Option Due)
    → IsDueThere closing [] written due → IsDueThere snapshot past written due
due_joined snapshot closing past closes legal written None (inl spent) = inl (omega (arith, closes.first, spent))
due_joined snapshot closing past closes legal written None (inr late) = inr late
due_joined snapshot closing past closes legal written (Some due) there = record {
  call = there.call;
  right = (legal-joined snapshot closing past closes legal (due.event ∷ []) (there.right, tt)).0;
  holds = there.holds ∙ keys_joined snapshot closing past closes written;
}

pub reason_of : (snapshot : Snapshot) (events : List Event) (place : ℕ) (before : List Event) (closing : Snapshot) (written : Event) (due : Option Due)
    → IsFirstBad snapshot events place → take (place + 1) events ≡ before ++ written ∷ [] → LeadTo snapshot before closing → IsDueThere closing [] written due
    → IsWhyUnlawful snapshot events place (record { written = written; due = due })
reason_of snapshot events place before closing written due bad cut leads there =
    let next : place + 1 ≡ suc place = omega arith in
    let same = cut_same snapshot events place (place + 1) before written bad next cut in
    record {
      before = before;
      behind = bad.behind;
      are = bad.are ∙ (ap (λ es. es ++ bad.event ∷ bad.behind) same.front ∙ ap (λ e. before ++ e ∷ bad.behind) same.last);
      at = ap length (sym same.front) ∙ bad.at;
      legal = leads.legal;
      bad = λ right. bad.bad (subst (λ es. IsRight snapshot (reverse es) bad.event) (sym same.front) (subst (IsRight snapshot (reverse before)) (sym same.last) right));
      instead = due_joined snapshot closing (reverse before) leads.closes leads.legal written due there;
    }
