-- SPDX-License-Identifier: MIT
-- The events of one line after another: what became of each call is right in one way.
use Rattle.std.proofs.Common.{◌≡◌, ℕ, ◌+◌, ◌<◌, Bool, true, false, cond, eqb, List, [], ◌∷◌, ◌++◌, reverse, refl, sym, ap, subst, ◌∙◌}
use Rattle.std.proofs.lemmas.Bool.{eq-eqb}
use Rattle.std.proofs.lemmas.List.{reverse-append, append_assoc, append-nil}
use Rattle.rrc_history.specs.declared.event.Event.{Event}
use Rattle.rrc_history.specs.declared.event.Event.TheVariants.{Offered, Asked, Swept}
use Rattle.rrc_history.specs.declared.snapshot.Snapshot.{Snapshot}
use Rattle.rrc_history.specs.Asked.{AskOf}
use Rattle.rrc_history.specs.Fits.{OfferOf}
use Rattle.rrc_history.specs.Right.{IsRightThen, IsLegal}
use Rattle.rrc_history.specs.WholeLaws.{IsSameCall}
use Rattle.rrc_history.specs.lemmas.OneHistory.{one_event}
use Rattle.rrc_collate.specs.declared.script.Call.TheVariants as calls
use Rattle.rrc_collate.specs.declared.script.Operation.{Operation}
use Rattle.rrc_collate.specs.Calls.{tag_of, call_of, AreCalls, going_to}

-- ---- events behind a past

-- each event is right behind those before it, and behind a past, whose newest event comes first
abbrev pub AreRight : Snapshot → List Event → List Event → Type 0
AreRight snapshot past [] = Unit {0}
AreRight snapshot past (event ∷ events) = IsRightThen snapshot past event × AreRight snapshot (event ∷ past) events

-- a past, and events behind it
abbrev onto : List Event → List Event → List Event
onto past [] = past
onto past (event ∷ events) = onto (event ∷ past) events

legal_past : (snapshot : Snapshot) (past events : List Event) → IsLegal snapshot (onto past events) → IsLegal snapshot past
legal_past snapshot past [] legal = legal
legal_past snapshot past (event ∷ events) legal = (legal_past snapshot (event ∷ past) events legal).1

right_onto : (snapshot : Snapshot) (past events : List Event) → IsLegal snapshot (onto past events) → AreRight snapshot past events
right_onto snapshot past [] legal = tt
right_onto snapshot past (event ∷ events) legal = ((legal_past snapshot (event ∷ past) events legal).0.right, right_onto snapshot (event ∷ past) events legal)

reverse_is : (past events : List Event) → reverse events ++ past ≡ onto past events
reverse_is past [] = refl
reverse_is past (event ∷ events) =
    ap (λ l. l ++ past) (reverse-append (event ∷ []) events) ∙ (append_assoc (reverse events) (event ∷ []) past ∙ reverse_is (event ∷ past) events)

-- the events of a legal history are right, one behind the other
pub all_right : (snapshot : Snapshot) (events : List Event) → IsLegal snapshot (reverse events) → AreRight snapshot [] events
all_right snapshot events legal = right_onto snapshot [] events (subst (λ l. IsLegal snapshot l) (sym (append-nil (reverse events)) ∙ reverse_is [] events) legal)

-- ---- the pasts of parts

-- the pasts of parts, and an event behind that of its part
abbrev pub with_event : (ℕ → List Event) → ℕ → Event → ℕ → List Event
with_event pasts home event part = cond (eqb home part) (event ∷ pasts part) (pasts part)

-- the pasts of parts, and the events of operations behind them
abbrev pub with_events : (ℕ → List Event) → List Operation → List Event → ℕ → List Event
with_events pasts [] events = pasts
with_events pasts (operation ∷ operations) [] = pasts
with_events pasts (operation ∷ operations) (event ∷ events) = with_events (with_event pasts operation.part event) operations events

-- the events of operations, and others behind them, are right behind the past of each part
abbrev pub GoRight : Snapshot → ℕ → (ℕ → List Event) → List Operation → List Event → (ℕ → List Event) → Type 0
GoRight snapshot parts pasts operations events behind =
    (part : ℕ) → part < parts → AreRight snapshot (pasts part) (going_to part operations events ++ behind part)

-- each operation goes to a part that there is
abbrev pub AreHome : ℕ → List Operation → Type 0
AreHome parts [] = Unit {0}
AreHome parts (operation ∷ operations) = (operation.part < parts) × AreHome parts operations

go_on : (snapshot : Snapshot) (parts : ℕ) (pasts : ℕ → List Event) (operation : Operation) (operations : List Operation) (event : Event) (events : List Event) (behind : ℕ → List Event)
    → GoRight snapshot parts pasts (operation ∷ operations) (event ∷ events) behind → GoRight snapshot parts (with_event pasts operation.part event) operations events behind
go_on snapshot parts pasts operation operations event events behind right part below = by (eqb operation.part part) (right part below)
  where
    by : (same : Bool) → AreRight snapshot (pasts part) (cond same (event ∷ going_to part operations events) (going_to part operations events) ++ behind part)
        → AreRight snapshot (cond same (event ∷ pasts part) (pasts part)) (going_to part operations events ++ behind part)
    by true are = are.1
    by false are = are

first_right : (snapshot : Snapshot) (parts : ℕ) (pasts : ℕ → List Event) (operation : Operation) (operations : List Operation) (event : Event) (events : List Event) (behind : ℕ → List Event)
    → operation.part < parts → GoRight snapshot parts pasts (operation ∷ operations) (event ∷ events) behind → IsRightThen snapshot (pasts operation.part) event
first_right snapshot parts pasts operation operations event events behind below right = by (eqb home home) (eq-eqb home home refl) (right home below)
  where
    home : ℕ
    home = operation.part

    by : (same : Bool) → same ≡ true
        → AreRight snapshot (pasts operation.part) (cond same (event ∷ going_to operation.part operations events) (going_to operation.part operations events) ++ behind operation.part)
        → IsRightThen snapshot (pasts operation.part) event
    by true is are = are.0
    by false is are = absurd cc

-- what stands behind is right behind all
pub right_behind : (snapshot : Snapshot) (parts line place : ℕ) (pasts : ℕ → List Event) (operations : List Operation) (events : List Event) (behind : ℕ → List Event)
    → AreCalls line place operations events → GoRight snapshot parts pasts operations events behind → (part : ℕ) → part < parts
    → AreRight snapshot (with_events pasts operations events part) (behind part)
right_behind snapshot parts line place pasts [] [] behind are right part below = right part below
right_behind snapshot parts line place pasts [] (event ∷ events) behind are right part below = absurd are
right_behind snapshot parts line place pasts (operation ∷ operations) [] behind are right part below = absurd are
right_behind snapshot parts line place pasts (operation ∷ operations) (event ∷ events) behind are right part below =
    right_behind snapshot parts line (place + 1) (with_event pasts operation.part event) operations events behind are.2
    (go_on snapshot parts pasts operation operations event events behind right) part below

-- ---- the same calls

offer_is : (offer other : OfferOf) → calls.Offer offer ≡ calls.Offer other → offer ≡ other
offer_is offer other is = cc

ask_is : (ask other : AskOf) → calls.Ask ask ≡ calls.Ask other → ask ≡ other
ask_is ask other is = cc

sweep_is : (moment other : ℕ) → calls.Sweep moment ≡ calls.Sweep other → moment ≡ other
sweep_is moment other is = cc

same_call : (event other : Event) → tag_of event ≡ tag_of other → call_of event ≡ call_of other → IsSameCall event other
same_call (Offered outcome tag offer evicted) (Offered other_outcome other_tag other other_evicted) tags is = (tags, offer_is offer other is)
same_call (Asked tag ask reply) (Asked other_tag other other_reply) tags is = (tags, ask_is ask other is)
same_call (Swept tag moment gone) (Swept other_tag other other_gone) tags is = (tags, sweep_is moment other is)
same_call (Offered outcome tag offer evicted) (Asked other_tag other other_reply) tags is = absurd cc
same_call (Offered outcome tag offer evicted) (Swept other_tag other other_gone) tags is = absurd cc
same_call (Asked tag ask reply) (Offered other_outcome other_tag other other_evicted) tags is = absurd cc
same_call (Asked tag ask reply) (Swept other_tag other other_gone) tags is = absurd cc
same_call (Swept tag moment gone) (Offered other_outcome other_tag other other_evicted) tags is = absurd cc
same_call (Swept tag moment gone) (Asked other_tag other other_reply) tags is = absurd cc

-- where scripts begin with the same operation, so do the events
pub one_first : (snapshot : Snapshot) (parts line place : ℕ) (pasts : ℕ → List Event) (operation : Operation) (operations others : List Operation) (event other : Event) (events also : List Event)
    (behind later : ℕ → List Event) → operation.part < parts → AreCalls line place (operation ∷ operations) (event ∷ events) → AreCalls line place (operation ∷ others) (other ∷ also)
    → GoRight snapshot parts pasts (operation ∷ operations) (event ∷ events) behind → GoRight snapshot parts pasts (operation ∷ others) (other ∷ also) later → event ≡ other
one_first snapshot parts line place pasts operation operations others event other events also behind later below are also_are right also_right =
    one_event snapshot (pasts operation.part) event other (first_right snapshot parts pasts operation operations event events behind below right)
    (first_right snapshot parts pasts operation others other also later below also_right)
    (same_call event other (are.0 ∙ sym also_are.0) (are.1 ∙ sym also_are.1))

-- the same operations behind the same pasts have the same events
pub one_run : (snapshot : Snapshot) (parts line place : ℕ) (pasts : ℕ → List Event) (operations : List Operation) (events also : List Event) (behind later : ℕ → List Event)
    → AreHome parts operations → AreCalls line place operations events → AreCalls line place operations also → GoRight snapshot parts pasts operations events behind
    → GoRight snapshot parts pasts operations also later → events ≡ also
one_run snapshot parts line place pasts [] [] [] behind later home are also_are right also_right = refl
one_run snapshot parts line place pasts [] [] (other ∷ also) behind later home are also_are right also_right = absurd also_are
one_run snapshot parts line place pasts [] (event ∷ events) also behind later home are also_are right also_right = absurd are
one_run snapshot parts line place pasts (operation ∷ operations) [] also behind later home are also_are right also_right = absurd are
one_run snapshot parts line place pasts (operation ∷ operations) (event ∷ events) [] behind later home are also_are right also_right = absurd also_are
one_run snapshot parts line place pasts (operation ∷ operations) (event ∷ events) (other ∷ also) behind later home are also_are right also_right =
    let first : event ≡ other = one_first snapshot parts line place pasts operation operations operations event other events also behind later home.0 are also_are right also_right in
    let from_first : GoRight snapshot parts pasts (operation ∷ operations) (event ∷ also) later =
    subst (λ e. GoRight snapshot parts pasts (operation ∷ operations) (e ∷ also) later) (sym first) also_right in
    let rest : events ≡ also =
    one_run snapshot parts line (place + 1) (with_event pasts operation.part event) operations events also behind later home.1 are.2 also_are.2
    (go_on snapshot parts pasts operation operations event events behind right) (go_on snapshot parts pasts operation operations event also later from_first) in
    λ i. first i ∷ rest i
