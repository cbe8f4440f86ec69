-- SPDX-License-Identifier: MIT
-- The laws hold of every event that is right, and of every legal history.
use Rattle.std.specs.Prelude.{◌≡◌, ℕ, ◌⊎◌, List, [], ◌∷◌, Bool, true, false, Option, Some, None}
use Rattle.std.proofs.Common.{refl, sym, ap, ◌∙◌, inl, inr}
use Rattle.rrc_name.specs.declared.slot.Slot.TheVariants.{Set, Nx}
use Rattle.rrc_history.specs.declared.event.Event.{Event}
use Rattle.rrc_history.specs.declared.event.Event.TheVariants.{Offered, Asked, Swept}
use Rattle.rrc_history.specs.declared.event.Reply.{Reply}
use Rattle.rrc_history.specs.declared.event.Reply.TheVariants.{Miss}
use Rattle.rrc_history.specs.declared.snapshot.Entry.{Entry}
use Rattle.rrc_history.specs.declared.snapshot.Snapshot.{Snapshot}
use Rattle.rrc_history.specs.Asked.{AskOf}
use Rattle.rrc_history.specs.Judged.{governing, recent_failure, retry_from, reply_of, reply_of_entry, or_miss, may_serve, is_miss}
use Rattle.rrc_history.specs.Past.{held, found, key_at}
use Rattle.rrc_history.specs.Right.{IsRight, IsRightThen, IsRightAsk}
use Rattle.rrc_history.specs.Laws.{IsFor, IsStored, AnswersRightly, AnswersFromEntry, KeepsOrder, KeepsLaws}
use Rattle.rrc_history.specs.WholeLaws.{LegalKeepsLaws}
use Rattle.rrc_history.specs.lemmas.TrustHolds.{replaces_no_more_trusted, governing-is_held, governing-most_trusted, stops_holding}
use Rattle.rrc_history.specs.lemmas.LifeHolds.{held-is_stored, reply_of_entry-in_time, may_serve-is_trusted}
use Rattle.rrc_history.specs.lemmas.DataHolds.{reply_of_entry-has_data}

-- the entry governs, may serve and gives the reply
record IsGivenBy (stale : ℕ) (governs failure : Option Entry) (ask : AskOf) (reply : Reply) (entry : Entry) : Type 0 where
  governing_is : governs ≡ Some entry
  serves : may_serve ask.purpose entry.body ≡ true
  gives : reply_of_entry stale entry ask failure ≡ Some reply

-- a reply is a miss, or the governing entry gives it
miss_or_given : (stale : ℕ) (governs failure : Option Entry) (ask : AskOf) (reply : Reply) → reply ≡ or_miss (reply_of stale governs failure ask) failure
    → (is_miss reply ≡ true) ⊎ ((entry : Entry) × IsGivenBy stale governs failure ask reply entry)
miss_or_given stale None failure ask reply h = inl (ap is_miss h)
miss_or_given stale (Some entry) failure ask reply h = by (may_serve ask.purpose entry.body) refl (reply_of_entry stale entry ask failure) refl
  where
    by : (serves : Bool) → may_serve ask.purpose entry.body ≡ serves → (given : Option Reply) → reply_of_entry stale entry ask failure ≡ given
        → (is_miss reply ≡ true) ⊎ ((e : Entry) × IsGivenBy stale (Some entry) failure ask reply e)
    by false may given is = let miss : reply ≡ Miss (retry_from failure) = rw may at h in inl (ap is_miss miss)
    by true may None is = let miss : reply ≡ Miss (retry_from failure) = rw (may, is) at h in inl (ap is_miss miss)
    by true may (Some answer) is =
        let same : reply ≡ answer = rw (may, is) at h in
        inr (entry, record { governing_is = refl; serves = may; gives = is ∙ ap Some (sym same) })

-- the entry that governs an ask
abbrev governs : Snapshot → List Event → AskOf → Option Entry
governs snapshot past ask = governing (held snapshot past (key_at ask (Set ask.rtype))) (held snapshot past (key_at ask Nx)) ask.moment

-- the entry that governs an ask gives the reply
abbrev IsGiven : Snapshot → List Event → AskOf → Reply → Entry → Type 0
IsGiven snapshot past ask reply entry =
    IsGivenBy snapshot.rules.stale (governs snapshot past ask) (recent_failure (found snapshot past ask) ask.moment) ask reply entry

-- an entry for a name and a type was stored
stored_for : (snapshot : Snapshot) (past : List Event) (ask : AskOf) (entry : Entry) → IsFor snapshot past ask entry → IsStored snapshot past entry
stored_for snapshot past ask entry (inl is) = held-is_stored snapshot past (key_at ask (Set ask.rtype)) entry is
stored_for snapshot past ask entry (inr is) = held-is_stored snapshot past (key_at ask Nx) entry is

-- what the governing entry gives is right
rightly : (snapshot : Snapshot) (past : List Event) (ask : AskOf) (reply : Reply) (entry : Entry) → IsGiven snapshot past ask reply entry → AnswersRightly snapshot past ask reply entry
rightly snapshot past ask reply entry given =
    let set : Option Entry = held snapshot past (key_at ask (Set ask.rtype)) in
    let nx : Option Entry = held snapshot past (key_at ask Nx) in
    let is_for : IsFor snapshot past ask entry = governing-is_held set nx ask.moment entry given.governing_is in
    let failure : Option Entry = recent_failure (found snapshot past ask) ask.moment in
    record {
      held_for = is_for;
      stored = stored_for snapshot past ask entry is_for;
      data_of = reply_of_entry-has_data snapshot.rules.stale entry ask failure reply given.gives;
      trusted = λ earlier earlier_for less lives. governing-most_trusted set nx ask.moment entry earlier given.governing_is earlier_for less lives;
      in_time = reply_of_entry-in_time snapshot.rules.stale entry ask failure reply given.gives;
      purpose = may_serve-is_trusted ask.purpose entry.body given.serves;
    }

-- an answer that is right is given from an entry, rightly
answers_from_entry : (snapshot : Snapshot) (past : List Event) (ask : AskOf) (reply : Reply) → IsRightAsk snapshot past ask reply → AnswersFromEntry snapshot past ask reply
answers_from_entry snapshot past ask reply right =
    let failure : Option Entry = recent_failure (found snapshot past ask) ask.moment in
    elim (miss_or_given snapshot.rules.stale (governs snapshot past ask) failure ask reply right.answered) [
      | inl miss ↦ inl miss
      | inr given ↦ inr (given.0, rightly snapshot past ask reply given.0 given.1)
    ]

-- the laws of trust and of life hold of the answers and of what offers replace
keeps_order : (snapshot : Snapshot) (past : List Event) (event : Event) → IsRightThen snapshot past event → KeepsOrder snapshot past event
keeps_order snapshot past (Offered outcome tag offer evicted) right = replaces_no_more_trusted snapshot past offer outcome evicted right
keeps_order snapshot past (Asked tag ask reply) right = answers_from_entry snapshot past ask reply right
keeps_order snapshot past (Swept tag moment gone) right = tt

-- the laws hold of every event that is right
pub laws_hold : (snapshot : Snapshot) (past : List Event) (event : Event) → IsRight snapshot past event → KeepsLaws snapshot past event
laws_hold snapshot past event is = record { order = keeps_order snapshot past event is.right; stops = stops_holding snapshot past event }

-- a legal history keeps the laws
pub legal_keeps_laws : LegalKeepsLaws
legal_keeps_laws snapshot [] legal = tt
legal_keeps_laws snapshot (event ∷ past) legal = (laws_hold snapshot past event legal.0, legal_keeps_laws snapshot past legal.1)
