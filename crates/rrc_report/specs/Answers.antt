-- SPDX-License-Identifier: MIT
-- What a line got, as the events of its operations tell it.
use Rattle.std.specs.Prelude.{◌≡◌, ℕ, List, [], ◌∷◌, length, map, Some, None}
use Rattle.rrc_history.specs.declared.event.Event.{Event}
use Rattle.rrc_history.specs.declared.event.Event.TheVariants.{Offered, Asked, Swept}
use Rattle.rrc_history.specs.declared.event.Reply.{Reply}
use Rattle.rrc_history.specs.declared.event.Reply.TheVariants.{Fresh, Stale, NoData, NxDomain, Miss}
use Rattle.rrc_trace.specs.declared.answer.Answer.{Answer}
use Rattle.rrc_trace.specs.declared.answer.Answer.TheVariants as answers
use Rattle.rrc_trace.specs.declared.answer.Told.{Told}

-- the event tells what became of an offer, and whom it evicted
abbrev pub TellsOutcome : Told → Event → Type 0
TellsOutcome told (Offered outcome tag offer evicted) = told ≡ record { outcome = outcome; evicted = evicted }
TellsOutcome told (Asked tag ask reply) = ⊥
TellsOutcome told (Swept tag moment gone) = ⊥

-- the event tells a reply
abbrev pub Replies : Reply → Event → Type 0
Replies reply (Offered outcome tag offer evicted) = ⊥
Replies reply (Asked tag ask other) = reply ≡ other
Replies reply (Swept tag moment gone) = ⊥

-- the event tells how many keys a sweep removed
abbrev pub Counts : ℕ → Event → Type 0
Counts count (Offered outcome tag offer evicted) = ⊥
Counts count (Asked tag ask reply) = ⊥
Counts count (Swept tag moment gone) = count ≡ length gone

-- each event tells what became of an offer, in order
abbrev pub TellAll : List Told → List Event → Type 0
TellAll [] [] = Unit {0}
TellAll (told ∷ later) (event ∷ events) = TellsOutcome told event × TellAll later events
TellAll told events = ⊥

-- each event tells what became of an offer, in order, and the last one a reply
abbrev pub TellFetched : List Told → Reply → List Event → Type 0
TellFetched [] reply (event ∷ []) = Replies reply event
TellFetched (told ∷ later) reply (event ∷ events) = TellsOutcome told event × TellFetched later reply events
TellFetched told reply events = ⊥

-- each event tells how many keys a sweep removed, in order
abbrev pub CountAll : List ℕ → List Event → Type 0
CountAll [] [] = Unit {0}
CountAll (count ∷ counts) (event ∷ events) = Counts count event × CountAll counts events
CountAll counts events = ⊥

-- the one event tells a reply
abbrev pub RepliesAlone : Reply → List Event → Type 0
RepliesAlone reply (event ∷ []) = Replies reply event
RepliesAlone reply events = ⊥

-- a reply is an answer, and no miss
abbrev pub IsHit : Reply → Type 0
IsHit (Fresh set left) = Unit {0}
IsHit (Stale set left) = Unit {0}
IsHit (NoData soa left) = Unit {0}
IsHit (NxDomain soa left) = Unit {0}
IsHit (Miss retry_from) = ⊥

-- the answer is what the events of a line tell
abbrev pub IsTold : Answer → List Event → Type 0
IsTold (answers.Put told) events = TellAll (told ∷ []) events
IsTold (answers.Ask reply) events = RepliesAlone reply events
IsTold (answers.Fail told) events = TellAll (told ∷ []) events
IsTold (answers.Response told) events = TellAll told events
IsTold (answers.Refused number) events = events ≡ []
IsTold (answers.Hit reply) events = IsHit reply × RepliesAlone reply events
IsTold (answers.Held moment) events = RepliesAlone (Miss (Some moment)) events
IsTold answers.Joined events = RepliesAlone (Miss None) events
IsTold (answers.Fetched told reply) [] = ⊥
IsTold (answers.Fetched told reply) (event ∷ events) = Replies (Miss None) event × TellFetched told reply events
IsTold (answers.Swept counts) events = CountAll counts events
IsTold answers.Closed events = events ≡ []

-- ---- what workers say, who can't tell whom an offer evicted

abbrev pub without_key : Told → Told
without_key told = record { outcome = told.outcome; evicted = None }

-- an answer with no evicted key
abbrev pub without_keys : Answer → Answer
without_keys (answers.Put told) = answers.Put (without_key told)
without_keys (answers.Ask reply) = answers.Ask reply
without_keys (answers.Fail told) = answers.Fail (without_key told)
without_keys (answers.Response told) = answers.Response (map without_key told)
without_keys (answers.Refused number) = answers.Refused number
without_keys (answers.Hit reply) = answers.Hit reply
without_keys (answers.Held moment) = answers.Held moment
without_keys answers.Joined = answers.Joined
without_keys (answers.Fetched told reply) = answers.Fetched (map without_key told) reply
without_keys (answers.Swept counts) = answers.Swept counts
without_keys answers.Closed = answers.Closed

-- the answer is what the events tell, and without its evicted keys it is the given one
pub record Completes (given answer : Answer) (events : List Event) : Type 0 where
  pub told : IsTold answer events
  pub same : given ≡ without_keys answer

-- events complete an answer in one way
abbrev pub OneCompletion : Type 0
OneCompletion = (given answer other : Answer) (events : List Event) → Completes given answer events → Completes given other events → answer ≡ other
