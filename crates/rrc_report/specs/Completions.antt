-- SPDX-License-Identifier: MIT
-- The answer that events complete, if there is one. The clauses of private functions alone cite these words.
use Rattle.std.specs.Prelude.{ℕ, List, [], ◌∷◌, length, Bool, true, false, ◌&&◌, ◌==◌, if◌then◌else◌, Option, Some, None}
use Rattle.std.specs.Option.{option_map}
use Rattle.rrc_name.specs.Key.{KeyOf}
use Rattle.rrc_history.specs.declared.event.Event.{Event}
use Rattle.rrc_history.specs.declared.event.Event.TheVariants.{Offered, Asked, Swept}
use Rattle.rrc_history.specs.declared.event.Reply.{Reply}
use Rattle.rrc_history.specs.declared.event.Reply.TheVariants.{Fresh, Stale, NoData, NxDomain, Miss}
use Rattle.rrc_history.specs.Auditing.{outcome_eq, reply_eq}
use Rattle.rrc_trace.specs.declared.answer.Answer.{Answer}
use Rattle.rrc_trace.specs.declared.answer.Answer.TheVariants as answers
use Rattle.rrc_trace.specs.declared.answer.Told.{Told}

-- ---- tests of one event

abbrev pub is_nobody : Option KeyOf → Bool
is_nobody None = true
is_nobody (Some key) = false

-- what became of an offer by its event, where nobody was told to be evicted and the outcome is the event's
abbrev pub told_by : Told → Event → Option Told
told_by told (Offered outcome tag offer evicted) =
    if outcome_eq told.outcome outcome && is_nobody told.evicted then Some (record { outcome = outcome; evicted = evicted }) else None
told_by told (Asked tag ask reply) = None
told_by told (Swept tag moment gone) = None

-- the event tells this reply
abbrev pub replies : Reply → Event → Bool
replies reply (Offered outcome tag offer evicted) = false
replies reply (Asked tag ask other) = reply_eq reply other
replies reply (Swept tag moment gone) = false

-- the event tells that so many keys were removed
abbrev pub counts : ℕ → Event → Bool
counts count (Offered outcome tag offer evicted) = false
counts count (Asked tag ask reply) = false
counts count (Swept tag moment gone) = count == length gone

abbrev pub is_hit : Reply → Bool
is_hit (Fresh set left) = true
is_hit (Stale set left) = true
is_hit (NoData soa left) = true
is_hit (NxDomain soa left) = true
is_hit (Miss retry_from) = false

-- ---- all events of a line

abbrev pub joined : {X : Type 0} → Option X → Option (List X) → Option (List X)
joined None rest = None
joined (Some first) None = None
joined (Some first) (Some rest) = Some (first ∷ rest)

abbrev pub all_told_by : List Told → List Event → Option (List Told)
all_told_by [] [] = Some []
all_told_by [] (event ∷ events) = None
all_told_by (told ∷ later) [] = None
all_told_by (told ∷ later) (event ∷ events) = joined (told_by told event) (all_told_by later events)

abbrev pub all_count : List ℕ → List Event → Bool
all_count [] [] = true
all_count [] (event ∷ events) = false
all_count (count ∷ later) [] = false
all_count (count ∷ later) (event ∷ events) = counts count event && all_count later events

abbrev pub is_empty : List Event → Bool
is_empty [] = true
is_empty (event ∷ events) = false

-- the events are one, and it tells this reply
abbrev pub replies_alone : Reply → List Event → Bool
replies_alone reply [] = false
replies_alone reply (event ∷ []) = replies reply event
replies_alone reply (event ∷ (next ∷ events)) = false

-- what became of an offer, where the events are one and tell it
abbrev pub one_told_by : Told → List Event → Option Told
one_told_by told [] = None
one_told_by told (event ∷ []) = told_by told event
one_told_by told (event ∷ (next ∷ events)) = None

-- what became of offers by their events, behind which the last one tells this reply
abbrev pub told_before : List Told → Reply → List Event → Option (List Told)
told_before [] reply events = if replies_alone reply events then Some [] else None
told_before (told ∷ later) reply [] = None
told_before (told ∷ later) reply (event ∷ events) = joined (told_by told event) (told_before later reply events)

-- what became of the offers of a fetch: it missed first, then offered, and then was told this reply
abbrev pub fetch_told_by : List Told → Reply → List Event → Option (List Told)
fetch_told_by told reply [] = None
fetch_told_by told reply (event ∷ events) = if replies (Miss None) event then told_before told reply events else None

-- ---- the answer

abbrev pub only_where : Bool → Answer → Option Answer
only_where told answer = if told then Some answer else None

-- the answer that events complete
abbrev pub complete : Answer → List Event → Option Answer
complete (answers.Put told) events = option_map answers.Put (one_told_by told events)
complete (answers.Ask reply) events = only_where (replies_alone reply events) (answers.Ask reply)
complete (answers.Fail told) events = option_map answers.Fail (one_told_by told events)
complete (answers.Response told) events = option_map answers.Response (all_told_by told events)
complete (answers.Refused number) events = only_where (is_empty events) (answers.Refused number)
complete (answers.Hit reply) events = only_where (is_hit reply && replies_alone reply events) (answers.Hit reply)
complete (answers.Held moment) events = only_where (replies_alone (Miss (Some moment)) events) (answers.Held moment)
complete answers.Joined events = only_where (replies_alone (Miss None) events) answers.Joined
complete (answers.Fetched told reply) events = option_map (λ told. answers.Fetched told reply) (fetch_told_by told reply events)
complete (answers.Swept counts) events = only_where (all_count counts events) (answers.Swept counts)
complete answers.Closed events = only_where (is_empty events) answers.Closed
