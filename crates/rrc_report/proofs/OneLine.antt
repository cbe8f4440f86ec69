-- SPDX-License-Identifier: MIT
-- One line: behind the same pasts of the parts it has one answer, one list of operations, and one list of events.
use Rattle.std.proofs.Common.{◌≡◌, ◌⊎◌, ℕ, zero, suc, ◌+◌, ◌<◌, ◌≤◌, List, [], ◌∷◌, ◌++◌, map, Some, None, refl, sym, ap, subst, ◌∙◌, inl, inr, arith}
use Rattle.std.proofs.lemmas.Nat.{mod_below}
use Rattle.rrc_name.specs.Key.{KeyOf}
use Rattle.rrc_name.specs.Wire.{folded}
use Rattle.rrc_history.specs.declared.event.Event.{Event}
use Rattle.rrc_history.specs.declared.event.Event.TheVariants.{Offered, Asked, Swept}
use Rattle.rrc_history.specs.declared.event.Reply.{Reply}
use Rattle.rrc_history.specs.declared.event.Reply.TheVariants.{Fresh, Stale, NoData, NxDomain, Miss}
use Rattle.rrc_history.specs.declared.snapshot.Snapshot.{Snapshot}
use Rattle.rrc_history.specs.Asked.{AskOf}
use Rattle.rrc_history.specs.Fits.{OfferOf}
use Rattle.rrc_name.specs.Parts.{part_of, hash_of}
use Rattle.rrc_sets.specs.Message.{Brings}
use Rattle.rrc_trace.specs.declared.line.Line.{Line}
use Rattle.rrc_trace.specs.declared.line.Line.TheVariants as lines
use Rattle.rrc_trace.specs.declared.line.Put.{Put}
use Rattle.rrc_trace.specs.declared.line.Failed.{Failed}
use Rattle.rrc_trace.specs.declared.line.Response.{Response}
use Rattle.rrc_trace.specs.declared.line.Fetch.{Fetch}
use Rattle.rrc_trace.specs.declared.answer.Answer.{Answer}
use Rattle.rrc_trace.specs.declared.answer.Answer.TheVariants as answers
use Rattle.rrc_trace.specs.declared.answer.Told.{Told}
use Rattle.rrc_collate.specs.declared.script.Operation.{Operation}
use Rattle.rrc_collate.specs.declared.task.Fate.{Fate}
use Rattle.rrc_collate.specs.declared.task.Fate.TheVariants as fates
use Rattle.rrc_collate.specs.Calls.{AreCalls}
use Rattle.rrc_script.specs.declared.config.Config.{Config}
use Rattle.rrc_script.specs.declared.script.Script.{Script}
use Rattle.rrc_script.specs.Scripts.{offer_of, failure_of, offering, asking, sweeping, plain, first_ask, last_ask, fetching, HasFaultOf, HasScript}
use Rattle.rrc_report.specs.Answers.{TellsOutcome, Replies, Counts, TellAll, TellFetched, CountAll, RepliesAlone, IsHit, IsTold}
use Rattle.rrc_script.proofs.Scripted.{OneMessageOrFault, not_both, one_number, one_script}
use Rattle.rrc_report.proofs.OneRun.{GoRight, AreHome, one_first, one_run}

-- ---- what events tell

one_told : (told other : Told) (event : Event) → TellsOutcome told event → TellsOutcome other event → told ≡ other
one_told told other (Offered outcome tag offer evicted) one two = one ∙ sym two
one_told told other (Asked tag ask reply) one two = absurd one
one_told told other (Swept tag moment gone) one two = absurd one

one_reply : (reply other : Reply) (event : Event) → Replies reply event → Replies other event → reply ≡ other
one_reply reply other (Offered outcome tag offer evicted) one two = absurd one
one_reply reply other (Asked tag ask replied) one two = one ∙ sym two
one_reply reply other (Swept tag moment gone) one two = absurd one

one_count : (count other : ℕ) (event : Event) → Counts count event → Counts other event → count ≡ other
one_count count other (Offered outcome tag offer evicted) one two = absurd one
one_count count other (Asked tag ask reply) one two = absurd one
one_count count other (Swept tag moment gone) one two = one ∙ sym two

all_told : (told others : List Told) (events : List Event) → TellAll told events → TellAll others events → told ≡ others
all_told [] [] events one two = refl
all_told [] (other ∷ others) [] one two = absurd two
all_told [] (other ∷ others) (event ∷ events) one two = absurd one
all_told (told ∷ later) [] [] one two = absurd one
all_told (told ∷ later) [] (event ∷ events) one two = absurd two
all_told (told ∷ later) (other ∷ others) [] one two = absurd one
all_told (told ∷ later) (other ∷ others) (event ∷ events) one two =
    let first = one_told told other event one.0 two.0 in
    let rest = all_told later others events one.1 two.1 in
    λ i. first i ∷ rest i

all_counted : (counts others : List ℕ) (events : List Event) → CountAll counts events → CountAll others events → counts ≡ others
all_counted [] [] events one two = refl
all_counted [] (other ∷ others) [] one two = absurd two
all_counted [] (other ∷ others) (event ∷ events) one two = absurd one
all_counted (count ∷ counts) [] [] one two = absurd one
all_counted (count ∷ counts) [] (event ∷ events) one two = absurd two
all_counted (count ∷ counts) (other ∷ others) [] one two = absurd one
all_counted (count ∷ counts) (other ∷ others) (event ∷ events) one two =
    let first = one_count count other event one.0 two.0 in
    let rest = all_counted counts others events one.1 two.1 in
    λ i. first i ∷ rest i

replied_alone : (reply other : Reply) (events : List Event) → RepliesAlone reply events → RepliesAlone other events → reply ≡ other
replied_alone reply other [] one two = absurd one
replied_alone reply other (event ∷ []) one two = one_reply reply other event one two
replied_alone reply other (event ∷ (next ∷ events)) one two = absurd one

none_fetched : (told : List Told) (reply : Reply) → TellFetched told reply [] → ⊥
none_fetched [] reply tell = tell
none_fetched (told ∷ later) reply tell = tell

all_fetched : (told others : List Told) (reply other : Reply) (events : List Event) → TellFetched told reply events → TellFetched others other events → (told ≡ others) × (reply ≡ other)
all_fetched told others reply other [] one two = absurd (none_fetched told reply one)
all_fetched [] [] reply other (event ∷ []) one two = (refl, one_reply reply other event one two)
all_fetched [] (first ∷ others) reply other (event ∷ []) one two = absurd (none_fetched others other two.1)
all_fetched (first ∷ told) [] reply other (event ∷ []) one two = absurd (none_fetched told reply one.1)
all_fetched (first ∷ told) (second ∷ others) reply other (event ∷ []) one two = absurd (none_fetched told reply one.1)
all_fetched [] others reply other (event ∷ (next ∷ events)) one two = absurd one
all_fetched (first ∷ told) [] reply other (event ∷ (next ∷ events)) one two = absurd two
all_fetched (first ∷ told) (second ∷ others) reply other (event ∷ (next ∷ events)) one two =
    let here = one_told first second event one.0 two.0 in
    let rest = all_fetched told others reply other (next ∷ events) one.1 two.1 in
    (λ i. here i ∷ rest.0 i, rest.1)

-- ---- where operations go

part_below : (name : List ℕ) (parts : ℕ) → 1 ≤ parts → part_of name parts < parts
part_below name parts some = mod_below (hash_of (folded name)) parts (omega (arith, some))

offers_home : (parts : ℕ) (offers : List OfferOf) → 1 ≤ parts → AreHome parts (map (offering parts) offers)
offers_home parts [] some = tt
offers_home parts (offer ∷ offers) some = (part_below offer.key.name parts some, offers_home parts offers some)

fetch_home : (parts : ℕ) (fetch : Fetch) (offers : List OfferOf) → 1 ≤ parts → AreHome parts (map (offering parts) offers ++ last_ask parts fetch ∷ [])
fetch_home parts fetch [] some = (part_below (folded fetch.name) parts some, tt)
fetch_home parts fetch (offer ∷ offers) some = (part_below offer.key.name parts some, fetch_home parts fetch offers some)

sweeps_home : (parts moment part count : ℕ) → part + count ≤ parts → AreHome parts (sweeping moment part count)
sweeps_home parts moment part zero within = tt
sweeps_home parts moment part (suc count) within = (omega (arith, within), sweeps_home parts moment (part + 1) count (omega (arith, within)))

-- ---- a line that was done

-- no other fetch stood in for it
abbrev pub IsAlone : Fate → Type 0
IsAlone fates.Plain = Unit {0}
IsAlone (fates.Joined question) = ⊥
IsAlone (fates.Fetched question home) = Unit {0}

-- what was done of a line, behind pasts of the parts
pub record IsLineDone (snapshot : Snapshot) (config : Config) (questions : List KeyOf) (pasts : ℕ → List Event) (number : ℕ) (line : Line) (answer : Answer) (operations : List Operation) (events : List Event) : Type 0 where
  pub fate : Fate
  pub behind : ℕ → List Event
  pub script : HasScript config questions line answer (record { operations = operations; fate = fate })
  pub alone : IsAlone fate
  pub calls : AreCalls number 0 operations events
  pub told : IsTold answer events
  pub right : GoRight snapshot config.parts pasts operations events behind

-- the answer, the operations and the events are the same
pub record AreSame (answer other : Answer) (operations others : List Operation) (events also : List Event) : Type 0 where
  pub answers_are : answer ≡ other
  pub operations_are : operations ≡ others
  pub events_are : events ≡ also

-- an answer of one kind, and the operations of a plan
record IsMade (X : Type 0) (make : X → Answer) (answer : Answer) (operations planned : List Operation) : Type 0 where
  value : X
  answer_is : answer ≡ make value
  operations_are : operations ≡ planned

-- lines that were done by the same plan were done in the same way
made_same : (X : Type 0) (make : X → Answer) (planned : List Operation) (snapshot : Snapshot) (config : Config) (questions : List KeyOf) (pasts : ℕ → List Event) (number : ℕ) (line : Line)
    (answer other : Answer) (operations others : List Operation) (events also : List Event) → ((x y : X) (es : List Event) → IsTold (make x) es → IsTold (make y) es → x ≡ y)
    → AreHome config.parts planned → IsMade X make answer operations planned → IsMade X make other others planned
    → IsLineDone snapshot config questions pasts number line answer operations events → IsLineDone snapshot config questions pasts number line other others also
    → AreSame answer other operations others events also
made_same X make planned snapshot config questions pasts number line answer other operations others events also once home one two done other_done =
    record { answers_are = one.answer_is ∙ (ap make values ∙ sym two.answer_is); operations_are = one.operations_are ∙ sym two.operations_are; events_are = same }
  where
    same : events ≡ also
    same =
        one_run snapshot config.parts number 0 pasts planned events also done.behind other_done.behind home
        (subst (λ os. AreCalls number 0 os events) one.operations_are done.calls)
        (subst (λ os. AreCalls number 0 os also) two.operations_are other_done.calls)
        (subst (λ os. GoRight snapshot config.parts pasts os events done.behind) one.operations_are done.right)
        (subst (λ os. GoRight snapshot config.parts pasts os also other_done.behind) two.operations_are other_done.right)

    here : IsTold (make one.value) also
    here = subst (λ es. IsTold (make one.value) es) same (subst (λ a. IsTold a events) one.answer_is done.told)

    values : one.value ≡ two.value
    values = once one.value two.value also here (subst (λ a. IsTold a also) two.answer_is other_done.told)

-- the script of operations
abbrev script_of : List Operation → Fate → Script
script_of operations fate = record { operations = operations; fate = fate }

operations_in : (script other : Script) → script ≡ other → script.operations ≡ other.operations
operations_in script other is = ap (λ (s : Script). s.operations) is

-- ---- lines with one plan

of_put : (config : Config) (questions : List KeyOf) (put : Put) (answer : Answer) (script : Script) → HasScript config questions (lines.Put put) answer script
    → IsMade Told answers.Put answer script.operations (offering config.parts (offer_of config.limits put) ∷ [])
of_put config questions put (answers.Put told) script has = record { value = told; answer_is = refl; operations_are = operations_in script (plain (offering config.parts (offer_of config.limits put) ∷ [])) has }
of_put config questions put answer script has = absurd has

of_ask : (config : Config) (questions : List KeyOf) (ask : AskOf) (answer : Answer) (script : Script) → HasScript config questions (lines.Ask ask) answer script
    → IsMade Reply answers.Ask answer script.operations (asking config.parts ask ∷ [])
of_ask config questions ask (answers.Ask reply) script has = record { value = reply; answer_is = refl; operations_are = operations_in script (plain (asking config.parts ask ∷ [])) has }
of_ask config questions ask answer script has = absurd has

-- what a line offers that tells of a failure
abbrev failed_offer : Config → Failed → OfferOf
failed_offer config failed = failure_of config.limits failed.moment failed.name failed.class failed.rtype

of_fail : (config : Config) (questions : List KeyOf) (failed : Failed) (answer : Answer) (script : Script) → HasScript config questions (lines.Fail failed) answer script
    → IsMade Told answers.Fail answer script.operations (offering config.parts (failed_offer config failed) ∷ [])
of_fail config questions failed (answers.Fail told) script has =
    record { value = told; answer_is = refl; operations_are = operations_in script (plain (offering config.parts (failed_offer config failed) ∷ [])) has }
of_fail config questions failed answer script has = absurd has

of_sweep : (config : Config) (questions : List KeyOf) (moment : ℕ) (answer : Answer) (script : Script) → HasScript config questions (lines.Sweep moment) answer script
    → IsMade (List ℕ) answers.Swept answer script.operations (sweeping moment 0 config.parts)
of_sweep config questions moment (answers.Swept counts) script has =
    record { value = counts; answer_is = refl; operations_are = operations_in script (plain (sweeping moment 0 config.parts)) has }
of_sweep config questions moment answer script has = absurd has

abbrev closed : Unit {0} → Answer
closed unit = answers.Closed

of_checkpoint : (config : Config) (questions : List KeyOf) (answer : Answer) (script : Script) → HasScript config questions lines.Checkpoint answer script
    → IsMade (Unit {0}) closed answer script.operations []
of_checkpoint config questions answers.Closed script has = record { value = tt; answer_is = refl; operations_are = operations_in script (plain []) has }
of_checkpoint config questions answer script has = absurd has

first_told : (told other : Told) (events : List Event) → TellAll (told ∷ []) events → TellAll (other ∷ []) events → told ≡ other
first_told told other [] one two = absurd one
first_told told other (event ∷ events) one two = one_told told other event one.0 two.0

-- ---- responses

-- a response that brought offers, or one that was refused
abbrev WasAnswered : Config → Response → Answer → List Operation → Type 0
WasAnswered config response answer operations =
    (offers : List OfferOf) × (Brings config.limits response.octets response.zone response.moment offers × IsMade (List Told) answers.Response answer operations (map (offering config.parts) offers))

abbrev WasRefused : Config → Response → Answer → List Operation → Type 0
WasRefused config response answer operations = (number : ℕ) × (HasFaultOf response.octets number × IsMade (Unit {0}) (λ unit. answers.Refused number) answer operations [])

of_response : (config : Config) (questions : List KeyOf) (response : Response) (answer : Answer) (script : Script) → HasScript config questions (lines.Response response) answer script
    → WasAnswered config response answer script.operations ⊎ WasRefused config response answer script.operations
of_response config questions response (answers.Response told) script has =
    inl (has.offers, (has.brought, record { value = told; answer_is = refl; operations_are = operations_in script (plain (map (offering config.parts) has.offers)) has.is }))
of_response config questions response (answers.Refused number) script has =
    inr (number, (has.0, record { value = tt; answer_is = refl; operations_are = operations_in script (plain []) has.1 }))
of_response config questions response answer script has = absurd has

-- answers of one kind, which call for the same whatever they say, have one plan
same_plan : OneMessageOrFault → (X : Type 0) (make : X → Answer) (config : Config) (questions : List KeyOf) (line : Line) (planned more : List Operation) (answer other : Answer)
    (script also : Script) → ((x y : X) (s : Script) → HasScript config questions line (make x) s → HasScript config questions line (make y) s)
    → IsMade X make answer script.operations planned → IsMade X make other also.operations more → HasScript config questions line answer script
    → HasScript config questions line other also → IsMade X make other also.operations planned
same_plan law X make config questions line planned more answer other script also whatever one two has also_has =
    let here : HasScript config questions line (make one.value) script = subst (λ a. HasScript config questions line a script) one.answer_is has in
    let there : HasScript config questions line (make two.value) also = subst (λ a. HasScript config questions line a also) two.answer_is also_has in
    let same : also ≡ script = one_script law config questions line (make one.value) also script (whatever two.value one.value also there) here in
    record { value = two.value; answer_is = two.answer_is; operations_are = operations_in also script same ∙ one.operations_are }

response_same : OneMessageOrFault → (snapshot : Snapshot) (config : Config) (questions : List KeyOf) (pasts : ℕ → List Event) (number : ℕ) (response : Response) (answer other : Answer)
    (operations others : List Operation) (events also : List Event) → 1 ≤ config.parts → WasAnswered config response answer operations ⊎ WasRefused config response answer operations
    → WasAnswered config response other others ⊎ WasRefused config response other others
    → IsLineDone snapshot config questions pasts number (lines.Response response) answer operations events
    → IsLineDone snapshot config questions pasts number (lines.Response response) other others also → AreSame answer other operations others events also
response_same law snapshot config questions pasts number response answer other operations others events also some (inl one) (inl two) done other_done =
    let planned = map (offering config.parts) one.0 in
    let plan : IsMade (List Told) answers.Response other others planned =
    same_plan law (List Told) answers.Response config questions (lines.Response response) planned (map (offering config.parts) two.0) answer other (script_of operations done.fate)
    (script_of others other_done.fate) (λ told more script has. has) one.1.1 two.1.1 done.script other_done.script in
    made_same (List Told) answers.Response planned snapshot config questions pasts number (lines.Response response) answer other operations others events also
    all_told (offers_home config.parts one.0 some) one.1.1 plan done other_done
response_same law snapshot config questions pasts number response answer other operations others events also some (inl one) (inr two) done other_done =
    absurd (not_both law response.octets one.1.0.message two.1.0.0 one.1.0.begins two.1.0.1.0)
response_same law snapshot config questions pasts number response answer other operations others events also some (inr one) (inl two) done other_done =
    absurd (not_both law response.octets two.1.0.message one.1.0.0 two.1.0.begins one.1.0.1.0)
response_same law snapshot config questions pasts number response answer other operations others events also some (inr one) (inr two) done other_done =
    let of_fault : two.0 ≡ one.0 = one_number law response.octets two.0 one.0 two.1.0 one.1.0 in
    let same_fault : IsMade (Unit {0}) (λ unit. answers.Refused one.0) other others [] = subst (λ n. IsMade (Unit {0}) (λ unit. answers.Refused n) other others []) of_fault two.1.1 in
    made_same (Unit {0}) (λ unit. answers.Refused one.0) [] snapshot config questions pasts number (lines.Response response) answer other operations others events also
    (λ x y es left right. refl) tt one.1.1 same_fault done other_done

-- ---- fetches

-- the answer of a fetch that was not made
abbrev found_by : Reply → Answer
found_by (Fresh set left) = answers.Hit (Fresh set left)
found_by (Stale set left) = answers.Hit (Stale set left)
found_by (NoData soa left) = answers.Hit (NoData soa left)
found_by (NxDomain soa left) = answers.Hit (NxDomain soa left)
found_by (Miss (Some moment)) = answers.Held moment
found_by (Miss None) = answers.Joined

-- the answer of a fetch that was made
abbrev got_by : List Told × Reply → Answer
got_by got = answers.Fetched got.0 got.1

hit_found : (reply : Reply) → IsHit reply → answers.Hit reply ≡ found_by reply
hit_found (Fresh set left) hit = refl
hit_found (Stale set left) hit = refl
hit_found (NoData soa left) hit = refl
hit_found (NxDomain soa left) hit = refl
hit_found (Miss retry_from) hit = absurd hit

told_found : (reply : Reply) (events : List Event) → IsTold (found_by reply) events → RepliesAlone reply events
told_found (Fresh set left) events told = told.1
told_found (Stale set left) events told = told.1
told_found (NoData soa left) events told = told.1
told_found (NxDomain soa left) events told = told.1
told_found (Miss (Some moment)) events told = told
told_found (Miss None) events told = told

one_found : (reply other : Reply) (events : List Event) → IsTold (found_by reply) events → IsTold (found_by other) events → reply ≡ other
one_found reply other events one two = replied_alone reply other events (told_found reply events one) (told_found other events two)

one_got : (got other : List Told × Reply) (events : List Event) → IsTold (got_by got) events → IsTold (got_by other) events → got ≡ other
one_got got other [] one two = absurd one
one_got got other (event ∷ events) one two = let both = all_fetched got.0 other.0 got.1 other.1 events one.1 two.1 in λ i. (both.0 i, both.1 i)

-- a fetch that needed none
record WasFound (config : Config) (fetch : Fetch) (answer : Answer) (operations : List Operation) : Type 0 where
  made : IsMade Reply found_by answer operations (first_ask config.parts fetch ∷ [])
  known : made.value ≡ Miss None → ⊥

-- a fetch that was made
record WasFetched (config : Config) (fetch : Fetch) (answer : Answer) (operations : List Operation) : Type 0 where
  offers : List OfferOf
  made : IsMade (List Told × Reply) got_by answer operations (fetching config.parts fetch offers)

hit_known : (reply : Reply) → IsHit reply → reply ≡ Miss None → ⊥
hit_known reply hit is = subst IsHit is hit

held_known : (moment : ℕ) → Miss (Some moment) ≡ Miss None → ⊥
held_known moment is = absurd cc

joined_alone : (script : Script) (operations : List Operation) (question : ℕ) → script ≡ record { operations = operations; fate = fates.Joined question } → IsAlone script.fate → ⊥
joined_alone script operations question is alone = subst IsAlone (ap (λ (s : Script). s.fate) is) alone

of_fetch : (config : Config) (questions : List KeyOf) (fetch : Fetch) (answer : Answer) (script : Script) (events : List Event) → HasScript config questions (lines.Fetch fetch) answer script
    → IsAlone script.fate → IsTold answer events → WasFound config fetch answer script.operations ⊎ WasFetched config fetch answer script.operations
of_fetch config questions fetch (answers.Hit reply) script events has alone told =
    inl (record {
      made = record { value = reply; answer_is = hit_found reply told.0; operations_are = operations_in script (plain (first_ask config.parts fetch ∷ [])) has };
      known = hit_known reply told.0;
    })
of_fetch config questions fetch (answers.Held moment) script events has alone told =
    inl (record {
      made = record { value = Miss (Some moment); answer_is = refl; operations_are = operations_in script (plain (first_ask config.parts fetch ∷ [])) has };
      known = held_known moment;
    })
of_fetch config questions fetch answers.Joined script events has alone told = absurd (joined_alone script (first_ask config.parts fetch ∷ []) has.question has.is alone)
of_fetch config questions fetch (answers.Fetched told_all reply) script events has alone told =
    inr (record {
      offers = has.offers;
      made = record {
        value = (told_all, reply);
        answer_is = refl;
        operations_are =
            operations_in script (script_of (fetching config.parts fetch has.offers) (fates.Fetched has.question (part_of fetch.name config.parts))) has.is;
      };
    })
of_fetch config questions fetch answer script events has alone told = absurd has

-- a fetch that was made got no answer at first
fetch_misses : (snapshot : Snapshot) (parts number : ℕ) (pasts : ℕ → List Event) (operation : Operation) (operations others : List Operation) (events also : List Event) (behind later : ℕ → List Event)
    (reply : Reply) (got : List Told × Reply) → operation.part < parts → AreCalls number 0 (operation ∷ operations) events → AreCalls number 0 (operation ∷ others) also
    → GoRight snapshot parts pasts (operation ∷ operations) events behind → GoRight snapshot parts pasts (operation ∷ others) also later → RepliesAlone reply events → IsTold (got_by got) also
    → reply ≡ Miss None
fetch_misses snapshot parts number pasts operation operations others [] also behind later reply got below are also_are right also_right replied told = absurd are
fetch_misses snapshot parts number pasts operation operations others (event ∷ (next ∷ events)) also behind later reply got below are also_are right also_right replied told = absurd replied
fetch_misses snapshot parts number pasts operation operations others (event ∷ []) [] behind later reply got below are also_are right also_right replied told = absurd also_are
fetch_misses snapshot parts number pasts operation operations others (event ∷ []) (other ∷ also) behind later reply got below are also_are right also_right replied told =
    let same : event ≡ other = one_first snapshot parts number 0 pasts operation operations others event other [] also behind later below are also_are right also_right in
    one_reply reply (Miss None) other (subst (λ e. Replies reply e) same replied) told.0

found_or_fetched : (snapshot : Snapshot) (config : Config) (questions : List KeyOf) (pasts : ℕ → List Event) (number : ℕ) (fetch : Fetch) (answer other : Answer) (operations others : List Operation)
    (events also : List Event) → 1 ≤ config.parts → WasFound config fetch answer operations → WasFetched config fetch other others
    → IsLineDone snapshot config questions pasts number (lines.Fetch fetch) answer operations events
    → IsLineDone snapshot config questions pasts number (lines.Fetch fetch) other others also → ⊥
found_or_fetched snapshot config questions pasts number fetch answer other operations others events also some one two done other_done =
    let parts = config.parts in
    let behind_first = map (offering parts) two.offers ++ last_ask parts fetch ∷ [] in
    one.known
    (fetch_misses snapshot parts number pasts (first_ask parts fetch) [] behind_first events also done.behind other_done.behind one.made.value two.made.value (part_below (folded fetch.name) parts some)
    (subst (λ os. AreCalls number 0 os events) one.made.operations_are done.calls)
    (subst (λ os. AreCalls number 0 os also) two.made.operations_are other_done.calls)
    (subst (λ os. GoRight snapshot parts pasts os events done.behind) one.made.operations_are done.right)
    (subst (λ os. GoRight snapshot parts pasts os also other_done.behind) two.made.operations_are other_done.right)
    (told_found one.made.value events (subst (λ a. IsTold a events) one.made.answer_is done.told))
    (subst (λ a. IsTold a also) two.made.answer_is other_done.told))

fetch_same : OneMessageOrFault → (snapshot : Snapshot) (config : Config) (questions : List KeyOf) (pasts : ℕ → List Event) (number : ℕ) (fetch : Fetch) (answer other : Answer)
    (operations others : List Operation) (events also : List Event) → 1 ≤ config.parts → WasFound config fetch answer operations ⊎ WasFetched config fetch answer operations
    → WasFound config fetch other others ⊎ WasFetched config fetch other others → IsLineDone snapshot config questions pasts number (lines.Fetch fetch) answer operations events
    → IsLineDone snapshot config questions pasts number (lines.Fetch fetch) other others also → AreSame answer other operations others events also
fetch_same law snapshot config questions pasts number fetch answer other operations others events also some (inl one) (inl two) done other_done =
    made_same Reply found_by (first_ask config.parts fetch ∷ []) snapshot config questions pasts number (lines.Fetch fetch) answer other operations others events also
    one_found (part_below (folded fetch.name) config.parts some, tt) one.made two.made done other_done
fetch_same law snapshot config questions pasts number fetch answer other operations others events also some (inl one) (inr two) done other_done =
    absurd (found_or_fetched snapshot config questions pasts number fetch answer other operations others events also some one two done other_done)
fetch_same law snapshot config questions pasts number fetch answer other operations others events also some (inr one) (inl two) done other_done =
    absurd (found_or_fetched snapshot config questions pasts number fetch other answer others operations also events some two one other_done done)
fetch_same law snapshot config questions pasts number fetch answer other operations others events also some (inr one) (inr two) done other_done =
    let planned = fetching config.parts fetch one.offers in
    let plan : IsMade (List Told × Reply) got_by other others planned =
    same_plan law (List Told × Reply) got_by config questions (lines.Fetch fetch) planned (fetching config.parts fetch two.offers) answer other (script_of operations done.fate)
    (script_of others other_done.fate) (λ got more script has. has) one.made two.made done.script other_done.script in
    made_same (List Told × Reply) got_by planned snapshot config questions pasts number (lines.Fetch fetch) answer other operations others events also
    one_got (part_below (folded fetch.name) config.parts some, fetch_home config.parts fetch one.offers some) one.made plan done other_done

-- ---- any line

-- a line that was done twice, behind the same pasts of the parts, was done in the same way
pub line_same : OneMessageOrFault → (snapshot : Snapshot) (config : Config) (questions : List KeyOf) (pasts : ℕ → List Event) (number : ℕ) (line : Line) (answer other : Answer)
    (operations others : List Operation) (events also : List Event) → 1 ≤ config.parts → IsLineDone snapshot config questions pasts number line answer operations events
    → IsLineDone snapshot config questions pasts number line other others also → AreSame answer other operations others events also
line_same law snapshot config questions pasts number (lines.Put put) answer other operations others events also some done other_done =
    let offer = offer_of config.limits put in
    made_same Told answers.Put (offering config.parts offer ∷ []) snapshot config questions pasts number (lines.Put put) answer other operations others events also
    first_told (part_below offer.key.name config.parts some, tt)
    (of_put config questions put answer (script_of operations done.fate) done.script) (of_put config questions put other (script_of others other_done.fate) other_done.script) done other_done
line_same law snapshot config questions pasts number (lines.Ask ask) answer other operations others events also some done other_done =
    made_same Reply answers.Ask (asking config.parts ask ∷ []) snapshot config questions pasts number (lines.Ask ask) answer other operations others events also
    replied_alone (part_below ask.name config.parts some, tt)
    (of_ask config questions ask answer (script_of operations done.fate) done.script) (of_ask config questions ask other (script_of others other_done.fate) other_done.script) done other_done
line_same law snapshot config questions pasts number (lines.Fail failed) answer other operations others events also some done other_done =
    let offer = failed_offer config failed in
    made_same Told answers.Fail (offering config.parts offer ∷ []) snapshot config questions pasts number (lines.Fail failed) answer other operations others events also
    first_told (part_below offer.key.name config.parts some, tt)
    (of_fail config questions failed answer (script_of operations done.fate) done.script) (of_fail config questions failed other (script_of others other_done.fate) other_done.script) done other_done
line_same law snapshot config questions pasts number (lines.Response response) answer other operations others events also some done other_done =
    response_same law snapshot config questions pasts number response answer other operations others events also some
    (of_response config questions response answer (script_of operations done.fate) done.script) (of_response config questions response other (script_of others other_done.fate) other_done.script)
    done other_done
line_same law snapshot config questions pasts number (lines.Fetch fetch) answer other operations others events also some done other_done =
    fetch_same law snapshot config questions pasts number fetch answer other operations others events also some
    (of_fetch config questions fetch answer (script_of operations done.fate) events done.script done.alone done.told)
    (of_fetch config questions fetch other (script_of others other_done.fate) also other_done.script other_done.alone other_done.told) done other_done
line_same law snapshot config questions pasts number (lines.Sweep moment) answer other operations others events also some done other_done =
    made_same (List ℕ) answers.Swept (sweeping moment 0 config.parts) snapshot config questions pasts number (lines.Sweep moment) answer other operations others events also
    all_counted (sweeps_home config.parts moment 0 config.parts (omega arith))
    (of_sweep config questions moment answer (script_of operations done.fate) done.script) (of_sweep config questions moment other (script_of others other_done.fate) other_done.script) done other_done
line_same law snapshot config questions pasts number lines.Checkpoint answer other operations others events also some done other_done =
    made_same (Unit {0}) closed [] snapshot config questions pasts number lines.Checkpoint answer other operations others events also
    (λ x y es left right. refl) tt
    (of_checkpoint config questions answer (script_of operations done.fate) done.script) (of_checkpoint config questions other (script_of others other_done.fate) other_done.script) done other_done
