-- SPDX-License-Identifier: MIT
-- What becomes of an offer, and what an ask is answered, by what the keys hold.
use Rattle.std.specs.Prelude.{ℕ, ◌+◌, Bool, true, false, ◌&&◌, ◌==◌, nat_lt, if◌then◌else◌, Option, Some, None}
use Rattle.rrc_name.specs.classless.Key.{KeyOf}
use Rattle.rrc_history.specs.declared.body.Body.{Body}
use Rattle.rrc_history.specs.declared.body.Body.TheVariants.{Positive, Negative, Failure}
use Rattle.rrc_history.specs.declared.ask.Mode.{Mode}
use Rattle.rrc_history.specs.declared.ask.Mode.TheVariants.{NoStale, Failed as AfterFailure, Now}
use Rattle.rrc_history.specs.declared.event.Outcome.{Outcome}
use Rattle.rrc_history.specs.declared.event.Outcome.TheVariants.{Kept, Cleared, LessTrusted}
use Rattle.rrc_history.specs.declared.event.Reply.{Reply}
use Rattle.rrc_history.specs.declared.event.Reply.TheVariants.{Miss}
use Rattle.rrc_history.specs.declared.classless.Entry.{Entry}
use Rattle.rrc_history.specs.classless.Asked.{AskOf}
use Rattle.rrc_history.specs.classless.Fits.{OfferOf}
use Rattle.rrc_history.specs.classless.Lives.{age, is_unexpired}
use Rattle.rrc_history.specs.Lives.{ttl_of, rank_of}
use Rattle.rrc_history.specs.Judged.{may_serve, reply_of_living_set, reply_of_living_soa, is_miss}

-- the entry is unexpired and of strictly higher rank than the body
abbrev pub outranks : Entry → ℕ → Body → Bool
outranks entry moment body = is_unexpired entry moment && nat_lt (rank_of body) (rank_of entry.body)

abbrev pub is_outranked : Option Entry → OfferOf → Bool
is_outranked None offer = false
is_outranked (Some entry) offer = outranks entry offer.moment offer.body

-- what becomes of data: unexpired data of higher rank stay (RFC 2181 5.4.1), and a ttl of 0 clears
abbrev pub verdict_of_data : Option Entry → OfferOf → Outcome
verdict_of_data held offer =
    if is_outranked held offer then LessTrusted else if ttl_of offer.body == 0 then Cleared else Kept

-- what becomes of an offer where its key holds this; that asking failed is always kept
abbrev pub verdict_by : Option Entry → OfferOf → Body → Outcome
verdict_by held offer (Positive trust ttl owner items) = verdict_of_data held offer
verdict_by held offer (Negative trust ttl soa_owner soa) = verdict_of_data held offer
verdict_by held offer (Failure ttl) = Kept

abbrev pub verdict : Option Entry → OfferOf → Outcome
verdict held offer = verdict_by held offer offer.body

-- what the three keys of an ask hold: the set of its type, that the name does not exist, that asking failed
pub record Found : Type 0 where
  pub set : Option Entry
  pub nx : Option Entry
  pub failed : Option Entry

-- the later one governs, unless the earlier is unexpired and of strictly higher rank (RFC 2181 5.4.1, RFC 2308 5)
abbrev pub later_governs : Entry → Entry → ℕ → Entry
later_governs later earlier moment = if outranks earlier moment later.body then earlier else later

abbrev pub governing : Option Entry → Option Entry → ℕ → Option Entry
governing None nx moment = nx
governing (Some set) None moment = Some set
governing (Some set) (Some nx) moment =
    Some (if nat_lt set.number nx.number then later_governs nx set moment else later_governs set nx moment)

abbrev pub is_before : Option Entry → Entry → Bool
is_before None entry = true
is_before (Some other) entry = nat_lt other.number entry.number

-- asking failed, the failure lives, and nothing was learnt since (RFC 8767 5)
abbrev pub recent_failure : Found → ℕ → Option Entry
recent_failure found moment = elim found.failed [
  | None ↦ None
  | Some failure ↦
      if is_unexpired failure moment && (is_before found.set failure && is_before found.nx failure) then Some failure else None
]

-- from when on asking may be tried again
abbrev pub retry_from : Option Entry → Option ℕ
retry_from None = None
retry_from (Some failure) = Some (failure.moment + ttl_of failure.body)

-- a stale answer will do (RFC 8767 5)
abbrev pub may_be_stale : Mode → Option Entry → Bool
may_be_stale NoStale failure = false
may_be_stale Now failure = true
may_be_stale AfterFailure None = false
may_be_stale AfterFailure (Some failure) = true

-- the answer of an entry, if it has one
abbrev pub reply_of_body : ℕ → Entry → Body → AskOf → Option Entry → Option Reply
reply_of_body stale entry (Positive trust ttl owner items) ask failure =
    reply_of_living_set stale (record { owner = owner; items = items }) ttl (age entry ask.moment) (may_be_stale ask.mode failure)
reply_of_body stale entry (Negative trust ttl owner soa) ask failure =
    reply_of_living_soa entry.key.slot (record { owner = owner; octets = soa }) ttl (age entry ask.moment)
reply_of_body stale entry (Failure ttl) ask failure = None

abbrev pub reply_of_entry : ℕ → Entry → AskOf → Option Entry → Option Reply
reply_of_entry stale entry ask failure = reply_of_body stale entry entry.body ask failure

-- the answer of the governing entry, if there is one that may serve (RFC 2308 6, RFC 8767 4 and 5)
abbrev pub reply_of : ℕ → Option Entry → Option Entry → AskOf → Option Reply
reply_of stale None failure ask = None
reply_of stale (Some entry) failure ask = if may_serve ask.purpose entry.body then reply_of_entry stale entry ask failure else None

-- where nothing answers, from when on asking may be tried again
abbrev pub or_miss : Option Reply → Option Entry → Reply
or_miss None failure = Miss (retry_from failure)
or_miss (Some reply) failure = reply

-- what an ask is answered where its keys hold this
abbrev pub reply_by : ℕ → Found → AskOf → Reply
reply_by stale found ask =
    let failure = recent_failure found ask.moment in
    or_miss (reply_of stale (governing found.set found.nx ask.moment) failure ask) failure

-- the key of an entry, if there is one
abbrev pub key_in : Option Entry → Option KeyOf
key_in None = None
key_in (Some entry) = Some entry.key

-- the entry that gave an answer
abbrev pub answering : Found → AskOf → Reply → Option Entry
answering found ask reply = if is_miss reply then None else governing found.set found.nx ask.moment
