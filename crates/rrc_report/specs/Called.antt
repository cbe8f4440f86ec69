-- SPDX-License-Identifier: MIT
-- What the answer of a line tells of the calls that it made. What each call does to a cache is for a relation to say, which is that of the trait
-- `Calls`: this call, with this answer, leads from this state to that one. Nothing is known of it but that a call that was answered stands in it. So a
-- chain of calls from the state before a line to the state after it is just the calls that the line made, in their order.
use Rattle.std.specs.Prelude.{◌≡◌, ℕ, zero, suc, ◌+◌, List, [], ◌∷◌, length, Option, Some, None}
use Rattle.rrc_history.specs.declared.ask.Mode.TheVariants as modes
use Rattle.rrc_history.specs.declared.event.Outcome.{Outcome}
use Rattle.rrc_history.specs.declared.event.Reply.{Reply}
use Rattle.rrc_history.specs.declared.event.Reply.TheVariants.{Miss}
use Rattle.rrc_history.specs.declared.event.Tag.{Tag}
use Rattle.rrc_history.specs.Asked.{AskOf}
use Rattle.rrc_history.specs.Fits.{OfferOf}
use Rattle.rrc_sets.specs.declared.limits.Limits.{Limits}
use Rattle.rrc_sets.specs.Message.{Brings}
use Rattle.rrc_trace.specs.declared.line.Line.{Line}
use Rattle.rrc_trace.specs.declared.line.Line.TheVariants as lines
use Rattle.rrc_trace.specs.declared.line.Response.{Response}
use Rattle.rrc_trace.specs.declared.line.Fetch.{Fetch}
use Rattle.rrc_trace.specs.declared.answer.Answer.{Answer}
use Rattle.rrc_trace.specs.declared.answer.Answer.TheVariants as answers
use Rattle.rrc_trace.specs.declared.answer.Told.{Told}
use Rattle.rrc_script.specs.Scripts.{offer_of, failure_of, Fetches, ask_of, HasFaultOf}
use Rattle.rrc_report.specs.Answers.{IsHit}

-- a call on a cache and its answer: the offer with this tag got this outcome, the ask with this tag got this reply, from this part the sweep with this
-- tag of this moment removed so many keys, or this part's chapter was closed
pub data CallMade : Type 0 where
  Offered : Tag → OfferOf → Outcome → CallMade
  Asked : Tag → AskOf → Reply → CallMade
  Swept : ℕ → Tag → ℕ → ℕ → CallMade
  Closed : ℕ → CallMade

-- where a call stands: its line, and its place among the calls of the line
abbrev pub tag_at : ℕ → ℕ → Tag
tag_at line place = record { line = line; place = place }

-- below, `old` is the cache before the calls, and `new` the cache after them
module _ {S : Type 0} (makes : S → CallMade → S → Type 0) where
  -- ---- offers

  -- the offer with this tag got the outcome that is told; whom it evicted no call answers, so no key is told
  pub record IsOffered (tag : Tag) (offer : OfferOf) (old new : S) (told : Told) : Type 0 where
    pub outcome : makes old (Offered tag offer told.outcome) new
    pub evicted : told.evicted ≡ None

  -- each offer was made, in order, and it is told what it got; the first of them stands at this place
  abbrev pub AreOffered : ℕ → ℕ → List OfferOf → S → S → List Told → Type 0
  AreOffered line place [] old new [] = new ≡ old
  AreOffered line place (offer ∷ offers) old new (told ∷ later) =
      (middle : S) × IsOffered (tag_at line place) offer old middle told × AreOffered line (place + 1) offers middle new later
  AreOffered line place offers old new told = ⊥

  -- ---- responses

  -- a response that is a message: its offers stand at the places 0, 1, ..
  pub record AreBrought (limits : Limits) (line : ℕ) (response : Response) (old new : S) (told : List Told) : Type 0 where
    pub offers : List OfferOf
    pub brought : Brings limits response.octets response.zone response.moment offers
    pub made : AreOffered line 0 offers old new told

  -- what a response got: what its offers got, or with no call the number of the first fault of its octets
  abbrev pub IsResponded : Limits → ℕ → Response → S → S → Answer → Type 0
  IsResponded limits line response old new (answers.Response told) = AreBrought limits line response old new told
  IsResponded limits line response old new (answers.Refused number) = HasFaultOf response.octets number × (new ≡ old)
  IsResponded limits line response old new answer = ⊥

  -- ---- fetches

  -- the reply to the first ask of a fetch, which stands at place 0
  abbrev pub IsFirstReply : ℕ → Fetch → S → S → Reply → Type 0
  IsFirstReply line fetch old new reply = makes old (Asked (tag_at line 0) (ask_of fetch modes.Failed) reply) new

  -- what a fetch got by its first ask: an answer, a moment from when on it may be tried again, or nothing, and then it is to be made
  abbrev pub IsFirstLook : ℕ → Fetch → S → S → Option Answer → Type 0
  IsFirstLook line fetch old new (Some (answers.Hit reply)) = IsHit reply × IsFirstReply line fetch old new reply
  IsFirstLook line fetch old new (Some (answers.Held moment)) = IsFirstReply line fetch old new (Miss (Some moment))
  IsFirstLook line fetch old new (Some answer) = ⊥
  IsFirstLook line fetch old new None = IsFirstReply line fetch old new (Miss None)

  -- a fetch that was made: its offers stand at the places 1, 2, .., and then, at the next place, it asks again
  pub record IsMade (limits : Limits) (line : ℕ) (fetch : Fetch) (old new : S) (told : List Told) (reply : Reply) : Type 0 where
    pub offers : List OfferOf
    pub brought : Fetches limits fetch offers
    pub middle : S
    pub made : AreOffered line 1 offers old middle told
    pub last : makes middle (Asked (tag_at line (1 + length offers)) (ask_of fetch modes.Now) reply) new

  -- what a fetch got that was made
  abbrev pub IsFetched : Limits → ℕ → Fetch → S → S → Answer → Type 0
  IsFetched limits line fetch old new (answers.Fetched told reply) = IsMade limits line fetch old new told reply
  IsFetched limits line fetch old new answer = ⊥

  -- what a fetch got, which is made only where its first ask got nothing, and after that ask
  abbrev pub IsFetchAnswer : Limits → ℕ → Fetch → S → S → Answer → Type 0
  IsFetchAnswer limits line fetch old new (answers.Fetched told reply) =
      (middle : S) × IsFirstLook line fetch old middle None × IsMade limits line fetch middle new told reply
  IsFetchAnswer limits line fetch old new answer = IsFirstLook line fetch old new (Some answer)

  -- ---- parts

  -- from each of so many parts, in order and the first of them with this number, a sweep at the place of its number removed so many keys
  abbrev pub AreSwept : ℕ → ℕ → ℕ → ℕ → S → S → List ℕ → Type 0
  AreSwept line moment part zero old new [] = new ≡ old
  AreSwept line moment part (suc parts) old new (gone ∷ counts) =
      (middle : S) × makes old (Swept part (tag_at line part) moment gone) middle × AreSwept line moment (part + 1) parts middle new counts
  AreSwept line moment part parts old new counts = ⊥

  -- the chapters of so many parts were closed, in order, that of the part with the highest number last
  abbrev pub AreClosed : ℕ → S → S → Type 0
  AreClosed zero old new = new ≡ old
  AreClosed (suc part) old new = (middle : S) × AreClosed part old middle × makes middle (Closed part) new

  -- ---- lines

  -- what a line got from its calls on a cache of so many parts
  abbrev pub IsCalled : Limits → ℕ → ℕ → Line → S → S → Answer → Type 0
  IsCalled limits parts number (lines.Put put) old new (answers.Put told) = IsOffered (tag_at number 0) (offer_of limits put) old new told
  IsCalled limits parts number (lines.Ask ask) old new (answers.Ask reply) = makes old (Asked (tag_at number 0) ask reply) new
  IsCalled limits parts number (lines.Fail failed) old new (answers.Fail told) =
      IsOffered (tag_at number 0) (failure_of limits failed.moment failed.name failed.class failed.rtype) old new told
  IsCalled limits parts number (lines.Response response) old new answer = IsResponded limits number response old new answer
  IsCalled limits parts number (lines.Fetch fetch) old new answer = IsFetchAnswer limits number fetch old new answer
  IsCalled limits parts number (lines.Sweep moment) old new (answers.Swept counts) = AreSwept number moment 0 parts old new counts
  IsCalled limits parts number lines.Checkpoint old new answers.Closed = AreClosed parts old new
  IsCalled limits parts number line old new answer = ⊥
