-- SPDX-License-Identifier: MIT
-- Why nothing relevant is made of octets.
use Rattle.std.proofs.Common.{◌≡◌, ℕ, List, Bool, true, false, Option, Some, None, ◌⊎◌, inl, inr, refl, sym, ap, subst, ◌∙◌, if◌then◌else◌, not, ◌==◌}
use Rattle.std.specs.Option.{option_map_or, option_or}
use Rattle.rrc_wire.specs.declared.fault.WireFault.{WireFault}
use Rattle.rrc_wire.specs.declared.front.Front.{Front}
use Rattle.rrc_wire.specs.declared.message.Message.{Message}
use Rattle.rrc_wire.specs.Front.{begins_with_question, front_of}
use Rattle.rrc_sets.specs.declared.query.Query.{Query}
use Rattle.rrc_sets.specs.declared.query.QueryFault.{QueryFault}
use Rattle.rrc_sets.specs.declared.query.QueryFault.TheVariants.{OtherIdentifier, IsQuery, OtherQuestion, NoQuestion, NoResponse, Memory}
use Rattle.rrc_sets.specs.Queries.{front_mismatch, header_mismatch, identifier_mismatch, is_same_question, mismatch, refuses_alone}
use Rattle.rrc_sets.specs.RelevantMessage.{IsNoResponse, IsOfOtherQuery, by_front, by_message}
use Rattle.rrc_shelf.specs.Readings.{AnswerRefused, IsOther}
use Rattle.rrc_shelf.specs.Checks.{number_of}
use Rattle.rrc_shelf.specs.declared.status.Status.TheVariants as statuses

-- whether a fault is that octets cannot be read
abbrev is_unread : Option QueryFault → Bool
is_unread (Some (NoResponse first)) = true
is_unread fault = false

header_tells : (id : ℕ) (front : Front) → is_unread (header_mismatch id front) ≡ false
header_tells id front = by (not (id == front.id)) (not front.is_response) (refuses_alone front) (not (front.questions == 1))
  where
    by : (other query alone questions : Bool)
        → is_unread (if other then Some OtherIdentifier else if query then Some IsQuery else if alone then Some (NoQuestion front.rcode) else if questions then Some OtherQuestion else None) ≡ false
    by true query alone questions = refl
    by false true alone questions = refl
    by false false true questions = refl
    by false false false true = refl
    by false false false false = refl

identifier_tells : (id : ℕ) (octets : List ℕ) → is_unread (identifier_mismatch id octets) ≡ false
identifier_tells id octets = by (front_of octets)
  where
    by : (front : Option Front) → is_unread (option_map_or (header_mismatch id) front (Some OtherIdentifier)) ≡ false
    by None = refl
    by (Some front) = header_tells id front

-- their header and question tell nothing of that
front_tells : (query : Query) (octets : List ℕ) → is_unread (front_mismatch query octets) ≡ false
unfolding front_mismatch
front_tells query octets =
    by (identifier_mismatch query.id octets) (begins_with_question query.with_case query.question octets) (identifier_tells query.id octets)
  where
    by : (fault : Option QueryFault) (same : Bool) → is_unread fault ≡ false → is_unread (option_or fault (if same then None else Some OtherQuestion)) ≡ false
    by None true told = refl
    by None false told = refl
    by (Some fault) same told = told

-- nor does the message that they begin with
message_tells : (query : Query) (message : Message) → is_unread (mismatch query message) ≡ false
message_tells query message = by (not (query.id == message.id)) (not (is_same_question query.with_case query.question message.question))
  where
    by : (other question : Bool) → is_unread (if other then Some OtherIdentifier else if question then Some OtherQuestion else None) ≡ false
    by true question = refl
    by false true = refl
    by false false = refl

unread : (query : Query) (octets : List ℕ) (first : WireFault) → IsOfOtherQuery query octets (NoResponse first) → ⊥
unread query octets first (by_front is) = let bad : true ≡ false = ap is_unread (sym is) ∙ front_tells query octets in absurd cc
unread query octets first (by_message {message} front begins is) = let bad : true ≡ false = ap is_unread (sym is) ∙ message_tells query message in absurd cc

-- what is told of octets of which nothing relevant is made
abbrev IsTold : Query → List ℕ → QueryFault → Type 0
IsTold query octets fault = (fault ≡ Memory) ⊎ (IsNoResponse query octets fault ⊎ IsOfOtherQuery query octets fault)

unread_told : (query : Query) (octets : List ℕ) (first : WireFault) → IsTold query octets (NoResponse first) → AnswerRefused query octets (number_of statuses.BadMessage)
unread_told query octets first (inl memory) = absurd cc
unread_told query octets first (inr (inl lacks)) = inr (inr (refl, record { fault = NoResponse first; no_response = lacks }))
unread_told query octets first (inr (inr other)) = absurd (unread query octets first other)

-- so octets whose first fault is told answer the query
pub unread_refused : (query : Query) (octets : List ℕ) (fault : QueryFault) (first : WireFault) → fault ≡ NoResponse first → IsTold query octets fault
    → AnswerRefused query octets (number_of statuses.BadMessage)
unread_refused query octets fault first is told = unread_told query octets first (subst (IsTold query octets) is told)

-- whether a fault is that octets answer no query, or another one
abbrev is_other : QueryFault → Bool
is_other OtherIdentifier = true
is_other IsQuery = true
is_other OtherQuestion = true
is_other fault = false

told_other : (query : Query) (octets : List ℕ) (fault : QueryFault) → is_other fault ≡ true → IsTold query octets fault → IsOther query octets
told_other query octets fault other (inl memory) = let bad : false ≡ true = ap is_other (sym memory) ∙ other in absurd cc
told_other query octets fault other (inr (inl lacks)) = let bad : false ≡ true = ap is_other (sym lacks.told) ∙ other in absurd cc
told_other query octets OtherIdentifier other (inr (inr why)) = record { fault = OtherIdentifier; other = why; more = refl }
told_other query octets IsQuery other (inr (inr why)) = record { fault = IsQuery; other = why; more = refl }
told_other query octets OtherQuestion other (inr (inr why)) = record { fault = OtherQuestion; other = why; more = refl }
told_other query octets (NoQuestion rcode) other (inr (inr why)) = absurd cc
told_other query octets (NoResponse first) other (inr (inr why)) = absurd cc
told_other query octets Memory other (inr (inr why)) = absurd cc

-- and of others it is told that they do not
pub other_told : (query : Query) (octets : List ℕ) (fault why : QueryFault) → fault ≡ why → is_other why ≡ true → IsTold query octets fault → IsOther query octets
other_told query octets fault why is other told = told_other query octets why other (subst (IsTold query octets) is told)
