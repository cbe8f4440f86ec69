-- SPDX-License-Identifier: MIT
-- What holds of all negative answers and failures that a message offers.
use Rattle.std.proofs.Common.{ℕ, List, [], Bool, true, false, cond, Option, Some, None, option_and_then}
use Rattle.std.specs.Prelude.{IfSome, ◌||◌, ◌==◌}
use Rattle.std.specs.List.{All, list_any}
use Rattle.std.specs.Option.{option_map_or, option_to_list}
use Rattle.std.proofs.lemmas.List.Elements.{All-nil, All-cons, All-append}
use Rattle.rrc_name.specs.Key.{KeyOf}
use Rattle.rrc_name.specs.Wire.{same_name}
use Rattle.rrc_history.specs.Fits.{OfferOf}
use Rattle.rrc_history.specs.declared.body.Body.TheVariants.{Failure}
use Rattle.rrc_wire.specs.declared.message.Message.{Message}
use Rattle.rrc_wire.specs.declared.record.Rr.{Rr}
use Rattle.rrc_wire.specs.Layout.{is_kept}
use Rattle.rrc_sets.specs.declared.limits.Limits.{Limits}
use Rattle.rrc_sets.specs.declared.relevance.RelevanceLimits.{RelevanceLimits}
use Rattle.rrc_sets.specs.Aliases.{final_name}
use Rattle.rrc_sets.specs.Cleared.{no_data, no_other_data, cleared, cleared_under, clears, clearing_offers}
use Rattle.rrc_sets.specs.Denials.{denial, denied, negative_life, soa_of, negative_offer}
use Rattle.rrc_sets.specs.Offers.{failure_offers}

-- ---- lists and what there may be

pub chosen : {A : Type 0} (P : A → Type 0) (test : Bool) (found : Option A) → IfSome found P → IfSome (cond test found None) P
chosen P true found some = some
chosen P false found some = tt

bound : {A B : Type 0} (P : B → Type 0) (next : A → Option B) → ((a : A) → IfSome (next a) P) → (found : Option A) → IfSome (option_and_then next found) P
bound P next each (Some a) = each a
bound P next each None = tt

pub listed : {A : Type 0} (P : A → Type 0) (found : Option A) → IfSome found P → All P (option_to_list found)
listed P (Some a) is = All-cons P a [] is (All-nil P)
listed P None is = All-nil P

pub chosen_list : {A : Type 0} (P : A → Type 0) (test : Bool) (xs ys : List A) → All P xs → All P ys → All P (cond test xs ys)
chosen_list P true xs ys all others = all
chosen_list P false xs ys all others = others

each_one : {A : Type 0} (P : OfferOf → Type 0) (f : A → List OfferOf) → ((a : A) → All P (f a)) → (found : Option A) → All P (option_map_or f found [])
each_one P f each (Some a) = each a
each_one P f each None = All-nil P

-- ---- offers

pub of_failure : (P : OfferOf → Type 0) (message : Message) (moment : ℕ) (limits : Limits)
    → ((key : KeyOf) → P (record { key = key; body = Failure limits.recheck; moment = moment }))
    → All P (failure_offers message moment limits)
of_failure P message moment limits fails =
    chosen_list P (is_kept message.question.qtype message.question.qclass) _ [] (All-cons P _ [] (fails _) (All-nil P)) (All-nil P)

module _ (P : OfferOf → Type 0) (message : Message) (moment : ℕ)
    (denies : (key : KeyOf) (ttl : ℕ) (name : List ℕ) (soa : Rr) → P (record { key = key; body = denial message ttl name soa; moment = moment })) where
  pub of_denial : (zone : List ℕ) (limits : Limits) → IfSome (negative_offer message zone moment limits) P
  unfolding negative_offer
  of_denial zone limits =
      bound P _ (λ name. bound P _ (λ slot. bound P _ (λ soa. denies _ (negative_life limits soa) name soa) (soa_of message zone name)) (denied message name)) (final_name message)

  of_no_data : (name : List ℕ) (soa : Rr) (rtype : ℕ) → IfSome (no_data message moment name soa rtype) P
  of_no_data name soa rtype = chosen P (is_kept rtype message.question.qclass) (Some _) (denies _ 0 name soa)

  of_no_other_data : (name : List ℕ) (soa : Rr) → IfSome (no_other_data message moment name soa) P
  of_no_other_data name soa =
      by (message.question.qtype == 1 || (message.question.qtype == 28 || message.question.qtype == 5)) (no_data message moment name soa message.question.qtype)
      (of_no_data name soa message.question.qtype)
    where
      by : (test : Bool) (found : Option OfferOf) → IfSome found P → IfSome (cond test None found) P
      by true found is = tt
      by false found is = is

  of_cleared : (name : List ℕ) (soa : Rr) → All P (cleared message moment name soa)
  unfolding cleared
  of_cleared name soa =
      let of : (rtype : ℕ) → IfSome (no_data message moment name soa rtype) P = of_no_data name soa in
      All-append P (option_to_list (no_data message moment name soa 1)) _ (listed P (no_data message moment name soa 1) (of 1))
      (All-append P (option_to_list (no_data message moment name soa 28)) _ (listed P (no_data message moment name soa 28) (of 28))
      (All-append P (option_to_list (no_data message moment name soa 5)) _ (listed P (no_data message moment name soa 5) (of 5))
      (listed P (no_other_data message moment name soa) (of_no_other_data name soa))))

  pub of_clearing : (zone : List ℕ) (relevance : RelevanceLimits) → All P (clearing_offers message zone moment relevance)
  unfolding clearing_offers
  of_clearing zone relevance =
      chosen_list P (clears message relevance) (option_map_or (cleared_under message zone moment) (final_name message) []) []
      (each_one P (cleared_under message zone moment)
      (λ name. chosen_list P (list_any (λ rr. same_name rr.owner name) message.answer) [] (option_map_or (cleared message moment name) (soa_of message zone name) []) (All-nil P)
      (each_one P (cleared message moment name) (of_cleared name) (soa_of message zone name))) (final_name message))
      (All-nil P)
