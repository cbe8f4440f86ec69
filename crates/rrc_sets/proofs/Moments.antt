-- SPDX-License-Identifier: MIT
-- What a message offers is offered at one moment.
use Rattle.std.proofs.Common.{◌≡◌, ℕ, List, [], ◌∷◌, ◌++◌, Bool, false, Option, Some, None, option_map, refl}
use Rattle.std.specs.Prelude.{IfSome, ◌||◌, ◌==◌}
use Rattle.std.specs.List.{All, filter_map, cons_option}
use Rattle.std.specs.Option.{option_to_list}
use Rattle.std.proofs.lemmas.List.Elements.{All-nil, All-cons, All-append, All-same}
use Rattle.rrc_name.specs.Order.{is_at_or_below}
use Rattle.rrc_history.specs.Fits.{OfferOf}
use Rattle.rrc_wire.specs.declared.message.Message.{Message}
use Rattle.rrc_sets.specs.declared.limits.Limits.{Limits}
use Rattle.rrc_sets.specs.Life.{set_life}
use Rattle.rrc_sets.specs.Sets.{SetOf, sets_of}
use Rattle.rrc_sets.specs.Denials.{negative_offer}
use Rattle.rrc_sets.specs.Cleared.{clearing_offers}
use Rattle.rrc_sets.specs.Relevant.{offers_by}
use Rattle.rrc_sets.specs.declared.relevance.RelevanceLimits.{RelevanceLimits}
use Rattle.rrc_sets.specs.Classes.{in_own_class}
use Rattle.rrc_sets.specs.Offers.{living_offer, set_offer, records_of, section_offers, answer_offers, failure_offers, is_silent, offers_of}
use Rattle.rrc_sets.proofs.Denying.{chosen, listed, chosen_list, of_denial, of_clearing, of_failure}

-- the offer is of this moment
abbrev pub IsAt : ℕ → OfferOf → Type 0
IsAt moment offer = offer.moment ≡ moment

-- ---- an offer that there may be

mapped : {A B : Type 0} (P : B → Type 0) (f : A → B) → ((a : A) → P (f a)) → (found : Option A) → IfSome (option_map f found) P
mapped P f each (Some a) = each a
mapped P f each None = tt

-- ---- offers

in_front : {A : Type 0} (P : A → Type 0) (found : Option A) (others : List A) → IfSome found P → All P others → All P (cons_option found others)
in_front P (Some a) others is all = All-cons P a others is all
in_front P None others is all = all

gathered : {A B : Type 0} (P : B → Type 0) (f : A → Option B) → ((a : A) → IfSome (f a) P) → (xs : List A) → All P (filter_map f xs)
gathered P f each [] = All-nil P
gathered P f each (x ∷ xs) = in_front P (f x) (filter_map f xs) (each x) (gathered P f each xs)

of_set : (section : _) (lowest : Bool) (message : Message) (zone : List ℕ) (moment : ℕ) (limits : Limits) (set : SetOf) → IfSome (set_offer section lowest message zone moment limits set) (IsAt moment)
of_set section lowest message zone moment limits set =
    chosen (IsAt moment) (is_at_or_below set.owner zone) (option_map (living_offer section message moment set) (set_life limits (message.aa || lowest) set.ttls))
    (mapped (IsAt moment) (living_offer section message moment set) (λ ttl. refl) (set_life limits (message.aa || lowest) set.ttls))

of_section : (section : _) (lowest : Bool) (message : Message) (zone : List ℕ) (moment : ℕ) (limits : Limits) → All (IsAt moment) (section_offers section lowest message zone moment limits)
unfolding section_offers
of_section section lowest message zone moment limits =
    gathered (IsAt moment) (set_offer section lowest message zone moment limits) (of_set section lowest message zone moment limits) (sets_of (records_of section message))

of_answer : (lowest : Bool) (message : Message) (zone : List ℕ) (moment : ℕ) (limits : Limits) → All (IsAt moment) (answer_offers lowest message zone moment limits)
unfolding answer_offers
of_answer lowest message zone moment limits =
    let P = IsAt moment in
    let denial = option_to_list (negative_offer message zone moment limits) in
    let additional = section_offers _ lowest message zone moment limits in
    let authority = section_offers _ lowest message zone moment limits in
    All-append P (section_offers _ lowest message zone moment limits) (authority ++ (additional ++ denial)) (of_section _ lowest message zone moment limits)
    (All-append P authority (additional ++ denial) (of_section _ lowest message zone moment limits)
    (All-append P additional denial (of_section _ lowest message zone moment limits) (listed P (negative_offer message zone moment limits) (of_denial P message moment (λ key ttl name soa. refl) zone limits))))

-- all offers of a message are of the moment at which it came
pub of_message : (message : Message) (zone : List ℕ) (moment : ℕ) (limits : Limits) → All (IsAt moment) (offers_of message zone moment limits)
unfolding offers_of
of_message message zone moment limits =
    chosen_list (IsAt moment) (is_silent message zone) [] _ (All-nil (IsAt moment))
    (chosen_list (IsAt moment) (message.rcode == 0 || message.rcode == 3) (answer_offers false (in_own_class message) zone moment limits) (failure_offers message moment limits)
    (of_answer false (in_own_class message) zone moment limits) (of_failure (IsAt moment) message moment limits (λ key. refl)))

-- so are offers that are those of a message
pub of_one_moment : (message : Message) (zone : List ℕ) (moment : ℕ) (limits : Limits) (offers : List OfferOf) → offers ≡ offers_of message zone moment limits → All (λ offer. offer.moment ≡ moment) offers
of_one_moment message zone moment limits offers are = All-same (IsAt moment) offers (offers_of message zone moment limits) are (of_message message zone moment limits)

-- ---- by the limits of relevance

-- all offers of a message by limits of relevance are of the moment at which it came
pub of_offers_by : (message : Message) (zone : List ℕ) (moment : ℕ) (limits : Limits) (relevance : RelevanceLimits)
    → All (IsAt moment) (offers_by message zone moment limits relevance)
unfolding offers_by
of_offers_by message zone moment limits relevance =
    let P = IsAt moment in let own = in_own_class message in
    let all = answer_offers relevance.lowest_ttl own zone moment limits in let ended = clearing_offers own zone moment relevance in
    chosen_list P (is_silent message zone) [] _ (All-nil P)
    (chosen_list P (message.rcode == 0 || message.rcode == 3) (all ++ ended) (failure_offers message moment limits)
    (All-append P all ended (of_answer relevance.lowest_ttl own zone moment limits) (of_clearing P own moment (λ key ttl name soa. refl) zone relevance)) (of_failure P message moment limits (λ key. refl)))
