-- SPDX-License-Identifier: MIT
-- What a line offers at a moment that a part takes is of such a moment.
use Rattle.std.proofs.Common.{◌≡◌, ℕ, List, [], ◌∷◌, ◌≤◌, Option, Some, None, subst, sym, inl, inr}
use Rattle.std.specs.List.{All}
use Rattle.std.proofs.lemmas.List.Elements.{All-nil, All-cons, All-weaker}
use Rattle.rrc_history.specs.Fits.{OfferOf}
use Rattle.rrc_history.specs.Lives.{LAST_MOMENT}
use Rattle.rrc_wire.specs.declared.message.Message.{Message}
use Rattle.rrc_sets.specs.declared.limits.Limits.{Limits}
use Rattle.rrc_sets.specs.Offers.{offers_of}
use Rattle.rrc_sets.proofs.Moments.{of_one_moment}
use Rattle.rrc_trace.specs.declared.line.Fetch.{Fetch}
use Rattle.rrc_script.specs.Scripts.{failure_by, BringsOctets, Fetches}
use Rattle.rrc_sets.specs.Message.{Brings}

-- the offers of a message that came at a moment that a part takes are of such a moment
pub timely : (message : Message) (zone : List ℕ) (moment : ℕ) (limits : Limits) (offers : List OfferOf) → offers ≡ offers_of message zone moment limits → moment ≤ LAST_MOMENT
    → All (λ offer. offer.moment ≤ LAST_MOMENT) offers
timely message zone moment limits offers are within =
    All-weaker (λ offer. offer.moment ≡ moment) (λ offer. offer.moment ≤ LAST_MOMENT) (λ offer is. subst (λ m. m ≤ LAST_MOMENT) (sym is) within) offers
    (of_one_moment message zone moment limits offers are)

-- ---- what lines offer

-- it is of a moment that a part takes
abbrev pub IsTimelyOffer : OfferOf → Type 0
IsTimelyOffer offer = offer.moment ≤ LAST_MOMENT

-- what octets offer at a moment that a part takes is of such a moment
pub brought : (limits : Limits) (octets zone : List ℕ) (moment : ℕ) (offers : List OfferOf) → Brings limits octets zone moment offers → moment ≤ LAST_MOMENT
    → All (λ offer. offer.moment ≤ LAST_MOMENT) offers
brought limits octets zone moment offers brings within = timely brings.message zone moment limits offers brings.offered within

failed_alone : (limits : Limits) (fetch : Fetch) (offers : List OfferOf) → offers ≡ failure_by limits fetch ∷ [] → fetch.moment ≤ LAST_MOMENT → All IsTimelyOffer offers
failed_alone limits fetch offers is within = subst (All IsTimelyOffer) (sym is) (All-cons IsTimelyOffer (failure_by limits fetch) [] within (All-nil IsTimelyOffer))

of_octets : (limits : Limits) (fetch : Fetch) (octets : Option (List ℕ)) (offers : List OfferOf) → BringsOctets limits fetch octets offers → fetch.moment ≤ LAST_MOMENT
    → All IsTimelyOffer offers
of_octets limits fetch None offers is within = failed_alone limits fetch offers is within
of_octets limits fetch (Some octets) offers (inl brings) within = brought limits octets fetch.zone fetch.moment offers brings within
of_octets limits fetch (Some octets) offers (inr failed) within = failed_alone limits fetch offers failed.1.1 within

-- so is what a fetch offers
pub fetched : (limits : Limits) (fetch : Fetch) (offers : List OfferOf) → Fetches limits fetch offers → fetch.moment ≤ LAST_MOMENT
    → All (λ offer. offer.moment ≤ LAST_MOMENT) offers
fetched limits fetch offers fetches within = of_octets limits fetch fetch.octets offers fetches within
