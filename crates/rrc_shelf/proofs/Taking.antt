-- SPDX-License-Identifier: MIT
-- Offers that are made one after another.
use Rattle.std.proofs.Common.{◌≡◌, ℕ, ◌+◌, List, [], ◌∷◌, ◌++◌, length, reverse, take, drop, get_or, ◌<◌, Result, Ok, Err, sym, ap, subst, ◌∙◌, arith}
use Rattle.std.proofs.lemmas.List.{length-reverse, reverse-append, length-append, take-append-drop, drop_more}
use Rattle.std.specs.Prelude.{OnOk, IfErr}
use Rattle.rrc_history.specs.Fits.{OfferOf}
use Rattle.rrc_history.specs.declared.event.Outcome.{Outcome}
use Rattle.rrc_history.specs.declared.event.Outcome.TheVariants.{Kept, Cleared, LessTrusted}
use Rattle.rrc_share.specs.CacheShelf.{CacheShelfOf}
use Rattle.rrc_shelf.specs.declared.counts.Counts.{Counts}
use Rattle.rrc_shelf.specs.Refusals.{WriteDue}
use Rattle.rrc_shelf.specs.Shelves.{IsLeftAs, MakesOffer}
use Rattle.rrc_shelf.specs.Offers.{AreAt, Takes, TakesAll, TakesFirst, count_more, total}

-- one more is counted
pub total_more : (outcome : Outcome) (counts : Counts) → total (count_more outcome counts) ≡ total counts + 1
total_more Kept counts = omega arith
total_more Cleared counts = omega arith
total_more LessTrusted counts = omega arith

-- one more offer
pub takes_more : (line : ℕ) (offers : List OfferOf) (offer : OfferOf) (outcome : Outcome) (counts after : Counts) (old middle new : CacheShelfOf) (place : ℕ)
    → TakesAll line offers counts old middle × (total counts ≡ length offers) → place ≡ total counts
    → MakesOffer middle new (record { line = line; place = place }) offer outcome → after ≡ count_more outcome counts
    → TakesAll line (offers ++ offer ∷ []) after old new × (total after ≡ length (offers ++ offer ∷ []))
takes_more line offers offer outcome counts after old middle new place (all, sized) here appended counted =
    let back : reverse (offers ++ offer ∷ []) ≡ offer ∷ reverse offers = reverse-append offers (offer ∷ []) in
    let at : place ≡ length (reverse offers) = here ∙ sized ∙ sym (length-reverse offers) in
    let last = subst (λ n. MakesOffer middle new (record { line = line; place = n }) offer outcome) at appended in
    let takes : Takes line (reverse (offers ++ offer ∷ [])) (outcome ∷ all.outcomes) old new =
    subst (λ xs. Takes line xs (outcome ∷ all.outcomes) old new) (sym back) (middle, all.takes, last) in
    let sum : total after ≡ total counts + 1 = ap total counted ∙ total_more outcome counts in
    (record { outcomes = outcome ∷ all.outcomes; takes = takes; counted = counted ∙ ap (count_more outcome) all.counted }, sum ∙ ap (λ n. n + 1) sized ∙ sym (length-append offers (offer ∷ [])))

-- the next one was refused
pub takes_first : (number line : ℕ) (offers taken others : List OfferOf) (next : OfferOf) (counts : Counts) (old middle new : CacheShelfOf) → offers ≡ taken ++ next ∷ others
    → (length taken < length offers) × (next ≡ get_or offers (length taken) next) → TakesAll line taken counts old middle → WriteDue middle next.moment number → IsLeftAs middle new
    → (at : ℕ) → AreAt at offers → TakesFirst number line at offers counts old new
takes_first number line offers taken others next counts old middle new parts (below, is) all due left at are =
    let moment : next.moment ≡ at = ap (λ (offer : OfferOf). offer.moment) is ∙ are (length taken) next below in
    record { taken = taken; next = next; others = others; parts = parts; middle = middle; all = all; due = subst (λ m. WriteDue middle m number) moment due; left = left }

-- what a vector's iterator yields next stands behind what it has yielded
pub parts_at : (offers yielded : List OfferOf) (next : OfferOf) → yielded ≡ take (length yielded) offers → (length yielded < length offers) × (next ≡ get_or offers (length yielded) next)
    → offers ≡ yielded ++ next ∷ drop (length yielded + 1) offers
parts_at offers yielded next first (below, at) =
    sym (take-append-drop (length yielded) offers)
    ∙ (λ i. sym first i ++ (drop_more offers (length yielded) next below ∙ ap (λ one. one ∷ drop (length yielded + 1) offers) (sym at)) i)

pub map_ok : {A B : Type 0} (result : Result A B) (X Y : Type 0) → (X → Y) → OnOk result X → OnOk result Y
map_ok (Ok done) X Y f x = f x
map_ok (Err refusal) X Y f x = tt

pub map_err : {A B : Type 0} (result : Result A B) (X Y : B → Type 0) → ((error : B) → X error → Y error) → IfErr result X → IfErr result Y
map_err (Ok done) X Y f x = tt
map_err (Err refusal) X Y f x = f refusal x
