-- SPDX-License-Identifier: MIT
-- What a reading offers by parts is what the message offers by them, and which parts those are.
use Rattle.std.proofs.Common.{◌≡◌, ℕ, suc, ◌+◌, ◌^◌, ◌<◌, ◌≤◌, List, [], ◌∷◌, ◌==◌, Bool, true, false, cond, if◌then◌else◌, map, filter, refl, sym, ap, subst, ◌∙◌, inl, inr, arith}
use Rattle.std.proofs.Math.Nat.{two-pow-succ}
use Rattle.std.proofs.Math.Pow.{pow_mono}
use Rattle.std.proofs.lemmas.List.Elements.{All-filter, All-map}
use Rattle.std.specs.List.{All}
use Rattle.rrc_history.specs.Fits.{OfferOf}
use Rattle.rrc_shelf.specs.Offers.{lying_in, part_checks, AreAt, AreOffered, IsPart, TakesAll, TakesFirst}
use Rattle.rrc_shelf.specs.Checks.{Passes}
use Rattle.rrc_shelf.specs.Shelves.{keyed_part_of}
use Rattle.rrc_shelf.specs.Readings.{bit_of, has_part, parts_below, placed_in, share_checks, share_of, terms_of_share, HoldsOffers, IsReading, RefusedShareIsPart, ShareIsPart}
use Rattle.rrc_shelf.specs.declared.reading.Placed.{Placed}
use Rattle.rrc_shelf.specs.declared.reading.Reading.{Reading}
use Rattle.rrc_shelf.specs.declared.terms.Division.{Division}
use Rattle.rrc_shelf.specs.declared.terms.ResponseTerms.{ResponseTerms}
use Rattle.rrc_shelf.specs.declared.terms.Share.{Share}

-- ---- moments

-- offers that were placed in their parts are of the moment that they were of
pub placed_at : (division : Division) (at : ℕ) (offers : List OfferOf) (placed : List Placed) → placed ≡ map (placed_in division) offers → AreAt at offers
    → All (λ (one : Placed). one.offer.moment ≡ at) placed
placed_at division at offers placed is are =
    subst (All (λ (one : Placed). one.offer.moment ≡ at)) (sym is) (All-map (λ (one : Placed). one.offer.moment ≡ at) (placed_in division) offers are)

-- those of a part are of the moment of their reading
pub share_at : (part : ℕ) (reading : Reading) → AreAt reading.moment (share_of part reading.placed.items)
share_at part reading =
    All-map (λ (offer : OfferOf). offer.moment ≡ reading.moment) (λ (one : Placed). one.offer) (filter (λ (one : Placed). one.part == part) reading.placed.items)
    (All-filter _ (λ (one : Placed). one.offer.moment ≡ reading.moment) reading.placed.items reading.moments)

-- ---- shares

pick : (lies : Bool) (one : Placed) (behind : List Placed) (offers : List OfferOf) → map (λ (it : Placed). it.offer) behind ≡ offers
    → map (λ (it : Placed). it.offer) (cond lies (one ∷ behind) behind) ≡ cond lies (one.offer ∷ offers) offers
pick true one behind offers same = ap (λ them. one.offer ∷ them) same
pick false one behind offers same = same

-- offers that were placed in their parts give by a part those that lie in it
share_placed : (division : Division) (part : ℕ) (offers : List OfferOf) → share_of part (map (placed_in division) offers) ≡ lying_in division.count division.seed part offers
share_placed division part [] = refl
share_placed division part (offer ∷ behind) =
    pick (keyed_part_of division.seed offer.key.name division.count == part) (placed_in division offer) (filter (λ (one : Placed). one.part == part) (map (placed_in division) behind))
    (lying_in division.count division.seed part behind) (share_placed division part behind)

share_same : (octets zone : List ℕ) (terms : ResponseTerms) (part : ℕ) (reading : Reading) (is : IsReading octets zone terms reading)
    → share_of part reading.placed.items ≡ lying_in terms.parts.count terms.parts.seed part is.offers
share_same octets zone terms part reading is = ap (share_of part) is.holds.placed ∙ share_placed terms.parts part is.offers

-- the same is offered by the terms of a share
offered_again : (octets zone : List ℕ) (terms : ResponseTerms) (share : Share) (offers : List OfferOf) → AreOffered octets zone terms offers
    → AreOffered octets zone (terms_of_share terms share) offers
offered_again octets zone terms share offers are = record { zone_is = are.zone_is; limits = are.limits; are_limits = are.are_limits; brought = are.brought }

pub share_is_part : ShareIsPart
share_is_part octets zone terms share reading counts old new is takes =
    record {
      offers = is.offers;
      offered = offered_again octets zone terms share is.offers is.offered;
      takes = subst (λ offers. TakesAll share.line offers counts old new) (share_same octets zone terms share.part reading is) takes;
    }

is_part : (terms : ResponseTerms) (part : ℕ) (offers : List OfferOf) (reading : Reading) → HoldsOffers terms offers reading → part < reading.parts → IsPart terms.parts.count part
is_part terms part offers reading is below =
    record { some = is.division.0.0; few = is.division.0.1; below = subst (λ n. part < n) is.parts_are below }

is_no_part : (parts part all : ℕ) → all ≡ parts → (part < all → ⊥) → IsPart parts part → ⊥
is_no_part parts part all same above fit = above (subst (λ n. part < n) (sym same) fit.below)

-- the seed of the reading is that of its terms
other_seed : (one same seed : List ℕ) → one ≡ same → (one ≡ seed → ⊥) → same ≡ seed → ⊥
other_seed one same seed is other at = other (is ∙ at)

-- what a share passes a part passes
share_passes : (octets zone seed : List ℕ) (terms : ResponseTerms) (share : Share) (reading : Reading) → IsReading octets zone terms reading
    → Passes (share_checks share.part reading seed) → Passes (part_checks octets zone (terms_of_share terms share) seed)
share_passes octets zone seed terms share reading is (below, (seeded, rest)) =
    let message = is.offered.brought in (
      is_part terms share.part is.offers reading is.holds below,
      (is.holds.division.1.0, (is.holds.are_limits, (tt, (is.offered.zone_is, ((message.message, message.begins), (sym is.holds.seed_is ∙ seeded, tt)))))),
    )

pub refused_share_is_part : RefusedShareIsPart
refused_share_is_part octets zone number terms share seed reading counts old new is (inl (none, inl (told, above))) =
    inl (none, inl (told, is_no_part terms.parts.count share.part reading.parts is.holds.parts_are above))
refused_share_is_part octets zone number terms share seed reading counts old new is (inl (none, inr (below, inl (told, other)))) =
    let message = is.offered.brought in
    let seeded = other_seed reading.seed terms.parts.seed seed is.holds.seed_is other in
    inl (
      none,
      inr (
        is_part terms share.part is.offers reading is.holds below,
        inr (
          is.holds.division.1.0,
          inr (is.holds.are_limits, inr (tt, inr (is.offered.zone_is, inr ((message.message, message.begins), inl (told, seeded))))),
        ),
      ),
    )
refused_share_is_part octets zone number terms share seed reading counts old new is (inl (none, inr (below, inr (same, inl memory)))) =
    inl (none, inr (is_part terms share.part is.offers reading is.holds below, inr (is.holds.division.1.0, inr (is.holds.are_limits, inl memory))))
refused_share_is_part octets zone number terms share seed reading counts old new is (inl (none, inr (below, inr (same, inr (some, bad))))) = absurd bad
refused_share_is_part octets zone number terms share seed reading counts old new is (inr (passes, begins)) =
    let same = share_same octets zone terms share.part reading is in
    let first = subst (λ moment. TakesFirst number share.line moment (share_of share.part reading.placed.items) counts old new) is.holds.moment_is begins in
    inr (
      share_passes octets zone seed terms share reading is passes,
      record {
        offers = is.offers;
        offered = offered_again octets zone terms share is.offers is.offered;
        takes = subst (λ offers. TakesFirst number share.line terms.moment offers counts old new) same first;
      },
    )

-- ---- bits

next_power : (part : ℕ) → 2 ^ (part + 1) ≡ 2 ^ part + 2 ^ part
next_power part = let next : part + 1 ≡ suc part = omega arith in ap (λ n. 2 ^ n) next ∙ two-pow-succ part

small_bit : (has : Bool) (part : ℕ) → (if has then 2 ^ part else 0) ≤ 2 ^ part
small_bit true part = omega arith
small_bit false part = omega arith

next_below : (placed : List Placed) (part : ℕ) → parts_below placed (part + 1) ≡ parts_below placed part + bit_of placed part
next_below placed part = let next : part + 1 ≡ suc part = omega arith in ap (parts_below placed) next

-- the bits of one more part
pub bits_more : (placed : List Placed) (part bits bit : ℕ) → (bits ≡ parts_below placed part) × (bits < 2 ^ part) → bit ≡ bit_of placed part
    → (bits + bit ≡ parts_below placed (part + 1)) × (bits + bit < 2 ^ (part + 1))
bits_more placed part bits bit (are, small) is =
    let most = small_bit (has_part placed part) part in let power = next_power part in
    ((λ i. are i + is i) ∙ sym (next_below placed part), omega (arith, small, is, most, power))

-- they are still bits of 64
pub bits_fit : (placed : List Placed) (part bits bit : ℕ) → bits < 2 ^ part → bit ≡ bit_of placed part → part < 64 → bits + bit < 2 ^ 64
bits_fit placed part bits bit small is below =
    let most = small_bit (has_part placed part) part in let power : 2 ^ part ≤ 2 ^ 63 = pow_mono {i = part} {j = 63} (omega (arith, below)) in omega (arith, small, is, most, power)
