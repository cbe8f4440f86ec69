-- SPDX-License-Identifier: MIT
-- One call more, behind those that a line made.
use Rattle.std.proofs.Common.{◌≡◌, ℕ, zero, suc, ◌+◌, List, [], ◌∷◌, ◌++◌, length, refl, ap, subst, arith}
use Rattle.rrc_history.specs.Fits.{OfferOf}
use Rattle.rrc_trace.specs.declared.answer.Told.{Told}
use Rattle.rrc_report.specs.Called.{CallMade, Swept, Closed, tag_at, IsOffered, AreOffered, AreSwept, AreClosed}

module _ {S : Type 0} (makes : S → CallMade → S → Type 0) where
  -- an offer at the next place
  pub offered_more : (line place number : ℕ) (offers : List OfferOf) (old middle new : S) (all : List Told) (offer : OfferOf) (told : Told)
      → AreOffered makes line place offers old middle all → number ≡ place + length all → IsOffered makes (tag_at line number) offer middle new told
      → AreOffered makes line place (offers ++ offer ∷ []) old new (all ++ told ∷ [])
  offered_more line place number [] old middle new [] offer told made is_number one =
      let same : number ≡ place = omega (arith, is_number) in
      let here : IsOffered makes (tag_at line place) offer middle new told = subst (λ n. IsOffered makes (tag_at line n) offer middle new told) same one in
      (new, subst (λ s. IsOffered makes (tag_at line place) offer s new told) made here, refl)
  offered_more line place number [] old middle new (first ∷ behind) offer told made is_number one = absurd made
  offered_more line place number (first ∷ behind) old middle new [] offer told made is_number one = absurd made
  offered_more line place number (first ∷ behind) old middle new (own ∷ others) offer told made is_number one =
      (made.0, made.1, offered_more line (place + 1) number behind made.0 middle new others offer told made.2 (omega (arith, is_number)) one)

  -- as much is told as was offered
  pub offered_length : (line place : ℕ) (offers : List OfferOf) (old new : S) (all : List Told) → AreOffered makes line place offers old new all → length all ≡ length offers
  offered_length line place [] old new [] made = refl
  offered_length line place [] old new (first ∷ behind) made = absurd made
  offered_length line place (first ∷ behind) old new [] made = absurd made
  offered_length line place (first ∷ behind) old new (own ∷ others) made = ap suc (offered_length line (place + 1) behind made.0 new others made.2)

  swept_next : (line moment first part number : ℕ) (old middle new : S) (counts : List ℕ) (gone : ℕ) → AreSwept makes line moment first part old middle counts
      → number ≡ first + part → makes middle (Swept number (tag_at line number) moment gone) new → AreSwept makes line moment first (suc part) old new (counts ++ gone ∷ [])
  swept_next line moment first zero number old middle new [] gone made is_number one =
      let same : number ≡ first = omega (arith, is_number) in
      let here : makes middle (Swept first (tag_at line first) moment gone) new = subst (λ n. makes middle (Swept n (tag_at line n) moment gone) new) same one in
      (new, subst (λ s. makes s (Swept first (tag_at line first) moment gone) new) made here, refl)
  swept_next line moment first zero number old middle new (own ∷ others) gone made is_number one = absurd made
  swept_next line moment first (suc part) number old middle new [] gone made is_number one = absurd made
  swept_next line moment first (suc part) number old middle new (own ∷ others) gone made is_number one =
      (made.0, made.1, swept_next line moment (first + 1) part number made.0 middle new others gone made.2 (omega (arith, is_number)) one)

  -- a sweep of the next part
  pub swept_more : (line moment part : ℕ) (old middle new : S) (counts : List ℕ) (gone : ℕ) → AreSwept makes line moment 0 part old middle counts
      → makes middle (Swept part (tag_at line part) moment gone) new → AreSwept makes line moment 0 (part + 1) old new (counts ++ gone ∷ [])
  swept_more line moment part old middle new counts gone made one =
      let next : suc part ≡ part + 1 = omega arith in
      subst (λ n. AreSwept makes line moment 0 n old new (counts ++ gone ∷ [])) next (swept_next line moment 0 part part old middle new counts gone made (omega arith) one)

  -- a closing of the next part
  pub closed_more : (part : ℕ) (old middle new : S) → AreClosed makes part old middle → makes middle (Closed part) new → AreClosed makes (part + 1) old new
  closed_more part old middle new made one = let next : suc part ≡ part + 1 = omega arith in subst (λ n. AreClosed makes n old new) next (middle, made, one)
