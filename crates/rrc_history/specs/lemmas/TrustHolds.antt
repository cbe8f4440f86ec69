-- SPDX-License-Identifier: MIT
-- The laws of trust hold: of what offers replace, of what answers are from, of what keys stop holding.
use Rattle.std.specs.Prelude.{◌≡◌, ℕ, ◌<◌, ◌≤◌, ◌⊎◌, List, Bool, true, false, ◌&&◌, nat_lt, ◌==◌, if◌then◌else◌, Option, Some, None}
use Rattle.std.proofs.Common.{refl, sym, ap, subst, ◌∙◌, arith, inl, inr}
use Rattle.std.proofs.lemmas.Bool.Decides.{nat_tests}
use Rattle.rrc_name.specs.Key.{KeyOf, key_eq}
use Rattle.rrc_history.specs.declared.body.Body.{Body}
use Rattle.rrc_history.specs.declared.body.Body.TheVariants.{Positive, Negative, Failure}
use Rattle.rrc_history.specs.declared.event.Event.{Event}
use Rattle.rrc_history.specs.declared.event.Event.TheVariants.{Offered, Asked, Swept}
use Rattle.rrc_history.specs.declared.event.Outcome.{Outcome}
use Rattle.rrc_history.specs.declared.event.Outcome.TheVariants.{Kept, Cleared, LessTrusted}
use Rattle.rrc_history.specs.declared.snapshot.Entry.{Entry}
use Rattle.rrc_history.specs.declared.snapshot.Snapshot.{Snapshot}
use Rattle.rrc_history.specs.Fits.{OfferOf}
use Rattle.rrc_history.specs.Lives.{ttl_of, rank_of, is_unexpired}
use Rattle.rrc_history.specs.Judged.{outranks, verdict, verdict_by, later_governs, governing}
use Rattle.rrc_history.specs.Past.{held, held_after_offer, is_among, is_evicted, number_after}
use Rattle.rrc_history.specs.Right.{IsRightOffer}
use Rattle.rrc_history.specs.Laws.{IsData, IsTaken, ReplacesNoMoreTrusted, StopsHolding}

-- ---- offers

-- data that were taken met none that live and rank higher
taken_by : (lives : Bool) (offered held : ℕ) (otherwise outcome : Outcome) → outcome ≡ (if lives && nat_lt offered held then LessTrusted else otherwise)
    → IsTaken outcome → lives ≡ true → held ≤ offered
taken_by false offered held otherwise outcome is taken lives = absurd cc
taken_by true offered held otherwise outcome is taken lives = by (nat_lt offered held) refl
  where
    by : (higher : Bool) → nat_lt offered held ≡ higher → held ≤ offered
    by true at = let less : outcome ≡ LessTrusted = rw at at is in absurd (subst IsTaken less taken)
    by false at = grind (arith, nat_tests)

-- an offer of data that was taken is ranked no lower than the unexpired data that it met
replaces : (before : Entry) (offer : OfferOf) (body : Body) (outcome : Outcome) → outcome ≡ verdict_by (Some before) offer body → IsTaken outcome → IsData body
    → is_unexpired before offer.moment ≡ true → rank_of before.body ≤ rank_of offer.body
replaces before offer (Positive trust ttl owner items) outcome is taken some lives =
    taken_by (is_unexpired before offer.moment) (rank_of offer.body) (rank_of before.body) (if ttl_of offer.body == 0 then Cleared else Kept) outcome is taken lives
replaces before offer (Negative trust ttl soa_owner soa) outcome is taken some lives =
    taken_by (is_unexpired before offer.moment) (rank_of offer.body) (rank_of before.body) (if ttl_of offer.body == 0 then Cleared else Kept) outcome is taken lives
replaces before offer (Failure ttl) outcome is taken some lives = absurd some

-- an offer that is right replaces no unexpired data that are trusted more
pub replaces_no_more_trusted : (snapshot : Snapshot) (past : List Event) (offer : OfferOf) (outcome : Outcome) (evicted : Option KeyOf)
    → IsRightOffer snapshot past offer outcome evicted → ReplacesNoMoreTrusted snapshot past offer outcome
replaces_no_more_trusted snapshot past offer outcome evicted right =
    λ taken some before is lives. replaces before offer offer.body outcome (right.judged ∙ ap (λ (h : Option Entry). verdict h offer) is) taken some lives

-- ---- answers

-- of a later and an earlier entry one governs
later_or_earlier : (later earlier : Entry) (moment : ℕ) → (later_governs later earlier moment ≡ later) ⊎ (later_governs later earlier moment ≡ earlier)
later_or_earlier later earlier moment = by (outranks earlier moment later.body) refl
  where
    by : (higher : Bool) → outranks earlier moment later.body ≡ higher → (later_governs later earlier moment ≡ later) ⊎ (later_governs later earlier moment ≡ earlier)
    by true is = inr (rw is refl)
    by false is = inl (rw is refl)

-- what governs is one of the two
pub governing-is_held : (set nx : Option Entry) (moment : ℕ) (entry : Entry) → governing set nx moment ≡ Some entry → (set ≡ Some entry) ⊎ (nx ≡ Some entry)
governing-is_held None nx moment entry h = inr h
governing-is_held (Some set) None moment entry h = inl h
governing-is_held (Some set) (Some nx) moment entry h = by (nat_lt set.number nx.number) refl
  where
    of : (later earlier : Entry) → later_governs later earlier moment ≡ entry → (later ≡ entry) ⊎ (earlier ≡ entry)
    of later earlier is = elim (later_or_earlier later earlier moment) [ inl l ↦ inl (sym l ∙ is) | inr e ↦ inr (sym e ∙ is) ]

    by : (after : Bool) → nat_lt set.number nx.number ≡ after → (Some set ≡ Some entry) ⊎ (Some nx ≡ Some entry)
    by true at = elim (of nx set (cc (rw at at h))) [ inl l ↦ inr (ap Some l) | inr e ↦ inl (ap Some e) ]
    by false at = elim (of set nx (cc (rw at at h))) [ inl l ↦ inl (ap Some l) | inr e ↦ inr (ap Some e) ]

-- an entry that doesn't outrank a body, and lives, is trusted no more
not_outranking : (other : Entry) (moment : ℕ) (body : Body) → outranks other moment body ≡ false → is_unexpired other moment ≡ true → rank_of other.body ≤ rank_of body
not_outranking other moment body not lives =
    let lower : nat_lt (rank_of body) (rank_of other.body) ≡ false = rw lives at not in
    grind (arith, nat_tests)

-- no entry is before itself
not_before_itself : (a b : Entry) → a ≡ b → a.number < b.number → ⊥
not_before_itself a b same less = let equal : a.number ≡ b.number = ap (λ (e : Entry). e.number) same in omega arith

-- the later one governs only where the earlier is not trusted more
trusted_of : (later earlier entry other : Entry) (moment : ℕ) → earlier.number ≤ later.number → later_governs later earlier moment ≡ entry
    → (later ≡ other) ⊎ (earlier ≡ other) → other.number < entry.number → is_unexpired other moment ≡ true → rank_of other.body ≤ rank_of entry.body
trusted_of later earlier entry other moment order is one less lives = by (outranks earlier moment later.body) refl one
  where
    by : (higher : Bool) → outranks earlier moment later.body ≡ higher → (later ≡ other) ⊎ (earlier ≡ other) → rank_of other.body ≤ rank_of entry.body
    by true at (inl l) =
        let same : earlier ≡ entry = rw at at is in
        let a : earlier.number ≡ entry.number = ap (λ (e : Entry). e.number) same in
        let b : later.number ≡ other.number = ap (λ (e : Entry). e.number) l in
        absurd (omega arith)
    by true at (inr e) = let same : earlier ≡ entry = rw at at is in absurd (not_before_itself other entry (sym e ∙ same) less)
    by false at (inl l) = let same : later ≡ entry = rw at at is in absurd (not_before_itself other entry (sym l ∙ same) less)
    by false at (inr e) =
        let same : later ≡ entry = rw at at is in
        not_outranking other moment entry.body (subst (λ (x : Entry). outranks x moment entry.body ≡ false) e (subst (λ (x : Entry). outranks earlier moment x.body ≡ false) same at)) lives

-- what governs is trusted no less than what is unexpired and earlier
pub governing-most_trusted : (set nx : Option Entry) (moment : ℕ) (entry other : Entry) → governing set nx moment ≡ Some entry
    → (set ≡ Some other) ⊎ (nx ≡ Some other) → other.number < entry.number → is_unexpired other moment ≡ true → rank_of other.body ≤ rank_of entry.body
governing-most_trusted None nx moment entry other h (inl s) less lives = absurd cc
governing-most_trusted None nx moment entry other h (inr n) less lives = let same : other ≡ entry = cc in absurd (not_before_itself other entry same less)
governing-most_trusted (Some set) None moment entry other h (inl s) less lives = let same : other ≡ entry = cc in absurd (not_before_itself other entry same less)
governing-most_trusted (Some set) None moment entry other h (inr n) less lives = absurd cc
governing-most_trusted (Some set) (Some nx) moment entry other h one less lives = by (nat_lt set.number nx.number) refl
  where
    by : (after : Bool) → nat_lt set.number nx.number ≡ after → rank_of other.body ≤ rank_of entry.body
    by true at =
        let order : set.number ≤ nx.number = grind (arith, nat_tests) in
        let is : later_governs nx set moment ≡ entry = cc (rw at at h) in
        trusted_of nx set entry other moment order is (elim one [ inl s ↦ inr (cc) | inr n ↦ inl (cc) ]) less lives
    by false at =
        let order : nx.number ≤ set.number = grind (arith, nat_tests) in
        let is : later_governs set nx moment ≡ entry = cc (rw at at h) in
        trusted_of set nx entry other moment order is (elim one [ inl s ↦ inl (cc) | inr n ↦ inr (cc) ]) less lives

-- ---- what keys hold

-- after a kept offer a key holds what it held, or is the offer's or the evicted one
stops_kept : (number : ℕ) (offer : OfferOf) (evicted : Option KeyOf) (key : KeyOf) (before : Option Entry) (entry : Entry) → before ≡ Some entry
    → (held_after_offer number offer Kept evicted key before ≡ Some entry) ⊎ ((key_eq key offer.key ≡ true) ⊎ (is_evicted key evicted ≡ true))
stops_kept number offer evicted key before entry was = by (key_eq key offer.key) refl (is_evicted key evicted) refl
  where
    by : (same : Bool) → key_eq key offer.key ≡ same → (out : Bool) → is_evicted key evicted ≡ out
        → (held_after_offer number offer Kept evicted key before ≡ Some entry) ⊎ ((key_eq key offer.key ≡ true) ⊎ (is_evicted key evicted ≡ true))
    by true at out gone = inr (inl at)
    by false at true gone = inr (inr gone)
    by false at false gone = inl (rw (at, gone) was)

-- a key that isn't out keeps what it held
stops_out : (out : Bool) (before : Option Entry) (entry : Entry) → before ≡ Some entry → ((if out then None else before) ≡ Some entry) ⊎ (out ≡ true)
stops_out true before entry was = inr refl
stops_out false before entry was = inl was

-- a key stops holding its entry only by an offer, an eviction or a sweep
pub stops_holding : (snapshot : Snapshot) (past : List Event) (event : Event) → StopsHolding snapshot past event
unfolding held
stops_holding snapshot past (Offered Kept tag offer evicted) = λ key entry was. stops_kept (number_after snapshot past) offer evicted key (held snapshot past key) entry was
stops_holding snapshot past (Offered Cleared tag offer evicted) = λ key entry was. stops_out (key_eq key offer.key) (held snapshot past key) entry was
stops_holding snapshot past (Offered LessTrusted tag offer evicted) = λ key entry was. inl was
stops_holding snapshot past (Asked tag ask reply) = λ key entry was. inl was
stops_holding snapshot past (Swept tag moment gone) = λ key entry was. stops_out (is_among key gone) (held snapshot past key) entry was
