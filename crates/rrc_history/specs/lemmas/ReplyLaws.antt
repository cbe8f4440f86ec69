-- SPDX-License-Identifier: MIT
-- Outcomes and replies that are the same are one.
use Rattle.std.specs.Prelude.{◌≡◌, ℕ, Bool, true, ◌==◌, nat_eq, Option, Some, None}
use Rattle.std.specs.Bool.{Decides}
use Rattle.std.specs.Cmp.Lexicographic.{pointwise, bytes_decides}
use Rattle.std.proofs.Common.{List, refl, ap, subst}
use Rattle.std.proofs.lemmas.Bool.{and_from, and_parts}
use Rattle.std.proofs.lemmas.Bool.Decides.{Decides-eqb}
use Rattle.std.proofs.lemmas.Slice.Eq.{slice_eq-Decides}
use Rattle.rrc_history.specs.declared.event.Outcome.{Outcome}
use Rattle.rrc_history.specs.declared.event.Outcome.TheVariants.{Kept, Cleared, LessTrusted}
use Rattle.rrc_history.specs.declared.event.RrSet.{RrSet}
use Rattle.rrc_history.specs.declared.event.Soa.{Soa}
use Rattle.rrc_history.specs.declared.event.Reply.{Reply}
use Rattle.rrc_history.specs.declared.event.Reply.TheVariants.{Fresh, Stale, NoData, NxDomain, Miss}
use Rattle.rrc_history.specs.Auditing.{outcome_eq, set_eq, soa_eq, moment_eq, reply_eq}

pub decides_by : {A : Type 0} (eq : A → A → Bool) → ((a : A) → eq a a ≡ true) → ((a b : A) → eq a b ≡ true → a ≡ b) → (a b : A) → Decides (eq a b) (a ≡ b)
decides_by eq itself same a b = (same a b, λ e. subst (λ x. eq a x ≡ true) e (itself a))

outcome_eq-itself : (outcome : Outcome) → outcome_eq outcome outcome ≡ true
outcome_eq-itself Kept = refl
outcome_eq-itself Cleared = refl
outcome_eq-itself LessTrusted = refl

outcome_eq-same : (outcome other : Outcome) → outcome_eq outcome other ≡ true → outcome ≡ other
outcome_eq-same Kept Kept h = refl
outcome_eq-same Cleared Cleared h = refl
outcome_eq-same LessTrusted LessTrusted h = refl
outcome_eq-same Kept Cleared h = absurd cc
outcome_eq-same Kept LessTrusted h = absurd cc
outcome_eq-same Cleared Kept h = absurd cc
outcome_eq-same Cleared LessTrusted h = absurd cc
outcome_eq-same LessTrusted Kept h = absurd cc
outcome_eq-same LessTrusted Cleared h = absurd cc

pub outcome_eq-Decides : (outcome other : Outcome) → Decides (outcome_eq outcome other) (outcome ≡ other)
outcome_eq-Decides = decides_by outcome_eq outcome_eq-itself outcome_eq-same

items-Decides : (xs ys : List (List ℕ)) → Decides (pointwise (pointwise nat_eq) xs ys) (xs ≡ ys)
items-Decides xs ys = slice_eq-Decides bytes_decides xs ys (pointwise (pointwise nat_eq) xs ys) refl

set_eq-itself : (set : RrSet) → set_eq set set ≡ true
set_eq-itself s =
    and_from (pointwise nat_eq s.owner s.owner) (pointwise (pointwise nat_eq) s.items s.items) ((bytes_decides s.owner s.owner).1 refl) ((items-Decides s.items s.items).1 refl)

set_eq-same : (set other : RrSet) → set_eq set other ≡ true → set ≡ other
set_eq-same s o h =
    let a = and_parts (pointwise nat_eq s.owner o.owner) (pointwise (pointwise nat_eq) s.items o.items) h in
    λ i. record { owner = (bytes_decides s.owner o.owner).0 a.0 i; items = (items-Decides s.items o.items).0 a.1 i }

soa_eq-itself : (soa : Soa) → soa_eq soa soa ≡ true
soa_eq-itself s =
    and_from (pointwise nat_eq s.owner s.owner) (pointwise nat_eq s.octets s.octets) ((bytes_decides s.owner s.owner).1 refl) ((bytes_decides s.octets s.octets).1 refl)

soa_eq-same : (soa other : Soa) → soa_eq soa other ≡ true → soa ≡ other
soa_eq-same s o h =
    let a = and_parts (pointwise nat_eq s.owner o.owner) (pointwise nat_eq s.octets o.octets) h in
    λ i. record { owner = (bytes_decides s.owner o.owner).0 a.0 i; octets = (bytes_decides s.octets o.octets).0 a.1 i }

moment_eq-itself : (moment : Option ℕ) → moment_eq moment moment ≡ true
moment_eq-itself None = refl
moment_eq-itself (Some moment) = (Decides-eqb moment moment).1 refl

moment_eq-same : (moment other : Option ℕ) → moment_eq moment other ≡ true → moment ≡ other
moment_eq-same None None h = refl
moment_eq-same (Some moment) (Some other) h = ap Some ((Decides-eqb moment other).0 h)
moment_eq-same None (Some other) h = absurd cc
moment_eq-same (Some moment) None h = absurd cc

reply_eq-itself : (reply : Reply) → reply_eq reply reply ≡ true
reply_eq-itself (Fresh set left) = and_from (set_eq set set) (left == left) (set_eq-itself set) ((Decides-eqb left left).1 refl)
reply_eq-itself (Stale set left) = and_from (set_eq set set) (left == left) (set_eq-itself set) ((Decides-eqb left left).1 refl)
reply_eq-itself (NoData soa left) = and_from (soa_eq soa soa) (left == left) (soa_eq-itself soa) ((Decides-eqb left left).1 refl)
reply_eq-itself (NxDomain soa left) = and_from (soa_eq soa soa) (left == left) (soa_eq-itself soa) ((Decides-eqb left left).1 refl)
reply_eq-itself (Miss moment) = moment_eq-itself moment

reply_eq-same : (reply other : Reply) → reply_eq reply other ≡ true → reply ≡ other
reply_eq-same (Fresh set left) (Fresh other left') h =
    let a = and_parts (set_eq set other) (left == left') h in λ i. Fresh (set_eq-same set other a.0 i) ((Decides-eqb left left').0 a.1 i)
reply_eq-same (Stale set left) (Stale other left') h =
    let a = and_parts (set_eq set other) (left == left') h in λ i. Stale (set_eq-same set other a.0 i) ((Decides-eqb left left').0 a.1 i)
reply_eq-same (NoData soa left) (NoData other left') h =
    let a = and_parts (soa_eq soa other) (left == left') h in λ i. NoData (soa_eq-same soa other a.0 i) ((Decides-eqb left left').0 a.1 i)
reply_eq-same (NxDomain soa left) (NxDomain other left') h =
    let a = and_parts (soa_eq soa other) (left == left') h in λ i. NxDomain (soa_eq-same soa other a.0 i) ((Decides-eqb left left').0 a.1 i)
reply_eq-same (Miss moment) (Miss other) h = ap Miss (moment_eq-same moment other h)
reply_eq-same (Fresh set left) (Stale set' left') h = absurd cc
reply_eq-same (Fresh set left) (NoData soa' left') h = absurd cc
reply_eq-same (Fresh set left) (NxDomain soa' left') h = absurd cc
reply_eq-same (Fresh set left) (Miss moment') h = absurd cc
reply_eq-same (Stale set left) (Fresh set' left') h = absurd cc
reply_eq-same (Stale set left) (NoData soa' left') h = absurd cc
reply_eq-same (Stale set left) (NxDomain soa' left') h = absurd cc
reply_eq-same (Stale set left) (Miss moment') h = absurd cc
reply_eq-same (NoData soa left) (Fresh set' left') h = absurd cc
reply_eq-same (NoData soa left) (Stale set' left') h = absurd cc
reply_eq-same (NoData soa left) (NxDomain soa' left') h = absurd cc
reply_eq-same (NoData soa left) (Miss moment') h = absurd cc
reply_eq-same (NxDomain soa left) (Fresh set' left') h = absurd cc
reply_eq-same (NxDomain soa left) (Stale set' left') h = absurd cc
reply_eq-same (NxDomain soa left) (NoData soa' left') h = absurd cc
reply_eq-same (NxDomain soa left) (Miss moment') h = absurd cc
reply_eq-same (Miss moment) (Fresh set' left') h = absurd cc
reply_eq-same (Miss moment) (Stale set' left') h = absurd cc
reply_eq-same (Miss moment) (NoData soa' left') h = absurd cc
reply_eq-same (Miss moment) (NxDomain soa' left') h = absurd cc

pub reply_eq-Decides : (reply other : Reply) → Decides (reply_eq reply other) (reply ≡ other)
reply_eq-Decides = decides_by reply_eq reply_eq-itself reply_eq-same
