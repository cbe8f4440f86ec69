-- SPDX-License-Identifier: MIT
-- Bodies, entries and snapshots that are the same are one.
use Rattle.std.specs.Prelude.{◌≡◌, ℕ, ◌≤◌, List, Bool, true, ◌&&◌, ◌==◌, nat_eq}
use Rattle.std.specs.Bool.{Decides}
use Rattle.std.specs.Cmp.{IsEquivalence}
use Rattle.std.specs.Cmp.Lexicographic.{pointwise, bytes_decides}
use Rattle.std.proofs.Common.{refl, sym, ap, subst, arith}
use Rattle.std.proofs.lemmas.Bool.{and_from, and_parts}
use Rattle.std.proofs.lemmas.Bool.Decides.{Decides-eqb, same_from_decides}
use Rattle.std.proofs.lemmas.Slice.Eq.{slice_eq-Decides}
use Rattle.std.proofs.Math.Bridge.{le_prop}
use mathlib.Core.HLevel.{is_prop→PathP}
use Rattle.rrc_name.specs.Key.{key_eq}
use Rattle.rrc_name.specs.lemmas.KeyLaws.{key_eq-laws, key_eq-same}
use Rattle.rrc_history.specs.declared.body.Body.{Body}
use Rattle.rrc_history.specs.declared.body.Body.TheVariants.{Positive, Negative, Failure}
use Rattle.rrc_history.specs.declared.body.Trust.{Trust}
use Rattle.rrc_history.specs.declared.body.Trust.TheVariants.{Additional, NonAuthoritativeAnswer, Authority, AuthoritativeAnswer}
use Rattle.rrc_history.specs.declared.rules.Rules.{Rules}
use Rattle.rrc_history.specs.declared.snapshot.Entry.{Entry}
use Rattle.rrc_history.specs.Lives.{rank}
use Rattle.rrc_history.specs.Snapshots.{SnapshotOf}
use Rattle.rrc_history.specs.Equality.{body_eq, entry_eq, rules_eq, snapshot_eq, SameAreOne}

-- a test that decides whether two values are one is an equivalence
equivalence_by : {A : Type 0} (eq : A → A → Bool) → ((a b : A) → Decides (eq a b) (a ≡ b)) → IsEquivalence eq
equivalence_by eq decides = record {
  refl = λ x. (decides x x).1 refl;
  symm = λ x y. same_from_decides (eq x y) (eq y x) (decides x y) (λ h. sym ((decides y x).0 h), λ e. (decides y x).1 (sym e));
  congr = λ x y z h. ap (λ k. eq k z) ((decides x y).0 h);
}

-- the ranks tell the trusts apart
rank-same : (a b : Trust) → rank a ≡ rank b → a ≡ b
rank-same Additional Additional h = refl
rank-same NonAuthoritativeAnswer NonAuthoritativeAnswer h = refl
rank-same Authority Authority h = refl
rank-same AuthoritativeAnswer AuthoritativeAnswer h = refl
rank-same Additional NonAuthoritativeAnswer h = absurd (omega arith)
rank-same Additional Authority h = absurd (omega arith)
rank-same Additional AuthoritativeAnswer h = absurd (omega arith)
rank-same NonAuthoritativeAnswer Additional h = absurd (omega arith)
rank-same NonAuthoritativeAnswer Authority h = absurd (omega arith)
rank-same NonAuthoritativeAnswer AuthoritativeAnswer h = absurd (omega arith)
rank-same Authority Additional h = absurd (omega arith)
rank-same Authority NonAuthoritativeAnswer h = absurd (omega arith)
rank-same Authority AuthoritativeAnswer h = absurd (omega arith)
rank-same AuthoritativeAnswer Additional h = absurd (omega arith)
rank-same AuthoritativeAnswer NonAuthoritativeAnswer h = absurd (omega arith)
rank-same AuthoritativeAnswer Authority h = absurd (omega arith)

trust-Decides : (a b : Trust) → Decides (rank a == rank b) (a ≡ b)
trust-Decides a b = (λ h. rank-same a b ((Decides-eqb (rank a) (rank b)).0 h), λ e. (Decides-eqb (rank a) (rank b)).1 (ap rank e))

items-Decides : (xs ys : List (List ℕ)) → Decides (pointwise (pointwise nat_eq) xs ys) (xs ≡ ys)
items-Decides xs ys = slice_eq-Decides bytes_decides xs ys (pointwise (pointwise nat_eq) xs ys) refl

-- ---- bodies

body_eq-itself : (body : Body) → body_eq body body ≡ true
body_eq-itself (Positive trust ttl owner items) =
    and_from (rank trust == rank trust) (ttl == ttl && (pointwise nat_eq owner owner && pointwise (pointwise nat_eq) items items)) ((trust-Decides trust trust).1 refl)
    (and_from (ttl == ttl) (pointwise nat_eq owner owner && pointwise (pointwise nat_eq) items items) ((Decides-eqb ttl ttl).1 refl)
    (and_from (pointwise nat_eq owner owner) (pointwise (pointwise nat_eq) items items) ((bytes_decides owner owner).1 refl) ((items-Decides items items).1 refl)))
body_eq-itself (Negative trust ttl owner soa) =
    and_from (rank trust == rank trust) (ttl == ttl && (pointwise nat_eq owner owner && pointwise nat_eq soa soa)) ((trust-Decides trust trust).1 refl)
    (and_from (ttl == ttl) (pointwise nat_eq owner owner && pointwise nat_eq soa soa) ((Decides-eqb ttl ttl).1 refl)
    (and_from (pointwise nat_eq owner owner) (pointwise nat_eq soa soa) ((bytes_decides owner owner).1 refl) ((bytes_decides soa soa).1 refl)))
body_eq-itself (Failure ttl) = (Decides-eqb ttl ttl).1 refl

body_eq-same : (body other : Body) → body_eq body other ≡ true → body ≡ other
body_eq-same (Positive trust ttl owner items) (Positive trust' ttl' owner' items') h =
    let a = and_parts (rank trust == rank trust') (ttl == ttl' && (pointwise nat_eq owner owner' && pointwise (pointwise nat_eq) items items')) h in
    let b = and_parts (ttl == ttl') (pointwise nat_eq owner owner' && pointwise (pointwise nat_eq) items items') a.1 in
    let c = and_parts (pointwise nat_eq owner owner') (pointwise (pointwise nat_eq) items items') b.1 in
    λ i. Positive ((trust-Decides trust trust').0 a.0 i) ((Decides-eqb ttl ttl').0 b.0 i) ((bytes_decides owner owner').0 c.0 i) ((items-Decides items items').0 c.1 i)
body_eq-same (Negative trust ttl owner soa) (Negative trust' ttl' owner' soa') h =
    let a = and_parts (rank trust == rank trust') (ttl == ttl' && (pointwise nat_eq owner owner' && pointwise nat_eq soa soa')) h in
    let b = and_parts (ttl == ttl') (pointwise nat_eq owner owner' && pointwise nat_eq soa soa') a.1 in
    let c = and_parts (pointwise nat_eq owner owner') (pointwise nat_eq soa soa') b.1 in
    λ i. Negative ((trust-Decides trust trust').0 a.0 i) ((Decides-eqb ttl ttl').0 b.0 i) ((bytes_decides owner owner').0 c.0 i) ((bytes_decides soa soa').0 c.1 i)
body_eq-same (Failure ttl) (Failure ttl') h = ap Failure ((Decides-eqb ttl ttl').0 h)
body_eq-same (Positive trust ttl owner items) (Negative trust' ttl' owner' soa') h = absurd cc
body_eq-same (Positive trust ttl owner items) (Failure ttl') h = absurd cc
body_eq-same (Negative trust ttl owner soa) (Positive trust' ttl' owner' items') h = absurd cc
body_eq-same (Negative trust ttl owner soa) (Failure ttl') h = absurd cc
body_eq-same (Failure ttl) (Positive trust' ttl' owner' items') h = absurd cc
body_eq-same (Failure ttl) (Negative trust' ttl' owner' soa') h = absurd cc

-- a test that is true of one value and itself, and else only of one, decides whether two are one
decides_by : {A : Type 0} (eq : A → A → Bool) → ((a : A) → eq a a ≡ true) → ((a b : A) → eq a b ≡ true → a ≡ b) → (a b : A) → Decides (eq a b) (a ≡ b)
decides_by eq itself same a b = (same a b, λ e. subst (λ x. eq a x ≡ true) e (itself a))

pub body_eq-Decides : (body other : Body) → Decides (body_eq body other) (body ≡ other)
body_eq-Decides = decides_by body_eq body_eq-itself body_eq-same

pub body_eq-laws : IsEquivalence body_eq
body_eq-laws = equivalence_by body_eq body_eq-Decides

-- ---- entries

entry_eq-itself : (entry : Entry) → entry_eq entry entry ≡ true
entry_eq-itself e =
    and_from (key_eq e.key e.key) (body_eq e.body e.body && (e.moment == e.moment && e.number == e.number)) (key_eq-laws.refl e.key)
    (and_from (body_eq e.body e.body) (e.moment == e.moment && e.number == e.number) (body_eq-itself e.body)
    (and_from (e.moment == e.moment) (e.number == e.number) ((Decides-eqb e.moment e.moment).1 refl) ((Decides-eqb e.number e.number).1 refl)))

entry_eq-same : (entry other : Entry) → entry_eq entry other ≡ true → entry ≡ other
entry_eq-same e o h =
    let a = and_parts (key_eq e.key o.key) (body_eq e.body o.body && (e.moment == o.moment && e.number == o.number)) h in
    let b = and_parts (body_eq e.body o.body) (e.moment == o.moment && e.number == o.number) a.1 in
    let c = and_parts (e.moment == o.moment) (e.number == o.number) b.1 in
    λ i. record {
      key = key_eq-same e.key o.key a.0 i;
      body = body_eq-same e.body o.body b.0 i;
      moment = (Decides-eqb e.moment o.moment).0 c.0 i;
      number = (Decides-eqb e.number o.number).0 c.1 i;
    }

pub entry_eq-Decides : (entry other : Entry) → Decides (entry_eq entry other) (entry ≡ other)
entry_eq-Decides = decides_by entry_eq entry_eq-itself entry_eq-same

pub entry_eq-laws : IsEquivalence entry_eq
entry_eq-laws = equivalence_by entry_eq entry_eq-Decides

entries-Decides : (xs ys : List Entry) → Decides (pointwise entry_eq xs ys) (xs ≡ ys)
entries-Decides xs ys = slice_eq-Decides entry_eq-Decides xs ys (pointwise entry_eq xs ys) refl

-- ---- snapshots

rules_eq-itself : (rules : Rules) → rules_eq rules rules ≡ true
rules_eq-itself r =
    and_from (r.capacity == r.capacity) (r.chapter == r.chapter && r.stale == r.stale) ((Decides-eqb r.capacity r.capacity).1 refl)
    (and_from (r.chapter == r.chapter) (r.stale == r.stale) ((Decides-eqb r.chapter r.chapter).1 refl) ((Decides-eqb r.stale r.stale).1 refl))

rules_eq-same : (rules other : Rules) → rules_eq rules other ≡ true → rules ≡ other
rules_eq-same r o h =
    let a = and_parts (r.capacity == o.capacity) (r.chapter == o.chapter && r.stale == o.stale) h in
    let b = and_parts (r.chapter == o.chapter) (r.stale == o.stale) a.1 in
    let capacity : r.capacity ≡ o.capacity = (Decides-eqb r.capacity o.capacity).0 a.0 in
    let chapter : r.chapter ≡ o.chapter = (Decides-eqb r.chapter o.chapter).0 b.0 in
    let stale : r.stale ≡ o.stale = (Decides-eqb r.stale o.stale).0 b.1 in
    λ i. record {
      capacity = capacity i;
      chapter = chapter i;
      stale = stale i;
      some_capacity = is_prop→PathP (λ j. 1 ≤ capacity j) (λ j. le_prop) r.some_capacity o.some_capacity i;
      capacity_within = is_prop→PathP (λ j. capacity j ≤ 65536) (λ j. le_prop) r.capacity_within o.capacity_within i;
      some_chapter = is_prop→PathP (λ j. 1 ≤ chapter j) (λ j. le_prop) r.some_chapter o.some_chapter i;
      chapter_within = is_prop→PathP (λ j. chapter j ≤ 1048576) (λ j. le_prop) r.chapter_within o.chapter_within i;
      stale_within = is_prop→PathP (λ j. stale j ≤ 604800) (λ j. le_prop) r.stale_within o.stale_within i;
    }

snapshot_eq-itself : (snapshot : SnapshotOf) → snapshot_eq snapshot snapshot ≡ true
snapshot_eq-itself s =
    and_from (rules_eq s.rules s.rules) (s.first == s.first && pointwise entry_eq s.entries s.entries) (rules_eq-itself s.rules)
    (and_from (s.first == s.first) (pointwise entry_eq s.entries s.entries) ((Decides-eqb s.first s.first).1 refl) ((entries-Decides s.entries s.entries).1 refl))

snapshot_eq-same : (snapshot other : SnapshotOf) → snapshot_eq snapshot other ≡ true → snapshot ≡ other
snapshot_eq-same s o h =
    let a = and_parts (rules_eq s.rules o.rules) (s.first == o.first && pointwise entry_eq s.entries o.entries) h in
    let b = and_parts (s.first == o.first) (pointwise entry_eq s.entries o.entries) a.1 in
    λ i. record {
      rules = rules_eq-same s.rules o.rules a.0 i;
      first = (Decides-eqb s.first o.first).0 b.0 i;
      entries = (entries-Decides s.entries o.entries).0 b.1 i;
    }

pub snapshot_eq-Decides : SameAreOne
snapshot_eq-Decides = decides_by snapshot_eq snapshot_eq-itself snapshot_eq-same

pub snapshot_eq-laws : IsEquivalence snapshot_eq
snapshot_eq-laws = equivalence_by snapshot_eq snapshot_eq-Decides
