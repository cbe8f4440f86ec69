-- SPDX-License-Identifier: MIT
-- The events and entries of an archive are told apart from what stands behind them.
use Rattle.std.proofs.Common.{◌≡◌, ℕ, List, [], ◌∷◌, ◌++◌, Option, Some, None, refl, sym, ap, ◌∙◌, arith, append_assoc, decimal, codes}
use Rattle.std.specs.List.{AllByRecursion}
use Rattle.hex.specs.Hex.{IsBytes}
use Rattle.rrc_name.specs.Wire.{IsWireForm}
use Rattle.rrc_name.specs.Text.{text_of}
use Rattle.rrc_name.specs.Key.{KeyOf}
use Rattle.rrc_name.specs.declared.slot.Slot.{Slot}
use Rattle.rrc_name.specs.declared.slot.Slot.TheVariants.{Set, Nx}
use Rattle.rrc_name.specs.declared.slot.Slot.TheVariants as slot
use Rattle.rrc_history.specs.Asked.{AskOf}
use Rattle.rrc_history.specs.Fits.{OfferOf}
use Rattle.rrc_history.specs.Lives.{rank}
use Rattle.rrc_history.specs.declared.ask.Mode.{Mode}
use Rattle.rrc_history.specs.declared.ask.Mode.TheVariants.{NoStale, Failed, Now}
use Rattle.rrc_history.specs.declared.ask.Purpose.{Purpose}
use Rattle.rrc_history.specs.declared.ask.Purpose.TheVariants.{Any, Answer}
use Rattle.rrc_history.specs.declared.body.Body.{Body}
use Rattle.rrc_history.specs.declared.body.Body.TheVariants.{Positive, Negative, Failure}
use Rattle.rrc_history.specs.declared.body.Trust.{Trust}
use Rattle.rrc_history.specs.declared.body.Trust.TheVariants.{Additional, NonAuthoritativeAnswer, Authority, AuthoritativeAnswer}
use Rattle.rrc_history.specs.declared.event.Event.{Event}
use Rattle.rrc_history.specs.declared.event.Event.TheVariants.{Offered, Asked, Swept}
use Rattle.rrc_history.specs.declared.event.Outcome.{Outcome}
use Rattle.rrc_history.specs.declared.event.Outcome.TheVariants.{Kept, Cleared, LessTrusted}
use Rattle.rrc_history.specs.declared.event.Reply.{Reply}
use Rattle.rrc_history.specs.declared.event.Reply.TheVariants.{Fresh, Stale, NoData, NxDomain, Miss}
use Rattle.rrc_history.specs.declared.event.Tag.{Tag}
use Rattle.rrc_history.specs.declared.snapshot.Entry.{Entry}
use Rattle.rrc_text.specs.Grammar.{purpose_word, mode_word}
use Rattle.rrc_text.specs.Numbers.{rank as trust_by_rank}
use Rattle.rrc_text.specs.Replies.{item_text, items_text, slot_text, class_text, outcome_text, reply_text}
use Rattle.rrc_archive.specs.Archive.{key_fields, tag_fields, body_fields, keys_fields, evicted_fields, entry_text, event_text}
use Rattle.rrc_archive.specs.ArchiveLaw.{IsNumber, HoldsSlot, HoldsKey, HoldsTag, HoldsItems, HoldsBody, HoldsEntry, HoldsReply, HoldsEvicted, HoldsEvent}
use Rattle.rrc_archive.proofs.CancelLemmas.{Stops, Cancels, lower, pair, through, beside, respelled, tail-of, head-of, strip, none-above, stops-higher}
use Rattle.rrc_archive.proofs.CancelFields.{names, items, soas, numbers, kinds, slot_and_class, tags, keys}

abbrev trust-of : ℕ → Trust
trust-of n = elim (trust_by_rank n) [ None ↦ Additional | Some trust ↦ trust ]

trust-back : (trust : Trust) → trust-of (rank trust) ≡ trust
trust-back Additional = refl
trust-back NonAuthoritativeAnswer = refl
trust-back Authority = refl
trust-back AuthoritativeAnswer = refl

small-rank : (trust : Trust) → IsNumber (rank trust)
small-rank Additional = omega arith
small-rank NonAuthoritativeAnswer = omega arith
small-rank Authority = omega arith
small-rank AuthoritativeAnswer = omega arith

trusts : Cancels 32 (λ (trust : Trust). decimal (rank trust)) (λ (trust : Trust). IsNumber (rank trust))
trusts = through 32 decimal IsNumber rank trust-of trust-back numbers

-- how long something lives, its owner and its data
abbrev lived : {X : Type 0} → (X → List ℕ) → ℕ × (List ℕ × X) → List ℕ
lived g p = decimal p.0 ++ (32 ∷ (text_of p.1.0 ++ (32 ∷ g p.1.1)))

abbrev HoldsLived : {X : Type 0} → (X → Type 0) → ℕ × (List ℕ × X) → Type 0
HoldsLived Q p = IsNumber p.0 × (IsWireForm p.1.0 × Q p.1.1)

lives : {X : Type 0} (t : ℕ) (g : X → List ℕ) (Q : X → Type 0) → Cancels t g Q → Cancels t (lived g) (HoldsLived Q)
lives {X} t g Q told =
    pair t decimal IsNumber (λ (q : List ℕ × X). text_of q.0 ++ (32 ∷ g q.1)) (λ (q : List ℕ × X). IsWireForm q.0 × Q q.1) numbers
    (pair t text_of IsWireForm g Q names told)

abbrev sourced : {X : Type 0} → (X → List ℕ) → Trust × (ℕ × (List ℕ × X)) → List ℕ
sourced g p = decimal (rank p.0) ++ (32 ∷ lived g p.1)

sources : {X : Type 0} (t : ℕ) (g : X → List ℕ) (Q : X → Type 0) → Cancels t g Q
    → Cancels t (sourced g) (λ (p : Trust × (ℕ × (List ℕ × X))). IsNumber (rank p.0) × HoldsLived Q p.1)
sources t g Q told = pair t (λ (trust : Trust). decimal (rank trust)) (λ (trust : Trust). IsNumber (rank trust)) (lived g) (HoldsLived Q) trusts (lives t g Q told)

one-body : (a b : Body) (r s : List ℕ) → HoldsBody a → HoldsBody b → Stops 32 r → Stops 32 s → body_fields a ++ r ≡ body_fields b ++ s → (a ≡ b) × (r ≡ s)
one-body (Positive t l o d) (Positive t2 l2 o2 d2) r s pa pb sr ss e =
    let c = (sources 32 items_text HoldsItems items).same (t, (l, (o, d))) (t2, (l2, (o2, d2))) r s (small-rank t, pa) (small-rank t2, pb) sr ss
    (strip (codes "set ") (sourced items_text (t, (l, (o, d))) ++ r) (sourced items_text (t2, (l2, (o2, d2))) ++ s) e) in
    (ap (λ (p : Trust × (ℕ × (List ℕ × List (List ℕ)))). Positive p.0 p.1.0 p.1.1.0 p.1.1.1) c.0, c.1)
one-body (Positive t l o d) (Negative t2 l2 o2 d2) r s pa pb sr ss e = let h : 115 ≡ 110 = head-of e in absurd (omega (arith, h))
one-body (Positive t l o d) (Failure l2) r s pa pb sr ss e = let h : 115 ≡ 102 = head-of e in absurd (omega (arith, h))
one-body (Negative t l o d) (Positive t2 l2 o2 d2) r s pa pb sr ss e = let h : 110 ≡ 115 = head-of e in absurd (omega (arith, h))
one-body (Negative t l o d) (Negative t2 l2 o2 d2) r s pa pb sr ss e =
    let c = (sources 32 item_text IsBytes soas).same (t, (l, (o, d))) (t2, (l2, (o2, d2))) r s (small-rank t, pa) (small-rank t2, pb) sr ss
    (strip (codes "negative ") (sourced item_text (t, (l, (o, d))) ++ r) (sourced item_text (t2, (l2, (o2, d2))) ++ s) e) in
    (ap (λ (p : Trust × (ℕ × (List ℕ × List ℕ))). Negative p.0 p.1.0 p.1.1.0 p.1.1.1) c.0, c.1)
one-body (Negative t l o d) (Failure l2) r s pa pb sr ss e = let h : 110 ≡ 102 = head-of e in absurd (omega (arith, h))
one-body (Failure l) (Positive t2 l2 o2 d2) r s pa pb sr ss e = let h : 102 ≡ 115 = head-of e in absurd (omega (arith, h))
one-body (Failure l) (Negative t2 l2 o2 d2) r s pa pb sr ss e = let h : 102 ≡ 110 = head-of e in absurd (omega (arith, h))
one-body (Failure l) (Failure l2) r s pa pb sr ss e =
    let c = numbers.same l l2 r s pa pb sr ss (strip (codes "failure ") (decimal l ++ r) (decimal l2 ++ s) e) in (ap Failure c.0, c.1)

pub bodies : Cancels 32 body_fields HoldsBody
bodies = record { same = one-body }

one-reply : (a b : Reply) (r s : List ℕ) → HoldsReply a → HoldsReply b → Stops 10 r → Stops 10 s → reply_text a ++ r ≡ reply_text b ++ s → (a ≡ b) × (r ≡ s)
one-reply (Fresh d l) (Fresh d2 l2) r s pa pb sr ss e =
    let c = (lives 10 items_text HoldsItems (lower 10 32 items_text HoldsItems (omega arith) items)).same (l, (d.owner, d.items)) (l2, (d2.owner, d2.items)) r s pa pb sr ss
    (strip (codes "fresh ") (lived items_text (l, (d.owner, d.items)) ++ r) (lived items_text (l2, (d2.owner, d2.items)) ++ s) e) in
    (ap (λ (p : ℕ × (List ℕ × List (List ℕ))). Fresh (record { owner = p.1.0; items = p.1.1 }) p.0) c.0, c.1)
one-reply (Fresh d l) (Stale d2 l2) r s pa pb sr ss e = let h : 102 ≡ 115 = head-of e in absurd (omega (arith, h))
one-reply (Fresh d l) (NoData d2 l2) r s pa pb sr ss e = let h : 102 ≡ 110 = head-of e in absurd (omega (arith, h))
one-reply (Fresh d l) (NxDomain d2 l2) r s pa pb sr ss e = let h : 102 ≡ 110 = head-of e in absurd (omega (arith, h))
one-reply (Fresh d l) (Miss None) r s pa pb sr ss e = let h : 102 ≡ 109 = head-of e in absurd (omega (arith, h))
one-reply (Fresh d l) (Miss (Some m2)) r s pa pb sr ss e = let h : 102 ≡ 109 = head-of e in absurd (omega (arith, h))
one-reply (Stale d l) (Fresh d2 l2) r s pa pb sr ss e = let h : 115 ≡ 102 = head-of e in absurd (omega (arith, h))
one-reply (Stale d l) (Stale d2 l2) r s pa pb sr ss e =
    let c = (lives 10 items_text HoldsItems (lower 10 32 items_text HoldsItems (omega arith) items)).same (l, (d.owner, d.items)) (l2, (d2.owner, d2.items)) r s pa pb sr ss
    (strip (codes "stale ") (lived items_text (l, (d.owner, d.items)) ++ r) (lived items_text (l2, (d2.owner, d2.items)) ++ s) e) in
    (ap (λ (p : ℕ × (List ℕ × List (List ℕ))). Stale (record { owner = p.1.0; items = p.1.1 }) p.0) c.0, c.1)
one-reply (Stale d l) (NoData d2 l2) r s pa pb sr ss e = let h : 115 ≡ 110 = head-of e in absurd (omega (arith, h))
one-reply (Stale d l) (NxDomain d2 l2) r s pa pb sr ss e = let h : 115 ≡ 110 = head-of e in absurd (omega (arith, h))
one-reply (Stale d l) (Miss None) r s pa pb sr ss e = let h : 115 ≡ 109 = head-of e in absurd (omega (arith, h))
one-reply (Stale d l) (Miss (Some m2)) r s pa pb sr ss e = let h : 115 ≡ 109 = head-of e in absurd (omega (arith, h))
one-reply (NoData d l) (Fresh d2 l2) r s pa pb sr ss e = let h : 110 ≡ 102 = head-of e in absurd (omega (arith, h))
one-reply (NoData d l) (Stale d2 l2) r s pa pb sr ss e = let h : 110 ≡ 115 = head-of e in absurd (omega (arith, h))
one-reply (NoData d l) (NoData d2 l2) r s pa pb sr ss e =
    let c = (lives 10 item_text IsBytes (lower 10 32 item_text IsBytes (omega arith) soas)).same (l, (d.owner, d.octets)) (l2, (d2.owner, d2.octets)) r s pa pb sr ss
    (strip (codes "nodata ") (lived item_text (l, (d.owner, d.octets)) ++ r) (lived item_text (l2, (d2.owner, d2.octets)) ++ s) e) in
    (ap (λ (p : ℕ × (List ℕ × List ℕ)). NoData (record { owner = p.1.0; octets = p.1.1 }) p.0) c.0, c.1)
one-reply (NoData d l) (NxDomain d2 l2) r s pa pb sr ss e = let h : 111 ≡ 120 = head-of (tail-of e) in absurd (omega (arith, h))
one-reply (NoData d l) (Miss None) r s pa pb sr ss e = let h : 110 ≡ 109 = head-of e in absurd (omega (arith, h))
one-reply (NoData d l) (Miss (Some m2)) r s pa pb sr ss e = let h : 110 ≡ 109 = head-of e in absurd (omega (arith, h))
one-reply (NxDomain d l) (Fresh d2 l2) r s pa pb sr ss e = let h : 110 ≡ 102 = head-of e in absurd (omega (arith, h))
one-reply (NxDomain d l) (Stale d2 l2) r s pa pb sr ss e = let h : 110 ≡ 115 = head-of e in absurd (omega (arith, h))
one-reply (NxDomain d l) (NoData d2 l2) r s pa pb sr ss e = let h : 120 ≡ 111 = head-of (tail-of e) in absurd (omega (arith, h))
one-reply (NxDomain d l) (NxDomain d2 l2) r s pa pb sr ss e =
    let c = (lives 10 item_text IsBytes (lower 10 32 item_text IsBytes (omega arith) soas)).same (l, (d.owner, d.octets)) (l2, (d2.owner, d2.octets)) r s pa pb sr ss
    (strip (codes "nxdomain ") (lived item_text (l, (d.owner, d.octets)) ++ r) (lived item_text (l2, (d2.owner, d2.octets)) ++ s) e) in
    (ap (λ (p : ℕ × (List ℕ × List ℕ)). NxDomain (record { owner = p.1.0; octets = p.1.1 }) p.0) c.0, c.1)
one-reply (NxDomain d l) (Miss None) r s pa pb sr ss e = let h : 110 ≡ 109 = head-of e in absurd (omega (arith, h))
one-reply (NxDomain d l) (Miss (Some m2)) r s pa pb sr ss e = let h : 110 ≡ 109 = head-of e in absurd (omega (arith, h))
one-reply (Miss None) (Fresh d2 l2) r s pa pb sr ss e = let h : 109 ≡ 102 = head-of e in absurd (omega (arith, h))
one-reply (Miss None) (Stale d2 l2) r s pa pb sr ss e = let h : 109 ≡ 115 = head-of e in absurd (omega (arith, h))
one-reply (Miss None) (NoData d2 l2) r s pa pb sr ss e = let h : 109 ≡ 110 = head-of e in absurd (omega (arith, h))
one-reply (Miss None) (NxDomain d2 l2) r s pa pb sr ss e = let h : 109 ≡ 110 = head-of e in absurd (omega (arith, h))
one-reply (Miss None) (Miss None) r s pa pb sr ss e = (refl, strip (codes "miss") r s e)
one-reply (Miss None) (Miss (Some m2)) r s pa pb sr ss e = absurd (none-above 10 32 (decimal m2 ++ s) r sr (omega arith) (strip (codes "miss") r (32 ∷ (decimal m2 ++ s)) e))
one-reply (Miss (Some m)) (Fresh d2 l2) r s pa pb sr ss e = let h : 109 ≡ 102 = head-of e in absurd (omega (arith, h))
one-reply (Miss (Some m)) (Stale d2 l2) r s pa pb sr ss e = let h : 109 ≡ 115 = head-of e in absurd (omega (arith, h))
one-reply (Miss (Some m)) (NoData d2 l2) r s pa pb sr ss e = let h : 109 ≡ 110 = head-of e in absurd (omega (arith, h))
one-reply (Miss (Some m)) (NxDomain d2 l2) r s pa pb sr ss e = let h : 109 ≡ 110 = head-of e in absurd (omega (arith, h))
one-reply (Miss (Some m)) (Miss None) r s pa pb sr ss e = absurd (none-above 10 32 (decimal m ++ r) s ss (omega arith) (sym (strip (codes "miss") (32 ∷ (decimal m ++ r)) s e)))
one-reply (Miss (Some m)) (Miss (Some m2)) r s pa pb sr ss e =
    let c = (lower 10 32 decimal IsNumber (omega arith) numbers).same m m2 r s pa pb sr ss (strip (codes "miss ") (decimal m ++ r) (decimal m2 ++ s) e) in
    (ap (λ (m : ℕ). Miss (Some m)) c.0, c.1)

pub replies : Cancels 10 reply_text HoldsReply
replies = record { same = one-reply }

one-outcome : (a b : Outcome) (r s : List ℕ) → Unit {0} → Unit {0} → Stops 32 r → Stops 32 s → outcome_text a ++ r ≡ outcome_text b ++ s → (a ≡ b) × (r ≡ s)
one-outcome Kept Kept r s pa pb sr ss e = (refl, strip (codes "kept") r s e)
one-outcome Kept Cleared r s pa pb sr ss e = let h : 107 ≡ 99 = head-of e in absurd (omega (arith, h))
one-outcome Kept LessTrusted r s pa pb sr ss e = let h : 107 ≡ 108 = head-of e in absurd (omega (arith, h))
one-outcome Cleared Kept r s pa pb sr ss e = let h : 99 ≡ 107 = head-of e in absurd (omega (arith, h))
one-outcome Cleared Cleared r s pa pb sr ss e = (refl, strip (codes "cleared") r s e)
one-outcome Cleared LessTrusted r s pa pb sr ss e = let h : 99 ≡ 108 = head-of e in absurd (omega (arith, h))
one-outcome LessTrusted Kept r s pa pb sr ss e = let h : 108 ≡ 107 = head-of e in absurd (omega (arith, h))
one-outcome LessTrusted Cleared r s pa pb sr ss e = let h : 108 ≡ 99 = head-of e in absurd (omega (arith, h))
one-outcome LessTrusted LessTrusted r s pa pb sr ss e = (refl, strip (codes "less") r s e)

outcomes : Cancels 32 outcome_text (λ (outcome : Outcome). Unit {0})
outcomes = record { same = one-outcome }

one-purpose : (a b : Purpose) (r s : List ℕ) → Unit {0} → Unit {0} → Stops 32 r → Stops 32 s → purpose_word a ++ r ≡ purpose_word b ++ s → (a ≡ b) × (r ≡ s)
one-purpose Any Any r s pa pb sr ss e = (refl, strip (codes "any") r s e)
one-purpose Any Answer r s pa pb sr ss e = let h : 121 ≡ 115 = head-of (tail-of (tail-of e)) in absurd (omega (arith, h))
one-purpose Answer Any r s pa pb sr ss e = let h : 115 ≡ 121 = head-of (tail-of (tail-of e)) in absurd (omega (arith, h))
one-purpose Answer Answer r s pa pb sr ss e = (refl, strip (codes "answer") r s e)

purposes : Cancels 32 purpose_word (λ (purpose : Purpose). Unit {0})
purposes = record { same = one-purpose }

one-mode : (a b : Mode) (r s : List ℕ) → Unit {0} → Unit {0} → Stops 32 r → Stops 32 s → mode_word a ++ r ≡ mode_word b ++ s → (a ≡ b) × (r ≡ s)
one-mode NoStale NoStale r s pa pb sr ss e = (refl, strip (codes "none") r s e)
one-mode NoStale Failed r s pa pb sr ss e = let h : 110 ≡ 102 = head-of e in absurd (omega (arith, h))
one-mode NoStale Now r s pa pb sr ss e = let h : 110 ≡ 119 = head-of (tail-of (tail-of e)) in absurd (omega (arith, h))
one-mode Failed NoStale r s pa pb sr ss e = let h : 102 ≡ 110 = head-of e in absurd (omega (arith, h))
one-mode Failed Failed r s pa pb sr ss e = (refl, strip (codes "failed") r s e)
one-mode Failed Now r s pa pb sr ss e = let h : 102 ≡ 110 = head-of e in absurd (omega (arith, h))
one-mode Now NoStale r s pa pb sr ss e = let h : 119 ≡ 110 = head-of (tail-of (tail-of e)) in absurd (omega (arith, h))
one-mode Now Failed r s pa pb sr ss e = let h : 110 ≡ 102 = head-of e in absurd (omega (arith, h))
one-mode Now Now r s pa pb sr ss e = (refl, strip (codes "now") r s e)

modes : Cancels 32 mode_word (λ (mode : Mode). Unit {0})
modes = record { same = one-mode }

one-evicted : (a b : Option KeyOf) (r s : List ℕ) → HoldsEvicted a → HoldsEvicted b → Stops 10 r → Stops 10 s → evicted_fields a ++ r ≡ evicted_fields b ++ s → (a ≡ b) × (r ≡ s)
one-evicted None None r s pa pb sr ss e = (refl, e)
one-evicted None (Some k) r s pa pb sr ss e = absurd (none-above 10 32 (key_fields k ++ s) r sr (omega arith) e)
one-evicted (Some k) None r s pa pb sr ss e = absurd (none-above 10 32 (key_fields k ++ r) s ss (omega arith) (sym e))
one-evicted (Some k) (Some k2) r s pa pb sr ss e =
    let c = keys.same k k2 r s pa pb (stops-higher 10 32 r (omega arith) sr) (stops-higher 10 32 s (omega arith) ss) (tail-of e) in
    (ap (λ (k : KeyOf). Some k) c.0, c.1)

evictions : Cancels 10 evicted_fields HoldsEvicted
evictions = record { same = one-evicted }

stops-evicted : (evicted : Option KeyOf) (r : List ℕ) → Stops 10 r → Stops 32 (evicted_fields evicted ++ r)
stops-evicted None r stops = stops-higher 10 32 r (omega arith) stops
stops-evicted (Some key) r stops = omega arith

stops-keys : (gone : List KeyOf) (r : List ℕ) → Stops 10 r → Stops 32 (keys_fields gone ++ r)
stops-keys [] r stops = stops-higher 10 32 r (omega arith) stops
stops-keys (key ∷ gone) r stops = omega arith

all-keys : (xs ys : List KeyOf) (r s : List ℕ) → AllByRecursion HoldsKey xs → AllByRecursion HoldsKey ys → Stops 10 r → Stops 10 s
    → keys_fields xs ++ r ≡ keys_fields ys ++ s → (xs ≡ ys) × (r ≡ s)
all-keys [] [] r s px py sr ss e = (refl, e)
all-keys [] (y ∷ ys) r s px py sr ss e = absurd (none-above 10 32 ((key_fields y ++ keys_fields ys) ++ s) r sr (omega arith) e)
all-keys (x ∷ xs) [] r s px py sr ss e = absurd (none-above 10 32 ((key_fields x ++ keys_fields xs) ++ r) s ss (omega arith) (sym e))
all-keys (x ∷ xs) (y ∷ ys) r s px py sr ss e =
    let split : key_fields x ++ (keys_fields xs ++ r) ≡ key_fields y ++ (keys_fields ys ++ s) =
    sym (append_assoc (key_fields x) (keys_fields xs) r) ∙ tail-of e ∙ append_assoc (key_fields y) (keys_fields ys) s in
    let one = keys.same x y (keys_fields xs ++ r) (keys_fields ys ++ s) px.0 py.0 (stops-keys xs r sr) (stops-keys ys s ss) split in
    let rest = all-keys xs ys r s px.1 py.1 sr ss one.1 in
    ((λ i. one.0 i ∷ rest.0 i), rest.1)

removals : Cancels 10 keys_fields (AllByRecursion HoldsKey)
removals = record { same = all-keys }

-- an entry: its number, its moment, its key and its body
abbrev EntryTuple : Type 0
EntryTuple = ℕ × (ℕ × (KeyOf × Body))

entry-fields : Cancels 32 (λ (p : EntryTuple). decimal p.0 ++ (32 ∷ (decimal p.1.0 ++ (32 ∷ (key_fields p.1.1.0 ++ (32 ∷ body_fields p.1.1.1))))))
    (λ (p : EntryTuple). IsNumber p.0 × (IsNumber p.1.0 × (HoldsKey p.1.1.0 × HoldsBody p.1.1.1)))
entry-fields = pair 32 decimal IsNumber _ _ numbers (pair 32 decimal IsNumber _ _ numbers (pair 32 key_fields HoldsKey body_fields HoldsBody keys bodies))

one-entry : (a b : Entry) (r s : List ℕ) → HoldsEntry a → HoldsEntry b → Stops 32 r → Stops 32 s → entry_text a ++ r ≡ entry_text b ++ s → (a ≡ b) × (r ≡ s)
one-entry a b r s pa pb sr ss e =
    let c = entry-fields.same (a.number, (a.moment, (a.key, a.body))) (b.number, (b.moment, (b.key, b.body))) r s pa pb sr ss (strip (codes "entry ") _ _ e) in
    (ap (λ (p : EntryTuple). record { key = p.1.1.0; body = p.1.1.1; moment = p.1.0; number = p.0 }) c.0, c.1)

pub entries : Cancels 32 entry_text HoldsEntry
entries = record { same = one-entry }

-- the type and the class of an ask
abbrev type-in : Slot → ℕ
type-in (Set rtype) = rtype
type-in Nx = 0
type-in (slot.Failed rtype) = 0

types : Cancels 32 (λ (p : ℕ × ℕ). slot_and_class (Set p.0, p.1)) (λ (p : ℕ × ℕ). IsNumber p.0 × IsNumber p.1)
types =
    through 32 slot_and_class (λ (p : Slot × ℕ). HoldsSlot p.0 × IsNumber p.1) (λ (p : ℕ × ℕ). (Set p.0, p.1)) (λ q. (type-in q.0, q.1)) (λ p. refl) kinds

-- the purpose and the mode of an ask, and its reply
abbrev Manner : Type 0
Manner = Purpose × (Mode × Reply)

abbrev manner_text : Manner → List ℕ
manner_text p = purpose_word p.0 ++ (32 ∷ (mode_word p.1.0 ++ (32 ∷ reply_text p.1.1)))

abbrev HoldsManner : Manner → Type 0
HoldsManner p = Unit {0} × (Unit {0} × HoldsReply p.1.1)

manners : Cancels 10 manner_text HoldsManner
manners = pair 10 purpose_word (λ (purpose : Purpose). Unit {0}) _ _ purposes (pair 10 mode_word (λ (mode : Mode). Unit {0}) reply_text HoldsReply modes replies)

abbrev Question : Type 0
Question = (ℕ × ℕ) × Manner

abbrev question_text : Question → List ℕ
question_text q = slot_text (Set q.0.0) ++ (class_text q.0.1 ++ (32 ∷ manner_text q.1))

abbrev HoldsQuestion : Question → Type 0
HoldsQuestion q = (IsNumber q.0.0 × IsNumber q.0.1) × HoldsManner q.1

questions : Cancels 10 question_text HoldsQuestion
questions =
    respelled 10 (λ (q : Question). slot_and_class (Set q.0.0, q.0.1) ++ (32 ∷ manner_text q.1)) question_text HoldsQuestion
    (pair 10 (λ (p : ℕ × ℕ). slot_and_class (Set p.0, p.1)) (λ (p : ℕ × ℕ). IsNumber p.0 × IsNumber p.1) manner_text HoldsManner types manners)
    (λ q. sym (append_assoc (slot_text (Set q.0.0)) (class_text q.0.1) (32 ∷ manner_text q.1)))

abbrev AskTuple : Type 0
AskTuple = Tag × (ℕ × (List ℕ × Question))

abbrev ask_fields : AskTuple → List ℕ
ask_fields p = tag_fields p.0 ++ (32 ∷ (decimal p.1.0 ++ (32 ∷ (text_of p.1.1.0 ++ (32 ∷ question_text p.1.1.1)))))

asks : Cancels 10 ask_fields (λ (p : AskTuple). HoldsTag p.0 × (IsNumber p.1.0 × (IsWireForm p.1.1.0 × HoldsQuestion p.1.1.1)))
asks = pair 10 tag_fields HoldsTag _ _ tags (pair 10 decimal IsNumber _ _ numbers (pair 10 text_of IsWireForm question_text HoldsQuestion names questions))

abbrev ask_tuple : Tag → AskOf → Reply → AskTuple
ask_tuple tag ask reply = (tag, (ask.moment, (ask.name, ((ask.rtype, ask.class), (ask.purpose, (ask.mode, reply))))))

abbrev OfferTuple : Type 0
OfferTuple = Tag × (ℕ × (KeyOf × (Body × (Outcome × Option KeyOf))))

abbrev offer_fields : OfferTuple → List ℕ
offer_fields p =
    tag_fields p.0 ++ (32 ∷ (decimal p.1.0 ++ (32 ∷ (key_fields p.1.1.0 ++ (32 ∷ (body_fields p.1.1.1.0 ++ (32 ∷ (outcome_text p.1.1.1.1.0 ++ evicted_fields p.1.1.1.1.1))))))))

offers : Cancels 10 offer_fields
    (λ (p : OfferTuple). HoldsTag p.0 × (IsNumber p.1.0 × (HoldsKey p.1.1.0 × (HoldsBody p.1.1.1.0 × (Unit {0} × HoldsEvicted p.1.1.1.1.1)))))
offers =
    pair 10 tag_fields HoldsTag _ _ tags
    (pair 10 decimal IsNumber _ _ numbers
    (pair 10 key_fields HoldsKey _ _ keys
    (pair 10 body_fields HoldsBody _ _ bodies
    (beside 10 32 outcome_text (λ (outcome : Outcome). Unit {0}) evicted_fields HoldsEvicted outcomes evictions stops-evicted))))

abbrev offer_tuple : Outcome → Tag → OfferOf → Option KeyOf → OfferTuple
offer_tuple outcome tag offer evicted = (tag, (offer.moment, (offer.key, (offer.body, (outcome, evicted)))))

abbrev SweepTuple : Type 0
SweepTuple = Tag × (ℕ × List KeyOf)

abbrev sweep_fields : SweepTuple → List ℕ
sweep_fields p = tag_fields p.0 ++ (32 ∷ (decimal p.1.0 ++ keys_fields p.1.1))

sweeps : Cancels 10 sweep_fields (λ (p : SweepTuple). HoldsTag p.0 × (IsNumber p.1.0 × AllByRecursion HoldsKey p.1.1))
sweeps =
    pair 10 tag_fields HoldsTag _ _ tags
    (beside 10 32 decimal IsNumber keys_fields (AllByRecursion HoldsKey) numbers removals stops-keys)

one-event : (a b : Event) (r s : List ℕ) → HoldsEvent a → HoldsEvent b → Stops 10 r → Stops 10 s → event_text a ++ r ≡ event_text b ++ s → (a ≡ b) × (r ≡ s)
one-event (Offered o t f v) (Offered o2 t2 f2 v2) r s pa pb sr ss e =
    let c = offers.same (offer_tuple o t f v) (offer_tuple o2 t2 f2 v2) r s (pa.0, (pa.1.0.0, (pa.1.0.1.0, (pa.1.0.1.1, (tt, pa.1.1)))))
    (pb.0, (pb.1.0.0, (pb.1.0.1.0, (pb.1.0.1.1, (tt, pb.1.1))))) sr ss
    (strip (codes "offer ") (offer_fields (offer_tuple o t f v) ++ r) (offer_fields (offer_tuple o2 t2 f2 v2) ++ s) e) in
    (ap (λ (p : OfferTuple). Offered p.1.1.1.1.0 p.0 (record { key = p.1.1.0; body = p.1.1.1.0; moment = p.1.0 }) p.1.1.1.1.1) c.0, c.1)
one-event (Offered o t f v) (Asked t2 q2 y2) r s pa pb sr ss e = let h : 111 ≡ 97 = head-of e in absurd (omega (arith, h))
one-event (Offered o t f v) (Swept t2 m2 g2) r s pa pb sr ss e = let h : 111 ≡ 115 = head-of e in absurd (omega (arith, h))
one-event (Asked t q y) (Offered o2 t2 f2 v2) r s pa pb sr ss e = let h : 97 ≡ 111 = head-of e in absurd (omega (arith, h))
one-event (Asked t q y) (Asked t2 q2 y2) r s pa pb sr ss e =
    let c = asks.same (ask_tuple t q y) (ask_tuple t2 q2 y2) r s (pa.0, (pa.1.0.0, (pa.1.0.1.0, (pa.1.0.1.1, (tt, (tt, pa.1.1))))))
    (pb.0, (pb.1.0.0, (pb.1.0.1.0, (pb.1.0.1.1, (tt, (tt, pb.1.1)))))) sr ss
    (strip (codes "ask ") (ask_fields (ask_tuple t q y) ++ r) (ask_fields (ask_tuple t2 q2 y2) ++ s) e) in (
      ap
          (λ (p : AskTuple). Asked p.0
          (record { name = p.1.1.0; class = p.1.1.1.0.1; rtype = p.1.1.1.0.0; moment = p.1.0; purpose = p.1.1.1.1.0; mode = p.1.1.1.1.1.0 }) p.1.1.1.1.1.1)
          c.0,
      c.1,
    )
one-event (Asked t q y) (Swept t2 m2 g2) r s pa pb sr ss e = let h : 97 ≡ 115 = head-of e in absurd (omega (arith, h))
one-event (Swept t m g) (Offered o2 t2 f2 v2) r s pa pb sr ss e = let h : 115 ≡ 111 = head-of e in absurd (omega (arith, h))
one-event (Swept t m g) (Asked t2 q2 y2) r s pa pb sr ss e = let h : 115 ≡ 97 = head-of e in absurd (omega (arith, h))
one-event (Swept t m g) (Swept t2 m2 g2) r s pa pb sr ss e =
    let c = sweeps.same (t, (m, g)) (t2, (m2, g2)) r s pa pb sr ss
    (strip (codes "sweep ") (sweep_fields (t, (m, g)) ++ r) (sweep_fields (t2, (m2, g2)) ++ s) e) in
    (ap (λ (p : SweepTuple). Swept p.0 p.1.0 p.1.1) c.0, c.1)

pub events : Cancels 10 event_text HoldsEvent
events = record { same = one-event }
