-- SPDX-License-Identifier: MIT
-- The chapters of an archive are told by its text.
use Rattle.std.proofs.Common.{◌≡◌, ℕ, ◌≤◌, List, [], ◌∷◌, ◌++◌, map, refl, sym, ap, ◌∙◌, arith, append_assoc, decimal, codes}
use Rattle.std.specs.List.{AllByRecursion}
use Rattle.std.proofs.lemmas.Grind.{flat_map-append}
use Rattle.std.proofs.Math.Bridge.{le_prop}
use mathlib.Core.HLevel.{is_prop→PathP}
use Rattle.rrc_history.specs.declared.event.Event.{Event}
use Rattle.rrc_history.specs.declared.event.Event.TheVariants.{Offered, Asked, Swept}
use Rattle.rrc_history.specs.declared.rules.Rules.{Rules}
use Rattle.rrc_history.specs.declared.snapshot.Entry.{Entry}
use Rattle.rrc_archive.specs.Archive.{WrittenOf, head_text, entry_text, event_text, text_of_lines, chapter_text, archive_text}
use Rattle.rrc_archive.specs.ArchiveLaw.{IsNumber, HoldsEntry, HoldsEvent, HoldsChapter, OneArchive}
use Rattle.rrc_archive.proofs.CancelLemmas.{Cancels, pair, tail-of, head-of, strip}
use Rattle.rrc_archive.proofs.CancelFields.{numbers}
use Rattle.rrc_archive.proofs.CancelEvents.{entries, events}

pub rules-same : (r o : Rules) → r.capacity ≡ o.capacity → r.chapter ≡ o.chapter → r.stale ≡ o.stale → r ≡ o
rules-same r o capacity chapter stale =
    λ i. record {
      capacity = capacity i;
      chapter = chapter i;
      stale = stale i;
      some_capacity = is_prop→PathP (λ j. 1 ≤ capacity j) (λ j. le_prop) r.some_capacity o.some_capacity i;
      capacity_within = is_prop→PathP (λ j. capacity j ≤ 65536) (λ j. le_prop) r.capacity_within o.capacity_within i;
      some_chapter = is_prop→PathP (λ j. 1 ≤ chapter j) (λ j. le_prop) r.some_chapter o.some_chapter i;
      chapter_within = is_prop→PathP (λ j. chapter j ≤ 1048576) (λ j. le_prop) r.chapter_within o.chapter_within i;
      stale_within = is_prop→PathP (λ j. stale j ≤ 604800) (λ j. le_prop) r.stale_within o.stale_within i;
    }

abbrev pub HeadTuple : Type 0
HeadTuple = ℕ × (ℕ × (ℕ × (ℕ × ℕ)))

abbrev pub head_fields : HeadTuple → List ℕ
head_fields p = decimal p.0 ++ (32 ∷ (decimal p.1.0 ++ (32 ∷ (decimal p.1.1.0 ++ (32 ∷ (decimal p.1.1.1.0 ++ (32 ∷ decimal p.1.1.1.1)))))))

pub heads : Cancels 32 head_fields
    (λ (p : HeadTuple). IsNumber p.0 × (IsNumber p.1.0 × (IsNumber p.1.1.0 × (IsNumber p.1.1.1.0 × IsNumber p.1.1.1.1))))
heads =
    pair 32 decimal IsNumber _ _ numbers (pair 32 decimal IsNumber _ _ numbers (pair 32 decimal IsNumber _ _ numbers (pair 32 decimal IsNumber decimal IsNumber numbers numbers)))

abbrev pub head_tuple : WrittenOf → HeadTuple
head_tuple c = (c.number, (c.first, (c.rules.capacity, (c.rules.chapter, c.rules.stale))))

abbrev pub HoldsHead : HeadTuple → Type 0
HoldsHead p = IsNumber p.0 × (IsNumber p.1.0 × (IsNumber p.1.1.0 × (IsNumber p.1.1.1.0 × IsNumber p.1.1.1.1)))

pub holds-head : (c : WrittenOf) → HoldsChapter c → HoldsHead (head_tuple c)
holds-head c held =
    (held.number, (held.first, (omega (arith, c.rules.capacity_within), (omega (arith, c.rules.chapter_within), omega (arith, c.rules.stale_within)))))

abbrev with_lf : List ℕ → List ℕ
with_lf line = line ++ 10 ∷ []

abbrev pub entry_lines : List Entry → List ℕ
entry_lines es = text_of_lines (map entry_text es)

abbrev pub event_lines : List Event → List ℕ
event_lines es = text_of_lines (map event_text es)

-- octets end, or do not begin with an octet
abbrev pub Other : ℕ → List ℕ → Type 0
Other octet [] = Unit {0}
Other octet (first ∷ octets) = first ≡ octet → ⊥

-- octets end, or begin with a chapter
abbrev pub Next : List ℕ → Type 0
Next [] = Unit {0}
Next (first ∷ octets) = first ≡ 99

pub not-other : (octet : ℕ) (x r : List ℕ) → Other octet r → r ≡ octet ∷ x → ⊥
not-other octet x [] other e = absurd cc
not-other octet x (first ∷ r) other e = other (head-of e)

not-next : (octet : ℕ) (x r : List ℕ) → Next r → (octet ≡ 99 → ⊥) → r ≡ octet ∷ x → ⊥
not-next octet x [] next other e = absurd cc
not-next octet x (first ∷ r) next other e = other (sym (head-of e) ∙ next)

pub no-event : (event : Event) (z r : List ℕ) → Next r → r ≡ event_text event ++ z → ⊥
no-event (Offered o t f v) z r next e = not-next 111 _ r next (λ h. absurd (omega (arith, h))) e
no-event (Asked t q y) z r next e = not-next 97 _ r next (λ h. absurd (omega (arith, h))) e
no-event (Swept t m g) z r next e = not-next 115 _ r next (λ h. absurd (omega (arith, h))) e

no-entry : (events : List Event) (r : List ℕ) → Next r → Other 101 (event_lines events ++ r)
no-entry [] [] next = tt
no-entry [] (first ∷ r) next = λ h. absurd (omega (arith, h, next))
no-entry (Offered o t f v ∷ events) r next = λ h. absurd (omega (arith, h))
no-entry (Asked t q y ∷ events) r next = λ h. absurd (omega (arith, h))
no-entry (Swept t m g ∷ events) r next = λ h. absurd (omega (arith, h))

pub line-split : (line more r : List ℕ) → (with_lf line ++ more) ++ r ≡ line ++ (10 ∷ (more ++ r))
line-split line more r = append_assoc (with_lf line) more r ∙ append_assoc line (10 ∷ []) (more ++ r)

all-entries : (xs ys : List Entry) (r s : List ℕ) → AllByRecursion HoldsEntry xs → AllByRecursion HoldsEntry ys → Other 101 r → Other 101 s
    → entry_lines xs ++ r ≡ entry_lines ys ++ s → (xs ≡ ys) × (r ≡ s)
all-entries [] [] r s px py or os e = (refl, e)
all-entries [] (y ∷ ys) r s px py or os e = absurd (not-other 101 _ r or e)
all-entries (x ∷ xs) [] r s px py or os e = absurd (not-other 101 _ s os (sym e))
all-entries (x ∷ xs) (y ∷ ys) r s px py or os e =
    let split : entry_text x ++ (10 ∷ (entry_lines xs ++ r)) ≡ entry_text y ++ (10 ∷ (entry_lines ys ++ s)) =
    sym (line-split (entry_text x) (entry_lines xs) r) ∙ e ∙ line-split (entry_text y) (entry_lines ys) s in
    let one = entries.same x y (10 ∷ (entry_lines xs ++ r)) (10 ∷ (entry_lines ys ++ s)) px.0 py.0 (omega arith) (omega arith) split in
    let rest = all-entries xs ys r s px.1 py.1 or os (tail-of one.1) in
    ((λ i. one.0 i ∷ rest.0 i), rest.1)

all-events : (xs ys : List Event) (r s : List ℕ) → AllByRecursion HoldsEvent xs → AllByRecursion HoldsEvent ys → Next r → Next s
    → event_lines xs ++ r ≡ event_lines ys ++ s → (xs ≡ ys) × (r ≡ s)
all-events [] [] r s px py nr ns e = (refl, e)
all-events [] (y ∷ ys) r s px py nr ns e = absurd (no-event y _ r nr (e ∙ line-split (event_text y) (event_lines ys) s))
all-events (x ∷ xs) [] r s px py nr ns e = absurd (no-event x _ s ns (sym e ∙ line-split (event_text x) (event_lines xs) r))
all-events (x ∷ xs) (y ∷ ys) r s px py nr ns e =
    let split : event_text x ++ (10 ∷ (event_lines xs ++ r)) ≡ event_text y ++ (10 ∷ (event_lines ys ++ s)) =
    sym (line-split (event_text x) (event_lines xs) r) ∙ e ∙ line-split (event_text y) (event_lines ys) s in
    let one = events.same x y (10 ∷ (event_lines xs ++ r)) (10 ∷ (event_lines ys ++ s)) px.0 py.0 (omega arith) (omega arith) split in
    let rest = all-events xs ys r s px.1 py.1 nr ns (tail-of one.1) in
    ((λ i. one.0 i ∷ rest.0 i), rest.1)

-- what stands behind the head of a chapter
abbrev pub behind_head : WrittenOf → List ℕ → List ℕ
behind_head c r = entry_lines c.entries ++ (event_lines c.events ++ r)

pub chapter-split : (c : WrittenOf) (r : List ℕ) → chapter_text c ++ r ≡ head_text c.number c.first c.rules ++ (10 ∷ behind_head c r)
chapter-split c r =
    let head = head_text c.number c.first c.rules in
    let lines = text_of_lines (map entry_text c.entries ++ map event_text c.events) in
    let apart : lines ++ r ≡ behind_head c r =
    ap (λ l. l ++ r) (flat_map-append with_lf (map entry_text c.entries) (map event_text c.events)) ∙ append_assoc (entry_lines c.entries) (event_lines c.events) r in
    line-split head lines r ∙ ap (λ m. head ++ (10 ∷ m)) apart

pub next-chapters : (chapters : List WrittenOf) → Next (archive_text chapters)
next-chapters [] = tt
next-chapters (chapter ∷ chapters) = refl

pub one-chapter : (c d : WrittenOf) (r s : List ℕ) → HoldsChapter c → HoldsChapter d → Next r → Next s → chapter_text c ++ r ≡ chapter_text d ++ s
    → (c ≡ d) × (r ≡ s)
one-chapter c d r s pc pd nr ns e =
    let split : head_fields (head_tuple c) ++ (10 ∷ behind_head c r) ≡ head_fields (head_tuple d) ++ (10 ∷ behind_head d s) =
    strip (codes "chapter ") _ _ (sym (chapter-split c r) ∙ e ∙ chapter-split d s) in
    let head = heads.same (head_tuple c) (head_tuple d) (10 ∷ behind_head c r) (10 ∷ behind_head d s) (holds-head c pc) (holds-head d pd) (omega arith) (omega arith) split in
    let number : c.number ≡ d.number = ap (λ (p : HeadTuple). p.0) head.0 in
    let first : c.first ≡ d.first = ap (λ (p : HeadTuple). p.1.0) head.0 in
    let rules : c.rules ≡ d.rules =
    rules-same c.rules d.rules (ap (λ (p : HeadTuple). p.1.1.0) head.0) (ap (λ (p : HeadTuple). p.1.1.1.0) head.0) (ap (λ (p : HeadTuple). p.1.1.1.1) head.0) in
    let held = all-entries c.entries d.entries (event_lines c.events ++ r) (event_lines d.events ++ s) pc.entries pd.entries
    (no-entry c.events r nr) (no-entry d.events s ns) (tail-of head.1) in
    let told = all-events c.events d.events r s pc.events pd.events nr ns held.1 in
    ((λ i. record { number = number i; first = first i; rules = rules i; entries = held.0 i; events = told.0 i }), told.1)

pub one_archive : OneArchive
one_archive [] [] pc pd e = refl
one_archive [] (d ∷ ds) pc pd e = absurd (not-other 99 _ [] tt e)
one_archive (c ∷ cs) [] pc pd e = absurd (not-other 99 _ [] tt (sym e))
one_archive (c ∷ cs) (d ∷ ds) pc pd e =
    let one = one-chapter c d (archive_text cs) (archive_text ds) pc.0 pd.0 (next-chapters cs) (next-chapters ds) e in
    let rest = one_archive cs ds pc.1 pd.1 one.1 in
    λ i. one.0 i ∷ rest i
