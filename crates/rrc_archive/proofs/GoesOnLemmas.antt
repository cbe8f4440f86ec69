-- SPDX-License-Identifier: MIT
-- Behind chapters an archive goes on with a line that may stand there.
use Rattle.std.proofs.Common.{◌≡◌, ◌⊎◌, ℕ, ◌<◌, ◌≤◌, true, List, [], ◌∷◌, ◌++◌, length, map, refl, sym, ap, subst, ◌∙◌, arith, inl, inr, append_assoc, append-nil, decimal, codes}
use Rattle.std.specs.List.{AllByRecursion}
use Rattle.rrc_history.specs.declared.event.Event.{Event}
use Rattle.rrc_history.specs.declared.event.Event.TheVariants.{Offered, Asked, Swept}
use Rattle.rrc_history.specs.declared.snapshot.Entry.{Entry}
use Rattle.rrc_archive.specs.Archive.{WrittenOf, entry_text, event_text, chapter_text, archive_text}
use Rattle.rrc_archive.specs.ArchiveFits.{FitsEntry, FitsEvent, FitsChapter, IsNoArchive}
use Rattle.rrc_archive.specs.ArchiveLaw.{HoldsEntry, HoldsEvent, HoldsChapter}
use Rattle.rrc_archive.specs.ArchiveLines.{said_text, line_count, IsCutBehindLf}
use Rattle.rrc_archive.specs.ArchiveFaults.{MayEnd, with_lf, without_lf, StopsAt}
use Rattle.rrc_archive.specs.ArchiveSaid.{FitsSaid, MayFollow, GoesOnNowhere}
use Rattle.rrc_text.specs.Cuts.{IsUnended, IsCut}
use Rattle.rrc_archive.specs.declared.read.said.Said.{Said}
use Rattle.rrc_archive.specs.declared.read.said.Said.TheVariants as said
use Rattle.rrc_archive.proofs.CancelLemmas.{strip, tail-of, head-of}
use Rattle.rrc_archive.proofs.CancelEvents.{entries, events}
use Rattle.rrc_archive.proofs.CancelChapters.{head_fields, head_tuple, heads, holds-head, entry_lines, event_lines, Other, Next, not-other, no-event, line-split, behind_head, chapter-split, next-chapters, one-chapter}
use Rattle.rrc_archive.proofs.FitsLemmas.{holds-entry, holds-event, holds-chapter, line-unended}

-- octets behind chapters begin with a line that may stand there
pub record Continues (chapters : List WrittenOf) (octets : List ℕ) : Type 0 where
  pub told : Said
  pub fit : FitsSaid told
  pub follows : MayFollow chapters told
  pub rest : List ℕ
  pub begins : octets ≡ said_text told ++ (10 ∷ rest)

-- an event stands in front of octets
record HasEvent (octets : List ℕ) : Type 0 where
  event : Event
  fit : FitsEvent event
  rest : List ℕ
  begins : octets ≡ event_text event ++ (10 ∷ rest)

events-go : (xs ys : List Event) (z s : List ℕ) → AllByRecursion HoldsEvent xs → AllByRecursion FitsEvent ys → Next s
    → event_lines xs ++ z ≡ event_lines ys ++ s → HasEvent z ⊎ (z ≡ s)
events-go [] [] z s px py next e = inr e
events-go [] (y ∷ ys) z s px py next e =
    inl (record { event = y; fit = py.0; rest = event_lines ys ++ s; begins = e ∙ line-split (event_text y) (event_lines ys) s })
events-go (x ∷ xs) [] z s px py next e = absurd (no-event x _ s next (sym e ∙ line-split (event_text x) (event_lines xs) z))
events-go (x ∷ xs) (y ∷ ys) z s px py next e =
    let split : event_text x ++ (10 ∷ (event_lines xs ++ z)) ≡ event_text y ++ (10 ∷ (event_lines ys ++ s)) =
    sym (line-split (event_text x) (event_lines xs) z) ∙ e ∙ line-split (event_text y) (event_lines ys) s in
    let one = events.same x y (10 ∷ (event_lines xs ++ z)) (10 ∷ (event_lines ys ++ s)) px.0 (holds-event y py.0) (omega arith) (omega arith) split in
    events-go xs ys z s px.1 py.1 next (tail-of one.1)

-- an entry stands in front of octets
record HasEntry (octets : List ℕ) : Type 0 where
  entry : Entry
  fit : FitsEntry entry
  rest : List ℕ
  begins : octets ≡ entry_text entry ++ (10 ∷ rest)

entries-go : (xs ys : List Entry) (z s : List ℕ) → AllByRecursion HoldsEntry xs → AllByRecursion FitsEntry ys → Other 101 s
    → entry_lines xs ++ z ≡ entry_lines ys ++ s → HasEntry z ⊎ (z ≡ s)
entries-go [] [] z s px py other e = inr e
entries-go [] (y ∷ ys) z s px py other e =
    inl (record { entry = y; fit = py.0; rest = entry_lines ys ++ s; begins = e ∙ line-split (entry_text y) (entry_lines ys) s })
entries-go (x ∷ xs) [] z s px py other e = absurd (not-other 101 _ s other (sym e))
entries-go (x ∷ xs) (y ∷ ys) z s px py other e =
    let split : entry_text x ++ (10 ∷ (entry_lines xs ++ z)) ≡ entry_text y ++ (10 ∷ (entry_lines ys ++ s)) =
    sym (line-split (entry_text x) (entry_lines xs) z) ∙ e ∙ line-split (entry_text y) (entry_lines ys) s in
    let one = entries.same x y (10 ∷ (entry_lines xs ++ z)) (10 ∷ (entry_lines ys ++ s)) px.0 (holds-entry y py.0) (omega arith) (omega arith) split in
    entries-go xs ys z s px.1 py.1 other (tail-of one.1)

-- behind the entries of a chapter no more of them stand
no-entry : (events : List Event) (r : List ℕ) → Next r → Other 101 (event_lines events ++ r)
no-entry [] [] next = tt
no-entry [] (first ∷ r) next = λ h. absurd (omega (arith, h, next))
no-entry (Offered o t f v ∷ events) r next = λ h. absurd (omega (arith, h))
no-entry (Asked t q y ∷ events) r next = λ h. absurd (omega (arith, h))
no-entry (Swept t m g ∷ events) r next = λ h. absurd (omega (arith, h))

-- an entry stands behind no event
lone-entry : (told : List Event) (z : List ℕ) → HasEntry (event_lines told ++ z) → told ≡ []
lone-entry [] z has = refl
lone-entry (Offered o t f v ∷ told) z has = let h : 111 ≡ 101 = head-of has.begins in absurd (omega (arith, h))
lone-entry (Asked t q y ∷ told) z has = let h : 97 ≡ 101 = head-of has.begins in absurd (omega (arith, h))
lone-entry (Swept t m g ∷ told) z has = let h : 115 ≡ 101 = head-of has.begins in absurd (omega (arith, h))

-- chapters begin with a head
heads-go : (chapters ds : List WrittenOf) (z : List ℕ) → AllByRecursion FitsChapter ds → 0 < length z → z ≡ archive_text ds → Continues chapters z
heads-go chapters [] z fit some e = absurd (omega (arith, some, ap length e))
heads-go chapters (d ∷ ds) z fit some e = record {
  told = said.Chapter d.number d.first d.rules;
  fit = (fit.0.numbered, fit.0.begins);
  follows = tt;
  rest = behind_head d (archive_text ds);
  begins = e ∙ chapter-split d (archive_text ds);
}

-- the last chapter goes on, or another one begins
last-goes : (before : List WrittenOf) (c d : WrittenOf) (ds : List WrittenOf) (z : List ℕ) → HoldsChapter c → FitsChapter d → AllByRecursion FitsChapter ds → 0 < length z
    → chapter_text c ++ z ≡ chapter_text d ++ archive_text ds → Continues (before ++ c ∷ []) z
last-goes before c d ds z held fit fits some e =
    let s = archive_text ds in
    let split : head_fields (head_tuple c) ++ (10 ∷ behind_head c z) ≡ head_fields (head_tuple d) ++ (10 ∷ behind_head d s) =
    strip (codes "chapter ") _ _ (sym (chapter-split c z) ∙ e ∙ chapter-split d s) in
    let head = heads.same (head_tuple c) (head_tuple d) (10 ∷ behind_head c z) (10 ∷ behind_head d s) (holds-head c held) (holds-head d (holds-chapter d fit)) (omega arith) (omega arith) split in
    by (entries-go c.entries d.entries (event_lines c.events ++ z) (event_lines d.events ++ s) held.entries fit.held (no-entry d.events s (next-chapters ds)) (tail-of head.1))
  where
    behind : HasEvent z ⊎ (z ≡ archive_text ds) → Continues (before ++ c ∷ []) z
    behind (inl has) = record {
      told = said.Event has.event;
      fit = has.fit;
      follows = (c, record { before = before; whole = refl });
      rest = has.rest;
      begins = has.begins;
    }
    behind (inr rest) = heads-go (before ++ c ∷ []) ds z fits some rest

    entered : c.events ≡ [] → HasEntry z → Continues (before ++ c ∷ []) z
    entered none has = record {
      told = said.Entry has.entry;
      fit = has.fit;
      follows = (c, (record { before = before; whole = refl }, none));
      rest = has.rest;
      begins = has.begins;
    }

    by : HasEntry (event_lines c.events ++ z) ⊎ (event_lines c.events ++ z ≡ event_lines d.events ++ archive_text ds) → Continues (before ++ c ∷ []) z
    by (inl has) =
        let none = lone-entry c.events z has in
        entered none (subst (λ (l : List Event). HasEntry (event_lines l ++ z)) none has)
    by (inr same) = behind (events-go c.events d.events z (archive_text ds) held.events fit.told (next-chapters ds) same)

goes : (before cs ds : List WrittenOf) (z : List ℕ) → AllByRecursion HoldsChapter cs → AllByRecursion FitsChapter ds → 0 < length z
    → archive_text cs ++ z ≡ archive_text ds → Continues (before ++ cs) z
goes before [] ds z held fit some e = heads-go (before ++ []) ds z fit some e
goes before (c ∷ cs) [] z held fit some e = absurd (not-other 99 _ [] tt (sym e))
goes before (c ∷ []) (d ∷ ds) z held fit some e =
    let split : chapter_text c ++ z ≡ chapter_text d ++ archive_text ds = sym (append_assoc (chapter_text c) [] z) ∙ e in
    last-goes before c d ds z held.0 fit.0 fit.1 some split
goes before (c ∷ c2 ∷ cs) (d ∷ ds) z held fit some e =
    let split : chapter_text c ++ (archive_text (c2 ∷ cs) ++ z) ≡ chapter_text d ++ archive_text ds = sym (append_assoc (chapter_text c) (archive_text (c2 ∷ cs)) z) ∙ e in
    let one = one-chapter c d (archive_text (c2 ∷ cs) ++ z) (archive_text ds) held.0 (holds-chapter d fit.0) refl (next-chapters ds) split in
    subst (λ (all : List WrittenOf). Continues all z) (append_assoc before (c ∷ []) (c2 ∷ cs))
    (goes (before ++ c ∷ []) (c2 ∷ cs) ds z held.1 fit.1 some one.1)

first-lf : (x y r s : List ℕ) → IsUnended x → IsUnended y → x ++ (10 ∷ r) ≡ y ++ (10 ∷ s) → x ≡ y
first-lf [] [] r s px py e = refl
first-lf [] (b ∷ y) r s px py e = absurd (py.0 (sym (head-of e)))
first-lf (a ∷ x) [] r s px py e = absurd (px.0 (head-of e))
first-lf (a ∷ x) (b ∷ y) r s px py e =
    let first : a ≡ b = head-of e in
    let rest = first-lf x y r s px.1 py.1 (tail-of e) in
    λ i. first i ∷ rest i

has-lf : (x r : List ℕ) → IsUnended (x ++ (10 ∷ r)) → ⊥
has-lf [] r all = all.0 refl
has-lf (a ∷ x) r all = has-lf x r all.1

-- where a line may not stand behind chapters, no archive begins with them and the line
pub no-archive-goes-on : (chapters : List WrittenOf) (line other : List ℕ) → AllByRecursion HoldsChapter chapters → IsCut true line → GoesOnNowhere chapters line
    → IsNoArchive (archive_text chapters ++ (line ++ other))
no-archive-goes-on chapters line other held cut nowhere others fit e =
    let front = cut.0 in
    let whole : line ++ other ≡ front ++ (10 ∷ other) = ap (λ (l : List ℕ). l ++ other) cut.2 ∙ append_assoc front (10 ∷ []) other in
    let some : 0 < length (line ++ other) = omega (arith, ap length whole, Rattle.std.proofs.Common.length-append front (10 ∷ other)) in
    let goes_on = goes [] chapters others (line ++ other) held fit some e in
    let same = first-lf front (said_text goes_on.told) other goes_on.rest cut.1 (line-unended goes_on.told goes_on.fit) (sym whole ∙ goes_on.begins) in
    nowhere goes_on.told goes_on.fit goes_on.follows (cut.2 ∙ ap (λ (l : List ℕ). l ++ 10 ∷ []) same)

-- a line of an archive ends in an LF
pub no-archive-ends : (chapters : List WrittenOf) (line : List ℕ) → AllByRecursion HoldsChapter chapters → IsUnended line → 1 ≤ length line
    → IsNoArchive (archive_text chapters ++ (line ++ []))
no-archive-ends chapters line held unended some others fit e =
    let bare : line ++ [] ≡ line = append-nil line in
    let goes_on = goes [] chapters others (line ++ []) held fit (omega (arith, some, ap length bare)) e in
    has-lf (said_text goes_on.told) goes_on.rest (subst IsUnended (sym bare ∙ goes_on.begins) unended)

module _ (octets : List ℕ) (chapters : List WrittenOf) (rest : List ℕ) (number : ℕ) (whole : octets ≡ archive_text chapters ++ rest)
    (held : AllByRecursion HoldsChapter chapters) (numbered : line_count (archive_text chapters) ≡ number) where
  pub stops_with : (line behind : List ℕ) → IsCutBehindLf rest line behind → GoesOnNowhere chapters line → StopsAt octets number
  stops_with line behind cut nowhere = record {
    before = chapters;
    line = line;
    behind = behind;
    whole = whole ∙ ap (λ (r : List ℕ). archive_text chapters ++ r) cut.whole;
    numbered = numbered;
    some = cut.some;
    cut = with_lf cut.cut;
    none = λ other ends. no-archive-goes-on chapters line other held cut.cut nowhere;
  }

  pub stops_short : IsUnended rest → 1 ≤ length rest → StopsAt octets number
  stops_short unended some = record {
    before = chapters;
    line = rest;
    behind = [];
    whole = whole ∙ ap (λ (r : List ℕ). archive_text chapters ++ r) (sym (append-nil rest));
    numbered = numbered;
    some = some;
    cut = without_lf unended;
    none = λ other ends. at other ends;
  }
    where
      at : (other : List ℕ) → MayEnd rest other → IsNoArchive (archive_text chapters ++ (rest ++ other))
      at other (with_lf cut) = absurd (has-lf cut.0 [] (subst IsUnended cut.2 unended))
      at other (without_lf none) = no-archive-ends chapters rest held unended some

pub no_archive : (octets : List ℕ) (number : ℕ) → StopsAt octets number → IsNoArchive octets
no_archive octets number stops = subst IsNoArchive (sym stops.whole) (stops.none stops.behind stops.cut)
