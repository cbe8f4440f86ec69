-- SPDX-License-Identifier: MIT
-- What is wrong with a chapter at its place is wrong with the archive.
use Rattle.std.proofs.Common.{◌≡◌, ℕ, suc, ◌+◌, ◌^◌, ◌<◌, ◌≤◌, List, [], ◌∷◌, ◌++◌, length, drop, get_or, map, Bool, true, false, not, ◌&&◌, ◌==◌, refl, sym, ap, subst, ◌∙◌, arith, Result, Ok, Err, IfErr}
use Rattle.std.proofs.Math.Seq.{drop-cons}
use Rattle.std.proofs.lemmas.Bool.{and_from}
use Rattle.std.proofs.lemmas.Bool.Decides.{Decides-eqb}
use Rattle.std.proofs.lemmas.Slice.Eq.{slice_eq-Decides}
use Rattle.std.specs.Cmp.Lexicographic.{pointwise}
use Rattle.std.specs.List.{flat_map}
use Rattle.std.specs.Result.{IsErrAnd}
use Rattle.std.proofs.lemmas.List.{drop_all, drop_more, length-append, length-map}
use Rattle.rrc_history.specs.declared.rules.Rules.{Rules}
use Rattle.rrc_history.specs.declared.snapshot.Entry.{Entry}
use Rattle.rrc_history.specs.Chapters.{ChapterOf}
use Rattle.rrc_history.specs.Equality.{entry_eq, rules_eq, snapshot_eq}
use Rattle.rrc_history.specs.Snapshots.{SnapshotOf}
use Rattle.rrc_history.specs.lemmas.EqualityLaws.{entry_eq-Decides, snapshot_eq-Decides}
use Rattle.rrc_archive.specs.Archive.{WrittenOf, written_of, archive_text, chapter_text, entry_text, event_text, lines_of, text_of_lines}
use Rattle.rrc_replay.specs.declared.history.HistoryFault.{HistoryFault}
use Rattle.rrc_replay.specs.declared.history.HistoryFault.TheVariants.{Empty, BadLine, BadEntry, BadNumber, NotLegal, Broken, Memory}
use Rattle.rrc_replay.specs.Archives.{AreLinesFew, HasBadEvent, IsArchiveOf, TellsChapter, IsWhyNoHistory, IsFaultBehind, line_of}

told : (before : List WrittenOf) (chapter : WrittenOf) (behind all : List WrittenOf) (place : ℕ) (Holds : List WrittenOf → WrittenOf → Type 0)
    → before ++ chapter ∷ behind ≡ all → IsArchiveOf (archive_text all) all → place ≡ length before → Holds before chapter → TellsChapter (archive_text all) place Holds
told before chapter behind all place Holds are archive at so = record {
  before = before;
  chapter = chapter;
  behind = behind;
  archive = subst (λ (chapters : List WrittenOf). IsArchiveOf (archive_text all) chapters) (sym are) archive;
  at = at;
  so = so;
}

-- what is wrong with a chapter behind others is wrong with the archive
told_among : (made : List ChapterOf) (before : List WrittenOf) (chapter : WrittenOf) (behind all : List WrittenOf) (fault : HistoryFault)
    → before ++ chapter ∷ behind ≡ all → IsArchiveOf (archive_text all) all → map written_of made ≡ before → length made ≡ length before
    → IsFaultBehind made chapter fault → IsWhyNoHistory (archive_text all) fault
told_among made before chapter behind all Empty are archive is number why = absurd why
told_among made before chapter behind all (BadLine line) are archive is number why = absurd why
told_among made before chapter behind all (BadEntry at fault) are archive is number why =
    told before chapter behind all at _ are archive (why.0 ∙ number) why.1
told_among made before chapter behind all (BadNumber at) are archive is number why =
    told before chapter behind all at _ are archive (why.0 ∙ number) why.1
told_among made before chapter behind all (NotLegal at event line reason) are archive is number why =
    told before chapter behind all at (HasBadEvent event line reason) are archive (why.0 ∙ number)
    (subst (λ (others : List WrittenOf). HasBadEvent event line reason others chapter) is why.1)
told_among made before chapter behind all (Broken fault) are archive is number why = absurd why
told_among made before chapter behind all Memory are archive is number why = tt

-- why the chapter is none that is told behind others is handed on as why there is no history
pub handed_on : {A : Type 0} (result : Result A HistoryFault) (before : List WrittenOf) (chapter : WrittenOf) (behind all : List WrittenOf)
    (made : List ChapterOf) (fault : HistoryFault) → IsErrAnd result (λ e. e ≡ fault) → before ++ chapter ∷ behind ≡ all → IsArchiveOf (archive_text all) all
    → map written_of made ≡ before → IsFaultBehind made chapter fault → IfErr result (IsWhyNoHistory (archive_text all))
handed_on (Ok x) before chapter behind all made fault on are archive is why = absurd on
handed_on (Err e) before chapter behind all made fault on are archive is why =
    let number : length made ≡ length before = sym (length-map made written_of) ∙ ap length is in
    subst (IsWhyNoHistory (archive_text all)) (sym on) (told_among made before chapter behind all fault are archive is number why)

-- ---- lines

-- each line has an octet at least
lines_within : (lines : List (List ℕ)) → length lines ≤ length (text_of_lines lines)
lines_within [] = omega arith
lines_within (line ∷ lines) =
    let rest : length lines ≤ length (text_of_lines lines) = lines_within lines in
    let one : length ((line ++ 10 ∷ []) ++ text_of_lines lines) ≡ length (line ++ 10 ∷ []) + length (text_of_lines lines) =
    length-append (line ++ 10 ∷ []) (text_of_lines lines) in
    let some : length (line ++ 10 ∷ []) ≡ length line + 1 = length-append line (10 ∷ []) in
    omega (arith, rest, one, some)

-- an archive has no more lines than octets
pub archive_within : (chapters : List WrittenOf) → length (flat_map lines_of chapters) ≤ length (archive_text chapters)
archive_within [] = omega arith
archive_within (chapter ∷ chapters) =
    let rest : length (flat_map lines_of chapters) ≤ length (archive_text chapters) = archive_within chapters in
    let own : length (lines_of chapter) ≤ length (chapter_text chapter) = lines_within (lines_of chapter) in
    let lines : length (lines_of chapter ++ flat_map lines_of chapters) ≡ length (lines_of chapter) + length (flat_map lines_of chapters) =
    length-append (lines_of chapter) (flat_map lines_of chapters) in
    let octets : length (chapter_text chapter ++ archive_text chapters) ≡ length (chapter_text chapter) + length (archive_text chapters) =
    length-append (chapter_text chapter) (archive_text chapters) in
    omega (arith, rest, own, lines, octets)

-- a chapter has a line for its head, for each entry and for each event
chapter_lines : (chapter : WrittenOf) → length (lines_of chapter) ≡ 1 + (length chapter.entries + length chapter.events)
chapter_lines chapter =
    let parts : length (map entry_text chapter.entries ++ map event_text chapter.events) ≡ length (map entry_text chapter.entries) + length (map event_text chapter.events) =
    length-append (map entry_text chapter.entries) (map event_text chapter.events) in
    let entries : length (map entry_text chapter.entries) ≡ length chapter.entries = length-map chapter.entries entry_text in
    let events : length (map event_text chapter.events) ≡ length chapter.events = length-map chapter.events event_text in
    omega (arith, parts, entries, events)

-- up to a chapter of an archive there are no more lines than in all of it
few_within : (before : List WrittenOf) (chapter : WrittenOf) (behind : List WrittenOf)
    → line_of before chapter.entries (length chapter.events) ≤ length (flat_map lines_of (before ++ chapter ∷ behind))
few_within [] chapter behind =
    let own : length (lines_of chapter) ≡ 1 + (length chapter.entries + length chapter.events) = chapter_lines chapter in
    let all : length (lines_of chapter ++ flat_map lines_of behind) ≡ length (lines_of chapter) + length (flat_map lines_of behind) =
    length-append (lines_of chapter) (flat_map lines_of behind) in
    omega (arith, own, all)
few_within (one ∷ before) chapter behind =
    let rest : line_of before chapter.entries (length chapter.events) ≤ length (flat_map lines_of (before ++ chapter ∷ behind)) = few_within before chapter behind in
    let here : length (lines_of one ++ flat_map lines_of before) ≡ length (lines_of one) + length (flat_map lines_of before) =
    length-append (lines_of one) (flat_map lines_of before) in
    let all : length (lines_of one ++ flat_map lines_of (before ++ chapter ∷ behind)) ≡ length (lines_of one) + length (flat_map lines_of (before ++ chapter ∷ behind)) =
    length-append (lines_of one) (flat_map lines_of (before ++ chapter ∷ behind)) in
    omega (arith, rest, here, all)

pub few_so_far : (made : List ChapterOf) (before : List WrittenOf) (chapter : WrittenOf) (behind all : List WrittenOf) → before ++ chapter ∷ behind ≡ all
    → map written_of made ≡ before → length (flat_map lines_of all) < 2 ^ 64 → AreLinesFew made chapter.entries chapter.events
few_so_far made before chapter behind all are is few =
    let within : line_of before chapter.entries (length chapter.events) ≤ length (flat_map lines_of (before ++ chapter ∷ behind)) = few_within before chapter behind in
    let whole : length (flat_map lines_of (before ++ chapter ∷ behind)) ≡ length (flat_map lines_of all) =
    ap (λ (chapters : List WrittenOf). length (flat_map lines_of chapters)) are in
    let so : line_of before chapter.entries (length chapter.events) < 2 ^ 64 = omega (arith, within, whole, few) in
    subst (λ (others : List WrittenOf). line_of others chapter.entries (length chapter.events) < 2 ^ 64) (sym is) so

-- the lines of the chapters so far, and those of one more
pub one_more : (line lines : ℕ) (chapters : List ChapterOf) (i : ℕ) (chapter : ChapterOf) → i < length chapters → chapter ≡ get_or chapters i chapter
    → lines ≡ length (lines_of (written_of chapter))
    → (line + lines) + length (flat_map lines_of (map written_of (drop (i + 1) chapters))) ≡ line + length (flat_map lines_of (map written_of (drop i chapters)))
one_more line lines chapters i chapter within is number =
    let here : drop i chapters ≡ chapter ∷ drop (i + 1) chapters = drop_more chapters i chapter within ∙ ap (λ one. one ∷ drop (i + 1) chapters) (sym is) in
    let parts : length (lines_of (written_of chapter) ++ flat_map lines_of (map written_of (drop (i + 1) chapters))) ≡ length (lines_of (written_of chapter)) + length (flat_map lines_of (map written_of (drop (i + 1) chapters))) =
    length-append (lines_of (written_of chapter)) (flat_map lines_of (map written_of (drop (i + 1) chapters))) in
    let all : length (flat_map lines_of (map written_of (drop i chapters))) ≡ length (lines_of (written_of chapter) ++ flat_map lines_of (map written_of (drop (i + 1) chapters))) =
    ap (λ (those : List ChapterOf). length (flat_map lines_of (map written_of those))) here in
    omega (arith, number, parts, all)

-- the lines of a chapter are some of those from its place on
pub lines_among : (chapters : List ChapterOf) (i : ℕ) (chapter : ChapterOf) → i < length chapters → chapter ≡ get_or chapters i chapter
    → length (lines_of (written_of chapter)) ≤ length (flat_map lines_of (map written_of (drop i chapters)))
lines_among chapters i chapter within is =
    let lines : ℕ = length (lines_of (written_of chapter)) in
    let more : (0 + lines) + length (flat_map lines_of (map written_of (drop (i + 1) chapters))) ≡ 0 + length (flat_map lines_of (map written_of (drop i chapters))) =
    one_more 0 lines chapters i chapter within is refl in
    omega (arith, more)

-- behind the last chapter there are none
pub no_more : (chapters : List ChapterOf) (i : ℕ) → length chapters ≤ i → length (flat_map lines_of (map written_of (drop i chapters))) ≡ 0
no_more chapters i all = ap (λ (those : List ChapterOf). length (flat_map lines_of (map written_of those))) (drop_all i chapters all)

-- lists that are alike behind a place are alike where they have the same there
pub alike_from : (xs ys : List Entry) (i next : ℕ) (x y d e : Entry) → next ≡ suc i → i < length xs → length xs ≡ length ys → x ≡ get_or xs i d
    → y ≡ get_or ys i e → x ≡ y → (drop i xs ≡ drop i ys → xs ≡ ys) → drop next xs ≡ drop next ys → xs ≡ ys
alike_from xs ys i next x y d e follows less long is_x is_y same before rest =
    let behind : drop (suc i) xs ≡ drop (suc i) ys = subst (λ (n : ℕ). drop n xs ≡ drop n ys) follows rest in
    let of_xs : drop i xs ≡ x ∷ drop (suc i) xs = drop-cons xs i d less ∙ ap (λ z. z ∷ drop (suc i) xs) (sym is_x) in
    let of_ys : drop i ys ≡ y ∷ drop (suc i) ys = drop-cons ys i e (omega (arith, less, long)) ∙ ap (λ z. z ∷ drop (suc i) ys) (sym is_y) in
    before (of_xs ∙ (ap (λ z. z ∷ drop (suc i) xs) same ∙ (ap (λ zs. y ∷ zs) behind ∙ sym of_ys)))

-- a snapshot of the same rules, first number and entries is the same
pub same_snapshot : (snapshot : SnapshotOf) (rules : Rules) (first : ℕ) (entries : List Entry) → rules_eq snapshot.rules rules ≡ true
    → snapshot.first ≡ first → snapshot.entries ≡ entries → snapshot ≡ record { rules = rules; first = first; entries = entries }
same_snapshot snapshot rules first entries ruled numbered same =
    let other : SnapshotOf = record { rules = rules; first = first; entries = entries } in
    let is : snapshot_eq snapshot other ≡ true =
    and_from (rules_eq snapshot.rules rules) (snapshot.first == first && pointwise entry_eq snapshot.entries entries) ruled
    (and_from (snapshot.first == first) (pointwise entry_eq snapshot.entries entries) ((Decides-eqb snapshot.first first).1 numbered)
    ((slice_eq-Decides entry_eq-Decides snapshot.entries entries (pointwise entry_eq snapshot.entries entries) refl).1 same)) in
    (snapshot_eq-Decides snapshot other).0 is

-- entries that a test of unlikeness does not tell apart are the same
pub not_unlike : (entry other : Entry) (unlike : Bool) → unlike ≡ not (entry_eq entry other) → unlike ≡ false → entry ≡ other
not_unlike entry other unlike is denied = (entry_eq-Decides entry other).0 (by (entry_eq entry other) (sym is ∙ denied))
  where
    by : (same : Bool) → not same ≡ false → same ≡ true
    by true h = refl
    by false h = absurd cc
