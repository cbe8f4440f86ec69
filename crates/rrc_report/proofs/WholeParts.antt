-- SPDX-License-Identifier: MIT
-- The whole histories of shelves, one after another.
use Rattle.std.proofs.Common.{◌≡◌, ◌^◌, ℕ, Bool, true, false, List, [], ◌∷◌, ◌++◌, reverse, refl, sym, ap, subst, ◌∙◌}
use Rattle.std.specs.Prelude.{None, Result, Ok, Err, IfErr}
use Rattle.std.specs.Result.{IsErrAnd}
use Rattle.std.specs.List.{AllZip, Any}
use Rattle.std.proofs.lemmas.Bool.{false≢true}
use Rattle.std.proofs.lemmas.List.{append-nil}
use Rattle.std.proofs.lemmas.List.Elements.{All-push}
use Rattle.rrc_history.specs.declared.rules.Rules.{Rules}
use Rattle.rrc_history.specs.declared.snapshot.Snapshot.{Snapshot}
use Rattle.rrc_history.specs.Chains.{WholeOf, IsWhole, chain_fault, events_of}
use Rattle.rrc_history.specs.Chapters.{ChapterOf, LeadTo}
use Rattle.rrc_history.specs.WholeLaws.{AllKeepLaws}
use Rattle.rrc_history.specs.Equality.{snapshot_eq}
use Rattle.rrc_history.specs.lemmas.EqualityLaws.{snapshot_eq-Decides}
use Rattle.rrc_cache.specs.Part.{PartOf}
use Rattle.rrc_share.specs.Shelf.{ShelfOf, AreBefore, ShelvesChapter, first_snapshot}
use Rattle.rrc_text.specs.declared.fault.ReplayFault.{ReplayFault}
use Rattle.rrc_text.specs.declared.fault.ReplayFault.TheVariants.{BadLine, TooManyLines, Read, Write, Strayed, Memory, Spent, TooManyQuestions, NotLegal}
use Rattle.rrc_report.specs.Reports.{IsOfShelf, IsPartOf, empty_under}
use Rattle.rrc_report.specs.Steps.{ArePartHistories, CanNotClose}
use Rattle.rrc_report.specs.Wholes.{IsKeptBy}
use Rattle.rrc_report.proofs.Zips.{zip_push, zip_pick, any_within, any_alone}

abbrev IsLast : ShelfOf → Type 0
IsLast shelf = shelf.part.number ≡ 2 ^ 62

-- closed chapters chain, as one was closed last
some_chained : (closed : List ChapterOf) (chapter : ChapterOf) (part : PartOf) → AreBefore (closed ++ chapter ∷ []) part → chain_fault (closed ++ chapter ∷ []) ≡ None
some_chained [] chapter part before = before.chained
some_chained (first ∷ closed) chapter part before = before.chained

pub shut_chained : (old new : ShelfOf) (chapters : List ChapterOf) → ShelvesChapter old new → chapters ≡ new.closed → AreBefore chapters new.part → chain_fault chapters ≡ None
shut_chained old new chapters shuts are before =
    let all : chapters ≡ old.closed ++ shuts.chapter ∷ [] = are ∙ shuts.closed in
    subst (λ cs. chain_fault cs ≡ None) (sym all) (some_chained old.closed shuts.chapter new.part (subst (λ cs. AreBefore cs new.part) all before))

-- the history that a shelf's closed chapters are is that of the shelf, where its part has no event yet
closed_whole : (closed : List ChapterOf) (part : PartOf) (chapters : List ChapterOf) (whole : WholeOf) → chapters ≡ closed → part.events ≡ [] → IsWhole chapters whole
    → IsOfShelf (record { closed = closed; part = part }) whole
closed_whole closed part [] whole are none is = absurd is
closed_whole closed part (chapter ∷ behind) whole are none is = record {
  opening = is.0 ∙ ap (λ cs. first_snapshot cs part) are;
  events = is.1 ∙ (ap events_of are ∙ (sym (append-nil (events_of closed)) ∙ ap (λ es. events_of closed ++ es) (sym none)));
}

-- the history that the chapters are once the last one was closed is that of the shelf before
pub shut_kept : (old new : ShelfOf) (chapters : List ChapterOf) (whole : WholeOf) → ShelvesChapter old new → chapters ≡ new.closed → IsWhole chapters whole
    → LeadTo whole.snapshot whole.events whole.closing → AllKeepLaws whole.snapshot (reverse whole.events) → IsKeptBy old whole
shut_kept old new chapters whole shuts are is leads laws =
    let of_new = closed_whole new.closed new.part chapters whole are (ap (λ (p : PartOf). p.events) shuts.part.next) is in
    record {
      of_shelf = record { opening = of_new.opening ∙ shuts.same.opening; events = of_new.events ∙ shuts.same.history };
      leads = leads;
      laws = laws;
    }

pub one_spent : (lines : ℕ) (shelf : ShelfOf) → shelf.part.number ≡ 2 ^ 62 → CanNotClose lines (shelf ∷ []) (Spent lines)
one_spent lines shelf last = (refl, any_within IsLast [] shelf [] last)

-- a fault of one of the shelves is one of them all
pub spent_among : (lines : ℕ) (before : List ShelfOf) (shelf : ShelfOf) (behind shelves : List ShelfOf) (fault : ReplayFault) → before ++ shelf ∷ behind ≡ shelves
    → CanNotClose lines (shelf ∷ []) fault → CanNotClose lines shelves fault
spent_among lines before shelf behind shelves (BadLine number) are fails = absurd fails
spent_among lines before shelf behind shelves TooManyLines are fails = absurd fails
spent_among lines before shelf behind shelves Read are fails = absurd fails
spent_among lines before shelf behind shelves Write are fails = absurd fails
spent_among lines before shelf behind shelves Strayed are fails = absurd fails
spent_among lines before shelf behind shelves Memory are fails = tt
spent_among lines before shelf behind shelves (Spent number) are fails =
    (fails.0, subst (Any IsLast) are (any_within IsLast before shelf behind (any_alone IsLast shelf fails.1)))
spent_among lines before shelf behind shelves (TooManyQuestions number) are fails = absurd fails
spent_among lines before shelf behind shelves NotLegal are fails = absurd fails

-- a history that begins with the empty snapshot is one more
pub parts_more : (rules : Rules) (shelves : List ShelfOf) (wholes : List WholeOf) (shelf : ShelfOf) (whole : WholeOf) → ArePartHistories rules shelves wholes → IsKeptBy shelf whole
    → whole.snapshot ≡ empty_under rules → ArePartHistories rules (shelves ++ shelf ∷ []) (wholes ++ whole ∷ [])
parts_more rules shelves wholes shelf whole parts kept opening = record {
  shelves_are = zip_push IsOfShelf shelves wholes shelf whole parts.shelves_are kept.of_shelf;
  parts_are = All-push (IsPartOf rules) wholes whole parts.parts_are (record { opening = opening; leads = kept.leads; laws = kept.laws });
}

-- where one begins with another snapshot there are none
pub no_parts : (rules : Rules) (before : List ShelfOf) (shelf : ShelfOf) (behind shelves : List ShelfOf) (whole : WholeOf) → before ++ shelf ∷ behind ≡ shelves → IsKeptBy shelf whole
    → (whole.snapshot ≡ empty_under rules → ⊥) → (wholes : List WholeOf) → ArePartHistories rules shelves wholes → ⊥
no_parts rules before shelf behind shelves whole are kept other wholes parts =
    let one = zip_pick IsOfShelf (IsPartOf rules) before shelf behind wholes (subst (λ s. AllZip IsOfShelf s wholes) (sym are) parts.shelves_are) parts.parts_are in
    other (kept.of_shelf.opening ∙ (sym one.1.opening ∙ one.2.opening))

-- whether a history begins with a snapshot
pub begins : (snapshot other : Snapshot) (is : Bool) → is ≡ snapshot_eq snapshot other → is ≡ true → snapshot ≡ other
begins snapshot other is by so = (snapshot_eq-Decides snapshot other).0 (sym by ∙ so)

pub begins_not : (snapshot other : Snapshot) (is : Bool) → is ≡ snapshot_eq snapshot other → is ≡ false → snapshot ≡ other → ⊥
begins_not snapshot other is by so same = false≢true (sym so ∙ (by ∙ (snapshot_eq-Decides snapshot other).1 same))

-- a fault that is handed on
pub handed_on : {A : Type 0} (result : Result A ReplayFault) (fault : ReplayFault) (P : ReplayFault → Type 0) → IsErrAnd result (λ e. e ≡ fault) → P fault → IfErr result P
handed_on (Ok x) fault P on holds = absurd on
handed_on (Err e) fault P on holds = subst P (sym on) holds
