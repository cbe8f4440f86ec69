-- SPDX-License-Identifier: MIT
-- Why calls are refused.
use Rattle.std.proofs.Common.{◌≡◌, ℕ, ◌+◌, ◌^◌, ◌<◌, ◌≤◌, List, [], ◌∷◌, ◌++◌, length, drop, get_or, refl, sym, ap, subst, inl, inr, arith, Bool, true, false, Result, Ok, Err}
use Rattle.std.proofs.lemmas.List.{drop_all}
use Rattle.std.specs.List.{AllByRecursion}
use Rattle.std.specs.Prelude.{IfErr, IsErrAnd}
use Rattle.rrc_history.specs.declared.event.Outcome.{Outcome}
use Rattle.rrc_cache.specs.Lean.{IsLeanDue}
use Rattle.rrc_cache.specs.Part.{PartOf, IsOfMoments}
use Rattle.rrc_cache.specs.declared.refusal.Refusal.{Refusal}
use Rattle.rrc_cache.specs.declared.refusal.Refusal.TheVariants as Refusals
use Rattle.rrc_share.specs.CacheShelf.{CacheShelfOf, IsDueBy}
use Rattle.rrc_history.specs.Lives.{LAST_MOMENT}
use Rattle.rrc_shelf.specs.Checks.{number_of, number_of_call, refused_as, unless, Check, Due, IsDone, IsDoneOrMemory}
use Rattle.rrc_shelf.specs.Refusals.{NoteDue, WriteDue}
use Rattle.rrc_shelf.specs.Shelves.{CanWriteBy, IsSpentBy}
use Rattle.rrc_shelf.specs.Asks.{data_text, AreNarrow, AreTellable}
use Rattle.rrc_shelf.specs.declared.status.Status.{Status}
use Rattle.rrc_shelf.specs.declared.status.Status.TheVariants.{HistoryFull, MomentTooLarge}
use Rattle.rrc_shelf.proofs.Filling.{narrow_next}

-- ---- events

-- the checks of an event, by whether the history is recorded
abbrev checks_by : Bool → PartOf → ℕ → List Check
checks_by records part at =
    record { number = number_of HistoryFull; fails = IsSpentBy records part; passes = CanWriteBy records part } ∷ unless MomentTooLarge (at ≤ LAST_MOMENT) ∷ []

refused_by : (A : Type 0) (records : Bool) (part : PartOf) (at : ℕ) (refusal : Refusal) → IsDueBy {A = A} records part at (Err refusal)
    → Due (checks_by records part at) IsDoneOrMemory (number_of (refused_as refusal))
refused_by A true part at Refusals.HistoryFull spent = inl (inl (refl, spent))
refused_by A true part at Refusals.MomentTooLarge (can, late) = inl (inr (can, inl (refl, λ timely. omega (arith, late, timely))))
refused_by A true part at Refusals.Memory ready = inr ((ready.room, (ready.moment, tt)), inl refl)
refused_by A false part at Refusals.HistoryFull spent = inl (inl (refl, spent))
refused_by A false part at Refusals.MomentTooLarge (can, late) = inl (inr (can, inl (refl, λ timely. omega (arith, late, timely))))
refused_by A false part at Refusals.Memory ready = inr ((ready.number, (ready.moment, tt)), inl refl)

-- a shelf that refuses an offer tells why
pub write_refused : (shelf : CacheShelfOf) (at : ℕ) (refusal : Refusal) → IsDueBy {A = Outcome} shelf.records shelf.shelf.part at (Err refusal) → WriteDue shelf at (number_of (refused_as refusal))
write_refused shelf at refusal due = refused_by Outcome shelf.records shelf.shelf.part at refusal due

lean_refused_by : (A : Type 0) (part : PartOf) (at : ℕ) (refusal : Refusal) → IsLeanDue {A = A} part at (Err refusal) → IsOfMoments refusal
    → Due (checks_by false part at) IsDone (number_of (refused_as refusal))
lean_refused_by A part at Refusals.HistoryFull spent only = inl (inl (refl, spent))
lean_refused_by A part at Refusals.MomentTooLarge (can, late) only = inl (inr (can, inl (refl, λ timely. omega (arith, late, timely))))
lean_refused_by A part at Refusals.Memory ready only = absurd only

-- a shelf that records nothing tells why it refuses to judge an ask, and never for want of memory
pub note_refused : (A : Type 0) (shelf : CacheShelfOf) (at : ℕ) (refusal : Refusal) → shelf.records ≡ false → IsLeanDue {A = A} shelf.shelf.part at (Err refusal) → IsOfMoments refusal
    → NoteDue shelf at (number_of (refused_as refusal))
note_refused A shelf at refusal lean due only =
    let P : Bool → Type 0 = λ records. Due (checks_by records shelf.shelf.part at) IsDone (number_of (refused_as refusal)) in
    subst P (sym lean) (lean_refused_by A shelf.shelf.part at refusal due only)

-- what is said of a refusal is said of the number that a call answers
pub refused_told : {A : Type 0} (result : Result A Status) (status : Status) (X : ℕ → Type 0) → IsErrAnd result (λ one. one ≡ status) → X (number_of status) → X (number_of_call result)
refused_told (Ok answer) status X is x = absurd is
refused_told (Err one) status X is x = subst (λ it. X (number_of it)) (sym is) x

pub on_err : {A : Type 0} (result : Result A Status) (status : Status) (X : ℕ → Type 0) → IsErrAnd result (λ one. one ≡ status) → X (number_of status) → IfErr result (λ one. X (number_of one))
on_err (Ok answer) status X is x = tt
on_err (Err one) status X is x = subst (λ it. X (number_of it)) (sym is) x

-- ---- replies

-- a datum that is too wide can't be told
pub wide_next : (items : List (List ℕ)) (i : ℕ) (item d : List ℕ) → i < length items → item ≡ get_or items i d → 65535 < length item → AreTellable items → ⊥
wide_next items i item d below is wide tellable = let narrow = narrow_next items i item d below is tellable.narrow in omega (arith, narrow, wide)

-- where all data were counted they can be told
pub tellable_whole : (items : List (List ℕ)) (i size : ℕ) → length items ≤ i → size + length (data_text (drop i items)) ≡ length (data_text items)
    → (AreNarrow (drop i items) → AreNarrow items) → size < 2 ^ 64 → AreTellable items
tellable_whole items i size past sum narrow small =
    let none = drop_all i items past in
    let counted = ap (λ xs. length (data_text xs)) none in
    record { narrow = narrow (subst AreNarrow (sym none) tt); countable = omega (arith, counted, sum, small) }

-- ---- offers

-- one more of which a fact holds
pub all_more : (P : List ℕ → Type 0) (items : List (List ℕ)) (item : List ℕ) → AllByRecursion P items → P item → AllByRecursion P (items ++ item ∷ [])
all_more P [] item all holds = (holds, tt)
all_more P (first ∷ behind) item all holds = (all.0, all_more P behind item all.1 holds)
