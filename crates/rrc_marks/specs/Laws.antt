-- SPDX-License-Identifier: MIT
-- The laws of a table of marks: what keeps its rule, and what the rule says of its passes.
use Rattle.std.specs.Prelude.{◌≡◌, ◌≢◌, ℕ, ◌+◌, ◌<◌, [], slice_index}
use mathlib.Core.Option.{some}
use lib.ListN.{get_elem?}
use Rattle.rrc_marks.specs.declared.rule.View.{View}
use Rattle.rrc_marks.specs.Views.{times, all_turns, IsAlone, Holds, Lacks}
use Rattle.rrc_marks.specs.Rule.{total, MarksKept}
use Rattle.rrc_marks.specs.Ends.{IsSettled}
use Rattle.rrc_marks.specs.Steps.{Moment, Kind, Steps}

-- the rule, at a moment
abbrev pub Keeps : ℕ → ℕ → Moment → Type 0
Keeps marks turns s = MarksKept marks turns s.words s.views

-- the pass id knows v
abbrev pub Knows : Moment → ℕ → View → Type 0
Knows s id v = get_elem? s.views id ≡ some v

-- a step of any kind, by a pass that is not spent, keeps the rule
abbrev pub EachStepKeepsTheRule : Type 0
EachStepKeepsTheRule = (marks turns : ℕ) (kind : Kind) (id : ℕ) (v : View) (s t : Moment) → Keeps marks turns s → Knows s id v → 0 < all_turns v → Steps marks kind id v s t → Keeps marks turns t

-- a step of any kind adds one to the steps that all passes have taken
abbrev pub EachStepIsCounted : Type 0
EachStepIsCounted = (marks : ℕ) (kind : Kind) (id : ℕ) (v : View) (s t : Moment) → Knows s id v → Steps marks kind id v s t → total (λ w. w.steps) t.views ≡ total (λ w. w.steps) s.views + 1

-- a mark that one pass holds, no other holds
abbrev pub EachMarkHasOneHolder : Type 0
EachMarkHasOneHolder = (marks turns : ℕ) (s : Moment) (id other : ℕ) (v w : View) (mark : ℕ) → Keeps marks turns s → Knows s id v → Knows s other w → id ≢ other → Holds v mark → Lacks w mark

-- a number that one pass drew, no other drew
abbrev pub EachNumberIsDrawnOnce : Type 0
EachNumberIsDrawnOnce =
    (marks turns : ℕ) (s : Moment) (id other : ℕ) (v w : View) (number : ℕ)
    → Keeps marks turns s → Knows s id v → Knows s other w → id ≢ other → 0 < times number v.drawn → times number w.drawn ≡ 0

-- the number that the next draw finds in word 0, no pass has drawn
abbrev pub NextNumberIsNew : Type 0
NextNumberIsNew = (marks turns : ℕ) (s : Moment) (id : ℕ) (v : View) → Keeps marks turns s → Knows s id v → times (slice_index s.words 0) v.drawn ≡ 0

-- where a pass that is alone holds no mark, the words are settled
abbrev pub AloneAtTheEnd : Type 0
AloneAtTheEnd = (marks turns : ℕ) (s : Moment) (id : ℕ) (v : View) → Keeps marks turns s → Knows s id v → 0 < all_turns v → IsAlone v → v.held ≡ [] → IsSettled s.words v
