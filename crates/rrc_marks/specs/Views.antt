-- SPDX-License-Identifier: MIT
-- What a pass knows of its table, and how each kind of step changes it.
use Rattle.std.specs.Prelude.{◌≡◌, ℕ, ◌+◌, ◌-◌, ◌<◌, ◌==◌, if◌then◌else◌, nat_lt, List, [], ◌∷◌, ◌++◌, length}
use Rattle.rrc_marks.specs.declared.rule.View.{View}

-- how often x stands in the list
abbrev pub times : ℕ → List ℕ → ℕ
times x [] = 0
times x (y ∷ ys) = (if y == x then 1 else 0) + times x ys

-- 1 for a number below n, else 0
abbrev pub once_below : ℕ → ℕ → ℕ
once_below x n = if nat_lt x n then 1 else 0

-- the list is the numbers below n, each once
abbrev pub EachOnceBelow : ℕ → List ℕ → Type 0
EachOnceBelow n xs = (x : ℕ) → times x xs ≡ once_below x n

-- the list with every x taken out
abbrev pub without : ℕ → List ℕ → List ℕ
without x [] = []
without x (y ∷ ys) = if y == x then without x ys else (y ∷ without x ys)

-- the first pass of a table: it has drawn nothing, holds nothing, and has all turns
abbrev pub opening_view : ℕ → View
opening_view turns = record { drawn = []; held = []; turns = turns; start = turns; steps = 0 }

-- what is left of a pass that another took in
abbrev pub spent_view : View
spent_view = record { drawn = []; held = []; turns = 0; start = 0; steps = 0 }

-- one step more was taken, and nothing else changed
abbrev pub after_step : View → View
after_step v = record { drawn = v.drawn; held = v.held; turns = v.turns; start = v.start; steps = v.steps + 1 }

-- one number more was drawn, by one turn and one step
abbrev pub after_draw : ℕ → View → View
after_draw number v = record { drawn = v.drawn ++ number ∷ []; held = v.held; turns = v.turns - 1; start = v.start; steps = v.steps + 1 }

-- one mark more is held, by one step
abbrev pub after_win : ℕ → View → View
after_win mark v = record { drawn = v.drawn; held = mark ∷ v.held; turns = v.turns; start = v.start; steps = v.steps + 1 }

-- the mark is held no more, by one step
abbrev pub after_finish : ℕ → View → View
after_finish mark v = record { drawn = v.drawn; held = without mark v.held; turns = v.turns; start = v.start; steps = v.steps + 1 }

-- so many turns went to a new pass, by one step
abbrev pub after_split : ℕ → View → View
after_split turns v = record { drawn = v.drawn; held = v.held; turns = v.turns - turns; start = v.start; steps = v.steps + 1 }

-- the new pass, which has those turns and nothing else
abbrev pub split_off : ℕ → View → View
split_off turns v = record { drawn = []; held = []; turns = turns; start = v.start; steps = 0 }

-- all that two passes have, by one step more
abbrev pub after_join : View → View → View
after_join v w = record { drawn = v.drawn ++ w.drawn; held = v.held ++ w.held; turns = v.turns + w.turns; start = v.start; steps = v.steps + w.steps + 1 }

-- the turns that are left and those that were used
abbrev pub all_turns : View → ℕ
all_turns v = v.turns + length v.drawn

-- it has all turns of the table, left and used, so no other pass has any
abbrev pub IsAlone : View → Type 0
IsAlone v = all_turns v ≡ v.start

-- it holds the mark
abbrev pub Holds : View → ℕ → Type 0
Holds v mark = 0 < times mark v.held

-- it does not hold the mark
abbrev pub Lacks : View → ℕ → Type 0
Lacks v mark = times mark v.held ≡ 0
