-- SPDX-License-Identifier: MIT
-- What contracts see of a table of marks and of a pass, and what the types of both keep.
use Rattle.std.specs.Prelude.{◌≡◌, ℕ, ◌+◌, ◌^◌, ◌<◌, ◌≤◌, [], length}
use Rattle.atomic_table.specs.Seated.{TableId}
use Rattle.rrc_marks.specs.declared.rule.View.{View}
use Rattle.rrc_marks.specs.declared.rule.Terms.{Terms}
use Rattle.rrc_marks.specs.Views.{all_turns, Holds}
use Rattle.rrc_marks.specs.Told.{Known}

-- a table of marks: which one it is, how many marks it has, and below which number a draw is answered
pub record Board : Type 0 where
  pub table : TableId
  pub marks : ℕ
  pub lines : ℕ

-- a pass: which table it is of, and what it knows
pub record Hand : Type 0 where
  pub table : TableId
  pub view : View

-- the pass is of the table
abbrev pub IsPassOf : Board → Hand → Type 0
IsPassOf board hand = hand.table ≡ board.table

-- the pass is of the same table, has as many turns in all, and holds the same marks
pub record KeepsShare (old new : Hand) : Type 0 where
  pub table : new.table ≡ old.table
  pub start : new.view.start ≡ old.view.start
  pub held : new.view.held ≡ old.view.held
  pub turns : all_turns new.view ≡ all_turns old.view

-- a table has a word for the draws and one for each mark, no slot, and terms that name its marks
pub record IsLaidOut (table : TableId) (terms : Terms) (marks : ℕ) : Type 0 where
  pub word_count : table.words ≡ marks + 1
  pub slot_count : table.slots ≡ 0
  pub named : terms.marks ≡ marks
  pub limited : marks ≤ 4096

-- a pass counts its turns and its draws, of which it has 1 to 2^40 together, and holds no slot and no mark but the table's
pub record IsCounted (table : TableId) (knows : Known) (turns draws : ℕ) : Type 0 where
  pub turns_left : turns ≡ knows.0.turns
  pub numbers : draws ≡ length knows.0.drawn
  pub no_slot : knows.1 ≡ []
  pub marks : (m : ℕ) → Holds knows.0 m → m + 1 < table.words
  pub some : 0 < turns + draws
  pub limited : turns + draws ≤ 2 ^ 40
