-- SPDX-License-Identifier: MIT
-- What the words of a table are at its end.
use Rattle.std.specs.Prelude.{◌≡◌, ℕ, ◌+◌, ◌<◌, List, length, slice_index}
use Rattle.std.specs.Global.{Global}
use Rattle.std.specs.Mem.Slots.{slots_items, slots_len, IsFull}
use Rattle.atomic_table.specs.declared.owned.Closed.{Closed}
use Rattle.rrc_marks.specs.declared.rule.View.{View}
use Rattle.rrc_marks.specs.Views.{EachOnceBelow}

-- every mark is free, and the numbers below word 0 are the list of the one pass, each once
pub record IsSettled (words : List ℕ) (v : View) : Type 0 where
  pub free : (m : ℕ) → slice_index words (m + 1) ≡ 0
  pub drawn_once : EachOnceBelow (slice_index words 0) v.drawn
  pub draws : slice_index words 0 ≡ length v.drawn

-- the words that a table hands out, word 0 first
abbrev pub last_words : Closed (Unit {0}) Global → List ℕ
last_words closed = slots_items closed.words

-- each word can be read, there is one at least, and there is no slot
pub record IsWhole (closed : Closed (Unit {0}) Global) : Type 0 where
  pub full : IsFull closed.words
  pub some : 0 < slots_len closed.words
  pub none : slots_len closed.slots ≡ 0
