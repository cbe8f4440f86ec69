-- SPDX-License-Identifier: MIT
-- Questions to a cache.
use Rattle.std.specs.Prelude.{ℕ, List}
use Rattle.rrc_history.specs.declared.ask.Purpose.{Purpose}
use Rattle.rrc_history.specs.declared.ask.Mode.{Mode}

-- a folded name and a type, the moment, what the answer is for, and whether a stale one will do
pub record AskOf : Type 0 where
  pub name : List ℕ
  pub rtype : ℕ
  pub moment : ℕ
  pub purpose : Purpose
  pub mode : Mode
