-- SPDX-License-Identifier: MIT
-- What each kind of step tells the pass that steps: of the step, what the pass knew, the number found, and what it knows then.
use Rattle.std.specs.Prelude.{◌≡◌, ◌≢◌, ℕ, ◌+◌, ◌^◌, ◌<◌, ◌≤◌, All, length}
use Rattle.atomic_table.specs.Table.{Me, Step}
use Rattle.rrc_marks.specs.declared.rule.View.{View}
use Rattle.rrc_marks.specs.Views.{times, after_step, after_draw, after_win, after_finish, all_turns, IsAlone, Holds, Lacks}

-- what a pass knows, and the slots that it holds, of which there are none
abbrev pub Known : Type 0
Known = Me (Unit {0}) View

-- by one step the number joins the list and one turn goes; it is greater than all that the pass drew before, and a pass that is alone draws them in their order
pub record Draws (old : View) (number : ℕ) (new : View) : Type 0 where
  pub after : new ≡ after_draw number old
  pub below : number < old.start
  pub greatest : All (λ x. x < number) old.drawn
  pub next : IsAlone old → number ≡ length old.drawn

-- by one step: where 0 was found the mark is held, which it was not before, and else nothing more changed; a mark that the pass holds is not found free, and a pass that is alone finds free whatever it does not hold
pub record Exchanges (old : View) (mark found : ℕ) (new : View) : Type 0 where
  pub won : found ≡ 0 → new ≡ after_win mark old
  pub free : found ≡ 0 → Lacks old mark
  pub lost : found ≢ 0 → new ≡ after_step old
  pub own : Holds old mark → found ≢ 0
  pub alone : IsAlone old → Lacks old mark → found ≡ 0

-- what a pass knows is within the turns at the start, with no number and no mark twice
pub record IsBounded (v : View) : Type 0 where
  pub within : all_turns v ≤ v.start
  pub limited : v.start ≤ 2 ^ 40
  pub drawn_once : (x : ℕ) → times x v.drawn ≤ 1
  pub held_once : (m : ℕ) → times m v.held ≤ 1

-- the number found was drawn
abbrev pub TellsDraw : Step (Unit {0}) → Known → ℕ → Known → Type 0
TellsDraw st m found m' = Draws m.0 found m'.0 × (m'.1 ≡ m.1)

-- the mark of the word was exchanged
abbrev pub TellsBegin : Step (Unit {0}) → Known → ℕ → Known → Type 0
TellsBegin st m found m' = (mark : ℕ) → st.word ≡ mark + 1 → Exchanges m.0 mark found m'.0 × (m'.1 ≡ m.1)

-- the mark is held no more
abbrev pub TellsFinish : Step (Unit {0}) → Known → ℕ → Known → Type 0
TellsFinish st m stored m' = (mark : ℕ) → st.word ≡ mark + 1 → m' ≡ (after_finish mark m.0, m.1)

-- one step was taken, and what the pass knows is bounded
abbrev pub TellsLook : Step (Unit {0}) → Known → ℕ → Known → Type 0
TellsLook st m found m' = (m' ≡ (after_step m.0, m.1)) × IsBounded m'.0
