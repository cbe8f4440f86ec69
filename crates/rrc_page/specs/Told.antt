-- SPDX-License-Identifier: MIT
-- What a call of a page answers.
use Rattle.std.specs.Prelude.{◌≡◌, ℕ, ◌<◌, List, ◌++◌, length, drop}
use Rattle.rrc_text.specs.Faults.{fault_number}
use Rattle.rrc_text.specs.declared.fault.ReplayFault.{ReplayFault}
use Rattle.rrc_text.specs.declared.fault.ReplayFault.TheVariants.{BadLine, TooManyLines, Read, Write, Strayed, Memory, Spent, TooManyQuestions, NotLegal}
use Rattle.rrc_script.specs.declared.config.Config.{Config}
use Rattle.rrc_report.specs.declared.report.Report.{Report}
use Rattle.rrc_page.specs.declared.options.Options.{Options}
use Rattle.rrc_page.specs.declared.told.Told.{Told}
use Rattle.rrc_page.specs.Options.{IsConfigOf}
use Rattle.rrc_page.specs.Replay.{IsFaultOf}
use Rattle.rrc_page.specs.Texts.{IsTextOf}

-- ---- statuses: 0, 1 to 9 as faults are numbered, 10 and 11

-- what holds where a call was done
abbrev pub OnDone : ℕ → Type 0 → Type 0
OnDone status fact = status ≡ 0 → fact

-- what holds where it was not
abbrev pub OnRefused : ℕ → Type 0 → Type 0
OnRefused status fact = (status ≡ 0 → ⊥) → fact

-- what holds where a call answers that the buffer is too small
abbrev pub OnSmall : ℕ → Type 0 → Type 0
OnSmall status fact = status ≡ 10 → fact

-- what holds where a call answers that an option is not in its range
abbrev pub OnBadOptions : ℕ → Type 0 → Type 0
OnBadOptions status fact = status ≡ 11 → fact

-- what holds where a call answers something else: a fault
abbrev pub OnFault : ℕ → Type 0 → Type 0
OnFault status fact = (status ≡ 0 → ⊥) → (status ≡ 10 → ⊥) → (status ≡ 11 → ⊥) → fact

-- ---- what is told

-- the buffer begins with the text now, and what is behind it is as it was
abbrev pub IsFilled : List ℕ → List ℕ → List ℕ → Type 0
IsFilled text old new = new ≡ text ++ drop (length text) old

-- the octets are a trace, and the buffer has what is told of the report of it by these options
pub record TellsText (told_of : Report → List ℕ) (options : Options) (octets old new : List ℕ) (told : Told) : Type 0 where
  pub config : Config
  pub text : List ℕ
  pub config_is : IsConfigOf options config
  pub text_is : IsTextOf told_of config octets text
  pub filled : IsFilled text old new
  pub size : told.size ≡ length text

-- the same text is longer than the buffer, and its size is told
pub record TellsSize (told_of : Report → List ℕ) (options : Options) (octets old : List ℕ) (told : Told) : Type 0 where
  pub config : Config
  pub text : List ℕ
  pub config_is : IsConfigOf options config
  pub text_is : IsTextOf told_of config octets text
  pub long : length old < length text
  pub size : told.size ≡ length text

-- the line that a fault is at, or 0
abbrev pub line_of : ReplayFault → ℕ
line_of (BadLine number) = number
line_of TooManyLines = 0
line_of Read = 0
line_of Write = 0
line_of Strayed = 0
line_of Memory = 0
line_of (Spent number) = number
line_of (TooManyQuestions number) = number
line_of NotLegal = 0

-- the status is the number of a fault of the octets, and the line that it is at is told
pub record TellsFault (octets : List ℕ) (status : ℕ) (told : Told) : Type 0 where
  pub fault : ReplayFault
  pub is : IsFaultOf octets fault
  pub number : status ≡ fault_number fault
  pub line : told.line ≡ line_of fault
