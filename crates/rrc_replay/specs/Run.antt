-- SPDX-License-Identifier: MIT
-- What a run reads and writes.
use Rattle.std.specs.Prelude.{ℕ, ◌≤◌, List, length, Option}
use Rattle.std.specs.Io.KnownBytes.{Appends, Keeps}
use Rattle.rrc_text.specs.declared.fault.ReplayFault.{ReplayFault}
use Rattle.rrc_text.specs.declared.fault.ReplayFault.TheVariants.{BadLine, TooManyLines, Read, Write, Strayed, Memory, Spent, TooManyQuestions, NotLegal}
use Rattle.rrc_trace.specs.declared.line.Line.{Line}
use Rattle.rrc_trace.specs.Pieces.{IsTraceFrom, IsFaultOfTrace}
use Rattle.rrc_trace.specs.Report.{report_text}
use Rattle.rrc_text.specs.Writer.{AppendsFront}
use Rattle.rrc_script.specs.declared.config.Config.{Config}
use Rattle.rrc_report.specs.declared.report.Report.{Report}
use Rattle.rrc_report.specs.Reports.{IsCollated}

-- a trace was read, and this is a report of it
pub record Replays (config : Config) (read : Option (List ℕ)) (lines : List Line) (report : Report) : Type 0 where
  pub trace : IsTraceFrom read lines
  pub collated : IsCollated config lines report

-- what was read is a trace, and this is a report of it
pub record IsReportOf (config : Config) (read : Option (List ℕ)) (report : Report) : Type 0 where
  pub lines : List Line
  pub replays : Replays config read lines report

-- what was read is a trace, and what was written is the text of a report of it, and nothing else
pub record Reports (config : Config) (read old new : Option (List ℕ)) : Type 0 where
  pub lines : List Line
  pub report : Report
  pub replays : Replays config read lines report
  pub written : Appends old new (report_text report.lines)

-- what was read is a trace, and what was written is a beginning of the text of a report of it
pub record BeginsReport (config : Config) (read old new : Option (List ℕ)) : Type 0 where
  pub lines : List Line
  pub report : Report
  pub replays : Replays config read lines report
  pub begun : AppendsFront old new (report_text report.lines)

-- what was read is a trace, and this is the number of a line or of all its lines
pub record IsWithin (read : Option (List ℕ)) (number : ℕ) : Type 0 where
  pub lines : List Line
  pub trace : IsTraceFrom read lines
  pub within : number ≤ length lines

-- a fault of the text is its first one; each other one is of a read, of a write, of memory or threads, of workers, or of numbers that are spent
abbrev pub IsFaultOfRun : Option (List ℕ) → ReplayFault → Type 0
IsFaultOfRun read (BadLine number) = IsFaultOfTrace read (BadLine number)
IsFaultOfRun read TooManyLines = IsFaultOfTrace read TooManyLines
IsFaultOfRun read Read = Unit {0}
IsFaultOfRun read Write = Unit {0}
IsFaultOfRun read Strayed = Unit {0}
IsFaultOfRun read Memory = Unit {0}
IsFaultOfRun read (Spent number) = IsWithin read number
IsFaultOfRun read (TooManyQuestions number) = IsFaultOfTrace read (TooManyQuestions number)
IsFaultOfRun read NotLegal = ⊥

-- before the fault of a write a beginning of a report went out, before any other nothing
abbrev pub LeavesWriter : Config → Option (List ℕ) → Option (List ℕ) → Option (List ℕ) → ReplayFault → Type 0
LeavesWriter config read old new (BadLine number) = Keeps old new
LeavesWriter config read old new TooManyLines = Keeps old new
LeavesWriter config read old new Read = Keeps old new
LeavesWriter config read old new Write = BeginsReport config read old new
LeavesWriter config read old new Strayed = Keeps old new
LeavesWriter config read old new Memory = Keeps old new
LeavesWriter config read old new (Spent number) = Keeps old new
LeavesWriter config read old new (TooManyQuestions number) = Keeps old new
LeavesWriter config read old new NotLegal = Keeps old new
