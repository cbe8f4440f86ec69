-- SPDX-License-Identifier: MIT
-- Why what the workers say gives no report.
use Rattle.std.specs.Prelude.{◌≡◌, ◌^◌, List, length}
use Rattle.std.specs.List.{Any}
use Rattle.rrc_share.specs.Shelf.{ShelfOf}
use Rattle.rrc_trace.specs.declared.line.Line.{Line}
use Rattle.rrc_text.specs.declared.fault.ReplayFault.{ReplayFault}
use Rattle.rrc_text.specs.declared.fault.ReplayFault.TheVariants.{BadLine, TooManyLines, Read, Write, Strayed, Memory, Spent, TooManyQuestions, NotLegal}
use Rattle.rrc_script.specs.declared.config.Config.{Config}
use Rattle.rrc_report.specs.declared.done.Done.{Done}
use Rattle.rrc_report.specs.declared.report.Report.{Report}
use Rattle.rrc_report.specs.Reports.{IsCollated, Holds}

-- no report that holds what was handed in is that of the trace
abbrev pub Stray : Config → List Line → List ShelfOf → List Done → Type 0
Stray config lines shelves done = (report : Report) → Holds shelves done report → IsCollated config lines report → ⊥

-- they strayed only where no such report is that of the trace; numbers are spent only where the chapter of a part has the last one
abbrev pub IsWhy : Config → List Line → List ShelfOf → List Done → ReplayFault → Type 0
IsWhy config lines shelves done (BadLine number) = ⊥
IsWhy config lines shelves done TooManyLines = ⊥
IsWhy config lines shelves done Read = ⊥
IsWhy config lines shelves done Write = ⊥
IsWhy config lines shelves done Strayed = Stray config lines shelves done
IsWhy config lines shelves done Memory = Unit {0}
IsWhy config lines shelves done (Spent number) = (number ≡ length lines) × Any (λ shelf. shelf.part.number ≡ 2 ^ 62) shelves
IsWhy config lines shelves done (TooManyQuestions number) = ⊥
IsWhy config lines shelves done NotLegal = ⊥
