-- SPDX-License-Identifier: MIT
-- What a worker alone makes of a trace.
use Rattle.std.specs.Prelude.{◌≡◌, List}
use Rattle.rrc_trace.specs.declared.line.Line.{Line}
use Rattle.rrc_script.specs.declared.config.Config.{Config}
use Rattle.rrc_report.specs.declared.report.Report.{Report}
use Rattle.rrc_report.specs.Reports.{IsCollated}

-- with one worker a trace has one report: the trace and the config determine the answers, the share, and the histories of the parts
abbrev pub OneReportByOneWorker : Type 0
OneReportByOneWorker =
    (config : Config) (lines : List Line) (report other : Report) → config.workers ≡ 1 → IsCollated config lines report → IsCollated config lines other → report ≡ other
