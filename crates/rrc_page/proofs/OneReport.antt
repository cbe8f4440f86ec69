-- SPDX-License-Identifier: MIT
-- A report of a trace by one worker is the one report of it.
use Rattle.std.proofs.Common.{◌≡◌, ℕ, List, subst}
use Rattle.rrc_trace.specs.declared.line.Line.{Line}
use Rattle.rrc_trace.specs.Trace.{TraceOf, OneTraceOrFault}
use Rattle.rrc_script.specs.declared.config.Config.{Config}
use Rattle.rrc_report.specs.declared.report.Report.{Report}
use Rattle.rrc_report.specs.OneWorker.{OneReportByOneWorker}
use Rattle.rrc_report.specs.Reports.{IsCollated}
use Rattle.rrc_page.specs.Replay.{IsReportOf, IsTheReport}

-- octets are the text of one list of lines, and these have one report
pub the_report : OneTraceOrFault → OneReportByOneWorker → (config : Config) (octets : List ℕ) (lines : List Line) (report : Report)
    → config.workers ≡ 1 → TraceOf octets lines → IsCollated config lines report → IsTheReport config octets report
the_report traces reports config octets lines report alone trace collated =
    record {
      is = record { lines = lines; trace = trace; collated = collated };
      only = λ (other : Report) (of : IsReportOf config octets other).
          let own : IsCollated config lines other =
          subst (λ (ls : List Line). IsCollated config ls other) ((traces octets).one_trace of.lines lines of.trace trace) of.collated in
          reports config lines other report alone own collated;
    }
