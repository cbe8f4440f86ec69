-- SPDX-License-Identifier: MIT
use Rattle.rrc_report.proofs.OneReport.{one_report}
use Rattle.rrc_report.proofs.laws.one_report_by_one_worker.Goals as goal

pub returns : goal.returns
returns c = one_report c.one_message_or_fault.ensures
