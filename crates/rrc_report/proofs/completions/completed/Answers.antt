-- SPDX-License-Identifier: MIT
use Rattle.std.proofs.Common.{map}
use Rattle.rrc_report.proofs.ToldLaws.{completed_some, completed_none}
use Rattle.rrc_report.proofs.completions.completed.Goals as goal

pub returns-clause-some : goal.returns-clause-some
returns-clause-some c = completed_some c.args.given (map (λ event. event.now) c.args.events.now) c.complete.result c.complete.ensures

pub returns-clause-none : goal.returns-clause-none
returns-clause-none c = completed_none c.args.given (map (λ event. event.now) c.args.events.now) c.complete.result c.complete.ensures
