-- SPDX-License-Identifier: MIT
use Rattle.std.proofs.Common.{take}
use Rattle.std.specs.Prelude.{reverse}
use Rattle.rrc_history.proofs.Audited.{IsAudited}
use Rattle.rrc_history.proofs.audits.audit.Given as goal

abbrev pub invariant-loop-place : goal.invariant-loop-place
invariant-loop-place l = IsAudited l.snapshot (reverse (take l.place l.events)) l.present
