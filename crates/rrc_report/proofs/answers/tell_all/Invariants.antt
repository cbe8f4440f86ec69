-- SPDX-License-Identifier: MIT
-- the offers so far were made, and are told
use Rattle.rrc_report.specs.Called.{AreOffered}
use Rattle.rrc_report.proofs.answers.tell_all.Given as goal

abbrev pub invariant-loop-offer : goal.invariant-loop-offer
invariant-loop-offer g l = AreOffered g.C.Calls.makes l.first.line l.first.place l.yielded l.fn.cache l.cache l.told
