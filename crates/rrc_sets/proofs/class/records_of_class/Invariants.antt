-- SPDX-License-Identifier: MIT
-- those of the class among the records so far
use Rattle.std.proofs.Common.{◌≡◌, take}
use Rattle.std.specs.Prelude.{filter}
use Rattle.rrc_sets.specs.Classes.{is_of_class}
use Rattle.rrc_sets.proofs.class.records_of_class.Given as goal

abbrev pub invariant-loop-rr : goal.invariant-loop-rr
invariant-loop-rr l = l.own ≡ filter (is_of_class l.class) (take l.rr-index l.records)
