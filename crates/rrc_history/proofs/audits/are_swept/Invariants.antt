-- SPDX-License-Identifier: MIT
use Rattle.std.proofs.Common.{◌≡◌, drop}
use Rattle.std.specs.Prelude.{reverse}
use Rattle.std.specs.List.{list_all}
use Rattle.rrc_name.specs.Key.{KeyOf}
use Rattle.rrc_history.specs.Past.{held}
use Rattle.rrc_history.specs.Right.{is_swept}
use Rattle.rrc_history.proofs.audits.are_swept.Given as goal

abbrev pub invariant-loop-key : goal.invariant-loop-key
invariant-loop-key l =
    list_all (λ (key : KeyOf). is_swept l.snapshot.rules.stale (held l.snapshot (reverse l.past) key) l.moment) (drop l.key-index l.gone)
    ≡ list_all (λ (key : KeyOf). is_swept l.snapshot.rules.stale (held l.snapshot (reverse l.past) key) l.moment) l.gone
