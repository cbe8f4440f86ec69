-- SPDX-License-Identifier: MIT
use Rattle.std.proofs.Common.{◌≡◌, take}
use Rattle.std.specs.Prelude.{reverse}
use Rattle.std.specs.Option.{option_map}
use Rattle.rrc_name.specs.KeyRef.{key_of}
use Rattle.rrc_history.specs.Past.{held}
use Rattle.rrc_history.specs.Views.{held_in}
use Rattle.rrc_history.proofs.past.held.Given as goal

abbrev pub invariant-loop-place : goal.invariant-loop-place
invariant-loop-place l = option_map held_in l.held ≡ held l.snapshot (reverse (take l.place l.past)) (key_of l.key)
