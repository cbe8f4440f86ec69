-- SPDX-License-Identifier: MIT
use Rattle.std.proofs.Common.{◌≡◌, map, take}
use Rattle.rrc_name.specs.Images.{image_of}
use Rattle.rrc_history.proofs.images.keys_of.Given as goal

abbrev pub invariant-loop-key : goal.invariant-loop-key
invariant-loop-key l = l.made.items ≡ map image_of (take l.key-index l.keys)
