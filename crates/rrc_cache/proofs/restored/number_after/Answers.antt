-- SPDX-License-Identifier: MIT
use Rattle.std.proofs.Common.{◌≡◌, ◌+◌, ◌<◌, ◌^◌, length, reverse, ap, arith}
use Rattle.std.proofs.lemmas.List.{length-reverse}
use Rattle.rrc_history.specs.declared.snapshot.Snapshot.{Snapshot}
use Rattle.rrc_cache.proofs.Former.{below_numbers}
use Rattle.rrc_cache.proofs.restored.number_after.Goals as goal

pub overflow_add-result : goal.overflow_add-result
overflow_add-result c =
    let first : c.snapshot.inside.first ≡ c.args.snapshot.now.first = ap (λ (s : Snapshot). s.first) c.snapshot.view_is in
    let low : c.args.snapshot.now.first < 2 ^ 64 = omega (arith, first) in
    let many : length (reverse c.args.events.now) ≡ length c.args.events.now = length-reverse c.args.events.now in
    let below : c.args.snapshot.now.first + length (reverse c.args.events.now) < 2 ^ 64 = below_numbers c.args.snapshot.now (reverse c.args.events.now) low c.requires in
    omega (arith, first, many, below)
