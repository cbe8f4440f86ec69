-- SPDX-License-Identifier: MIT
use Rattle.std.proofs.Common.{rules, ◌≡◌, ◌+◌, ◌≤◌, ap, length, arith}
use Rattle.std.specs.Prelude.{slice_range}
use Rattle.rrc_wire.specs.Shown.{as_layout}
use Rattle.rrc_wire.proofs.Filling.{fills_whole}
use Rattle.rrc_wire.proofs.Items.{length-slice_range}
use Rattle.rrc_wire.proofs.data.read_laid_out.Goals as goal

pub returns-clause-fills : goal.returns-clause-fills
returns-clause-fills c =
    let message = c.message-message.result.now in let place = c.args.place in let next = c.in_ok-data-2.next in let size = c.from-before.result in
    let within : c.args.end ≤ length message = omega (arith, c.requires.ends, ap length c.message-message.ensures) in
    let first : length c.in_ok-data.data ≡ c.args.layout.before = omega (arith, ap length c.in_ok-data.ensures, length-slice_range message place (place + size) (omega arith) (omega (arith, within, c.if-before-end.false, c.requires.begins)), c.from-before.ensures) in
    let last : length (slice_range message next c.args.end) ≡ c.args.layout.behind = omega (arith, length-slice_range message next c.args.end c.if-next-end.false within, c.if-end-next.false, c.from.ensures) in
    fills_whole (as_layout c.args.layout) c.in_ok-data.data c.in_ok-data-2.data (slice_range message next c.args.end) c.extend_from_slice.new.self first c.in_ok-data-2.ensures.fills last c.in_ok-extend_from_slice.ensures.ok

pub returns-clause-gives : goal.returns-clause-gives
returns-clause-gives c = search rules fits 100
