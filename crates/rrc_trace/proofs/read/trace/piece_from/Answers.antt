-- SPDX-License-Identifier: MIT
use Rattle.std.specs.Io.KnownBytes.{prepend_known}
use Rattle.rrc_trace.proofs.GrowthLemmas.{at_end, consumes_part, piece_cut, reads_to_lf}
use Rattle.rrc_trace.proofs.read.trace.piece_from.Goals as goal

pub returns-then-branch-clause-ok : goal.returns-then-branch-clause-ok
returns-then-branch-clause-ok g c =
    let known = g.R.Read.remaining in
    let before = prepend_known c.loop-ahead.ahead (known c.loop-ahead.reader) in
    let all = prepend_known c.args.ahead.now (known c.args.reader.now) in
    let gave = known c.has_more.new.reader in
    let ahead = c.has_more.new.self in
    let left = c.move_part.new.ahead in
    let piece = c.loop-ahead.piece.items in
    let longer = c.move_part.new.piece.items in
    let moves = rw c.if-branch.true at c.in_ok-move_part.ensures in
    reads_to_lf all (prepend_known left gave) longer
    (consumes_part _ all before gave ahead left piece longer c.loop-ahead.invariant.0 c.in_ok-has_more.ensures.kept moves)
    (piece_cut _ ahead left piece longer c.loop-ahead.invariant.1 moves)

pub returns-then-not-branch-clause-last : goal.returns-then-not-branch-clause-last
returns-then-not-branch-clause-last g c =
    let ended = c.in_ok-has_more.ensures.end c.if-not-branch.true in
    at_end c.has_more.new.self (g.R.Read.remaining c.has_more.new.reader) ended.0 ended.1
