-- SPDX-License-Identifier: MIT
use Rattle.std.proofs.Common.{◌≡◌, ◌+◌, [], ◌∷◌, ◌++◌, sym, ◌∙◌, arith}
use Rattle.std.specs.Io.KnownBytes.{prepend_known}
use Rattle.rrc_trace.proofs.GrowthLemmas.{reader_at_end, at_end}
use Rattle.std.proofs.lemmas.Result.{err_from_is_err_and}
use Rattle.rrc_trace.proofs.PieceLemmas.{so_far_none, so_far_more, are_lawful, reads_lf, reads_last, stops, ends, endless, goes_on, nothing, no_octets, stays, some_octets}
use Rattle.rrc_trace.proofs.read.trace.Reading.read_lines.Goals as goal

pub loop-number-init : goal.loop-number-init
loop-number-init g c = rw (c.requires.ahead, c.requires.questions, c.requires.lines) (so_far_none (g.R.Read.remaining c.args.reader.now))

pub loop-number-preserved : goal.loop-number-preserved
loop-number-preserved g c =
    let known = g.R.Read.remaining in
    let all = known c.args.reader.now in
    let old = prepend_known c.loop-number.self.ahead (known c.loop-number.reader) in
    let new = prepend_known c.piece_from.new.ahead (known c.piece_from.new.reader) in
    let piece = c.piece_from.new.piece.items in
    let was = rw c.in-Lf.is at c.in_ok-piece_from.ensures.ok in
    let adds = c.in_ok-add_line-in-Lf.ensures.ok in
    rw (c.in_ok-add_line-in-Lf.ensures.ahead, adds.1)
    (so_far_more all old new c.loop-number.self.lines c.loop-number.number c.loop-number.self.questions c.add_line.new.self.questions piece adds.0 (omega arith) c.loop-number.invariant (reads_lf old new piece was) adds.2)

pub returns-in_err-add_line-in-Lf-clause-err : goal.returns-in_err-add_line-in-Lf-clause-err
returns-in_err-add_line-in-Lf-clause-err g c =
    let known = g.R.Read.remaining in
    let all = known c.args.reader.now in
    let old = prepend_known c.loop-number.self.ahead (known c.loop-number.reader) in
    let new = prepend_known c.piece_from.new.ahead (known c.piece_from.new.reader) in
    let piece = c.piece_from.new.piece.items in
    let was = rw c.in-Lf.is at c.in_ok-piece_from.ensures.ok in
    let p = err_from_is_err_and c.from_residual-in_err-add_line-in-Lf.result c.from_residual-in_err-add_line-in-Lf.ensures.1 in
    rw (p.1, p.2) (stops c.in_err-add_line-in-Lf.field-0.0 all old new c.loop-number.self.lines c.loop-number.number c.loop-number.self.questions c.add_line.new.self.questions piece (omega arith) c.loop-number.invariant (reads_lf old new piece was) c.in_err-add_line-in-Lf.ensures.err)

pub returns-in-Endless-clause-err : goal.returns-in-Endless-clause-err
returns-in-Endless-clause-err g c =
    let known = g.R.Read.remaining in
    let was = rw c.in-Endless.is at c.in_ok-piece_from.ensures.ok in
    endless (known c.args.reader.now) (prepend_known c.loop-number.self.ahead (known c.loop-number.reader)) (prepend_known c.piece_from.new.ahead (known c.piece_from.new.reader)) c.loop-number.self.lines c.loop-number.number
    c.piece_from.new.piece.items (omega arith) c.loop-number.invariant.read was

pub returns-in_err-add_line-in-Last-clause-err : goal.returns-in_err-add_line-in-Last-clause-err
returns-in_err-add_line-in-Last-clause-err g c =
    let known = g.R.Read.remaining in
    let all = known c.args.reader.now in
    let old = prepend_known c.loop-number.self.ahead (known c.loop-number.reader) in
    let new = prepend_known c.piece_from.new.ahead (known c.piece_from.new.reader) in
    let piece = c.piece_from.new.piece.items in
    let was = rw c.in-Last.is at c.in_ok-piece_from.ensures.ok in
    let some = some_octets piece (rw c.as_slice.ensures.value at (sym c.is_empty.ensures ∙ c.if-is_empty.false)) in
    let p = err_from_is_err_and c.from_residual-in_err-add_line-in-Last.result c.from_residual-in_err-add_line-in-Last.ensures.1 in
    rw (p.1, p.2) (stops c.in_err-add_line-in-Last.field-0.0 all old new c.loop-number.self.lines c.loop-number.number c.loop-number.self.questions c.add_line-in-Last.new.self.questions piece (omega arith) c.loop-number.invariant (reads_last old new piece was some) c.in_err-add_line-in-Last.ensures.err)

pub returns-then-is_empty-clause-ok : goal.returns-then-is_empty-clause-ok
returns-then-is_empty-clause-ok g c =
    let known = g.R.Read.remaining in
    let all = known c.args.reader.now in
    let old = prepend_known c.loop-number.self.ahead (known c.loop-number.reader) in
    let new = prepend_known c.piece_from.new.ahead (known c.piece_from.new.reader) in
    let piece = c.piece_from.new.piece.items in
    let empty : piece ≡ [] = no_octets piece (rw c.as_slice.ensures.value at (sym c.is_empty.ensures ∙ c.if-is_empty.true)) in
    let was = rw (c.in-Last.is, empty) at c.in_ok-piece_from.ensures.ok in
    let last = rw c.in-Last.is at c.in_ok-piece_from.ensures.last in
    ends all new c.loop-number.self.lines c.loop-number.number (nothing all old new c.loop-number.self.lines c.loop-number.number c.loop-number.invariant.read was) last (omega arith)

pub returns-then-is_empty-clause-lawful : goal.returns-then-is_empty-clause-lawful
returns-then-is_empty-clause-lawful g c =
    let known = g.R.Read.remaining in
    are_lawful (known c.args.reader.now) (prepend_known c.loop-number.self.ahead (known c.loop-number.reader)) c.loop-number.self.lines c.loop-number.number
    c.loop-number.self.questions c.loop-number.invariant (omega arith)

pub returns-in-Last-clause-ok : goal.returns-in-Last-clause-ok
returns-in-Last-clause-ok g c =
    let known = g.R.Read.remaining in
    let all = known c.args.reader.now in
    let old = prepend_known c.loop-number.self.ahead (known c.loop-number.reader) in
    let new = prepend_known c.piece_from.new.ahead (known c.piece_from.new.reader) in
    let piece = c.piece_from.new.piece.items in
    let was = rw c.in-Last.is at c.in_ok-piece_from.ensures.ok in
    let some = some_octets piece (rw c.as_slice.ensures.value at (sym c.is_empty.ensures ∙ c.if-is_empty.false)) in
    let adds = c.in_ok-add_line-in-Last.ensures.ok in
    let far = so_far_more all old new c.loop-number.self.lines c.loop-number.number c.loop-number.self.questions c.add_line-in-Last.new.self.questions piece adds.0 (omega arith) c.loop-number.invariant (reads_last old new piece was some) adds.2 in
    let last = rw c.in-Last.is at c.in_ok-piece_from.ensures.last in
    rw adds.1 (ends all new (c.loop-number.self.lines ++ adds.0 ∷ []) (c.loop-number.number + 1) far.read last (omega arith))

pub returns-in-Last-clause-lawful : goal.returns-in-Last-clause-lawful
returns-in-Last-clause-lawful g c =
    let known = g.R.Read.remaining in
    let all = known c.args.reader.now in
    let old = prepend_known c.loop-number.self.ahead (known c.loop-number.reader) in
    let new = prepend_known c.piece_from.new.ahead (known c.piece_from.new.reader) in
    let piece = c.piece_from.new.piece.items in
    let was = rw c.in-Last.is at c.in_ok-piece_from.ensures.ok in
    let some = some_octets piece (rw c.as_slice.ensures.value at (sym c.is_empty.ensures ∙ c.if-is_empty.false)) in
    let adds = c.in_ok-add_line-in-Last.ensures.ok in
    let far = so_far_more all old new c.loop-number.self.lines c.loop-number.number c.loop-number.self.questions c.add_line-in-Last.new.self.questions piece adds.0 (omega arith) c.loop-number.invariant (reads_last old new piece was some) adds.2 in
    rw adds.1 (are_lawful all new (c.loop-number.self.lines ++ adds.0 ∷ []) (c.loop-number.number + 1) c.add_line-in-Last.new.self.questions far (omega arith))

pub returns-in-Last-clause-asked : goal.returns-in-Last-clause-asked
returns-in-Last-clause-asked g c =
    let known = g.R.Read.remaining in
    let all = known c.args.reader.now in
    let old = prepend_known c.loop-number.self.ahead (known c.loop-number.reader) in
    let new = prepend_known c.piece_from.new.ahead (known c.piece_from.new.reader) in
    let piece = c.piece_from.new.piece.items in
    let was = rw c.in-Last.is at c.in_ok-piece_from.ensures.ok in
    let some = some_octets piece (rw c.as_slice.ensures.value at (sym c.is_empty.ensures ∙ c.if-is_empty.false)) in
    let adds = c.in_ok-add_line-in-Last.ensures.ok in
    let far = so_far_more all old new c.loop-number.self.lines c.loop-number.number c.loop-number.self.questions c.add_line-in-Last.new.self.questions piece adds.0 (omega arith) c.loop-number.invariant (reads_last old new piece was some) adds.2 in
    rw adds.1 far.fetched

pub returns-in-Last-clause-whole : goal.returns-in-Last-clause-whole
returns-in-Last-clause-whole g c =
    let last = rw c.in-Last.is at c.in_ok-piece_from.ensures.last in
    reader_at_end c.piece_from.new.ahead (g.R.Read.remaining c.piece_from.new.reader) last

pub returns-then-branch-clause-err : goal.returns-then-branch-clause-err
returns-then-branch-clause-err g c =
    let known = g.R.Read.remaining in
    goes_on (known c.args.reader.now) (prepend_known c.loop-number.self.ahead (known c.loop-number.reader)) (known c.has_more.new.reader)
    c.has_more.new.self c.loop-number.self.lines c.loop-number.number (omega arith) c.loop-number.invariant.read c.in_ok-has_more.ensures.kept
    (c.in_ok-has_more.ensures.more c.if-branch.true)

pub returns-else-branch-clause-ok : goal.returns-else-branch-clause-ok
returns-else-branch-clause-ok g c =
    let known = g.R.Read.remaining in
    let all = known c.args.reader.now in
    let old = prepend_known c.loop-number.self.ahead (known c.loop-number.reader) in
    let new = prepend_known c.has_more.new.self (known c.has_more.new.reader) in
    let ended = c.in_ok-has_more.ensures.end c.if-branch.false in
    ends all new c.loop-number.self.lines c.loop-number.number
    (stays all old new c.loop-number.self.lines c.loop-number.number c.loop-number.invariant.read c.in_ok-has_more.ensures.kept)
    (at_end c.has_more.new.self (known c.has_more.new.reader) ended.0 ended.1) (omega arith)

pub returns-else-branch-clause-lawful : goal.returns-else-branch-clause-lawful
returns-else-branch-clause-lawful g c =
    let known = g.R.Read.remaining in
    are_lawful (known c.args.reader.now) (prepend_known c.loop-number.self.ahead (known c.loop-number.reader)) c.loop-number.self.lines c.loop-number.number
    c.loop-number.self.questions c.loop-number.invariant (omega arith)
