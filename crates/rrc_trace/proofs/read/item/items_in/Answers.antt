-- SPDX-License-Identifier: MIT
use Rattle.std.proofs.Common.{arith, sym}
use Rattle.std.proofs.lemmas.Result.{err_from_is_err_and}
use Rattle.rrc_trace.proofs.ItemLemmas.{IsRead-more, bad_piece, bad_last_piece, last_piece, too_many_pieces}
use Rattle.rrc_trace.proofs.read.item.items_in.Goals as goal

pub returns-in_err-add_item-in-Some : goal.returns-in_err-add_item-in-Some
returns-in_err-add_item-in-Some c =
    let p = err_from_is_err_and c.from_residual-in_err-add_item-in-Some.result c.from_residual-in_err-add_item-in-Some.ensures.1 in
    rw (p.1, p.2)
    (bad_piece c.args.rtype c.args.field.now c.loop-seen.items c.loop-seen._seen c.loop-seen.rest.now c.loop-seen.invariant.0
    c.in_err-add_item-in-Some.field-0.0 c.add_item.new.items c.in-Some.piece.now c.in-Some.more.now (sym c.in-Some.ensures)
    c.in_err-add_item-in-Some.ensures.items)

pub returns-in_err-add_item-in-None : goal.returns-in_err-add_item-in-None
returns-in_err-add_item-in-None c =
    let p = err_from_is_err_and c.from_residual-in_err-add_item-in-None.result c.from_residual-in_err-add_item-in-None.ensures.1 in
    rw (p.1, p.2)
    (bad_last_piece c.args.rtype c.args.field.now c.loop-seen.items c.loop-seen._seen c.loop-seen.rest.now c.loop-seen.invariant.0
    c.in_err-add_item-in-None.field-0.0 c.add_item-in-None.new.items (sym c.in-None.ensures)
    c.in_err-add_item-in-None.ensures.items)

pub returns-in-None : goal.returns-in-None
returns-in-None c =
    last_piece c.args.rtype c.args.field.now c.loop-seen.items c.loop-seen._seen c.loop-seen.rest.now c.loop-seen.invariant.0
    c.add_item-in-None.new.items (omega arith) (sym c.in-None.ensures) c.in_ok-add_item-in-None.ensures.items

pub loop-seen-preserved : goal.loop-seen-preserved
loop-seen-preserved c = (
  IsRead-more c.args.rtype c.args.field.now c.loop-seen.items c.loop-seen._seen c.loop-seen.rest.now c.loop-seen.invariant.0
      c.in-Some.piece.now c.in-Some.more.now c.add_item.new.items (sym c.in-Some.ensures) c.in_ok-add_item-in-Some.ensures.items,
  c.in_ok-add_item-in-Some.ensures.finds,
)

pub returns : goal.returns
returns c =
    too_many_pieces c.args.rtype c.args.field.now c.loop-seen.items c.loop-seen._seen c.loop-seen.rest.now c.loop-seen.invariant.0 (omega arith)
