-- SPDX-License-Identifier: MIT
use Rattle.std.proofs.Common.{arith, sym, []}
use Rattle.std.specs.List.{slice_split}
use Rattle.std.proofs.lemmas.Result.{err_from_is_err_and}
use Rattle.rrc_text.specs.Commas.{is_comma}
use Rattle.rrc_text.proofs.CommaLemmas.{split_at_comma, split_uncut}
use Rattle.rrc_archive.proofs.WrittenLemmas.{fewer, more_written, last_written, bad_written, nothing_left}
use Rattle.rrc_archive.proofs.read.body.items_in.Goals as goal

pub returns-in_err-add_item-in-Some-clause-exact : goal.returns-in_err-add_item-in-Some-clause-exact
returns-in_err-add_item-in-Some-clause-exact c =
    let p = err_from_is_err_and c.from_residual.result c.from_residual.ensures.1 in
    rw (p.1, p.2)
    (bad_written c.args.field.now c.loop-seen.items c.loop-seen.rest.now c.loop-seen.invariant.1 c.in_err-add_item-in-Some.field-0.0 c.in-Some.piece.now
    (slice_split is_comma c.in-Some.more.now) c.add_item.new.items
    (split_at_comma c.loop-seen.rest.now c.in-Some.piece.now c.in-Some.more.now (sym c.in-Some.ensures)) c.in_err-add_item-in-Some.ensures.exact)

pub returns-in_err-add_item-in-None-clause-exact : goal.returns-in_err-add_item-in-None-clause-exact
returns-in_err-add_item-in-None-clause-exact c =
    let p = err_from_is_err_and c.from_residual-in_err-add_item-in-None.result c.from_residual-in_err-add_item-in-None.ensures.1 in
    rw (p.1, p.2)
    (bad_written c.args.field.now c.loop-seen.items c.loop-seen.rest.now c.loop-seen.invariant.1 c.in_err-add_item-in-None.field-0.0 c.loop-seen.rest.now []
    c.add_item-in-None.new.items (split_uncut c.loop-seen.rest.now (sym c.in-None.ensures)) c.in_err-add_item-in-None.ensures.exact)

pub returns-in-None-clause-exact : goal.returns-in-None-clause-exact
returns-in-None-clause-exact c =
    last_written c.args.field.now c.loop-seen.items c.loop-seen.rest.now c.loop-seen.invariant.1 c.add_item-in-None.new.items
    (split_uncut c.loop-seen.rest.now (sym c.in-None.ensures)) c.in_ok-add_item-in-None.ensures.exact

pub loop-seen-preserved : goal.loop-seen-preserved
loop-seen-preserved c =
    let comma = sym c.in-Some.ensures in
    let short = fewer c.loop-seen.rest.now c.in-Some.piece.now c.in-Some.more.now comma in (
      c.in_ok-add_item-in-Some.ensures.held,
      more_written c.args.field.now c.loop-seen.items c.loop-seen.rest.now c.loop-seen.invariant.1 c.in-Some.piece.now c.in-Some.more.now
          c.add_item.new.items comma c.in_ok-add_item-in-Some.ensures.exact,
      omega (arith, short, c.loop-seen.invariant.2),
    )

pub returns-clause-exact : goal.returns-clause-exact
returns-clause-exact c =
    nothing_left c.args.field.now c.loop-seen.items c.loop-seen.rest.now c.loop-seen.invariant.1 (omega (arith, c.loop-seen.invariant.2))
