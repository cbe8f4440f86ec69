-- SPDX-License-Identifier: MIT
use Rattle.std.proofs.Common.{◌+◌, sym, subst}
use Rattle.rrc_shelf.specs.Upkeep.{SweepsUpTo}
use Rattle.rrc_shelf.proofs.Refusing.{on_err}
use Rattle.rrc_shelf.proofs.Sweeping.{HasSwept, more_swept}
use Rattle.rrc_shelf.proofs.sweeps.sweep_steps.Goals as goal

pub returns-in_err-gone-clause-err : goal.returns-in_err-gone-clause-err
returns-in_err-gone-clause-err c =
    on_err c.from_residual.result c.in_err-gone.field-0.0 (λ number. SweepsUpTo number c.args.terms.now c.loop.removed c.args.shelf.now c.sweep.new.shelf) c.from_residual.ensures.1
    (record {
      steps = c.loop.invariant.steps;
      middle = c.loop.shelf;
      goes = c.loop.invariant.goes;
      left = c.in_err-gone.ensures.left;
      at = c.in-Some.next;
      timely = c.in-Some.ensures.some;
      due = c.in_err-gone.ensures.due;
    })

pub loop-preserved : goal.loop-preserved
loop-preserved c =
    subst (λ removed. HasSwept c.args.terms.now removed (c.loop.counter + 1) c.args.shelf.now c.sweep.new.shelf) (sym c.saturating_add.ensures)
    (more_swept c.args.terms.now c.loop.removed c.loop.counter c.in-Some.next c.in_ok-gone.gone c.args.shelf.now c.loop.shelf c.sweep.new.shelf c.loop.invariant c.loop-test.true
    c.in-Some.ensures.some c.in_ok-gone.ensures.ok)
