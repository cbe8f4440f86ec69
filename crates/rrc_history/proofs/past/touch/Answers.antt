-- SPDX-License-Identifier: MIT
use Rattle.std.proofs.Common.{ℕ, ap, ◌+◌, ◌∙◌}
use Rattle.rrc_history.specs.declared.snapshot.Snapshot.{Snapshot}
use Rattle.rrc_history.proofs.Walking.{touch_start, touch_more, chosen_then, chosen_else}
use Rattle.rrc_history.proofs.past.touch.Goals as goal
use Rattle.rrc_history.proofs.past.touch.Goals.{then-is_touched, else-is_touched}

pub loop-place-init : goal.loop-place-init
loop-place-init c =
    touch_start c.args.snapshot.now c.args.key.now c.snapshot.inside.entries c.place_of-touch.result c.place_of-touch.ensures
    (ap (λ (s : Snapshot). s.entries) c.snapshot.view_is)

pub loop-place-preserved : goal.loop-place-preserved
loop-place-preserved c =
    let number : ℕ = c.args.snapshot.now.first + c.loop-place.place in
    touch_more c.args.snapshot.now c.args.past.now c.loop-place.place c.index-past-place.result c.args.key.now c.is_touched.result c.loop-place.touch c.if-is_touched.touch
    c.loop-place-test.true c.index-past-place.is c.loop-place.invariant c.is_touched.ensures
    (elim c.if-is_touched.branch [
      | then-is_touched w ↦
          chosen_then c.is_touched.result c.if-is_touched.touch number c.loop-place.touch w.if-is_touched.true
          (w.touch-is ∙ ap (λ (s : Snapshot). s.first + c.loop-place.place) c.snapshot.view_is)
      | else-is_touched w ↦ chosen_else c.is_touched.result c.if-is_touched.touch number c.loop-place.touch w.if-is_touched.false w.touch-is
    ])
