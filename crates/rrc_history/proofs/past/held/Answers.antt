-- SPDX-License-Identifier: MIT
use Rattle.std.specs.Option.{option_map}
use Rattle.std.proofs.Common.{ap, ◌+◌, ◌∙◌}
use Rattle.rrc_name.specs.KeyRef.{key_of}
use Rattle.rrc_history.specs.declared.snapshot.Snapshot.{Snapshot}
use Rattle.rrc_history.specs.Auditing.{held_after_event}
use Rattle.rrc_history.specs.Views.{held_in}
use Rattle.rrc_history.proofs.Walking.{held_start, held_more}
use Rattle.rrc_history.proofs.past.held.Goals as goal

pub loop-place-init : goal.loop-place-init
loop-place-init c =
    held_start c.args.snapshot.now (key_of c.args.key) c.snapshot.inside.entries (option_map held_in c.entry_at-held.result) c.entry_at-held.ensures
    (ap (λ (s : Snapshot). s.entries) c.snapshot.view_is)

pub loop-place-preserved : goal.loop-place-preserved
loop-place-preserved c =
    held_more c.args.snapshot.now c.args.past.now c.loop-place.place c.index-past-place.result (key_of c.args.key) (option_map held_in c.loop-place.held)
    (option_map held_in c.held_after-held.result) c.loop-place-test.true c.index-past-place.is c.loop-place.invariant
    (c.held_after-held.ensures
    ∙ ap (λ (s : Snapshot). held_after_event (s.first + c.loop-place.place) c.index-past-place.result (key_of c.args.key) (option_map held_in c.loop-place.held)) c.snapshot.view_is)
