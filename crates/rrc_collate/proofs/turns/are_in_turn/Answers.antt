-- SPDX-License-Identifier: MIT
use Rattle.std.proofs.Common.{refl, subst, sym, ◌∙◌}
use Rattle.std.specs.List.{All}
use Rattle.rrc_history.specs.declared.chains.Whole.{Whole}
use Rattle.rrc_collate.specs.Hands.{AreNamed}
use Rattle.rrc_collate.specs.Collated.{histories_of}
use Rattle.rrc_collate.specs.Turns.{AreFates, AreTurns}
use Rattle.rrc_collate.proofs.Turned.{fates_numbered, in_turn_by, none_out_of_turn}
use Rattle.rrc_collate.proofs.turns.are_in_turn.Goals as goal

pub turns_in-requires : goal.turns_in-requires
turns_in-requires c =
    let are = subst (λ items. AreFates c.args.lines c.args.tasks.now items) (sym c.as_slice.ensures.value) c.in_ok-fates.ensures in
    subst (λ n. All (λ (whole : Whole). AreNamed n whole.events) c.args.wholes.now) (sym are.size) c.requires.named

pub all_rise-requires-clause-numbered : goal.all_rise-requires-clause-numbered
all_rise-requires-clause-numbered c =
    let are = subst (λ items. AreFates c.args.lines c.args.tasks.now items) (sym c.as_slice-2.ensures.value) c.in_ok-fates.ensures in
    fates_numbered c.args.questions c.args.lines c.args.tasks.now c.as_slice-2.result.now are c.requires.questions

pub all_rise-requires-clause-named : goal.all_rise-requires-clause-named
all_rise-requires-clause-named c =
    let are = subst (λ items. AreFates c.args.lines c.args.tasks.now items) (sym c.as_slice-2.ensures.value) c.in_ok-fates.ensures in
    subst (λ n. All (λ (whole : Whole). AreNamed n whole.events) c.args.wholes.now) (sym are.size) c.requires.named

pub returns-then-none_fetched : goal.returns-then-none_fetched
returns-then-none_fetched c = (
  λ _. none_out_of_turn c.args.tasks.now (histories_of c.args.wholes.now) (c.none_fetched.ensures.0 c.if-none_fetched.true),
  λ _. refl,
)

pub returns : goal.returns
returns c =
    let fates = c.as_slice-2.result.now in
    let turns = c.as_slice-3.result.now in
    let are_fates = subst (λ items. AreFates c.args.lines c.args.tasks.now items) (sym c.as_slice-2.ensures.value) c.in_ok-fates.ensures in
    let are_turns = subst (λ fates. AreTurns fates (histories_of c.args.wholes.now) turns) (c.as_slice.ensures.value ∙ sym c.as_slice-2.ensures.value)
    (subst (λ items. AreTurns c.as_slice.result.now (histories_of c.args.wholes.now) items) (sym c.as_slice-3.ensures.value) c.in_ok-turns.ensures) in
    in_turn_by c.all_rise.result c.args.lines c.args.tasks.now fates turns c.args.wholes.now are_fates are_turns c.requires.named c.all_rise.ensures
