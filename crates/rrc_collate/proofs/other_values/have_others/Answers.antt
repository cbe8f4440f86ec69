-- SPDX-License-Identifier: MIT
use Rattle.std.proofs.Common.{◌<◌, length, get_or, refl, ap, subst, sym, ◌∙◌, arith}
use Rattle.std.specs.List.{All}
use Rattle.std.proofs.lemmas.Bool.{false≢true}
use Rattle.std.proofs.lemmas.List.{get_or_read, take_all}
use Rattle.std.proofs.lemmas.List.Elements.{All-more}
use Rattle.rrc_collate.specs.declared.valued.Valued.{Valued}
use Rattle.rrc_collate.specs.declared.other_values.Seen.TheVariants.{Nothing}
use Rattle.rrc_collate.specs.OtherValues.{HasOther, has_other}
use Rattle.rrc_collate.proofs.Others.{table_tells, told_by_table}
use Rattle.rrc_collate.proofs.other_values.have_others.Goals as goal

pub returns-then-not-has_other : goal.returns-then-not-has_other
returns-then-not-has_other c =
    let seen = c.in_ok-seen.seen.items in
    let i = c.loop-valued.valued-index in
    let d : Valued = record { class = 0; value = 0 } in
    let wanted = get_or c.args.wanted.now i d in
    let are = c.in_ok-seen.ensures in
    let below = c.requires.wanted i d c.loop-valued-test.true in
    let within : wanted.class < length seen = let size = are.size in omega (arith, size, below) in
    let read = get_or_read seen wanted.class c.index.result.now within c.index.ensures Nothing in (
      λ impossible. absurd (false≢true impossible),
      λ all. absurd (false≢true (sym c.if-not-has_other.true ∙ (c.has_other.ensures ∙ (ap (λ s. has_other s wanted.value) read
          ∙ told_by_table c.args.classes c.args.present.now seen wanted are below (all i d c.loop-valued-test.true))))),
    )

pub loop-valued-preserved : goal.loop-valued-preserved
loop-valued-preserved c =
    let seen = c.in_ok-seen.seen.items in
    let i = c.loop-valued.valued-index in
    let d : Valued = record { class = 0; value = 0 } in
    let wanted = get_or c.args.wanted.now i d in
    let are = c.in_ok-seen.ensures in
    let below = c.requires.wanted i d c.loop-valued-test.true in
    let within : wanted.class < length seen = let size = are.size in omega (arith, size, below) in
    let read = get_or_read seen wanted.class c.index.result.now within c.index.ensures Nothing in
    All-more (λ (valued : Valued). HasOther c.args.present.now valued) c.args.wanted.now i d c.loop-valued-test.true c.loop-valued.invariant
    (table_tells c.args.classes c.args.present.now seen wanted are below
    (sym (ap (λ s. has_other s wanted.value) read) ∙ (sym c.has_other.ensures ∙ c.if-not-has_other.false)))

pub returns : goal.returns
returns c =
    let whole = take_all c.loop-valued.valued-index c.args.wanted.now (omega (arith, c.loop-valued-test.false)) in
    (λ _. subst (λ wanted. All (λ (valued : Valued). HasOther c.args.present.now valued) wanted) whole c.loop-valued.invariant, λ _. refl)
