-- SPDX-License-Identifier: MIT
use Rattle.std.proofs.Common.{◌≡◌, ◌<◌, None, true, length, get_or, ap, sym, ◌∙◌, arith}
use Rattle.std.specs.Prelude.{is_some}
use Rattle.std.proofs.lemmas.Bool.{false≢true}
use Rattle.std.proofs.lemmas.List.{get_or_read, take_more}
use Rattle.rrc_collate.specs.declared.valued.Valued.{Valued}
use Rattle.rrc_collate.proofs.Classes.{not_apart, apart_more, classes_more, free}
use Rattle.rrc_collate.proofs.owners.classes_of.Goals as goal

pub returns-then-is_some-clause-apart : goal.returns-then-is_some-clause-apart
returns-then-is_some-clause-apart c =
    let classes = c.loop-valued.classes.items in
    let values = c.args.taken.now in
    let i = c.loop-valued.valued-index in
    let d : Valued = record { class = 0; value = 0 } in
    let value = (get_or values i d).value in
    let size = c.loop-valued.invariant.classes.size in
    let below : value < c.args.count = c.if-valued-count.false in
    let within : value < length classes = omega (arith, size, below) in
    let read = get_or_read classes value c.index.result.now within c.index.ensures None in
    let some : is_some (get_or classes value None) ≡ true = ap is_some (sym read) ∙ (sym c.is_some.ensures ∙ c.if-is_some.true) in (
      λ impossible. absurd (false≢true impossible),
      λ apart. absurd (not_apart c.args.count values i d classes c.loop-valued-test.true c.loop-valued.invariant.classes below some apart),
    )

pub loop-valued-preserved : goal.loop-valued-preserved
loop-valued-preserved c =
    let classes = c.loop-valued.classes.items in
    let values = c.args.taken.now in
    let i = c.loop-valued.valued-index in
    let d : Valued = record { class = 0; value = 0 } in
    let next = get_or values i d in
    let size = c.loop-valued.invariant.classes.size in
    let below : next.value < c.args.count = c.if-valued-count.false in
    let within : next.value < length classes = omega (arith, size, below) in
    let read = get_or_read classes next.value c.index.result.now within c.index.ensures None in
    let none : get_or classes next.value None ≡ None = sym read ∙ free c.index.result.now (sym c.is_some.ensures ∙ c.if-is_some.false) in
    let more = take_more values i d c.loop-valued-test.true in
    rw more (record {
      apart = apart_more c.args.count _ next classes c.loop-valued.invariant.apart c.loop-valued.invariant.classes below none;
      classes = classes_more c.args.count _ next classes c.loop-valued.invariant.classes below none;
    })
