-- SPDX-License-Identifier: MIT
use Rattle.std.proofs.Common.{◌≡◌, ◌++◌, ◌∷◌, List, sym, ap, subst, ◌∙◌}
use Rattle.std.specs.Vec.Iter.{into_iter_items}
use Rattle.rrc_history.specs.Chapters.{ChapterOf}
use Rattle.rrc_replay.specs.Archives.{AreLinesFew, IsFaultBehind}
use Rattle.rrc_replay.proofs.ArchiveLemmas.{few_so_far, handed_on}
use Rattle.rrc_replay.proofs.history.restored.Goals as goal

pub restored_one-requires : goal.restored_one-requires
restored_one-requires c =
    let are : c.loop-one.yielded ++ c.in-Some.one ∷ into_iter_items c.next.new.self ≡ c.args.written.items =
    ap (λ rest. c.loop-one.yielded ++ rest) (sym c.in-Some.ensures.steps.0) ∙ c.loop-one.invariant.rest in
    let few : AreLinesFew c.loop-one.chapters.items c.in-Some.one.entries c.in-Some.one.events =
    few_so_far c.loop-one.chapters.items c.loop-one.yielded c.in-Some.one (into_iter_items c.next.new.self) c.args.written.items are c.loop-one.invariant.made c.requires.few in
    subst (λ (made : List ChapterOf). AreLinesFew made c.in-Some.one.entries c.in-Some.one.events) (sym c.as_slice.ensures.value) few

pub returns-in_err-chapter-clause-err : goal.returns-in_err-chapter-clause-err
returns-in_err-chapter-clause-err c =
    let are : c.loop-one.yielded ++ c.in-Some.one ∷ into_iter_items c.next.new.self ≡ c.args.written.items =
    ap (λ rest. c.loop-one.yielded ++ rest) (sym c.in-Some.ensures.steps.0) ∙ c.loop-one.invariant.rest in
    let P : List ChapterOf → Type 0 = λ (made : List ChapterOf). IsFaultBehind made c.in-Some.one c.in_err-chapter.field-0.0 in
    let why : IsFaultBehind c.loop-one.chapters.items c.in-Some.one c.in_err-chapter.field-0.0 = subst P c.as_slice.ensures.value c.in_err-chapter.ensures.err in
    handed_on c.from_residual-in_err-chapter.result c.loop-one.yielded c.in-Some.one (into_iter_items c.next.new.self) c.args.written.items
    c.loop-one.chapters.items c.in_err-chapter.field-0.0 c.from_residual-in_err-chapter.ensures.1 are c.requires.archive c.loop-one.invariant.made why
