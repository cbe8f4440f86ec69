-- SPDX-License-Identifier: MIT
use Rattle.std.proofs.Common.{List, sym, ap, subst}
use Rattle.std.specs.Vec.Iter.{into_iter_items}
use Rattle.rrc_history.specs.Chapters.{ChapterOf}
use Rattle.rrc_history.proofs.Joining.{IsJoined, joined_first, joined_goes_on, joined_more}
use Rattle.rrc_history.proofs.chains.join.Goals as goal

pub loop-chapter-init : goal.loop-chapter-init
loop-chapter-init c =
    let P : List ChapterOf → Type 0 = IsJoined c.args.first (into_iter_items c.args.behind) c.open-whole.result in
    subst P (sym (ap into_iter_items c.into_iter-chapter-iterator.ensures.into_iter_gives))
    (joined_first c.args.first (into_iter_items c.args.behind) c.open-whole.result c.requires c.open-whole.ensures.value c.open-whole.ensures.leads)

pub extended-requires : goal.extended-requires
extended-requires c =
    let P : List ChapterOf → Type 0 = IsJoined c.args.first (into_iter_items c.args.behind) c.loop-chapter.whole in
    joined_goes_on c.args.first (into_iter_items c.args.behind) c.loop-chapter.whole c.in-Some.chapter (into_iter_items c.next.new.self)
    (subst P c.in-Some.ensures.steps.0 c.loop-chapter.invariant)

pub loop-chapter-preserved : goal.loop-chapter-preserved
loop-chapter-preserved c =
    let P : List ChapterOf → Type 0 = IsJoined c.args.first (into_iter_items c.args.behind) c.loop-chapter.whole in
    joined_more c.args.first (into_iter_items c.args.behind) c.loop-chapter.whole c.in_ok-whole.whole c.in-Some.chapter (into_iter_items c.next.new.self)
    (subst P c.in-Some.ensures.steps.0 c.loop-chapter.invariant) c.in_ok-whole.ensures.ok c.in_ok-whole.ensures.leads
