-- SPDX-License-Identifier: MIT
-- What the rule says of passes beside one another.
use Rattle.std.proofs.Common.{ℕ, get_or, arith}
use Rattle.rrc_marks.specs.Views.{times}
use Rattle.rrc_marks.specs.Laws.{EachMarkHasOneHolder, EachNumberIsDrawnOnce, NextNumberIsNew, AloneAtTheEnd}
use Rattle.rrc_marks.proofs.Counts.{once_below-le, once_below-self}
use Rattle.rrc_marks.proofs.Totals.{part_le, two_parts_le}
use Rattle.rrc_marks.proofs.Allowed.{ends}

pub one_holder : EachMarkHasOneHolder
one_holder marks turns s id other v w mark kept at there apart holds =
    let both = two_parts_le (λ u. times mark u.held) s.views id other v w apart at there in
    let was = kept.holders mark in
    let bit = kept.one_holder mark in
    omega arith

pub drawn_once : EachNumberIsDrawnOnce
drawn_once marks turns s id other v w number kept at there apart drawn =
    let both = two_parts_le (λ u. times number u.drawn) s.views id other v w apart at there in
    let was = kept.each_once number in
    let most = once_below-le number (get_or s.words 0 0) in
    omega arith

pub next_is_new : NextNumberIsNew
next_is_new marks turns s id v kept at =
    let number : ℕ = get_or s.words 0 0 in
    let part = part_le (λ u. times number u.drawn) s.views id v at in
    let was = kept.each_once number in
    let none = once_below-self number in
    omega arith

pub ends_alone : AloneAtTheEnd
ends_alone marks turns s id v kept at has all free = ends marks turns s.words s.views kept id v at has all free
