-- SPDX-License-Identifier: MIT
use Rattle.std.proofs.Common.{subst, arith}
use Rattle.rrc_share.specs.CacheShelf.{CacheShelfOf}
use Rattle.rrc_share.specs.Evictions.{EvictsLast}
use Rattle.rrc_share.specs.Trims.{AreTrimmed, Becomes}
use Rattle.rrc_share.proofs.Trimming.{enough_went, most_went, none_evicted, none_is_left, one_more}
use Rattle.rrc_share.proofs.trim.evict.Goals as goal

pub loop-removed-init : goal.loop-removed-init
loop-removed-init c = none_evicted c.args.tag c.args.moment c.args.limit c.args.shelf.now c.requires.lasting

pub loop-removed-preserved : goal.loop-removed-preserved
loop-removed-preserved c =
    let old : CacheShelfOf = c.args.shelf.now in
    let middle : CacheShelfOf = c.loop-removed.shelf in
    let new : CacheShelfOf = c.evict_last.new.shelf in
    one_more c.args.tag c.args.moment c.args.limit c.loop-removed.removed c.octets.result old middle new c.loop-removed.invariant (omega (arith, c.if-octets-limit.false)) c.octets.ensures
    c.in_ok-evict_last.ensures.records c.in_ok-evict_last.ensures.evicts
    (subst (λ went. EvictsLast went middle.shelf new.shelf) c.if-not-branch.false c.in_ok-evict_last.ensures.ok)

pub returns-then-octets-limit-clause-ok : goal.returns-then-octets-limit-clause-ok
returns-then-octets-limit-clause-ok c =
    enough_went c.args.tag c.args.moment c.args.limit c.loop-removed.removed c.octets.result c.args.shelf.now c.loop-removed.shelf c.loop-removed.shelf c.loop-removed.invariant c.args.most
    c.loop-removed.auto.removed-end c.if-octets-limit.true c.octets.ensures

pub returns-then-not-branch-clause-ok : goal.returns-then-not-branch-clause-ok
returns-then-not-branch-clause-ok c =
    none_is_left c.args.tag c.args.moment c.args.limit c.loop-removed.removed c.octets.result c.args.shelf.now c.loop-removed.shelf c.evict_last.new.shelf c.loop-removed.invariant c.args.most
    c.loop-removed.auto.removed-end
    (subst (λ went. EvictsLast went c.loop-removed.shelf.shelf c.evict_last.new.shelf.shelf) c.if-not-branch.true c.in_ok-evict_last.ensures.ok)

pub returns-clause-ok : goal.returns-clause-ok
returns-clause-ok c =
    subst (λ removed. Becomes c.args.shelf.now.shelf c.loop-removed.shelf.shelf (AreTrimmed c.args.limit c.args.most removed)) (omega (arith, c.loop-removed-test.false, c.loop-removed.auto.removed-end))
    (most_went c.args.tag c.args.moment c.args.limit c.loop-removed.removed 0 c.args.shelf.now c.loop-removed.shelf c.loop-removed.shelf c.loop-removed.invariant c.args.most
    (omega (arith, c.loop-removed-test.false, c.loop-removed.auto.removed-end)))
