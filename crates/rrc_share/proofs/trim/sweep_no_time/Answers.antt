-- SPDX-License-Identifier: MIT
use Rattle.rrc_share.specs.CacheShelf.{CacheShelfOf}
use Rattle.rrc_share.proofs.Trimming.{sweep_becomes, sweep_evicts, sweep_refused}
use Rattle.rrc_share.proofs.trim.sweep_no_time.Goals as goal

pub returns-clause-evicts : goal.returns-clause-evicts
returns-clause-evicts c =
    let old : CacheShelfOf = c.args.shelf.now in
    let new : CacheShelfOf = c.sweep-removed.new.self in
    sweep_evicts old new c.args.tag c.sweep-removed.ensures.records c.sweep-removed.result c.is_sound.ensures c.is_sound-2.ensures
    c.sweep-removed.ensures.ok c.sweep-removed.ensures.err

pub returns-clause-ok : goal.returns-clause-ok
returns-clause-ok c =
    let old : CacheShelfOf = c.args.shelf.now in
    let new : CacheShelfOf = c.sweep-removed.new.self in
    sweep_becomes old new c.args.tag c.sweep-removed.ensures.records c.sweep-removed.result c.has_sound_snapshot.ensures c.sweep-removed.ensures.ok

pub returns-clause-lean : goal.returns-clause-lean
returns-clause-lean c =
    let old : CacheShelfOf = c.args.shelf.now in
    let new : CacheShelfOf = c.sweep-removed.new.self in
    sweep_refused old.records old.shelf new.shelf c.sweep-removed.result c.sweep-removed.ensures.due c.sweep-removed.ensures.err
