-- SPDX-License-Identifier: MIT
use Rattle.rrc_share.specs.CacheShelf.{CacheShelfOf}
use Rattle.rrc_share.proofs.Trimming.{offer_becomes, offer_evicts}
use Rattle.rrc_share.proofs.trim.offer_no_time.Goals as goal

pub returns-clause-evicts : goal.returns-clause-evicts
returns-clause-evicts c =
    let old : CacheShelfOf = c.args.shelf.now in
    let new : CacheShelfOf = c.offer-outcome.new.self in
    offer_evicts old new c.args.tag c.offer-outcome.ensures.records c.args.offer c.offer-outcome.result c.is_sound.ensures c.is_sound-2.ensures c.requires.ttl
    c.offer-outcome.ensures.ok c.offer-outcome.ensures.err

pub returns-clause-ok : goal.returns-clause-ok
returns-clause-ok c =
    let old : CacheShelfOf = c.args.shelf.now in
    let new : CacheShelfOf = c.offer-outcome.new.self in
    offer_becomes old new c.args.tag c.offer-outcome.ensures.records c.args.offer c.offer-outcome.result c.has_sound_snapshot.ensures c.offer-outcome.ensures.ok
