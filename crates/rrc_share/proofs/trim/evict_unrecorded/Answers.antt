-- SPDX-License-Identifier: MIT
use Rattle.rrc_share.proofs.Trimming.{evict_refused, unrecorded_evicts, unrecorded_goes}
use Rattle.rrc_share.proofs.trim.evict_unrecorded.Goals as goal

pub returns-clause-evicts : goal.returns-clause-evicts
returns-clause-evicts c =
    unrecorded_evicts c.args.tag c.args.moment c.args.shelf.now c.evict_unrecorded-went.new.self c.requires.lean c.evict_unrecorded-went.ensures.records c.is_sound.ensures c.is_sound-2.ensures
    c.evict_unrecorded-went.result c.evict_unrecorded-went.ensures.ok c.evict_unrecorded-went.ensures.err

pub returns-clause-ok : goal.returns-clause-ok
returns-clause-ok c =
    unrecorded_goes c.args.tag c.args.moment c.args.shelf.now c.evict_unrecorded-went.new.self c.requires.lean c.evict_unrecorded-went.ensures.records c.is_sound.ensures c.is_sound-2.ensures
    c.evict_unrecorded-went.result c.evict_unrecorded-went.ensures.ok

pub returns-clause-lean : goal.returns-clause-lean
returns-clause-lean c =
    evict_refused c.args.moment c.args.shelf.now c.evict_unrecorded-went.new.self c.evict_unrecorded-went.result c.evict_unrecorded-went.ensures.due c.evict_unrecorded-went.ensures.err
