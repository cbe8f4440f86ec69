-- SPDX-License-Identifier: MIT
use Rattle.std.proofs.Common.{sym, subst}
use Rattle.rrc_cache.specs.Part.{IsSound}
use Rattle.rrc_share.specs.Shelf.{ShelfOf, HasMadeRoom}
use Rattle.rrc_share.proofs.Shelved.{sweep_appends}
use Rattle.rrc_share.proofs.calls.on_shelf_sweep.Goals as goal

pub returns-clause-ok : goal.returns-clause-ok
returns-clause-ok c =
    let middle : ShelfOf = record { closed = c.shelf-2.inside.closed.items; part = c.shelf-2.inside.part } in
    let room : HasMadeRoom c.args.shelf.now middle = subst (HasMadeRoom c.args.shelf.now) (sym c.shelf-2.view_is) c.in_ok-make_room.ensures.ok in
    let sound : IsSound c.args.shelf.now.part = subst (λ (shelf : ShelfOf). IsSound shelf.part) c.shelf.view_is c.in_ok-admit.ensures.sound in
    sweep_appends c.args.shelf.now middle c.sweep.new.self c.args.tag c.args.moment c.sweep.result sound room c.shelf-2.invariant c.sweep.ensures.ok
