-- SPDX-License-Identifier: MIT
use Rattle.std.proofs.Common.{Option, refl, ap, ◌∙◌}
use Rattle.rrc_name.specs.Key.{KeyOf}
use Rattle.rrc_name.specs.NameRef.{name_in}
use Rattle.rrc_history.specs.declared.snapshot.Entry.{Entry}
use Rattle.rrc_share.specs.CacheShelf.{held_by}
use Rattle.rrc_shelf.specs.Asks.{record_of}
use Rattle.rrc_shelf.proofs.Telling.{stands_where_held, tells_entry}
use Rattle.rrc_shelf.proofs.lookup.entry_at.Goals as goal

pub returns-in-Some : goal.returns-in-Some
returns-in-Some c =
    let key : KeyOf = record { name = name_in c.args.name; class = c.args.class; slot = c.args.slot } in
    let held : Option Entry = held_by c.args.shelf.now.shelf key in
    let age = c.in-Some.age in
    tells_entry c.args.shelf.now held age c.record_of.result (c.record_of.ensures ∙ ap (λ one. record_of one age) c.held.ensures)
    (stands_where_held c.args.shelf.now key held age refl c.in-Some.ensures.ahead)
