-- SPDX-License-Identifier: MIT
use Rattle.std.proofs.Common.{refl, ap, sym, ◌∙◌}
use Rattle.std.specs.Prelude.{is_some}
use Rattle.std.specs.Option.{option_map}
use Rattle.std.proofs.lemmas.Option.{IfSome_then}
use Rattle.rrc_name.specs.Key.{KeyOf}
use Rattle.rrc_history.specs.declared.snapshot.Entry.{Entry}
use Rattle.rrc_history.specs.Past.{entry_at, entry_of}
use Rattle.rrc_cache.specs.Counted.{counted_octets}
use Rattle.rrc_cache.specs.Keyed.{name_hash}
use Rattle.rrc_cache.specs.Pairs.{entries_in, EntriesOf}
use Rattle.rrc_cache.proofs.Paired.{edited, found_in_pairs}
use Rattle.rrc_cache.proofs.Put.{after, put_map, with_entry}
use Rattle.rrc_cache.proofs.entry_map.EntryMap.overwrite.Goals as goal

pub overwrite-requires-clause-hash : goal.overwrite-requires-clause-hash
overwrite-requires-clause-hash c = c.requires.hash ∙ ap (λ (map : EntriesOf). name_hash map.seeded c.args.offer.now.key.name) (sym c.self.view_is)

pub overwrite-requires-clause-held : goal.overwrite-requires-clause-held
overwrite-requires-clause-held c =
    let key : KeyOf = c.args.offer.now.key in
    ap is_some
    (found_in_pairs key c.self.inside.holdings.map.entries c.self.invariant.own ∙ ap (λ (map : EntriesOf). entry_at key map.entries) c.self.view_is) ∙ c.requires.held

pub overwrite-requires-clause-octets : goal.overwrite-requires-clause-octets
overwrite-requires-clause-octets c =
    let key : KeyOf = c.args.offer.now.key in
    IfSome_then c.args.replaced c.requires.octets (λ octets told.
    ap (option_map counted_octets)
    (found_in_pairs key c.self.inside.holdings.map.entries c.self.invariant.own ∙ ap (λ (map : EntriesOf). entry_at key map.entries) c.self.view_is) ∙ told)

pub invariant_of-self-2 : goal.invariant_of-self-2
invariant_of-self-2 c =
    let entry : Entry = entry_of c.args.offer.now c.args.number in
    put_map c.self.inside.holdings.map c.overwrite.new.self.map entry.key entry c.self.invariant c.has_distinct_keys.ensures c.fits_memory.ensures
    refl c.in_ok-overwrite.ensures.ok

pub returns-clause-ok : goal.returns-clause-ok
returns-clause-ok c =
    let entry : Entry = entry_of c.args.offer.now c.args.number in
    edited (with_entry entry) c.self.inside.holdings.seeded c.overwrite.new.self.seeded (entries_in c.self.inside.holdings.map.entries) (entries_in c.overwrite.new.self.map.entries) c.args.self.now
    c.overwrite.ensures.seeded
    (after c.self.inside.holdings.map c.overwrite.new.self.map entry.key entry c.self.invariant c.has_distinct_keys.ensures c.fits_memory.ensures refl c.in_ok-overwrite.ensures.ok)
    c.self.view_is
