-- SPDX-License-Identifier: MIT
use Rattle.std.proofs.Common.{List, ap, sym, ◌∙◌, arith}
use Rattle.std.specs.Map.{lookup}
use Rattle.rrc_name.specs.Key.{KeyOf, key_eq}
use Rattle.rrc_history.specs.declared.snapshot.Entry.{Entry}
use Rattle.rrc_history.specs.Past.{entry_at}
use Rattle.rrc_cache.specs.Keyed.{name_hash}
use Rattle.rrc_cache.specs.Pairs.{entries_in, EntriesOf}
use Rattle.rrc_cache.proofs.Paired.{edited, found_in_pairs}
use Rattle.rrc_cache.proofs.Put.{after, put_map, with_entry}
use Rattle.rrc_cache.proofs.entry_map.EntryMap.put.Goals as goal

pub push-requires-clause-hash : goal.push-requires-clause-hash
push-requires-clause-hash c =
    c.requires
    ∙ (ap (λ (map : EntriesOf). name_hash map.seeded c.args.entry.key.name) (sym c.self.view_is)
    ∙ ap (λ (key : KeyOf). name_hash c.self.inside.holdings.seeded key.name) (sym c.in_ok-key.ensures.cases))

pub push-requires-clause-room : goal.push-requires-clause-room
push-requires-clause-room c = omega (arith, c.self.invariant.wide, c.fits_memory.ensures)

pub invariant_of-self-2 : goal.invariant_of-self-2
invariant_of-self-2 c =
    put_map c.self.inside.holdings.map c.push.new.self.map c.in_ok-key.key c.args.entry c.self.invariant c.has_distinct_keys.ensures c.fits_memory.ensures
    c.in_ok-key.ensures.cases c.in_ok-old.ensures.entries

pub returns-clause-old : goal.returns-clause-old
returns-clause-old c =
    let pairs : List (KeyOf × Entry) = c.self.inside.holdings.map.entries in
    c.in_ok-old.ensures.old
    ∙ (ap (λ (key : KeyOf). lookup (key_eq key) pairs) c.in_ok-key.ensures.cases
    ∙ (found_in_pairs c.args.entry.key pairs c.self.invariant.own ∙ ap (λ (map : EntriesOf). entry_at c.args.entry.key map.entries) c.self.view_is))

pub returns-clause-ok : goal.returns-clause-ok
returns-clause-ok c =
    edited (with_entry c.args.entry) c.self.inside.holdings.seeded c.push.new.self.seeded (entries_in c.self.inside.holdings.map.entries) (entries_in c.push.new.self.map.entries) c.args.self.now
    c.push.ensures.seeded
    (after c.self.inside.holdings.map c.push.new.self.map c.in_ok-key.key c.args.entry c.self.invariant c.has_distinct_keys.ensures c.fits_memory.ensures
    c.in_ok-key.ensures.cases c.in_ok-old.ensures.entries)
    c.self.view_is
