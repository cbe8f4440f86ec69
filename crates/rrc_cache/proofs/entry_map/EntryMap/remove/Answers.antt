-- SPDX-License-Identifier: MIT
use Rattle.std.proofs.Common.{List, None, ap, sym, ◌∙◌}
use Rattle.std.specs.Option.{option_map}
use Rattle.lru.specs.LruCache.{LruCache}
use Rattle.rrc_name.specs.Key.{KeyOf, key_eq}
use Rattle.rrc_name.specs.KeyRef.{key_of}
use Rattle.rrc_history.specs.declared.snapshot.Entry.{Entry}
use Rattle.rrc_history.specs.Entries.{goes, staying}
use Rattle.rrc_history.specs.Past.{entry_at}
use Rattle.rrc_cache.specs.Keyed.{name_hash}
use Rattle.rrc_cache.specs.Pairs.{entries_in, EntriesOf}
use Rattle.rrc_cache.proofs.Paired.{apart_in, edited, found_in_pairs, removed_in, own_removed}
use Rattle.rrc_cache.proofs.entry_map.EntryMap.remove.Goals as goal

pub pop-requires : goal.pop-requires
pop-requires c = c.requires ∙ ap (λ (map : EntriesOf). name_hash map.seeded (key_of c.args.key).name) (sym c.self.view_is)

pub invariant_of-self : goal.invariant_of-self
invariant_of-self c = record {
  own = rw c.pop.ensures.entries (own_removed (key_eq (key_of c.args.key)) c.self.inside.holdings.map.entries c.self.invariant.own);
  wide = rw c.pop.ensures.entries c.self.invariant.wide;
}

pub returns-clause-number : goal.returns-clause-number
returns-clause-number c =
    let key : KeyOf = key_of c.args.key in
    c.number_of.ensures
    ∙ (ap (option_map (λ entry. entry.number)) (c.pop.ensures.value ∙ found_in_pairs key c.self.inside.holdings.map.entries c.self.invariant.own)
    ∙ ap (λ (map : EntriesOf). option_map (λ (entry : Entry). entry.number) (entry_at key map.entries)) c.self.view_is)

pub returns-clause-entries : goal.returns-clause-entries
returns-clause-entries c =
    let key : KeyOf = key_of c.args.key in
    let pairs : List (KeyOf × Entry) = c.self.inside.holdings.map.entries in
    edited (staying (goes key None)) c.self.inside.holdings.seeded c.pop.new.self.seeded (entries_in pairs) (entries_in c.pop.new.self.map.entries) c.args.self.now c.pop.ensures.seeded
    (ap (λ (now : LruCache KeyOf Entry). entries_in now.entries) c.pop.ensures.entries ∙ removed_in key pairs c.self.invariant.own (apart_in pairs c.self.invariant.own c.has_distinct_keys.ensures))
    c.self.view_is
