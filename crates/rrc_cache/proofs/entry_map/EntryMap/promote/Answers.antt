-- SPDX-License-Identifier: MIT
use Rattle.std.proofs.Common.{List, ap, ◌∙◌}
use Rattle.std.specs.Option.{option_map}
use Rattle.rrc_name.specs.Key.{KeyOf, key_eq}
use Rattle.rrc_name.specs.KeyRef.{key_of}
use Rattle.lru.specs.LruCache.{LruCache}
use Rattle.rrc_history.specs.declared.snapshot.Entry.{Entry}
use Rattle.rrc_history.specs.Entries.{promoted}
use Rattle.rrc_history.specs.Past.{entry_at}
use Rattle.rrc_cache.specs.Pairs.{entries_in, EntriesOf}
use Rattle.rrc_cache.proofs.Paired.{apart_in, edited, found_in_pairs, promoted_in, own_promoted}
use Rattle.rrc_cache.proofs.entry_map.EntryMap.promote.Goals as goal

pub invariant_of-self : goal.invariant_of-self
invariant_of-self c = record {
  own = rw c.promote.ensures.map (own_promoted (key_eq (key_of c.args.key)) c.self.inside.holdings.map.entries c.self.invariant.own);
  wide = rw c.promote.ensures.map c.self.invariant.wide;
}

pub returns-clause-number : goal.returns-clause-number
returns-clause-number c =
    let key : KeyOf = key_of c.args.key in
    c.promote.ensures.number
    ∙ (ap (option_map (λ entry. entry.number)) (found_in_pairs key c.self.inside.holdings.map.entries c.self.invariant.own)
    ∙ ap (λ (map : EntriesOf). option_map (λ (entry : Entry). entry.number) (entry_at key map.entries)) c.self.view_is)

pub returns-clause-entries : goal.returns-clause-entries
returns-clause-entries c =
    let key : KeyOf = key_of c.args.key in
    let pairs : List (KeyOf × Entry) = c.self.inside.holdings.map.entries in
    edited (promoted key) c.self.inside.holdings.seeded c.promote.new.holdings.seeded (entries_in pairs) (entries_in c.promote.new.holdings.map.entries) c.args.self.now c.promote.ensures.seeded
    (ap (λ (now : LruCache KeyOf Entry). entries_in now.entries) c.promote.ensures.map ∙ promoted_in key pairs c.self.invariant.own (apart_in pairs c.self.invariant.own c.has_distinct_keys.ensures))
    c.self.view_is
