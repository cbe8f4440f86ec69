-- SPDX-License-Identifier: MIT
use Rattle.std.proofs.Common.{◌≡◌, ◌-◌, List, Option, Some, length, take, ap, sym, ◌∙◌}
use Rattle.std.specs.Option.{option_map}
use Rattle.lru.specs.LruCache.{LruCache, last_entry, lru_cache}
use Rattle.rrc_name.specs.Key.{KeyOf}
use Rattle.rrc_history.specs.declared.snapshot.Entry.{Entry}
use Rattle.rrc_history.specs.Past.{entry_at, last_key}
use Rattle.rrc_history.specs.Entries.{AreApart}
use Rattle.rrc_cache.specs.Pairs.{entries_in, EntriesOf}
use Rattle.rrc_cache.proofs.Paired.{apart_in, edited, last_found, last_in, last_own, own_taken, taken_in}
use Rattle.rrc_cache.proofs.entry_map.EntryMap.remove_last.Goals as goal

abbrev key_of_pair : Option (KeyOf × Entry) → Option KeyOf
key_of_pair found = option_map (λ (pair : KeyOf × Entry). pair.0) found

-- all but the last
abbrev front : List Entry → List Entry
front entries = take (length entries - 1) entries

after : (cache new : LruCache KeyOf Entry) → new ≡ lru_cache (take (length cache.entries - 1) cache.entries) cache.cap → entries_in new.entries ≡ front (entries_in cache.entries)
after cache new is = ap (λ (now : LruCache KeyOf Entry). entries_in now.entries) is ∙ taken_in cache.entries

pub invariant_of-self : goal.invariant_of-self
invariant_of-self c =
    let pairs : List (KeyOf × Entry) = c.self.inside.holdings.map.entries in
    record {
      own = rw c.pop_lru.ensures.entries (own_taken (length pairs - 1) pairs c.self.invariant.own);
      wide = rw c.pop_lru.ensures.entries c.self.invariant.wide;
    }

pub returns-clause-key : goal.returns-clause-key
returns-clause-key c =
    sym (ap key_of_pair (c.in_ok-key.was))
    ∙ (ap key_of_pair c.pop_lru.ensures.value ∙ (last_in c.self.inside.holdings.map.entries c.self.invariant.own ∙ ap (λ (map : EntriesOf). last_key map.entries) c.self.view_is))

pub returns-clause-number : goal.returns-clause-number
returns-clause-number c =
    let pairs : List (KeyOf × Entry) = c.self.inside.holdings.map.entries in
    let pair : KeyOf × Entry = (c.in_ok-key.key, c.in_ok-key.entry) in
    let is : last_entry pairs ≡ Some pair = sym c.pop_lru.ensures.value ∙ c.in_ok-key.was in
    let apart : AreApart (entries_in pairs) = apart_in pairs c.self.invariant.own c.has_distinct_keys.ensures in
    let found : entry_at c.in_ok-key.key (entries_in pairs) ≡ Some c.in_ok-key.entry =
    ap (λ key. entry_at key (entries_in pairs)) (sym (last_own pairs pair c.self.invariant.own is)) ∙ last_found pairs pair apart is in
    ap (λ (map : EntriesOf). option_map (λ (entry : Entry). entry.number) (entry_at c.in_ok-key.key map.entries)) (sym c.self.view_is) ∙ ap (option_map (λ entry. entry.number)) found

pub returns-clause-entries : goal.returns-clause-entries
returns-clause-entries c =
    edited front c.self.inside.holdings.seeded c.pop_lru.new.self.seeded (entries_in c.self.inside.holdings.map.entries) (entries_in c.pop_lru.new.self.map.entries) c.args.self.now
    c.pop_lru.ensures.seeded (after c.self.inside.holdings.map c.pop_lru.new.self.map c.pop_lru.ensures.entries) c.self.view_is

pub returns-in_err-key-clause-key : goal.returns-in_err-key-clause-key
returns-in_err-key-clause-key c =
    ap (option_map (λ gone. gone.0)) c.from_residual.ensures
    ∙ (sym (ap key_of_pair (c.in_err-key.was))
    ∙ (ap key_of_pair c.pop_lru.ensures.value ∙ (last_in c.self.inside.holdings.map.entries c.self.invariant.own ∙ ap (λ (map : EntriesOf). last_key map.entries) c.self.view_is)))

pub returns-in_err-key-clause-entries : goal.returns-in_err-key-clause-entries
returns-in_err-key-clause-entries c =
    edited front c.self.inside.holdings.seeded c.pop_lru.new.self.seeded (entries_in c.self.inside.holdings.map.entries) (entries_in c.pop_lru.new.self.map.entries) c.args.self.now
    c.pop_lru.ensures.seeded (after c.self.inside.holdings.map c.pop_lru.new.self.map c.pop_lru.ensures.entries) c.self.view_is
