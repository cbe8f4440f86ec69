-- SPDX-License-Identifier: MIT
use Rattle.std.proofs.Common.{◌≡◌, ℕ, Bool, Option, true, sym, ap, ◌∙◌}
use Rattle.std.specs.Prelude.{is_some, slice_get}
use Rattle.std.specs.Map.{lookup}
use Rattle.std.specs.Map.Iter.{deref_pair}
use Rattle.std.specs.Option.{option_map}
use Rattle.lru.specs.LruCache.{LruCache, lru_cache}
use Rattle.lru.specs.LruCache.{promoted as lru_promoted}
use Rattle.rrc_name.specs.Key.{KeyOf, key_eq}
use Rattle.rrc_name.specs.KeyRef.{key_of}
use Rattle.rrc_history.specs.declared.snapshot.Entry.{Entry}
use Rattle.rrc_cache.proofs.Paired.{promoted_first}
use Rattle.rrc_cache.proofs.entry_map.promote.Goals as goal

abbrev number_of : Option (KeyOf × Entry) → Option ℕ
number_of first = option_map (λ pair. pair.1.number) first

-- the number of the pair that is first after it
first_number : (key : KeyOf) (cache new : LruCache KeyOf Entry) (promoted : Bool) (first : Option (KeyOf × Entry)) → new ≡ lru_cache (lru_promoted (key_eq key) cache.entries) cache.cap
    → promoted ≡ is_some (lookup (key_eq key) cache.entries) → promoted ≡ true → first ≡ slice_get new.entries 0
    → number_of first ≡ option_map (λ entry. entry.number) (lookup (key_eq key) cache.entries)
first_number key cache new promoted first is some found front =
    ap number_of (front ∙ ap (λ (now : LruCache KeyOf Entry). slice_get now.entries 0) is) ∙ promoted_first (key_eq key) cache.entries (sym some ∙ found)

pub returns-in-Some-clause-number : goal.returns-in-Some-clause-number
returns-in-Some-clause-number c =
    sym (ap (λ first. number_of (option_map deref_pair first)) c.in-Some.is)
    ∙ first_number (key_of c.args.key) c.args.holdings.now.map c.promote.new.self.map c.promote.result (option_map deref_pair c.peek_mru.result) c.promote.ensures.entries c.promote.ensures.value
    c.if-not-promote.false c.peek_mru.ensures

pub returns-in-None-clause-number : goal.returns-in-None-clause-number
returns-in-None-clause-number c =
    sym (ap (λ first. number_of (option_map deref_pair first)) c.in-None.is)
    ∙ first_number (key_of c.args.key) c.args.holdings.now.map c.promote.new.self.map c.promote.result (option_map deref_pair c.peek_mru.result) c.promote.ensures.entries c.promote.ensures.value
    c.if-not-promote.false c.peek_mru.ensures
