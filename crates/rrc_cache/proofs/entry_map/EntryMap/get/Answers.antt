-- SPDX-License-Identifier: MIT
use Rattle.std.proofs.Common.{◌≤◌, ap, sym, subst, ◌∙◌}
use Rattle.std.specs.Prelude.{IfSome}
use Rattle.rrc_name.specs.Key.{KeyOf}
use Rattle.rrc_name.specs.KeyRef.{key_of}
use Rattle.rrc_history.specs.Past.{entry_at}
use Rattle.rrc_cache.specs.Ages.{ahead_of}
use Rattle.rrc_cache.specs.Keyed.{name_hash}
use Rattle.rrc_cache.specs.Pairs.{EntriesOf}
use Rattle.rrc_cache.proofs.Paired.{ahead_in_pairs, found_in_pairs}
use Rattle.rrc_cache.proofs.entry_map.EntryMap.get.Goals as goal

pub get-requires : goal.get-requires
get-requires c = c.requires ∙ ap (λ (map : EntriesOf). name_hash map.seeded (key_of c.args.key).name) (sym c.self.view_is)

pub returns-clause-entry : goal.returns-clause-entry
returns-clause-entry c =
    let key : KeyOf = key_of c.args.key in
    c.get.ensures.entry
    ∙ (found_in_pairs key c.self.inside.holdings.map.entries c.self.invariant.own ∙ ap (λ (map : EntriesOf). entry_at key map.entries) c.self.view_is)

pub returns-clause-ahead : goal.returns-clause-ahead
returns-clause-ahead c =
    let key : KeyOf = key_of c.args.key in
    subst (λ n. IfSome c.get.result (λ aged. n ≤ aged.age))
    (ahead_in_pairs key c.self.inside.holdings.map.entries c.self.invariant.own ∙ ap (λ (map : EntriesOf). ahead_of key map.entries) c.self.view_is)
    c.get.ensures.ahead
