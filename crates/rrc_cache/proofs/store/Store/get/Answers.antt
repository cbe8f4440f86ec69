-- SPDX-License-Identifier: MIT
use Rattle.std.proofs.Common.{◌≤◌, Option, Some, ap, sym, subst, ◌∙◌}
use Rattle.std.specs.Prelude.{IfSome}
use Rattle.std.specs.Option.{option_map}
use Rattle.rrc_name.specs.Key.{KeyOf}
use Rattle.rrc_name.specs.KeyRef.{key_of}
use Rattle.rrc_history.specs.Past.{entry_at}
use Rattle.rrc_cache.specs.declared.clocked.Aged.{Aged}
use Rattle.rrc_cache.specs.Ages.{ahead_of}
use Rattle.rrc_cache.specs.Clocked.{aged_in}
use Rattle.rrc_cache.specs.Keyed.{name_hash}
use Rattle.rrc_cache.specs.Pairs.{EntriesOf, StoreOf}
use Rattle.rrc_cache.proofs.store.Store.get.Goals as goal

pub get-requires : goal.get-requires
get-requires c =
    c.requires
    ∙ (ap (λ (store : StoreOf). name_hash store.seeded (key_of c.args.key).name) (sym c.self.view_is)
    ∙ ap (λ (map : EntriesOf). name_hash map.seeded (key_of c.args.key).name) (sym c.map.ensures))

pub returns-in-Some-clause-held : goal.returns-in-Some-clause-held
returns-in-Some-clause-held c =
    let key : KeyOf = key_of c.args.key in
    ap Some c.of.ensures
    ∙ (sym (ap (option_map aged_in) c.in-Some.is)
    ∙ (c.get.ensures.entry ∙ (ap (λ (map : EntriesOf). entry_at key map.entries) c.map.ensures ∙ ap (λ (store : StoreOf). entry_at key store.entries) c.self.view_is)))

pub returns-in-Some-clause-ahead : goal.returns-in-Some-clause-ahead
returns-in-Some-clause-ahead c =
    let key : KeyOf = key_of c.args.key in
    subst (λ n. n ≤ c.in-Some.aged.age)
    (ap (λ (map : EntriesOf). ahead_of key map.entries) c.map.ensures ∙ ap (λ (store : StoreOf). ahead_of key store.entries) c.self.view_is)
    (subst (λ (found : Option Aged). IfSome found (λ aged. ahead_of key c.map.result.now.entries ≤ aged.age)) c.in-Some.is c.get.ensures.ahead)

pub returns-in-None-clause-held : goal.returns-in-None-clause-held
returns-in-None-clause-held c =
    let key : KeyOf = key_of c.args.key in
    sym (ap (option_map aged_in) c.in-None.is)
    ∙ (c.get.ensures.entry ∙ (ap (λ (map : EntriesOf). entry_at key map.entries) c.map.ensures ∙ ap (λ (store : StoreOf). entry_at key store.entries) c.self.view_is))
