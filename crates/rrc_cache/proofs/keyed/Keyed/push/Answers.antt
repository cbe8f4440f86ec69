-- SPDX-License-Identifier: MIT
use Rattle.std.proofs.Common.{◌≡◌, sym, subst, ◌∙◌}
use Rattle.std.specs.Map.{lookup}
use Rattle.std.proofs.lemmas.Result.{IfOk-weaker, on_ok_weaker}
use Rattle.lru.specs.LruCache.{LruCache}
use Rattle.rrc_name.specs.Key.{key_eq}
use Rattle.rrc_history.specs.declared.snapshot.Entry.{Entry}
use Rattle.rrc_cache.specs.declared.hashed.HashedKey.{HashedKey}
use Rattle.rrc_cache.specs.Keyed.{AreHashed, hashed_eq}
use Rattle.rrc_cache.proofs.Plain.{either, hashed_put, its_hash, shown_lookup, shown_put}
use Rattle.rrc_cache.proofs.keyed.Keyed.push.Goals as goal

pub invariant_of-self : goal.invariant_of-self
invariant_of-self c =
    let wanted : HashedKey = record { hash = c.args.hash; key = c.args.key } in
    either c.push.result _ _ _ c.push.ensures.entries c.push.ensures.err
    (λ is. subst (λ (cache : LruCache HashedKey Entry). AreHashed c.self.inside.seeded cache.entries) (sym is)
    (hashed_put c.self.inside.seeded c.self.inside.cache wanted c.args.entry
    (its_hash c.self.inside.seeded c.self.inside.cache c.args.self.now c.self.view_is c.self.invariant c.args.hash c.args.key c.requires.hash) c.self.invariant))
    (λ is. subst (λ (cache : LruCache HashedKey Entry). AreHashed c.self.inside.seeded cache.entries) (sym is) c.self.invariant)

pub returns-clause-old : goal.returns-clause-old
returns-clause-old c =
    let wanted : HashedKey = record { hash = c.args.hash; key = c.args.key } in
    IfOk-weaker c.push.result (λ old. old ≡ lookup (hashed_eq wanted) c.self.inside.cache.entries) (λ old. old ≡ lookup (key_eq c.args.key) c.args.self.now.map.entries)
    (λ old is. is ∙ shown_lookup c.self.inside.seeded c.self.inside.cache c.args.self.now c.self.view_is c.self.invariant c.args.hash c.args.key c.requires.hash) c.push.ensures.old

pub returns-clause-entries : goal.returns-clause-entries
returns-clause-entries c =
    on_ok_weaker c.push.result
    (shown_put c.self.inside.seeded c.self.inside.cache c.args.self.now c.self.view_is c.self.invariant c.args.hash c.args.key c.requires.hash c.args.entry c.push.new.self)
    c.push.ensures.entries
