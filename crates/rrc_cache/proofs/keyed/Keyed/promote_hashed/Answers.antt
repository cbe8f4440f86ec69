-- SPDX-License-Identifier: MIT
use Rattle.std.proofs.Common.{ap, sym, subst, ◌∙◌}
use Rattle.std.specs.Prelude.{is_some}
use Rattle.lru.specs.LruCache.{LruCache}
use Rattle.rrc_name.specs.KeyRef.{key_of}
use Rattle.rrc_history.specs.declared.snapshot.Entry.{Entry}
use Rattle.rrc_cache.specs.declared.hashed.HashedKey.{HashedKey}
use Rattle.rrc_cache.specs.Keyed.{AreHashed, hashed_eq}
use Rattle.rrc_cache.proofs.Plain.{hashed_promoted, shown_lookup, shown_promoted}
use Rattle.rrc_cache.proofs.keyed.Keyed.promote_hashed.Goals as goal

pub invariant_of-self : goal.invariant_of-self
invariant_of-self c =
    subst (λ (cache : LruCache HashedKey Entry). AreHashed c.self.inside.seeded cache.entries) (sym c.promote.ensures.entries)
    (hashed_promoted c.self.inside.seeded (hashed_eq (record { hash = c.args.hash; key = key_of c.args.key })) c.self.inside.cache.entries c.self.invariant)

pub returns-clause-value : goal.returns-clause-value
returns-clause-value c =
    c.promote.ensures.value
    ∙ ap is_some (shown_lookup c.self.inside.seeded c.self.inside.cache c.args.self.now c.self.view_is c.self.invariant c.args.hash (key_of c.args.key) c.requires)

pub returns-clause-entries : goal.returns-clause-entries
returns-clause-entries c =
    shown_promoted c.self.inside.seeded c.self.inside.cache c.args.self.now c.self.view_is c.self.invariant c.args.hash (key_of c.args.key) c.requires
    c.promote.new.self c.promote.ensures.entries
