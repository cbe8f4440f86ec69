-- SPDX-License-Identifier: MIT
use Rattle.std.proofs.Common.{◌≤◌, subst, ◌∙◌}
use Rattle.std.specs.Prelude.{IfSome}
use Rattle.rrc_name.specs.KeyRef.{key_of}
use Rattle.rrc_cache.proofs.Plain.{shown_ahead, shown_lookup}
use Rattle.rrc_cache.proofs.keyed.Keyed.get.Goals as goal

pub returns-clause-entry : goal.returns-clause-entry
returns-clause-entry c =
    c.get.ensures.entry
    ∙ shown_lookup c.self.inside.seeded c.self.inside.cache c.args.self.now c.self.view_is c.self.invariant c.args.hash (key_of c.args.key) c.requires

pub returns-clause-ahead : goal.returns-clause-ahead
returns-clause-ahead c =
    subst (λ n. IfSome c.get.result (λ aged. n ≤ aged.age))
    (shown_ahead c.self.inside.seeded c.self.inside.cache c.args.self.now c.self.view_is c.self.invariant c.args.hash (key_of c.args.key) c.requires)
    c.get.ensures.ahead
