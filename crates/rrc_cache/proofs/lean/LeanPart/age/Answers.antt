-- SPDX-License-Identifier: MIT
use Rattle.std.proofs.Common.{◌≡◌, ◌≤◌, true, Option, Some, None, sym, subst, ◌∙◌}
use Rattle.std.specs.Prelude.{is_some, IfSome}
use Rattle.rrc_name.specs.Key.{KeyOf}
use Rattle.rrc_name.specs.KeyRef.{key_of}
use Rattle.rrc_history.specs.declared.judge.Held.{Held}
use Rattle.rrc_cache.specs.Ages.{StandsWithin, ahead_of}
use Rattle.rrc_cache.specs.Part.{PartOf}
use Rattle.rrc_cache.proofs.LeanKeeping.{stands_within}
use Rattle.rrc_cache.proofs.lean.LeanPart.age.Goals as goal

-- what holds where something is lent
where_lent : (P : Type 0) (lent : Option Held) → IfSome lent (λ _. P) → is_some lent ≡ true → P
where_lent P None holds is = absurd cc
where_lent P (Some held) holds is = holds

pub returns-then-is_some-clause-ahead : goal.returns-then-is_some-clause-ahead
returns-then-is_some-clause-ahead c =
    let key : KeyOf = key_of c.args.key in
    let few : ahead_of key c.self.inside.store.entries ≤ c.get-aged.result.age =
    where_lent (ahead_of key c.self.inside.store.entries ≤ c.get-aged.result.age) c.get-aged.result.held c.get-aged.ensures.ahead (sym c.is_some.ensures ∙ c.if-is_some.true) in
    let P : PartOf → Type 0 = λ part. StandsWithin part key c.get-aged.result.age in
    subst P c.self.view_is
    (stands_within c.self.inside.history.part c.self.inside.store.entries key c.get-aged.result.age c.self.invariant.leaves.contents few)
