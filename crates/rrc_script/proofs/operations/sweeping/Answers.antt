-- SPDX-License-Identifier: MIT
use Rattle.std.proofs.Common.{◌≡◌, ℕ, zero, suc, ◌+◌, ◌∷◌, refl, ap, ◌∙◌}
use Rattle.rrc_collate.specs.declared.script.Operation.{Operation}
use Rattle.rrc_collate.specs.declared.script.Call.TheVariants as calls
use Rattle.rrc_collate.specs.Operations.{everywhere}
use Rattle.rrc_script.specs.Scripts.{sweeping}
use Rattle.rrc_script.proofs.operations.sweeping.Goals as goal

-- one call on each part that is a sweep
sweeps : (moment part count : ℕ)
    → everywhere (calls.Sweep moment) part count ≡ sweeping moment part count
sweeps moment part zero = refl
sweeps moment part (suc count) =
    let first : Operation = record { part = part; call = calls.Sweep moment } in
    ap (λ os. first ∷ os) (sweeps moment (part + 1) count)

pub returns : goal.returns
returns c = c.everywhere.ensures ∙ sweeps c.args.moment 0 c.args.config.now.parts
