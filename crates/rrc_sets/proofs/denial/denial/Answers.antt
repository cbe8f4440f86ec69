-- SPDX-License-Identifier: MIT
use Rattle.std.proofs.Common.{rules, ap, subst, ◌∙◌}
use Rattle.rrc_wire.specs.Kept.{RrOf}
use Rattle.rrc_wire.specs.Plain.{IsPlain}
use Rattle.rrc_sets.proofs.denial.denial.Goals as goal

pub returns-clause-plain : goal.returns-clause-plain
returns-clause-plain c =
    subst (λ (rr : RrOf). IsPlain 6 rr.rdata) c.soa.view_is
    (subst (λ rtype. IsPlain rtype c.soa.inside.rdata) (ap (λ (rr : RrOf). rr.rtype) c.soa.view_is ∙ c.requires) c.soa.invariant.plain)

pub returns-clause-value : goal.returns-clause-value
returns-clause-value c = search rules fits 100
