-- SPDX-License-Identifier: MIT
use Rattle.std.proofs.Common.{rules, ap, length, arith, ◌∙◌}
use Rattle.rrc_wire.specs.Kept.{RrOf}
use Rattle.rrc_sets.proofs.Records.{soa_is_long}
use Rattle.rrc_sets.proofs.denial.negative_life.Goals as goal

pub minimum_of-requires : goal.minimum_of-requires
minimum_of-requires c =
    omega (arith, ap length c.as_slice.ensures, soa_is_long c.soa.inside.rtype c.soa.inside.rdata (ap (λ (rr : RrOf). rr.rtype) c.soa.view_is ∙ c.requires) c.soa.invariant.plain)

pub returns-clause-value : goal.returns-clause-value
returns-clause-value c = search rules fits 100
