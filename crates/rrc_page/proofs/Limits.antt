-- SPDX-License-Identifier: MIT
-- How long what an offer stored lives.
use Rattle.std.proofs.Common.{◌≡◌, refl, arith}
use Rattle.rrc_history.specs.declared.body.Body.{Body}
use Rattle.rrc_history.specs.declared.body.Body.TheVariants.{Positive, Negative, Failure}
use Rattle.rrc_history.specs.Lives.{ttl_of, span}

-- with no stale limit a body may answer while it lives
pub span_none : (body : Body) → span 0 body ≡ ttl_of body
span_none (Positive trust ttl owner items) = omega arith
span_none (Negative trust ttl owner soa) = refl
span_none (Failure ttl) = refl
