-- SPDX-License-Identifier: MIT
-- A response in clauses.
use Rattle.std.specs.Prelude.{ℕ, List}
use Rattle.rrc_wire.specs.declared.message.Message.{Message}
use Rattle.rrc_sets.specs.declared.limits.Limits.{Limits}
use Rattle.rrc_sets.specs.declared.response.Response.{Response}

-- what a definition says of a response: of its message, its zone, its moment and its limits
abbrev pub of_response : {A : Type 0} → (Message → List ℕ → ℕ → Limits → A) → Response → A
of_response says response = says response.message.now response.zone.now response.moment response.limits.now
