-- SPDX-License-Identifier: MIT
-- The operations of a line, however they are held.
use Rattle.std.specs.Prelude.{ℕ, zero, suc, ◌+◌, List, [], ◌∷◌}
use Rattle.rrc_collate.specs.declared.script.Call.{Call}
use Rattle.rrc_collate.specs.declared.script.Operation.{Operation}
use Rattle.rrc_collate.specs.declared.operations.Form.{Form}
use Rattle.rrc_collate.specs.declared.operations.Form.TheVariants.{Alone, Listed, Everywhere}
use Rattle.rrc_collate.specs.declared.operations.OperationRef.{OperationRef}

-- a call on each of so many parts, the first of which has this number
abbrev pub everywhere : Call → ℕ → ℕ → List Operation
everywhere call part zero = []
everywhere call part (suc count) =
    record { part = part; call = call } ∷ everywhere call (part + 1) count

abbrev pub operations_of : Form → List Operation
operations_of (Alone operation) = operation ∷ []
operations_of (Listed operations) = operations.items
operations_of (Everywhere parts call) = everywhere call 0 parts

-- the operation that a borrowed one is
abbrev pub lent_operation : OperationRef → Operation
lent_operation lent = record { part = lent.part; call = lent.call.now }
