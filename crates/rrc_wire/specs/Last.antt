-- SPDX-License-Identifier: MIT
-- The name that a source remembers.
use Rattle.std.specs.Prelude.{ℕ, List, Option}
use Rattle.std.specs.Option.{IfSome}
use Rattle.rrc_wire.specs.declared.source.Standing.{Standing}
use Rattle.rrc_wire.specs.Name.{IsNameAt}

-- what is remembered, if anything, is a name that stands at its place
abbrev pub IsLast : List ℕ → Option Standing → Type 0
IsLast message last = IfSome last (λ standing. IsNameAt message standing.place standing.name)
