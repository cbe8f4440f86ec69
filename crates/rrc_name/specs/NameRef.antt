-- SPDX-License-Identifier: MIT
-- Names that belong to somebody else.
use Rattle.std.specs.Prelude.{ℕ, List}
use Rattle.rrc_name.specs.declared.name_ref.NameRef.{NameRef}

-- the wire form that is lent
abbrev pub name_in : NameRef → List ℕ
name_in name = name.octets.now
