-- SPDX-License-Identifier: MIT
-- How the names of a line are read: what private contracts say, and the law that it is what they spell.
use Rattle.std.specs.Prelude.{◌≡◌, ◌↔◌, ℕ, List, Option, Some}
use Rattle.std.specs.Result.{result_ok}
use Rattle.rrc_name.specs.Text.{Spells}
use Rattle.rrc_name.specs.Reading.{name_in}

-- the name that a text spells, as it is found octet by octet
abbrev pub name_of : List ℕ → Option (List ℕ)
name_of field = result_ok (name_in field)

-- a field says the name that it spells, and where it spells none it says none (RFC 1035 5.1)
abbrev pub SaysWhatIsSpelled : Type 0
SaysWhatIsSpelled = (field name : List ℕ) → (name_of field ≡ Some name) ↔ Spells field name
