-- SPDX-License-Identifier: MIT
-- Keys that are looked up.
use Rattle.rrc_name.specs.Key.{KeyOf}
use Rattle.rrc_name.specs.NameRef.{name_in}
use Rattle.rrc_name.specs.declared.key_ref.KeyRef.{KeyRef}

-- the key that is looked up
abbrev pub key_of : KeyRef → KeyOf
key_of wanted = record { name = name_in wanted.name; class = wanted.class; slot = wanted.slot }
