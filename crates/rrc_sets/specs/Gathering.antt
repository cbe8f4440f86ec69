-- SPDX-License-Identifier: MIT
-- Sets that grow record by record.
use Rattle.std.specs.Prelude.{List, [], ◌∷◌, ◌++◌, Bool, ◌&&◌, ◌==◌, if◌then◌else◌}
use Rattle.std.specs.List.{list_any}
use Rattle.rrc_name.specs.Wire.{same_name}
use Rattle.rrc_wire.specs.declared.record.Rr.{Rr}
use Rattle.rrc_wire.specs.SameRdata.{same_rdata}
use Rattle.rrc_sets.specs.Sets.{SetOf}

-- whether a record is one of a set
abbrev pub holds : SetOf → Rr → Bool
holds set rr = set.rtype == rr.rtype && same_name set.owner rr.owner

-- the set of one record
abbrev pub alone : Rr → SetOf
alone rr = record { owner = rr.owner; class = rr.class; rtype = rr.rtype; items = rr.rdata ∷ []; ttls = rr.ttl ∷ [] }

-- some values and one more, where none is the same
abbrev pub with_value : {A : Type 0} → (A → A → Bool) → List A → A → List A
with_value same values value = if list_any (λ other. same other value) values then values else values ++ value ∷ []

-- a set with one more record: its data where they are new, and its time to live in any case
abbrev pub grown : SetOf → Rr → SetOf
grown set rr =
    record {
      owner = set.owner;
      class = set.class;
      rtype = set.rtype;
      items = with_value (same_rdata set.rtype) set.items rr.rdata;
      ttls = set.ttls ++ rr.ttl ∷ [];
    }

-- sets with one more record: in its set, or else in one of its own behind the others
unfoldable pub with_record : List SetOf → Rr → List SetOf
with_record [] rr = alone rr ∷ []
with_record (set ∷ sets) rr = if holds set rr then grown set rr ∷ sets else set ∷ with_record sets rr
