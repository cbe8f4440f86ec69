-- SPDX-License-Identifier: MIT
-- The RRsets of a section (RFC 2181 5).
use Rattle.std.specs.Prelude.{ℕ, List, Bool, ◌&&◌, ◌==◌, map, filter}
use Rattle.rrc_name.specs.Wire.{same_name}
use Rattle.rrc_wire.specs.declared.record.Rr.{Rr}
use Rattle.rrc_wire.specs.SameRdata.{same_rdata}
use Rattle.rrc_sets.specs.Uniques.{uniques}

-- an RRset: its owner as its first record spells it, its class, its type, its data without repeats, and the times to live of all its
-- records
pub record SetOf : Type 0 where
  pub owner : List ℕ
  pub class : ℕ
  pub rtype : ℕ
  pub items : List (List ℕ)
  pub ttls : List ℕ

-- whether two records of one class are of one set: they have the same type and the same owner (RFC 2181 5)
abbrev pub same_set : Rr → Rr → Bool
same_set a b = a.rtype == b.rtype && same_name a.owner b.owner

-- the set of a record, among these
unfoldable pub set_of : List Rr → Rr → SetOf
set_of records first =
    let own = filter (same_set first) records in
    record {
      owner = first.owner;
      class = first.class;
      rtype = first.rtype;
      items = uniques (same_rdata first.rtype) (map (λ rr. rr.rdata) own);
      ttls = map (λ rr. rr.ttl) own;
    }

-- the sets of a section's records, all of one class, in order of their first records
unfoldable pub sets_of : List Rr → List SetOf
sets_of records = map (set_of records) (uniques same_set records)
