-- SPDX-License-Identifier: MIT
-- The data of a message's records are plain: their names are expanded.
use Rattle.std.specs.Prelude.{ℕ, List, ◌<◌}
use Rattle.std.specs.List.{AllByRecursion}
use Rattle.rrc_wire.specs.declared.record.Rr.{Rr}
use Rattle.rrc_wire.specs.declared.message.Message.{Message}
use Rattle.rrc_wire.specs.Plain.{IsPlain}
use Rattle.rrc_wire.specs.Grammar.{MessageOf}

-- the data of these records are plain data of their types
abbrev pub HavePlainData : List Rr → Type 0
HavePlainData records = AllByRecursion (λ rr. IsPlain rr.rtype rr.rdata) records

-- the data of each section's records are plain
pub record HasPlainData (m : Message) : Type 0 where
  pub answer : HavePlainData m.answer
  pub authority : HavePlainData m.authority
  pub additional : HavePlainData m.additional

-- what octets begin with has plain data
abbrev pub ReadsPlainData : Type 0
ReadsPlainData = (octets : List ℕ) (m : Message) → AllByRecursion (λ octet. octet < 256) octets → MessageOf octets m → HasPlainData m
