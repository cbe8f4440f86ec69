-- SPDX-License-Identifier: MIT
-- Reading a record, and a section of records (RFC 1035 4.1.3).
use Rattle.std.specs.Prelude.{ℕ, ◌+◌, Bool, List, [], ◌∷◌, if◌then◌else◌, Result, Ok}
use Rattle.rrc_wire.specs.declared.fault.WireFault.{WireFault}
use Rattle.rrc_wire.specs.declared.record.Rr.{Rr}
use Rattle.rrc_wire.specs.Reading.{◌>>=◌, word_at, long_at, within, times}
use Rattle.rrc_wire.specs.Layout.{is_kept}
use Rattle.rrc_wire.specs.Item.{to_end}
use Rattle.rrc_wire.specs.Name.{name_at}
use Rattle.rrc_wire.specs.Data.{data_at}

-- whether the record whose fixed fields stand at a place is kept: its type is, in its class
abbrev pub keeps : List ℕ → ℕ → Bool
keeps message fields = is_kept (word_at message fields) (word_at message (fields + 2))

-- the record of an owner, with the fixed fields that stand at a place
abbrev pub rr_of : List ℕ → List ℕ → ℕ → List ℕ → Rr
rr_of message owner fields rdata =
    record {
      owner = owner;
      class = word_at message (fields + 2);
      rtype = word_at message fields;
      ttl = long_at message (fields + 4);
      rdata = rdata;
    }

-- the record of an owner, where it is kept; its data end at `end`
abbrev pub kept_at : List ℕ → List ℕ → ℕ → ℕ → Result (List Rr) WireFault
kept_at message owner fields end =
    if keeps message fields
    then (data_at message (word_at message fields) (fields + 10) end >>= λ rdata. Ok (rr_of message owner fields rdata ∷ []))
    else Ok []

-- the record at a place, where it is kept, and the place behind it; any other is read over by its RDLENGTH
abbrev pub record_at : List ℕ → ℕ → Result (List Rr × ℕ) WireFault
record_at message place = do
  owner ← name_at message (to_end message place)
  data_begin ← within message owner.1 10
  end ← within message data_begin (word_at message (owner.1 + 8))
  kept ← kept_at message owner.0 owner.1 end
  Ok (kept, end)

-- the kept ones of so many records, and the place behind them
unfoldable pub section_at : List ℕ → ℕ → ℕ → Result (List Rr × ℕ) WireFault
section_at message records place = times (record_at message) records [] place
