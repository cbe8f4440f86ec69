-- SPDX-License-Identifier: MIT
-- Reading the data of a record.
use Rattle.std.specs.Prelude.{ℕ, ◌+◌, ◌==◌, nat_le, List, ◌++◌, slice_range, Option, Some, None, if◌then◌else◌, Result, Ok, Err}
use Rattle.rrc_wire.specs.declared.fault.WireFault.{WireFault}
use Rattle.rrc_wire.specs.declared.fault.WireFault.TheVariants.{BadData}
use Rattle.rrc_wire.specs.Layout.{LayoutOf, layout_of}
use Rattle.rrc_wire.specs.Reading.{◌>>=◌, times}
use Rattle.rrc_wire.specs.Item.{in_data}
use Rattle.rrc_wire.specs.Name.{name_at}

-- a name in data that end at `end`
abbrev pub name_in_data : List ℕ → ℕ → ℕ → Result (List ℕ × ℕ) WireFault
name_in_data message end place = name_at message (in_data place end)

-- the last fixed octets, behind the data before them: no more and no fewer than the layout has
abbrev pub last_octets : List ℕ → LayoutOf → ℕ → List ℕ × ℕ → Result (List ℕ) WireFault
last_octets message layout end before =
    if before.1 + layout.behind == end then Ok (before.0 ++ slice_range message before.1 end) else Err BadData

-- the data of a layout
abbrev pub laid_out_at : List ℕ → LayoutOf → ℕ → ℕ → Result (List ℕ) WireFault
laid_out_at message layout place end =
    let names = place + layout.before in
    if nat_le names end
    then times (name_in_data message end) layout.names (slice_range message place names) names >>= last_octets message layout end
    else Err BadData

-- the data of a kept type, which end at `end`, with the names in them expanded; without a layout they are opaque octets
abbrev pub data_of : Option LayoutOf → List ℕ → ℕ → ℕ → Result (List ℕ) WireFault
data_of (Some layout) message place end = laid_out_at message layout place end
data_of None message place end = Ok (slice_range message place end)

abbrev pub data_at : List ℕ → ℕ → ℕ → ℕ → Result (List ℕ) WireFault
data_at message rtype place end = data_of (layout_of rtype) message place end
