-- SPDX-License-Identifier: MIT
-- The text of a reply, and of its parts, as reports and archives have it.
use Rattle.std.specs.Prelude.{ℕ, List, [], ◌∷◌, ◌++◌, Some, None, codes, ◌==◌, if◌then◌else◌}
use Rattle.std.specs.Fmt.{decimal}
use Rattle.hex.specs.Hex.{encode_lower}
use Rattle.rrc_name.specs.Text.{text_of}
use Rattle.rrc_history.specs.declared.event.Outcome.{Outcome}
use Rattle.rrc_history.specs.declared.event.Outcome.TheVariants.{Kept, Cleared, LessTrusted}
use Rattle.rrc_history.specs.declared.event.RrSet.{RrSet}
use Rattle.rrc_history.specs.declared.event.Reply.{Reply}
use Rattle.rrc_history.specs.declared.event.Reply.TheVariants.{Fresh, Stale, NoData, NxDomain, Miss}
use Rattle.rrc_history.specs.declared.event.Soa.{Soa}
use Rattle.rrc_name.specs.declared.slot.Slot.{Slot}
use Rattle.rrc_name.specs.declared.slot.Slot.TheVariants.{Set, Nx, Failed}

abbrev pub outcome_text : Outcome → List ℕ
outcome_text Kept = codes "kept"
outcome_text Cleared = codes "cleared"
outcome_text LessTrusted = codes "less"

-- the slot of a key
abbrev pub slot_text : Slot → List ℕ
slot_text (Set rtype) = decimal rtype
slot_text Nx = codes "nx"
slot_text (Failed rtype) = codes "failed" ++ decimal rtype

-- the class of a key, where it is another one than IN
abbrev pub class_text : ℕ → List ℕ
class_text class = if class == 1 then [] else 47 ∷ decimal class

-- octets in hexadecimal, or a dash for none
abbrev pub item_text : List ℕ → List ℕ
item_text [] = codes "-"
item_text (octet ∷ octets) = encode_lower (octet ∷ octets)

-- more items, each behind a comma
abbrev pub more_items_text : List (List ℕ) → List ℕ
more_items_text [] = []
more_items_text (item ∷ items) = 44 ∷ (item_text item ++ more_items_text items)

-- items, with a comma between two
abbrev pub items_text : List (List ℕ) → List ℕ
items_text [] = []
items_text (item ∷ items) = item_text item ++ more_items_text items

-- what a set has left to live, its owner and its data
abbrev pub set_text : RrSet → ℕ → List ℕ
set_text set left = decimal left ++ (32 ∷ (text_of set.owner ++ (32 ∷ items_text set.items)))

-- what a negative answer has left to live, and the owner and the data of its SOA record
abbrev pub soa_text : Soa → ℕ → List ℕ
soa_text soa left = decimal left ++ (32 ∷ (text_of soa.owner ++ (32 ∷ item_text soa.octets)))

abbrev pub reply_text : Reply → List ℕ
reply_text (Fresh set left) = codes "fresh " ++ set_text set left
reply_text (Stale set left) = codes "stale " ++ set_text set left
reply_text (NoData soa left) = codes "nodata " ++ soa_text soa left
reply_text (NxDomain soa left) = codes "nxdomain " ++ soa_text soa left
reply_text (Miss None) = codes "miss"
reply_text (Miss (Some moment)) = codes "miss " ++ decimal moment
