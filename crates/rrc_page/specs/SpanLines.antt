-- SPDX-License-Identifier: MIT
-- The text of spans: a line for each.
use Rattle.std.specs.Prelude.{ℕ, List, [], ◌∷◌, ◌++◌, codes, Option, Some, None}
use Rattle.std.specs.Fmt.{decimal}
use Rattle.std.specs.List.{flat_map}
use Rattle.rrc_name.specs.declared.slot.Slot.{Slot}
use Rattle.rrc_name.specs.declared.slot.Slot.TheVariants.{Nx}
use Rattle.rrc_history.specs.declared.body.Body.{Body}
use Rattle.rrc_history.specs.declared.body.Body.TheVariants.{Positive, Negative, Failure}
use Rattle.rrc_history.specs.declared.event.Tag.{Tag}
use Rattle.rrc_history.specs.declared.snapshot.Entry.{Entry}
use Rattle.rrc_history.specs.Chains.{WholeOf}
use Rattle.rrc_archive.specs.Archive.{key_fields, tag_fields}
use Rattle.rrc_page.specs.declared.spans.Ending.{Ending}
use Rattle.rrc_page.specs.declared.spans.Loss.{Loss}
use Rattle.rrc_page.specs.declared.spans.Loss.TheVariants.{Replaced, Cleared, Evicted, Swept}
use Rattle.rrc_page.specs.Spans.{SpanOf, spans_of}

-- what is held: an RRset, that the name has none of the type (RFC 2308 2.2), that there is no such name (RFC 2308 2.1), or that asking
-- failed (RFC 8767 5)
abbrev pub kind_text : Body → Slot → List ℕ
kind_text (Positive trust ttl owner items) slot = codes "set"
kind_text (Negative trust ttl owner soa) Nx = codes "nxdomain"
kind_text (Negative trust ttl owner soa) slot = codes "nodata"
kind_text (Failure ttl) slot = codes "failed"

abbrev pub loss_text : Loss → List ℕ
loss_text Replaced = codes "replaced"
loss_text Cleared = codes "cleared"
loss_text Evicted = codes "evicted"
loss_text Swept = codes "swept"

-- NUMBER LINE PLACE MOMENT: an event
abbrev pub event_fields : ℕ → Tag → ℕ → List ℕ
event_fields number tag moment = decimal number ++ (32 ∷ (tag_fields tag ++ (32 ∷ decimal moment)))

-- LOSS and the event that took it, behind a space, if one did
abbrev pub ending_fields : Option Ending → List ℕ
ending_fields None = []
ending_fields (Some ending) = 32 ∷ (loss_text ending.loss ++ (32 ∷ event_fields ending.number ending.tag ending.moment))

-- FRESH UNTIL, and how it ended
abbrev pub limits_fields : ℕ → ℕ → Option Ending → List ℕ
limits_fields fresh until ending = decimal fresh ++ (32 ∷ (decimal until ++ ending_fields ending))

-- span KIND NUMBER LINE PLACE MOMENT NAME SLOT
abbrev pub stored_fields : Entry → Tag → List ℕ
stored_fields entry tag =
    codes "span "
    ++ (kind_text entry.body entry.key.slot ++ (32 ∷ (event_fields entry.number tag entry.moment ++ (32 ∷ key_fields entry.key))))

-- span KIND NUMBER LINE PLACE MOMENT NAME SLOT FRESH UNTIL, and LOSS NUMBER LINE PLACE MOMENT
abbrev pub span_text : SpanOf → List ℕ
span_text its = stored_fields its.entry its.tag ++ (32 ∷ limits_fields its.fresh its.until its.ending)

-- a line for each span
abbrev pub span_line : SpanOf → List ℕ
span_line its = span_text its ++ 10 ∷ []

abbrev pub spans_text : List SpanOf → List ℕ
spans_text spans = flat_map span_line spans

-- those of all parts, one behind another
abbrev pub all_spans_text : List WholeOf → List ℕ
all_spans_text wholes = flat_map (λ whole. spans_text (spans_of whole)) wholes
