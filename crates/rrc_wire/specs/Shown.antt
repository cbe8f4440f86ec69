-- SPDX-License-Identifier: MIT
-- The reader's own types as the definitions have them. The clauses of its private functions alone cite these words.
use Rattle.rrc_wire.specs.declared.header.Header.{Header}
use Rattle.rrc_wire.specs.declared.item.Item.{Item}
use Rattle.rrc_wire.specs.declared.item.Item.TheVariants as variant
use Rattle.rrc_wire.specs.declared.item.Run.{Run}
use Rattle.rrc_wire.specs.declared.layout.Layout.{Layout}
use Rattle.rrc_wire.specs.Header.{HeaderFields}
use Rattle.rrc_wire.specs.Item.{ItemOf, End, Label, Pointer, RunOf}
use Rattle.rrc_wire.specs.Layout.{LayoutOf}

-- the fields of a header that was read
abbrev pub as_header : Header → HeaderFields
as_header h =
    record {
      id = h.id;
      opcode = h.opcode;
      aa = h.aa;
      tc = h.tc;
      rd = h.rd;
      ra = h.ra;
      rcode = h.rcode;
      answers = h.answers;
      authorities = h.authorities;
      additionals = h.additionals;
    }

-- an item of a name
abbrev pub as_item : Item → ItemOf
as_item variant.End = End
as_item (variant.Label size) = Label size
as_item (variant.Pointer target) = Pointer target

-- a run of labels
abbrev pub as_run : Run → RunOf
as_run r = record { start = r.start; end = r.end; past = r.past }

-- the layout of a type's data
abbrev pub as_layout : Layout → LayoutOf
as_layout l = record { before = l.before; names = l.names; behind = l.behind }
