-- SPDX-License-Identifier: MIT
-- Negative answers (RFC 2308).
use Rattle.std.specs.Prelude.{ℕ, ◌-◌, min, List, length, ◌&&◌, not, ◌==◌, if◌then◌else◌, Option, Some, None, find, option_and_then}
use Rattle.std.specs.List.{list_any}
use Rattle.rrc_name.specs.declared.slot.Slot.{Slot}
use Rattle.rrc_name.specs.declared.slot.Slot.TheVariants.{Set, Nx}
use Rattle.rrc_name.specs.Wire.{folded, same_name}
use Rattle.rrc_name.specs.Order.{is_at_or_below}
use Rattle.rrc_wire.specs.declared.record.Rr.{Rr}
use Rattle.rrc_wire.specs.declared.message.Message.{Message}
use Rattle.rrc_wire.specs.Reading.{long_at}
use Rattle.rrc_wire.specs.Layout.{is_kept}
use Rattle.rrc_history.specs.declared.body.Body.{Body}
use Rattle.rrc_history.specs.declared.body.Body.TheVariants.{Negative}
use Rattle.rrc_history.specs.Fits.{OfferOf}
use Rattle.rrc_sets.specs.declared.limits.Limits.{Limits}
use Rattle.rrc_sets.specs.declared.rank.Section.TheVariants.{Answer}
use Rattle.rrc_sets.specs.Life.{life}
use Rattle.rrc_sets.specs.Ranks.{section_rank}
use Rattle.rrc_sets.specs.Aliases.{is_of, final_name}

-- NXDOMAIN: the answer has no record of the final name (RFC 2308 2.1)
abbrev pub denied_name : Message → List ℕ → Option Slot
denied_name message name = if list_any (λ rr. same_name rr.owner name) message.answer then None else Some Nx

-- NODATA: the answer has no record of the final name with the question's type, which is one that is kept in its class (RFC 2308 2.2)
abbrev pub denied_type : Message → List ℕ → Option Slot
denied_type message name =
    let rtype = message.question.qtype in
    if is_kept rtype message.question.qclass && not (list_any (is_of rtype name) message.answer) then Some (Set rtype) else None

-- what a reply denies of the final name
abbrev pub denied : Message → List ℕ → Option Slot
denied message name = if message.rcode == 3 then denied_name message name else denied_type message name

-- the SOA record of a negative reply: the first of the authority section from within the zone whose own zone has the name (RFC 2308 2, ours)
abbrev pub soa_of : Message → List ℕ → List ℕ → Option Rr
soa_of message zone name =
    find (λ rr. rr.rtype == 6 && (is_at_or_below rr.owner zone && is_at_or_below name rr.owner)) message.authority

-- the MINIMUM of a SOA record: the last four octets of its data (RFC 1035 3.3.13)
abbrev pub minimum_of : List ℕ → ℕ
minimum_of rdata = long_at rdata (length rdata - 4)

-- how long a negative answer lives (RFC 2308 5): the SOA record's time or its MINIMUM, the lower one, and no more than the cap
abbrev pub negative_life : Limits → Rr → ℕ
negative_life limits soa = min (min (life soa.ttl limits) (life (minimum_of soa.rdata) limits)) limits.negative_cap

-- that a name does not exist or has no such type, for so many seconds, as a SOA record says; an alias on the way is ranked as another owner is (ours)
abbrev pub denial : Message → ℕ → List ℕ → Rr → Body
denial message ttl name soa =
    Negative (section_rank Answer message.aa (same_name name message.question.name)) ttl soa.owner soa.rdata

infixl 10 ◌>>=◌
abbrev ◌>>=◌ : {A B : Type 0} → Option A → (A → Option B) → Option B
found >>= next = option_and_then next found

-- the negative answer of a reply, if it gives one
unfoldable pub negative_offer : Message → List ℕ → ℕ → Limits → Option OfferOf
negative_offer message zone moment limits = do
  name ← final_name message
  slot ← denied message name
  soa ← soa_of message zone name
  Some (record {
    key = record { name = folded name; class = message.question.qclass; slot = slot };
    body = denial message (negative_life limits soa) name soa;
    moment = moment;
  })
