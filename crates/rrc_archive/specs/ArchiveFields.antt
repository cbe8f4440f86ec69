-- SPDX-License-Identifier: MIT
-- How the lines of an archive are read, field after field: what private contracts say. What is
-- written stands in Archive.
use Rattle.std.specs.Prelude.{ℕ, zero, suc, ◌+◌, ◌-◌, ◌^◌, List, [], ◌∷◌, ◌++◌, length, take, drop, codes, bytes_eq, Option, Some, None, option_map, if◌then◌else◌}
use Rattle.std.specs.List.{slice_split}
use Rattle.std.specs.Str.Parse.{without_leading_plus}
use Rattle.rrc_name.specs.Key.{KeyOf}
use Rattle.rrc_name.specs.Wire.{folded}
use Rattle.rrc_name.specs.declared.slot.Slot.{Slot}
use Rattle.rrc_name.specs.declared.slot.Slot.TheVariants.{Set, Nx, Failed}
use Rattle.rrc_history.specs.Fits.{OfferOf, fits}
use Rattle.rrc_history.specs.declared.body.Body.{Body}
use Rattle.rrc_history.specs.declared.body.Body.TheVariants.{Positive, Negative, Failure}
use Rattle.rrc_history.specs.declared.body.Trust.{Trust}
use Rattle.rrc_history.specs.declared.event.Event.{Event}
use Rattle.rrc_history.specs.declared.event.Event.TheVariants.{Offered, Asked, Swept}
use Rattle.rrc_history.specs.declared.event.Outcome.{Outcome}
use Rattle.rrc_history.specs.declared.event.Outcome.TheVariants.{Kept, Cleared, LessTrusted}
use Rattle.rrc_history.specs.declared.event.Reply.{Reply}
use Rattle.rrc_history.specs.declared.event.Reply.TheVariants.{Fresh, Stale, NoData, NxDomain, Miss}
use Rattle.rrc_history.specs.declared.event.RrSet.{RrSet}
use Rattle.rrc_history.specs.declared.event.Soa.{Soa}
use Rattle.rrc_history.specs.declared.event.Tag.{Tag}
use Rattle.rrc_history.specs.declared.snapshot.Entry.{Entry}
use Rattle.rrc_text.specs.Gives.{◌>>=◌}
use Rattle.rrc_text.specs.Fields.{field_at, has_field, said_at}
use Rattle.rrc_text.specs.Commas.{is_comma}
use Rattle.rrc_text.specs.Names.{name_of}
use Rattle.rrc_text.specs.Numbers.{number_of, at_most, ttl_of, word_of, slash_in, kind_of, trust_of}
use Rattle.rrc_text.specs.Octets.{octets_of}
use Rattle.rrc_text.specs.Words.{purpose_of, mode_of}

-- a number of 64 bits: a plus may stand in front
abbrev pub count_of : List ℕ → Option ℕ
count_of field = at_most (2 ^ 64 - 1) (number_of (without_leading_plus field))

-- a type, `nx`, or `failed` and a type
abbrev pub slot_of : List ℕ → Option Slot
slot_of text =
    if bytes_eq text (codes "nx") then Some Nx
    else if bytes_eq (take 6 text) (codes "failed") then option_map Failed (word_of (drop 6 text))
    else option_map Set (word_of text)

-- a slot, and its class behind a slash at this place, or IN
abbrev pub slot_cut : List ℕ → Option ℕ → Option (Slot × ℕ)
slot_cut field None = do
  slot ← slot_of field
  Some (slot, 1)
slot_cut field (Some place) = do
  slot ← slot_of (take place field)
  class ← word_of (drop (place + 1) field)
  Some (slot, class)

-- a slot and its class
abbrev pub slot_and_class_of : List ℕ → Option (Slot × ℕ)
slot_and_class_of field = slot_cut field (slash_in field)

-- a key, whose name is folded, and the octets behind it
unfoldable pub key_at : List ℕ → Option (KeyOf × List ℕ)
key_at octets = do
  name ← said_at name_of octets
  slot ← said_at slot_and_class_of name.1
  Some (record { name = folded name.0; class = slot.0.1; slot = slot.0.0 }, slot.1)

-- some items, and the one of a piece
abbrev pub with_written : List (List ℕ) → List ℕ → Option (List (List ℕ))
with_written items piece = option_map (λ item. items ++ item ∷ []) (octets_of piece)

-- some items, and those of pieces
abbrev pub written_behind : List (List ℕ) → List (List ℕ) → Option (List (List ℕ))
written_behind items [] = Some items
written_behind items (piece ∷ pieces) = with_written items piece >>= λ more. written_behind more pieces

-- items with commas between
abbrev pub data_of : List ℕ → Option (List (List ℕ))
data_of field = written_behind [] (slice_split is_comma field)

-- the trust, the time to live and the owner of a body, and the octets behind them
unfoldable pub source_at : List ℕ → Option (Trust × ℕ × List ℕ × List ℕ)
source_at octets = do
  trust ← said_at trust_of octets
  ttl ← said_at ttl_of trust.1
  owner ← said_at name_of ttl.1
  Some (trust.0, ttl.0, owner.0, owner.1)

-- a set
unfoldable pub positive_at : List ℕ → Option (Body × List ℕ)
positive_at octets = do
  source ← source_at octets
  items ← said_at data_of source.3
  Some (Positive source.0 source.1 source.2 items.0, items.1)

-- that a name or a type does not exist
unfoldable pub negative_at : List ℕ → Option (Body × List ℕ)
negative_at octets = do
  source ← source_at octets
  soa ← said_at octets_of source.3
  Some (Negative source.0 source.1 source.2 soa.0, soa.1)

-- that asking failed
unfoldable pub failure_at : List ℕ → Option (Body × List ℕ)
failure_at octets = do
  ttl ← said_at ttl_of octets
  Some (Failure ttl.0, ttl.1)

-- what the octets behind the word of a body say
abbrev pub body_as : List ℕ → List ℕ → Option (Body × List ℕ)
body_as word octets =
    if bytes_eq word (codes "set") then positive_at octets
    else if bytes_eq word (codes "negative") then negative_at octets
    else if bytes_eq word (codes "failure") then failure_at octets
    else None

-- a body, and the octets behind it
unfoldable pub body_at : List ℕ → Option (Body × List ℕ)
body_at octets = field_at octets >>= λ word. body_as word.0 word.1

-- how long a set has to live, its owner and its data
unfoldable pub set_of : List ℕ → Option (ℕ × RrSet)
set_of octets = do
  left ← said_at ttl_of octets
  owner ← said_at name_of left.1
  items ← said_at data_of owner.1
  Some (left.0, record { owner = owner.0; items = items.0 })

-- how long a negative answer has to live, and the owner and the data of its SOA record
unfoldable pub soa_of : List ℕ → Option (ℕ × Soa)
soa_of octets = do
  left ← said_at ttl_of octets
  owner ← said_at name_of left.1
  soa ← said_at octets_of owner.1
  Some (left.0, record { owner = owner.0; octets = soa.0 })

-- when it may be tried again, if that is told
unfoldable pub miss_of : List ℕ → Option Reply
miss_of octets =
    if has_field octets then said_at count_of octets >>= (λ moment. Some (Miss (Some moment.0)))
    else Some (Miss None)

-- what the octets behind the word of a reply say
abbrev pub reply_as : List ℕ → List ℕ → Option Reply
reply_as word octets =
    if bytes_eq word (codes "fresh") then set_of octets >>= (λ set. Some (Fresh set.1 set.0))
    else if bytes_eq word (codes "stale") then set_of octets >>= (λ set. Some (Stale set.1 set.0))
    else if bytes_eq word (codes "nodata") then soa_of octets >>= (λ soa. Some (NoData soa.1 soa.0))
    else if bytes_eq word (codes "nxdomain") then soa_of octets >>= (λ soa. Some (NxDomain soa.1 soa.0))
    else if bytes_eq word (codes "miss") then miss_of octets
    else None

-- the reply to the end of a line
unfoldable pub reply_of : List ℕ → Option Reply
reply_of octets = field_at octets >>= λ word. reply_as word.0 word.1

-- the tag of an event, its moment, and the octets behind them
unfoldable pub tag_at : List ℕ → Option (Tag × ℕ × List ℕ)
tag_at octets = do
  line ← said_at count_of octets
  place ← said_at count_of line.1
  moment ← said_at count_of place.1
  Some (record { line = line.0; place = place.0 }, moment.0, moment.1)

-- what became of an offer
abbrev pub outcome_of : List ℕ → Option Outcome
outcome_of word =
    if bytes_eq word (codes "kept") then Some Kept
    else if bytes_eq word (codes "cleared") then Some Cleared
    else if bytes_eq word (codes "less") then Some LessTrusted
    else None

-- an offer, whose body fits its key, and the octets behind it
unfoldable pub offer_at : ℕ → List ℕ → Option (OfferOf × List ℕ)
offer_at moment octets = do
  key ← key_at octets
  body ← body_at key.1
  if fits key.0 body.0 then Some (record { key = key.0; body = body.0; moment = moment }, body.1) else None

-- the key that was evicted, if there is one
unfoldable pub evicted_of : List ℕ → Option (Option KeyOf)
evicted_of octets = if has_field octets then key_at octets >>= (λ key. Some (Some key.0)) else Some None

-- the event of an offer, behind its word
unfoldable pub offered_of : List ℕ → Option Event
offered_of octets = do
  tag ← tag_at octets
  offer ← offer_at tag.1 tag.2
  outcome ← said_at outcome_of offer.1
  evicted ← evicted_of outcome.1
  Some (Offered outcome.0 tag.0 offer.0 evicted)

-- the event of an ask, behind its word: its name is folded, however it is spelled
unfoldable pub asked_of : List ℕ → Option Event
asked_of octets = do
  tag ← tag_at octets
  name ← said_at name_of tag.2
  kind ← said_at kind_of name.1
  purpose ← said_at purpose_of kind.1
  mode ← said_at mode_of purpose.1
  reply ← reply_of mode.1
  Some (Asked tag.0 (record {
    name = folded name.0;
    class = kind.0.class;
    rtype = kind.0.rtype;
    moment = tag.1;
    purpose = purpose.0;
    mode = mode.0;
  }) reply)

-- some keys and the first one, and the octets behind it
abbrev pub with_key : List KeyOf → List ℕ → Option (List KeyOf × List ℕ)
with_key keys octets = option_map (λ key. (keys ++ key.0 ∷ [], key.1)) (key_at octets)

-- some keys, and at most so many more
abbrev pub keys_behind : ℕ → List KeyOf → List ℕ → Option (List KeyOf)
keys_behind zero keys octets = Some keys
keys_behind (suc most) keys octets =
    if has_field octets then with_key keys octets >>= (λ more. keys_behind most more.0 more.1) else Some keys

-- the keys to the end of a line: no more than its octets
abbrev pub keys_of : List ℕ → Option (List KeyOf)
keys_of octets = keys_behind (length octets) [] octets

-- the event of a sweep, behind its word
unfoldable pub swept_of : List ℕ → Option Event
swept_of octets = do
  tag ← tag_at octets
  gone ← keys_of tag.2
  Some (Swept tag.0 tag.1 gone)

-- an entry, behind its word
unfoldable pub entry_of : List ℕ → Option Entry
entry_of octets = do
  number ← said_at count_of octets
  moment ← said_at count_of number.1
  key ← key_at moment.1
  body ← body_at key.1
  Some (record { key = key.0; body = body.0; moment = moment.0; number = number.0 })
