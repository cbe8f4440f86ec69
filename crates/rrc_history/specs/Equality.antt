-- SPDX-License-Identifier: MIT
-- Which bodies, entries and snapshots are the same, octet for octet.
use Rattle.std.specs.Prelude.{◌≡◌, Bool, false, ◌&&◌, ◌==◌, nat_eq}
use Rattle.std.specs.Bool.{Decides}
use Rattle.std.specs.Cmp.Lexicographic.{pointwise}
use Rattle.rrc_name.specs.Key.{key_eq}
use Rattle.rrc_history.specs.declared.body.Body.{Body}
use Rattle.rrc_history.specs.declared.body.Body.TheVariants.{Positive, Negative, Failure}
use Rattle.rrc_history.specs.declared.rules.Rules.{Rules}
use Rattle.rrc_history.specs.declared.snapshot.Entry.{Entry}
use Rattle.rrc_history.specs.Lives.{rank}
use Rattle.rrc_history.specs.Snapshots.{SnapshotOf}

-- the bodies have the same trust, ttl, names and data, all in the spelling received
abbrev pub body_eq : Body → Body → Bool
body_eq (Positive trust ttl owner items) (Positive trust' ttl' owner' items') =
    rank trust == rank trust' && (ttl == ttl' && (pointwise nat_eq owner owner' && pointwise (pointwise nat_eq) items items'))
body_eq (Negative trust ttl owner soa) (Negative trust' ttl' owner' soa') =
    rank trust == rank trust' && (ttl == ttl' && (pointwise nat_eq owner owner' && pointwise nat_eq soa soa'))
body_eq (Failure ttl) (Failure ttl') = ttl == ttl'
body_eq body other = false

-- the entries have the same key, body, moment and number
abbrev pub entry_eq : Entry → Entry → Bool
entry_eq entry other = key_eq entry.key other.key && (body_eq entry.body other.body && (entry.moment == other.moment && entry.number == other.number))

-- the rules have the same numbers
abbrev pub rules_eq : Rules → Rules → Bool
rules_eq rules other = rules.capacity == other.capacity && (rules.chapter == other.chapter && rules.stale == other.stale)

-- the snapshots have the same rules, the same first number and the same entries in the same order
abbrev pub snapshot_eq : SnapshotOf → SnapshotOf → Bool
snapshot_eq snapshot other =
    rules_eq snapshot.rules other.rules && (snapshot.first == other.first && pointwise entry_eq snapshot.entries other.entries)

-- snapshots that are the same are one
abbrev pub SameAreOne : Type 0
SameAreOne = (snapshot other : SnapshotOf) → Decides (snapshot_eq snapshot other) (snapshot ≡ other)
