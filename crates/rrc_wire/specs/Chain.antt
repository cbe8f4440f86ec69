-- SPDX-License-Identifier: MIT
-- Where pointers lead that follow each other with no label on the way (RFC 1035 4.1.4).
use Rattle.std.specs.Prelude.{◌≡◌, ◌<◌, ◌≤◌, ℕ, ◌+◌, ◌^◌, min, List, length, slice_index}
use Rattle.rrc_wire.specs.Item.{target_at}
use Rattle.rrc_wire.specs.Grammar.{StandsAt}

-- a pointer stands at a place, and leads to a lower one
pub record PointsTo (message : List ℕ) (place target : ℕ) : Type 0 where
  pub within : place + 2 ≤ length message
  pub top_bits : 192 ≤ slice_index message place
  pub target_is : target ≡ target_at message place
  pub lower : target < place

-- no such pointer stands at a place
abbrev pub PointsNowhere : List ℕ → ℕ → Type 0
PointsNowhere message place = (target : ℕ) → PointsTo message place target → ⊥

-- `Leads message place last`: the chain of pointers that begins at a place leads to the last one, where it ends
pub data Leads (message : List ℕ) : ℕ → ℕ → Type 0 where
  ends : {place : ℕ} → PointsNowhere message place → Leads message place place
  points : {place target last : ℕ} → PointsTo message place target → Leads message target last → Leads message place last

-- a table has for each of its places the one where its chain ends
pub record AreEnds (message ends : List ℕ) : Type 0 where
  pub lead : (place : ℕ) → place < length ends → Leads message place (slice_index ends place)

-- a table is empty, or has each place that a pointer can lead to
pub record IsTable (message ends : List ℕ) : Type 0 where
  pub are_ends : AreEnds message ends
  pub whole : 0 < length ends → length ends ≡ min (length message) (2 ^ 14)

-- a chain leads from a place to one last place, and a name stands at the first place exactly where it stands at the last
pub record LeadsToName (message : List ℕ) (place : ℕ) : Type 0 where
  pub last : ℕ
  pub leads : Leads message place last
  pub only : (other : ℕ) → Leads message place other → other ≡ last
  pub there : (name : List ℕ) (next : ℕ) → StandsAt message (length message) place name next → (behind : ℕ) × StandsAt message (length message) last name behind
  pub here : (name : List ℕ) (behind : ℕ) → StandsAt message (length message) last name behind → (next : ℕ) × StandsAt message (length message) place name next
