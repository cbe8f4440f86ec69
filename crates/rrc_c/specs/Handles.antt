-- SPDX-License-Identifier: MIT
-- What a handle owns, what lets a thread look at a shelf, and what calls leave in a handle.
use base.Fml.{Lft, Fml, ftrue, fsep, flft}
use base.Fraction.{full_share}
use denote.RattleType.{RattleType}
use denote.RawPtr.{Ptr}
use denote.Struct.Lending.{lent_at}
use mir.Syntax.{Ty}
use Rattle.std.specs.Prelude.{◌≡◌, ℕ, [], ◌∷◌, Option, None, Some, IsSomeAnd}
use Rattle.std.specs.Box.Ownership.{box_owns}
use Rattle.rrc_share.specs.CacheShelf.{CacheShelfOf}
use Rattle.rrc_share.specs.contracts.cache_shelf.CacheShelf.{the_row}

-- ---- seals
-- What a seal owns: nothing, or the same as a box.

abbrev pub sealed_owns : (Ty → Ptr → Fml) → (R : RattleType) → Ptr → Option R.Denot → Fml
sealed_owns token R at None = ftrue
sealed_owns token R at (Some value) = box_owns token R at value

-- ---- looks
-- What lets a thread look at a shelf: the whole token of a lifetime of its own, for which the shelf
-- is lent.

-- a `&` to that shelf
abbrev pub glance_shares : Ptr → the_row.Denot → Lft → Fml
glance_shares = lent_at the_row

-- the token of a lifetime, and a `&` to that shelf for it
abbrev pub glance_owns : Ptr → ℕ → the_row.Denot → Fml
glance_owns at life shelf = fsep (flft (life ∷ []) full_share) (glance_shares at shelf (life ∷ []))

abbrev pub sight_owns : Ptr → ℕ → Option the_row.Denot → Fml
sight_owns at life None = ftrue
sight_owns at life (Some shelf) = glance_owns at life shelf

-- ---- shelves
-- What the handle of a shelf holds before and after a call.

-- the handle held a shelf and holds one, and the fact is true of the two
abbrev pub BothHold : Option CacheShelfOf → Option CacheShelfOf → (CacheShelfOf → CacheShelfOf → Type 0) → Type 0
BothHold old new fact = IsSomeAnd old (λ before. IsSomeAnd new (fact before))

-- the same, or the handle held no shelf and holds none
abbrev pub BothOrNone : Option CacheShelfOf → Option CacheShelfOf → (CacheShelfOf → CacheShelfOf → Type 0) → Type 0
BothOrNone None new fact = new ≡ None
BothOrNone (Some before) new fact = IsSomeAnd new (fact before)
