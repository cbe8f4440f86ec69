-- SPDX-License-Identifier: MIT
-- How what lets a thread look at a shelf lies in the machine: one pointer.
use Rattle.std.proofs.Common.{refl}
use Rattle.std.specs.Prelude.{ℕ, ◌≡◌, Option, None, Some, IsSome}
use mir.Val.{Val, vptr, vstruct, vcons, vnil}
use denote.Signature.{Slot, plain}
use Rattle.rrc_share.specs.contracts.cache_shelf.CacheShelf.{the_row as T}
use Rattle.rrc_c.specs.contracts.sight.Glance as Glance
use Rattle.rrc_c.specs.contracts.sight.Sight as Sight

abbrev pub FromGlance : Slot 0
FromGlance = plain (λ _. Glance.the_row)

abbrev pub FromSight : Slot 0
FromSight = plain (λ _. Sight.the_row)

-- a struct of a pointer
abbrev pub word : ℕ → ℕ → Val
word b o = vstruct (vcons (vptr b o) vnil)

-- where a shelf is lent, which one
pub by_held : {G : Type 1} (held : Option T.Denot) → IsSome held → ((shelf : T.Denot) → held ≡ Some shelf → G) → G
by_held None some step = let no : ⊥ = cc in absurd no
by_held (Some shelf) some step = step shelf refl
