-- SPDX-License-Identifier: MIT
-- What lets a thread look at a shelf may go to another thread, since a shared shelf may be read by several.
use base.Shift.{Keyless}
use denote.RawPtr.{Ptr}
use denote.Struct.Struct.{exits_of}
use denote.Struct.Owning.{shape, fields, to}
use denote.Param.Send.{IsSend, AllSend, owning_send, struct_send, sendable}
use Rattle.std.specs.Prelude.{ℕ, [], ◌∷◌, Option, None, Some}
use Rattle.std_alloc.proofs.SendSync.{quiet, seen}
use Rattle.rrc_c.specs.Handles.{sight_owns}
use Rattle.rrc_share.specs.contracts.cache_shelf.CacheShelf as Shelf
use Rattle.rrc_share.proofs.cache_shelf.CacheShelf.TheSendSync.{the_sync as shelf}
use Rattle.rrc_c.specs.contracts.sight.Sight.{the_row, the_type}

lent : (at : Ptr) (life : ℕ) (held : Option Shelf.the_row.Denot) → Keyless (sight_owns at life held)
lent at life None = tt
lent at life (Some held) = (tt, seen Shelf.the_row shelf at held (life ∷ []))

pub send : IsSend the_row
send =
    let all : AllSend (fields the_type) = (search sendable, tt) in
    owning_send the_type all (λ d. lent d.at d.life d.shelf)
    (λ k. quiet (to the_type) (exits_of k (fields the_type)) ((struct_send (shape the_type) all).leaving k))
