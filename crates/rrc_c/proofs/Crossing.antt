-- SPDX-License-Identifier: MIT
-- What a seal owns may go to another thread, as a box may.
use mir.Raw.{raw}
use base.Shift.{Keyless}
use denote.Memory.{lone}
use denote.Param.Send.{IsSend}
use denote.RattleType.{RattleType}
use denote.RawPtr.{Ptr}
use Rattle.std.specs.Prelude.{Option, None, Some}
use Rattle.std.specs.Global.{Global}
use Rattle.std.proofs.Crossing as heap
use Rattle.std_alloc.proofs.SendSync.{lies}
use Rattle.std_heap.specs.contracts.GlobalAllocator.TheImpl.{ghosts}
use Rattle.rrc_c.specs.Handles.{sealed_owns}

pub crosses : (R : RattleType) → IsSend R → (alloc : Global) (at : Ptr) (held : Option R.Denot) → Keyless (sealed_owns (ghosts.dealloc_token alloc) R at held)
crosses R send alloc at None = tt
crosses R send alloc at (Some value) = (lies R send at value, heap.frees.frees alloc (raw (lone R.mir)) at)
