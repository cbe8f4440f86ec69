-- SPDX-License-Identifier: MIT
-- What a seal owns may go to another thread, as a box with a reading in it may.
use denote.Struct.Struct.{exits_of}
use denote.Struct.Owning.{shape, fields, to}
use denote.Param.Send.{IsSend, AllSend, owning_send, struct_send, sendable}
use Rattle.std_alloc.proofs.SendSync.{quiet}
use Rattle.std_heap.proofs.Global.TheSendSync as handle
use Rattle.rrc_c.proofs.Crossing.{crosses}
use Rattle.rrc_shelf.specs.contracts.reading.Reading.{the_row as T}
use Rattle.rrc_shelf.proofs.reading.Reading.TheSendSync.{the_send}
use Rattle.rrc_c.specs.contracts.offers.ReadingSeal.{the_row, the_type}

pub send : IsSend the_row
send =
    let all : AllSend (fields the_type) = (search sendable, (handle.the_field_send, tt)) in
    owning_send the_type all (λ d. crosses T the_send d.alloc d.at d.reading) (λ k. quiet (to the_type) (exits_of k (fields the_type)) ((struct_send (shape the_type) all).leaving k))
