-- A handle may go to another thread if what it holds may.
use denote.Struct.Struct.{exits_of}
use denote.Struct.Owning.{shape, fields, to}
use denote.Param.Send.{IsSend, AllSend, owning_send, struct_send, sendable}
use Rattle.std_alloc.proofs.SendSync.{quiet}
use Rattle.std_heap.proofs.Global.TheSendSync as handle
use Rattle.dccp_c.proofs.Handles.{owned}
use Rattle.dccp_c.specs.contracts.held.OwnedEnd as OwnedEnd
use Rattle.dccp_c.proofs.held.OwnedEnd.TheSendSync.{the_send as held_send}
use Rattle.dccp_c.specs.contracts.kept.EndBox.{the_row, the_type}

pub send : IsSend the_row
send =
    let all : AllSend (fields the_type) = (search sendable, (handle.the_field_send, tt)) in
    owning_send the_type all (λ d. owned OwnedEnd.the_row held_send d.alloc d.ptr d.value)
    (λ k. quiet (to the_type) (exits_of k (fields the_type)) ((struct_send (shape the_type) all).leaving k))
