-- A handle of a regex may go to another thread.
use denote.Struct.Struct.{exits_of}
use denote.Struct.Owning.{shape, fields, to}
use denote.Param.Send.{IsSend, AllSend, owning_send, struct_send, sendable}
use Rattle.std.proofs.alloc.Global.TheSendSync as heap
use Rattle.bites_c.specs.contracts.held.Held as held
use Rattle.bites_c.specs.contracts.regex.Bites.{the_row, the_type}
use Rattle.bites_c.proofs.Crosses.{holds_keyless, quiet}
use Rattle.bites_c.proofs.Sent.{held_send}

pub send : IsSend the_row
send =
    let all : AllSend (fields the_type) = (search sendable, (heap.the_field_send, tt)) in
    owning_send the_type all (λ d. holds_keyless held.the_row held_send d.alloc d.at d.held)
    (λ k. quiet (to the_type) (exits_of k (fields the_type)) ((struct_send (shape the_type) all).leaving k))
