-- The Confirms that are due have room.
use Rattle.std.proofs.Common.{◌&&◌, List, subst, sym}
use Rattle.dccp_endpoint.specs.End.{EndState}
use Rattle.dccp_endpoint.specs.Faults.{counts}
use Rattle.dccp_endpoint.specs.Heeding.{DueConfirm, ReadingState, read_beside}
use Rattle.dccp_endpoint.specs.Incoming.{Incoming}
use Rattle.dccp_endpoint.specs.Speaking.{HaveRoom}
use Rattle.dccp_endpoint.proofs.Room.{confirms_have_room}
use Rattle.dccp_endpoint.proofs.connection.Connection.negotiate.Goals as goal

pub process-requires-clause-room : goal.process-requires-clause-room
process-requires-clause-room g c =
    let e : EndState = c.args.self.now in
    let a : Incoming = c.args.packet.now in
    let h : ReadingState = read_beside c.heed_options.new.self.rows c.heed_options.new.reading in
    subst (λ (confirms : List DueConfirm). HaveRoom confirms) (sym c.confirms.ensures.confirms)
    (confirms_have_room (a.newest && counts e.phase a.kind) a.ack e.rows a.options h c.rows.ensures.role.sound c.in-Ok.ensures.0)
