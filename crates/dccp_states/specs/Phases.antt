-- The phase after a packet and the reply to it (RFC 4340, section 8.5, steps 9 to 15).
use Rattle.std.specs.Prelude.{Bool, true, false}
use Rattle.dccp_packets.specs.declared.header.PacketType.{PacketType}
use Rattle.dccp_packets.specs.declared.header.PacketType.TheVariants as types
use Rattle.dccp_states.specs.declared.phase.Phase.{Phase}
use Rattle.dccp_states.specs.declared.phase.Phase.TheVariants as phases
use Rattle.dccp_states.specs.declared.reply.Reply.{Reply}
use Rattle.dccp_states.specs.declared.reply.Reply.TheVariants as replies

-- the table: the phase after a packet of a type, and the reply
abbrev pub after : Phase → PacketType → Phase × Reply
-- step 9
after _ types.Reset = (phases.TimeWait, replies.Torn)
-- step 10
after phases.Request types.Response = (phases.PartOpen, replies.Ack)
-- step 11
after phases.Respond types.Request = (phases.Respond, replies.Response)
after phases.Respond types.Ack = (phases.Open, replies.Ack)
after phases.Respond types.DataAck = (phases.Open, replies.Ack)
after phases.Respond types.SyncAck = (phases.Open, replies.Ack)
after phases.Respond types.Sync = (phases.Open, replies.SyncAck)
-- step 12
after phases.PartOpen types.Response = (phases.PartOpen, replies.Ack)
after phases.PartOpen types.Data = (phases.Open, replies.Nothing)
after phases.PartOpen types.Ack = (phases.Open, replies.Nothing)
after phases.PartOpen types.DataAck = (phases.Open, replies.Nothing)
after phases.PartOpen types.SyncAck = (phases.Open, replies.Nothing)
after phases.PartOpen types.Sync = (phases.PartOpen, replies.SyncAck)
-- step 13
after phases.PartOpen types.CloseReq = (phases.Closing, replies.Close)
after phases.Open types.CloseReq = (phases.Closing, replies.Close)
-- step 14
after phases.Respond types.Close = (phases.Closed, replies.ResetClosed)
after phases.PartOpen types.Close = (phases.Closed, replies.ResetClosed)
after phases.Open types.Close = (phases.Closed, replies.ResetClosed)
after phases.CloseReq types.Close = (phases.Closed, replies.ResetClosed)
after phases.Closing types.Close = (phases.Closed, replies.ResetClosed)
-- step 15
after phases.Open types.Sync = (phases.Open, replies.SyncAck)
after phases.CloseReq types.Sync = (phases.CloseReq, replies.SyncAck)
after phases.Closing types.Sync = (phases.Closing, replies.SyncAck)
-- all others
after phase _ = (phase, replies.Nothing)

-- the connection is over, or was never begun
abbrev pub is_closed : Phase → Bool
is_closed phases.Closed = true
is_closed phases.Listen = false
is_closed phases.Request = false
is_closed phases.Respond = false
is_closed phases.PartOpen = false
is_closed phases.Open = false
is_closed phases.CloseReq = false
is_closed phases.Closing = false
is_closed phases.TimeWait = false
