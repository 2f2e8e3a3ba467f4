-- The phases of an end, from what it is seen to do (RFC 4340, section 8.5).
use Rattle.std.specs.Prelude.{ℕ, ◌==◌, if◌then◌else◌, List, codes}
use Rattle.dccp_packets.specs.declared.header.Kind.{Kind}
use Rattle.dccp_packets.specs.declared.header.Kind.TheVariants as kinds
use Rattle.dccp_packets.specs.declared.header.PacketType.{PacketType}
use Rattle.dccp_states.specs.Phases.{after}
use Rattle.dccp_states.specs.declared.phase.Phase.{Phase}
use Rattle.dccp_states.specs.declared.phase.Phase.TheVariants as phases
use Rattle.bridge_pictures.specs.declared.ladder.phases.Demand.{Demand}
use Rattle.bridge_pictures.specs.declared.ladder.phases.Demand.TheVariants as asks
use Rattle.bridge_pictures.specs.declared.ladder.phases.Fate.{Fate}
use Rattle.bridge_pictures.specs.declared.ladder.phases.Fate.TheVariants as comes

-- the word for a phase, as end lines have it
abbrev pub phase_class : Phase → List ℕ
phase_class phases.Closed = codes "CLOSED"
phase_class phases.Listen = codes "LISTEN"
phase_class phases.Request = codes "REQUEST"
phase_class phases.Respond = codes "RESPOND"
phase_class phases.PartOpen = codes "PARTOPEN"
phase_class phases.Open = codes "OPEN"
phase_class phases.CloseReq = codes "CLOSEREQ"
phase_class phases.Closing = codes "CLOSING"
phase_class phases.TimeWait = codes "TIMEWAIT"

-- the phase of an end that sent a Reset of this code: the connection ends, except by Packet Error in REQUEST
abbrev pub phase_reset : Phase → ℕ → Phase
phase_reset phases.Closed code = phases.Closed
phase_reset phases.Listen code = phases.Listen
phase_reset phases.TimeWait code = phases.TimeWait
phase_reset phases.Request code = if code == 4 then phases.Request else phases.Closed
phase_reset phase code = phases.Closed

-- the phase of an end that sent a packet
abbrev pub phase_sent : Phase → Kind → Phase
phase_sent phase (kinds.Request service) = phases.Request
phase_sent phase (kinds.Response ack service) = phases.Respond
phase_sent phase (kinds.CloseReq ack) = phases.CloseReq
phase_sent phase (kinds.Close ack) = phases.Closing
phase_sent phase (kinds.Reset ack code detail) = phase_reset phase code
phase_sent phase kind = phase

-- the phase of an end to which a packet of this type came, from what became of the packet
abbrev pub phase_came : Phase → PacketType → Fate → Phase
phase_came phase kind comes.Took = (after phase kind).0
phase_came phase kind comes.WasReset = phases.TimeWait
phase_came phase kind came = phase

-- the phase of an end that was asked for something
abbrev pub phase_asked : Phase → Demand → Phase
phase_asked phase asks.GivenUp = phases.Closed
phase_asked phase asks.TimedOut = phase
phase_asked phase asks.Other = phase
