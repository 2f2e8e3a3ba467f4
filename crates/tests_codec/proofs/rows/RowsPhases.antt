-- The tables of the phases (RFC 4340, section 8.5), computed from the definitions: a row a phase, and in it an entry for each type of packet, in
-- the order of the types' codes. They were written by hand, from the steps of the standard.
use Rattle.std.specs.Prelude.{◌≡◌, refl, Bool, true, false, List, [], ◌∷◌, map}
use Rattle.dccp_packets.specs.declared.header.PacketType.{PacketType}
use Rattle.dccp_packets.specs.declared.header.PacketType.TheVariants as types
use Rattle.dccp_states.specs.Entrance.{gate}
use Rattle.dccp_states.specs.Phases.{after}
use Rattle.dccp_states.specs.Unexpected.{unexpected}
use Rattle.dccp_states.specs.declared.entrance.Entrance.{Entrance}
use Rattle.dccp_states.specs.declared.entrance.Entrance.TheVariants.{Accept, Check, InRequest, NoConnection, PacketError, Stray}
use Rattle.dccp_states.specs.declared.phase.Phase.{Phase}
use Rattle.dccp_states.specs.declared.phase.Phase.TheVariants.{CloseReq, Closed, Closing, Listen, Open, PartOpen, Request, Respond, TimeWait}
use Rattle.dccp_states.specs.declared.phase.Role.{Role}
use Rattle.dccp_states.specs.declared.phase.Role.TheVariants.{Client, Server}
use Rattle.dccp_states.specs.declared.reply.Reply.{Reply}
use Rattle.dccp_states.specs.declared.reply.Reply.TheVariants.{Ack, Close, Nothing, ResetClosed, Response, SyncAck, Torn}

abbrev pub all_types : List PacketType
all_types =
    types.Request ∷ types.Response ∷ types.Data ∷ types.Ack ∷ types.DataAck ∷ types.CloseReq ∷ types.Close ∷ types.Reset ∷ types.Sync
    ∷ types.SyncAck ∷ []

-- what each type is in a phase, the phase after it, and the reply
abbrev pub entrances : Phase → List Entrance
entrances phase = map (λ kind. gate phase kind) all_types

abbrev pub phase_of : Phase × Reply → Phase
phase_of (phase, reply) = phase

abbrev pub reply_of : Phase × Reply → Reply
reply_of (phase, reply) = reply

abbrev pub phases_after : Phase → List Phase
phases_after phase = map (λ kind. phase_of (after phase kind)) all_types

abbrev pub replied : Phase → List Reply
replied phase = map (λ kind. reply_of (after phase kind)) all_types

-- whether a type is unexpected from a number before OSR, and from one that is not
abbrev pub out_of_place : Role → Phase → List (Bool × Bool)
out_of_place role phase = map (λ kind. (unexpected role phase kind false, unexpected role phase kind true)) all_types

abbrev pub out_of_place_at_client : Phase → List (Bool × Bool)
out_of_place_at_client phase = out_of_place Client phase

abbrev pub out_of_place_at_server : Phase → List (Bool × Bool)
out_of_place_at_server phase = out_of_place Server phase

-- in its place, not from OSR on, and never in its place
abbrev pub in_place : Bool × Bool
in_place = (false, false)

abbrev pub late : Bool × Bool
late = (false, true)

abbrev pub misplaced : Bool × Bool
misplaced = (true, true)

tables_of_phases :
    -- What a type is
    (entrances Closed ≡ NoConnection ∷ NoConnection ∷ NoConnection ∷ NoConnection ∷ NoConnection ∷ NoConnection ∷ NoConnection ∷ Stray ∷ NoConnection ∷ NoConnection ∷ [])
    × (entrances Listen ≡ Accept ∷ NoConnection ∷ NoConnection ∷ NoConnection ∷ NoConnection ∷ NoConnection ∷ NoConnection ∷ Stray ∷ NoConnection ∷ NoConnection ∷ [])
    × (entrances Request ≡ PacketError ∷ InRequest ∷ PacketError ∷ PacketError ∷ PacketError ∷ PacketError ∷ PacketError ∷ InRequest ∷ PacketError ∷ PacketError ∷ [])
    × (entrances Respond ≡ Check ∷ Check ∷ Check ∷ Check ∷ Check ∷ Check ∷ Check ∷ Check ∷ Check ∷ Check ∷ [])
    × (entrances PartOpen ≡ Check ∷ Check ∷ Check ∷ Check ∷ Check ∷ Check ∷ Check ∷ Check ∷ Check ∷ Check ∷ [])
    × (entrances Open ≡ Check ∷ Check ∷ Check ∷ Check ∷ Check ∷ Check ∷ Check ∷ Check ∷ Check ∷ Check ∷ [])
    × (entrances CloseReq ≡ Check ∷ Check ∷ Check ∷ Check ∷ Check ∷ Check ∷ Check ∷ Check ∷ Check ∷ Check ∷ [])
    × (entrances Closing ≡ Check ∷ Check ∷ Check ∷ Check ∷ Check ∷ Check ∷ Check ∷ Check ∷ Check ∷ Check ∷ [])
    × (entrances TimeWait ≡ NoConnection ∷ NoConnection ∷ NoConnection ∷ NoConnection ∷ NoConnection ∷ NoConnection ∷ NoConnection ∷ Stray ∷ NoConnection ∷ NoConnection ∷ [])
    -- The phases after
    × (phases_after Closed ≡ Closed ∷ Closed ∷ Closed ∷ Closed ∷ Closed ∷ Closed ∷ Closed ∷ TimeWait ∷ Closed ∷ Closed ∷ [])
    × (phases_after Listen ≡ Listen ∷ Listen ∷ Listen ∷ Listen ∷ Listen ∷ Listen ∷ Listen ∷ TimeWait ∷ Listen ∷ Listen ∷ [])
    × (phases_after Request ≡ Request ∷ PartOpen ∷ Request ∷ Request ∷ Request ∷ Request ∷ Request ∷ TimeWait ∷ Request ∷ Request ∷ [])
    × (phases_after Respond ≡ Respond ∷ Respond ∷ Respond ∷ Open ∷ Open ∷ Respond ∷ Closed ∷ TimeWait ∷ Open ∷ Open ∷ [])
    × (phases_after PartOpen ≡ PartOpen ∷ PartOpen ∷ Open ∷ Open ∷ Open ∷ Closing ∷ Closed ∷ TimeWait ∷ PartOpen ∷ Open ∷ [])
    × (phases_after Open ≡ Open ∷ Open ∷ Open ∷ Open ∷ Open ∷ Closing ∷ Closed ∷ TimeWait ∷ Open ∷ Open ∷ [])
    × (phases_after CloseReq ≡ CloseReq ∷ CloseReq ∷ CloseReq ∷ CloseReq ∷ CloseReq ∷ CloseReq ∷ Closed ∷ TimeWait ∷ CloseReq ∷ CloseReq ∷ [])
    × (phases_after Closing ≡ Closing ∷ Closing ∷ Closing ∷ Closing ∷ Closing ∷ Closing ∷ Closed ∷ TimeWait ∷ Closing ∷ Closing ∷ [])
    × (phases_after TimeWait ≡ TimeWait ∷ TimeWait ∷ TimeWait ∷ TimeWait ∷ TimeWait ∷ TimeWait ∷ TimeWait ∷ TimeWait ∷ TimeWait ∷ TimeWait ∷ [])
    -- The replies
    × (replied Closed ≡ Nothing ∷ Nothing ∷ Nothing ∷ Nothing ∷ Nothing ∷ Nothing ∷ Nothing ∷ Torn ∷ Nothing ∷ Nothing ∷ [])
    × (replied Listen ≡ Nothing ∷ Nothing ∷ Nothing ∷ Nothing ∷ Nothing ∷ Nothing ∷ Nothing ∷ Torn ∷ Nothing ∷ Nothing ∷ [])
    × (replied Request ≡ Nothing ∷ Ack ∷ Nothing ∷ Nothing ∷ Nothing ∷ Nothing ∷ Nothing ∷ Torn ∷ Nothing ∷ Nothing ∷ [])
    × (replied Respond ≡ Response ∷ Nothing ∷ Nothing ∷ Ack ∷ Ack ∷ Nothing ∷ ResetClosed ∷ Torn ∷ SyncAck ∷ Ack ∷ [])
    × (replied PartOpen ≡ Nothing ∷ Ack ∷ Nothing ∷ Nothing ∷ Nothing ∷ Close ∷ ResetClosed ∷ Torn ∷ SyncAck ∷ Nothing ∷ [])
    × (replied Open ≡ Nothing ∷ Nothing ∷ Nothing ∷ Nothing ∷ Nothing ∷ Close ∷ ResetClosed ∷ Torn ∷ SyncAck ∷ Nothing ∷ [])
    × (replied CloseReq ≡ Nothing ∷ Nothing ∷ Nothing ∷ Nothing ∷ Nothing ∷ Nothing ∷ ResetClosed ∷ Torn ∷ SyncAck ∷ Nothing ∷ [])
    × (replied Closing ≡ Nothing ∷ Nothing ∷ Nothing ∷ Nothing ∷ Nothing ∷ Nothing ∷ ResetClosed ∷ Torn ∷ SyncAck ∷ Nothing ∷ [])
    × (replied TimeWait ≡ Nothing ∷ Nothing ∷ Nothing ∷ Nothing ∷ Nothing ∷ Nothing ∷ Nothing ∷ Torn ∷ Nothing ∷ Nothing ∷ [])
    -- At a client
    × (out_of_place_at_client Closed ≡ misplaced ∷ in_place ∷ in_place ∷ in_place ∷ in_place ∷ in_place ∷ in_place ∷ in_place ∷ in_place ∷ in_place ∷ [])
    × (out_of_place_at_client Listen ≡ misplaced ∷ in_place ∷ in_place ∷ in_place ∷ in_place ∷ in_place ∷ in_place ∷ in_place ∷ in_place ∷ in_place ∷ [])
    × (out_of_place_at_client Request ≡ misplaced ∷ in_place ∷ in_place ∷ in_place ∷ in_place ∷ in_place ∷ in_place ∷ in_place ∷ in_place ∷ in_place ∷ [])
    × (out_of_place_at_client Respond ≡ misplaced ∷ in_place ∷ misplaced ∷ in_place ∷ in_place ∷ in_place ∷ in_place ∷ in_place ∷ in_place ∷ in_place ∷ [])
    × (out_of_place_at_client PartOpen ≡ misplaced ∷ in_place ∷ in_place ∷ in_place ∷ in_place ∷ in_place ∷ in_place ∷ in_place ∷ in_place ∷ in_place ∷ [])
    × (out_of_place_at_client Open ≡ misplaced ∷ late ∷ in_place ∷ in_place ∷ in_place ∷ in_place ∷ in_place ∷ in_place ∷ in_place ∷ in_place ∷ [])
    × (out_of_place_at_client CloseReq ≡ misplaced ∷ late ∷ in_place ∷ in_place ∷ in_place ∷ in_place ∷ in_place ∷ in_place ∷ in_place ∷ in_place ∷ [])
    × (out_of_place_at_client Closing ≡ misplaced ∷ late ∷ in_place ∷ in_place ∷ in_place ∷ in_place ∷ in_place ∷ in_place ∷ in_place ∷ in_place ∷ [])
    × (out_of_place_at_client TimeWait ≡ misplaced ∷ late ∷ in_place ∷ in_place ∷ in_place ∷ in_place ∷ in_place ∷ in_place ∷ in_place ∷ in_place ∷ [])
    -- The same at a server
    × (out_of_place_at_server Closed ≡ in_place ∷ misplaced ∷ in_place ∷ in_place ∷ in_place ∷ misplaced ∷ in_place ∷ in_place ∷ in_place ∷ in_place ∷ [])
    × (out_of_place_at_server Listen ≡ in_place ∷ misplaced ∷ in_place ∷ in_place ∷ in_place ∷ misplaced ∷ in_place ∷ in_place ∷ in_place ∷ in_place ∷ [])
    × (out_of_place_at_server Request ≡ in_place ∷ misplaced ∷ in_place ∷ in_place ∷ in_place ∷ misplaced ∷ in_place ∷ in_place ∷ in_place ∷ in_place ∷ [])
    × (out_of_place_at_server Respond ≡ in_place ∷ misplaced ∷ misplaced ∷ in_place ∷ in_place ∷ misplaced ∷ in_place ∷ in_place ∷ in_place ∷ in_place ∷ [])
    × (out_of_place_at_server PartOpen ≡ in_place ∷ misplaced ∷ in_place ∷ in_place ∷ in_place ∷ misplaced ∷ in_place ∷ in_place ∷ in_place ∷ in_place ∷ [])
    × (out_of_place_at_server Open ≡ late ∷ misplaced ∷ in_place ∷ in_place ∷ in_place ∷ misplaced ∷ in_place ∷ in_place ∷ in_place ∷ in_place ∷ [])
    × (out_of_place_at_server CloseReq ≡ late ∷ misplaced ∷ in_place ∷ in_place ∷ in_place ∷ misplaced ∷ in_place ∷ in_place ∷ in_place ∷ in_place ∷ [])
    × (out_of_place_at_server Closing ≡ late ∷ misplaced ∷ in_place ∷ in_place ∷ in_place ∷ misplaced ∷ in_place ∷ in_place ∷ in_place ∷ in_place ∷ [])
    × (out_of_place_at_server TimeWait ≡ late ∷ misplaced ∷ in_place ∷ in_place ∷ in_place ∷ misplaced ∷ in_place ∷ in_place ∷ in_place ∷ in_place ∷ [])
tables_of_phases = (refl, refl, refl, refl, refl, refl, refl, refl, refl, refl, refl, refl, refl, refl, refl, refl, refl, refl, refl, refl, refl, refl, refl, refl, refl, refl, refl, refl, refl, refl, refl, refl, refl, refl, refl, refl, refl, refl, refl, refl, refl, refl, refl, refl, refl)
