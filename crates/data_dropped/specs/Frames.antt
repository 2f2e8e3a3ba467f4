-- What an end with a bounded inbox says after the options of its acknowledgements (own; RFC 4340, sections 11.6 and
-- 11.7).
use Rattle.std.specs.Prelude.{ℕ, ◌==◌, Bool, true, false, List, [], ◌∷◌, ◌++◌, length, Option, Some, None, Result, Ok, Err, if◌then◌else◌}
use Rattle.dccp_options.specs.Kinds.{data_dropped, slow_receiver}
use Rattle.dccp_options.specs.Written.{spelled}
use Rattle.dccp_packets.specs.Grammar.{Parts, decoded, packet_type}
use Rattle.dccp_packets.specs.Outgoing.{Outgoing}
use Rattle.dccp_packets.specs.declared.header.Kind.{Kind}
use Rattle.dccp_packets.specs.declared.reading.Malformed.{Malformed}
use Rattle.dccp_sum.specs.declared.pseudo_header.Pseudo.{Pseudo}
use Rattle.dccp_endpoint.specs.Lengthening.{lengthened_if, says_more}
use Rattle.dccp_endpoint.specs.Reporting.{is_acking}
use Rattle.data_dropped.specs.Drops.{drop_bytes}
use Rattle.data_dropped.specs.Inbox.{InboxState, is_slow}

-- the Data Dropped option of a report, if that has a byte
abbrev pub drops_said : List ℕ → List ℕ
drops_said bytes = if length bytes == 0 then [] else spelled false data_dropped bytes

-- Slow Receiver, which is one byte
abbrev pub slow_said : Bool → List ℕ
slow_said false = []
slow_said true = slow_receiver ∷ []

-- what an inbox has to say at an acknowledgement number
abbrev pub said : InboxState → ℕ → List ℕ
said held ack = drops_said (drop_bytes held.drops ack) ++ slow_said (is_slow held)

-- the acknowledgement number that the end states for a frame that is an Ack or a DataAck
abbrev pub acknowledged_by : Option ℕ → Kind → Option ℕ
acknowledged_by told kind = if is_acking (packet_type kind) then told else None

-- a frame that is this packet, by the number that it acknowledges: types other than Ack and DataAck go out unchanged
abbrev pub buffered_ack : Pseudo → InboxState → Parts → List ℕ → Option ℕ → List ℕ
buffered_ack pseudo held p frame None = frame
buffered_ack pseudo held p frame (Some ack) = lengthened_if (says_more p (said held ack)) pseudo p frame (said held ack)

-- the same, by the packet that it is
abbrev pub buffered_packet : Pseudo → Option ℕ → InboxState → List ℕ → Result Parts Malformed → List ℕ
buffered_packet pseudo told held frame (Ok p) = buffered_ack pseudo held p frame (acknowledged_by told p.header.kind)
buffered_packet pseudo told held frame (Err fault) = frame

-- A frame of an end, for which this acknowledgement number is stated, as it goes out.
abbrev pub buffered : Pseudo → Option ℕ → InboxState → List ℕ → List ℕ
buffered pseudo told held frame = buffered_packet pseudo told held frame (decoded frame)

-- the same with the numbers that are stated for it, which are unchanged
abbrev pub buffered_sent : Pseudo → InboxState → Outgoing → Outgoing
buffered_sent pseudo held sent = record sent { bytes = buffered pseudo sent.ack held sent.bytes }

-- the frame that goes out, if one does
abbrev pub buffered_frame : Pseudo → InboxState → Option Outgoing → Option Outgoing
buffered_frame pseudo held None = None
buffered_frame pseudo held (Some sent) = Some (buffered_sent pseudo held sent)
