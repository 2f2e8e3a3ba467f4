-- What the frames of an end with an inbox report about drops (own; RFC 4340, section 11.7).
use Rattle.std.specs.Prelude.{◌≡◌, ◌⊎◌, ℕ, ◌==◌, ◌<◌, ◌^◌, Bool, true, false, IsTrue, List, [], ◌∷◌, ◌++◌, length, Option, Some, None, Result, Ok, Err, if◌then◌else◌}
use Rattle.std.specs.List.{All}
use Rattle.seq_circle.specs.Circle.{distance}
use Rattle.dccp_options.specs.Grammar.{Entry, options_of}
use Rattle.dccp_options.specs.Kinds.{data_dropped, slow_receiver}
use Rattle.dccp_options.specs.declared.option.OptFault.{OptFault}
use Rattle.dccp_options.specs.Vectors.{VectorReport, joined_report}
use Rattle.dccp_packets.specs.Grammar.{Parts, decoded, packet_type}
use Rattle.dccp_packets.specs.Kinds.{is_data}
use Rattle.dccp_packets.specs.Outgoing.{Outgoing}
use Rattle.dccp_sum.specs.Checksum.{checked}
use Rattle.dccp_sum.specs.declared.pseudo_header.Pseudo.{Pseudo}
use Rattle.data_dropped.specs.Drops.{code_at, drop_bytes, drop_code, tells_all}
use Rattle.dccp_endpoint.specs.Lengthening.{says_more}
use Rattle.data_dropped.specs.Frames.{acknowledged_by, said}
use Rattle.data_dropped.specs.Inbox.{InboxState}
use Rattle.data_dropped.specs.Reports.{drop_options}

-- the options of a packet
abbrev pub options_in_packet : Parts → List (Result Entry OptFault)
options_in_packet p = options_of p.options (is_data (packet_type p.header.kind))

-- the data of its Data Dropped options
abbrev pub drops_in_packet : Parts → List (List ℕ)
drops_in_packet p = drop_options (options_in_packet p)

-- the report as one option, if it has a byte
abbrev pub one_option : List ℕ → List (List ℕ)
one_option bytes = if length bytes == 0 then [] else bytes ∷ []

-- the report, if anything is said
abbrev pub told_if : Bool → List ℕ → List (List ℕ)
told_if true bytes = one_option bytes
told_if false bytes = []

-- What a packet of the end reports once it has gone out: an Ack or a DataAck has the report at the number that it
-- acknowledges, if that report has a byte and the packet has room for all that is to be said.
abbrev pub told_by_ack : InboxState → Parts → Option ℕ → List (List ℕ)
told_by_ack held p None = []
told_by_ack held p (Some ack) = told_if (says_more p (said held ack)) (drop_bytes held.drops ack)

-- an option that says nothing to an end: Data Dropped, or Slow Receiver
abbrev pub IsPassedOver : Result Entry OptFault → Type 0
IsPassedOver (Ok entry) = (entry.kind ≡ data_dropped) ⊎ ((entry.kind ≡ slow_receiver) × (entry.body ≡ []))
IsPassedOver (Err fault) = ⊥

-- A frame of the end went out as this one. The same numbers are stated for it; it is a packet with the same number, ports, type, fields and
-- data; and the checksums are right. Its Data Dropped options are what is to be reported, and the options after those that it had say nothing to
-- an end.
pub record TellsItsDrops (pseudo : Pseudo) (held : InboxState) (own frame : Outgoing) : Type 0 where
  pub before : Parts
  pub packet : Parts
  pub was_packet : decoded own.bytes ≡ Ok before
  pub is_packet : decoded frame.bytes ≡ Ok packet
  pub was_accepted : checked pseudo own.bytes ≡ Ok tt
  pub is_accepted : checked pseudo frame.bytes ≡ Ok tt
  pub same_told : frame ≡ record own { bytes = frame.bytes }
  pub same_from : packet.header.from ≡ before.header.from
  pub same_to : packet.header.to ≡ before.header.to
  pub same_number : packet.header.number ≡ before.header.number
  pub same_kind : packet.header.kind ≡ before.header.kind
  pub same_data : packet.payload ≡ before.payload
  pub more : List (Result Entry OptFault)
  pub following : options_in_packet packet ≡ options_in_packet before ++ more
  pub are_passed_over : All IsPassedOver more
  pub tells : drops_in_packet packet ≡ told_by_ack held before (acknowledged_by own.ack before.header.kind)

-- the frame of a step went out, as one that reports its drops
pub record FrameTells (pseudo : Pseudo) (held : InboxState) (own : Outgoing) (sent : Option Outgoing) : Type 0 where
  pub frame : Outgoing
  pub goes_out : sent ≡ Some frame
  pub tells : TellsItsDrops pseudo held own frame

-- what is read of the Data Dropped options of a packet that acknowledges this number
abbrev pub report_in_packet : ℕ → Parts → Option VectorReport
report_in_packet ack p = joined_report ack (drops_in_packet p)

-- From a frame that reports its drops, a code of a number is read only if it is that number's; and if nothing was cut
-- off, each of the 2,048 numbers from the acknowledgement number down has its code.
pub record IsReadAsDrops (held : InboxState) (ack : ℕ) (r : VectorReport) : Type 0 where
  pub only : (n code : ℕ) → n < 2 ^ 48 → code_at r.ack r.bytes n ≡ Some code → drop_code held.drops n ≡ Some code
  pub all : (n : ℕ) → n < 2 ^ 48 → IsTrue (tells_all held.drops ack) → distance n ack < 2048 → code_at r.ack r.bytes n ≡ drop_code held.drops n
