-- What an end hands to its congestion control (RFC 4340, sections 10 and 11.4; which packets report is own).
use Rattle.std.specs.Prelude.{◌==◌, if◌then◌else◌, ℕ, List, [], ◌∷◌, ◌++◌, Option, Some, None, Result}
use Rattle.congestion_trait.specs.Calls.{Call, Reports, Starts}
use Rattle.dccp_options.specs.Grammar.{Entry}
use Rattle.dccp_options.specs.Vectors.{VectorReport, report_of, state_at}
use Rattle.dccp_options.specs.declared.option.OptFault.{OptFault}
use Rattle.dccp_packets.specs.declared.header.PacketType.{PacketType}
use Rattle.dccp_packets.specs.declared.header.PacketType.TheVariants as types
use Rattle.feature_lists.specs.declared.features.Feature.TheVariants.{AckRatio, Ccid}
use Rattle.feature_lists.specs.declared.features.Place.TheVariants.{Here}
use Rattle.feature_machine.specs.declared.row.Row.{Row}
use Rattle.dccp_endpoint.specs.End.{value_in}
use Rattle.dccp_endpoint.specs.Incoming.{Incoming}

-- The Ack Vectors of a packet with an acknowledgement number are a report, except on a Sync, which may acknowledge any number.
abbrev pub reported_from : PacketType → Option ℕ → Option ℕ
reported_from types.Sync ack = None
reported_from _ ack = ack

-- a report as it is handed over, with the Ack Ratio
abbrev pub handing : Option VectorReport → ℕ → List Call
handing None ratio = []
handing (Some report) ratio = Reports (state_at report.ack report.bytes) ratio ∷ []

-- what the options report of the numbers up to an acknowledgement number
abbrev pub report_calls : Option ℕ → List (Result Entry OptFault) → ℕ → List Call
report_calls None options ratio = []
report_calls (Some ack) options ratio = handing (report_of ack options) ratio

-- A congestion control is started if the value of CCID here changed, by its value before and after the packet.
abbrev pub start_calls : ℕ → ℕ → List Call
start_calls old new = if old == new then [] else Starts new ∷ []

-- What is due for a packet whose options were read to their end: its report, with the value of Ack Ratio here after the
-- packet (section 11.3), and then a start; by the rows before and after it.
abbrev pub calls_for : Incoming → List Row → List Row → List Call
calls_for a old new =
    report_calls (reported_from a.kind a.ack) a.options (value_in new AckRatio Here) ++ start_calls (value_in old Ccid Here) (value_in new Ccid Here)
