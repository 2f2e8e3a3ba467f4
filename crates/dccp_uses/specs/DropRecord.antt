-- Which packets were reported as dropped, and why: what the owner of a sender may ask (own; RFC 4340, section 11.7).
use Rattle.std.specs.Prelude.{ℕ, List, [], ◌∷◌, ◌++◌, Option, Some, None, Result, Ok, Err}
use Rattle.circular_buffer.specs.Buffer.{keep_last}
use Rattle.data_dropped.specs.Drops.{code_at}
use Rattle.data_dropped.specs.Reports.{drop_report}
use Rattle.data_dropped.specs.declared.drops.DropEntry.{DropEntry}
use Rattle.dccp_options.specs.Grammar.{options_of}
use Rattle.dccp_options.specs.Vectors.{VectorReport}
use Rattle.dccp_packets.specs.Grammar.{Parts, decoded, packet_type}
use Rattle.dccp_packets.specs.Kinds.{is_data}
use Rattle.dccp_packets.specs.declared.reading.Malformed.{Malformed}
use Rattle.dccp_uses.specs.Notice.{new_numbers}

-- a drop is recorded: of the last 2,048 each is kept (own)
abbrev pub drop_recorded : ℕ → ℕ → List DropEntry → List DropEntry
drop_recorded number code drops = keep_last 2048 (drops ++ record { number = number; code = code } ∷ [])

-- one number, if it was dropped, by how a drop is recorded
abbrev pub recorded_if : {R : Type 0} → (ℕ → ℕ → R → R) → ℕ → Option ℕ → R → R
recorded_if one number None drops = drops
recorded_if one number (Some code) drops = one number code drops

-- the drops among these numbers, in their order
abbrev pub all_recorded : {R : Type 0} → (ℕ → ℕ → R → R) → (ℕ → Option ℕ) → List ℕ → R → R
all_recorded one code [] drops = drops
all_recorded one code (n ∷ rest) drops = all_recorded one code rest (recorded_if one n (code n) drops)

-- the drops that a report, if there is one, is the first to name
abbrev pub report_recorded : {R : Type 0} → (ℕ → ℕ → R → R) → Option ℕ → Option VectorReport → R → R
report_recorded one counted None drops = drops
report_recorded one counted (Some report) drops = all_recorded one (code_at report.ack report.bytes) (new_numbers counted report.ack) drops

-- the same for a packet that reports from this number downwards
abbrev pub packet_recorded : {R : Type 0} → (ℕ → ℕ → R → R) → Option ℕ → ℕ → Result Parts Malformed → R → R
packet_recorded one counted ack (Ok packet) drops =
    report_recorded one counted (drop_report ack (options_of packet.options (is_data (packet_type packet.header.kind)))) drops
packet_recorded one counted ack (Err fault) drops = drops

-- The record once a datagram was heard. Reports were counted up to the first number before it, and are counted up to the second after it.
abbrev pub record_after : {R : Type 0} → (ℕ → ℕ → R → R) → Option ℕ → Option ℕ → List ℕ → R → R
record_after one counted None bytes drops = drops
record_after one counted (Some ack) bytes drops = packet_recorded one counted ack (decoded bytes) drops
