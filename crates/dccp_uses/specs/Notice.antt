-- What a packet says about the application that reads an end's data (RFC 4340, sections 11.6, 11.7 and 11.7.2).
use Rattle.std.specs.Prelude.{ℕ, ◌+◌, ◌==◌, nat_le, min, Bool, true, false, ◌&&◌, ◌||◌, List, count_by, Option, Some, None, Result, Ok, Err, if◌then◌else◌}
use Rattle.std.specs.List.{list_any}
use Rattle.ack_vectors.specs.Coding.{states_down}
use Rattle.congestion_trait.specs.Flight.{is_past}
use Rattle.congestion_trait.specs.Walk.{one_if}
use Rattle.data_dropped.specs.Drops.{code_at}
use Rattle.data_dropped.specs.Reports.{drop_report}
use Rattle.dccp_endpoint.specs.Congesting.{reported_from}
use Rattle.dccp_endpoint.specs.End.{EndState}
use Rattle.dccp_endpoint.specs.Receiving.{read_number}
use Rattle.dccp_states.specs.declared.outcome.Why.{Why}
use Rattle.dccp_options.specs.Grammar.{Entry, options_of}
use Rattle.dccp_options.specs.Kinds.{slow_receiver}
use Rattle.dccp_options.specs.Vectors.{VectorReport}
use Rattle.dccp_options.specs.declared.option.OptFault.{OptFault}
use Rattle.dccp_packets.specs.Forms.{ack_near}
use Rattle.dccp_packets.specs.Grammar.{Parts, packet_type}
use Rattle.dccp_packets.specs.Kinds.{is_data}
use Rattle.dccp_packets.specs.declared.header.Kind.{Kind}
use Rattle.dccp_packets.specs.declared.reading.Malformed.{Malformed}
use Rattle.seq_circle.specs.Circle.{distance, is_before}
use Rattle.validity_windows.specs.Verdict.{verdict}
use Rattle.validity_windows.specs.declared.marks.Marks.{Marks}
use Rattle.validity_windows.specs.declared.verdict.Verdict.{Verdict}
use Rattle.validity_windows.specs.declared.verdict.Verdict.TheVariants.{Valid, SyncFor, Drop}
use Rattle.dccp_uses.specs.declared.notice.Drops.{Drops}
use Rattle.dccp_uses.specs.declared.notice.Notice.{Notice}
use Rattle.dccp_uses.specs.declared.reader.Reader.{Reader}

-- it is a Slow Receiver option (section 11.6)
abbrev pub is_slow_option : Result Entry OptFault → Bool
is_slow_option (Err _) = false
is_slow_option (Ok entry) = entry.kind == slow_receiver

-- how many numbers, from an acknowledgement number down, no report has reached before: those after the last that one has reached, at most 2,048
-- (own)
abbrev pub new_reach : Option ℕ → ℕ → ℕ
new_reach None ack = 2048
new_reach (Some counted) ack = if is_before counted ack then min 2048 (distance counted ack) else 0

-- these numbers
abbrev pub new_numbers : Option ℕ → ℕ → List ℕ
new_numbers counted ack = states_down (λ n. n) (new_reach counted ack) ack

-- it was dropped for this reason
abbrev pub is_code : ℕ → Option ℕ → Bool
is_code code None = false
is_code code (Some found) = found == code

-- it counts as an ECN mark: corrupt, delivered corrupt, or a code that no standard has given a meaning yet (section 11.7.2)
abbrev pub is_as_marked : Option ℕ → Bool
is_as_marked None = false
is_as_marked (Some code) = nat_le 3 code

-- The result of the codes of these numbers, which a report is the first to reach: how many the receive buffer dropped; and whether one was
-- dropped because of the protocol, because no application listens, or for a reason that counts as a mark, past the recovery mark (section
-- 11.7.2).
abbrev pub drops_among : Option ℕ → (ℕ → Option ℕ) → List ℕ → Drops
drops_among mark code numbers =
    record {
      full = count_by (λ n. is_code 2 (code n)) numbers;
      refused = list_any (λ n. is_code 0 (code n)) numbers;
      stopped = list_any (λ n. is_code 1 (code n)) numbers;
      marked = list_any (λ n. is_past mark n && is_as_marked (code n)) numbers;
    }

-- the drops with the code of one more number, which is past the recovery mark or not
abbrev pub drops_with_code : Drops → Bool → Option ℕ → Drops
drops_with_code drops past code =
    record {
      full = drops.full + one_if (is_code 2 code);
      refused = drops.refused || is_code 0 code;
      stopped = drops.stopped || is_code 1 code;
      marked = drops.marked || (past && is_as_marked code);
    }

-- nothing was dropped
abbrev pub no_drops : Drops
no_drops = record { full = 0; refused = false; stopped = false; marked = false }

-- what a report of drops is the first to name
abbrev pub drops_told : Reader → VectorReport → Drops
drops_told reader report = drops_among reader.mark (code_at report.ack report.bytes) (new_numbers reader.counted report.ack)

-- what a packet says: whether it is from a slow receiver, and its report of drops, if it has one
abbrev pub notice_with : Reader → Bool → Option VectorReport → Notice
notice_with reader slow None = record { slow = slow; drops = no_drops; ack = None }
notice_with reader slow (Some report) = record { slow = slow; drops = drops_told reader report; ack = Some report.ack }

-- what its options report from this number downwards, if there is one
abbrev pub drops_reported : Option ℕ → List (Result Entry OptFault) → Option VectorReport
drops_reported None items = None
drops_reported (Some ack) items = drop_report ack items

-- what these options say
abbrev pub notice_of : Reader → Option ℕ → List (Result Entry OptFault) → Notice
notice_of reader ack items = notice_with reader (list_any is_slow_option items) (drops_reported ack items)

-- nothing is said
abbrev pub no_notice : Notice
no_notice = record { slow = false; drops = no_drops; ack = None }

-- its numbers are what the peer may use now (section 8.5, step 6)
abbrev pub is_valid_verdict : Verdict → Bool
is_valid_verdict Valid = true
is_valid_verdict (SyncFor number) = false
is_valid_verdict Drop = false

-- The number from which a packet of this type reports, by its own number in full: the one that it acknowledges, near GSS if that is short
-- (section 7.6). A Sync reports nothing, nor does a packet outside of the windows.
abbrev pub report_base : Marks → Kind → Result ℕ Why → Option ℕ
report_base marks kind (Err why) = None
report_base marks kind (Ok number) =
    if is_valid_verdict (verdict marks (packet_type kind) number (ack_near marks.gss kind)) then reported_from (packet_type kind) (ack_near marks.gss kind)
    else None

-- the notice of what was read
abbrev pub notice_read : EndState → Reader → Result Parts Malformed → Notice
notice_read e reader (Ok packet) =
    notice_of reader (report_base e.marks packet.header.kind (read_number e packet.header.number))
    (options_of packet.options (is_data (packet_type packet.header.kind)))
notice_read e reader (Err fault) = no_notice
