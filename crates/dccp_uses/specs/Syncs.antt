-- Which datagrams an end does not hear, since it has sent too many Syncs (RFC 4340, section 7.5.4; own).
use Rattle.std.specs.Prelude.{ℕ, Bool, true, false, List, Option, Some, None, Result, Ok, Err, if◌then◌else◌}
use Rattle.dccp_packets.specs.Forms.{ack_near}
use Rattle.dccp_packets.specs.Grammar.{Parts, decoded, packet_type}
use Rattle.dccp_packets.specs.declared.header.Kind.{Kind}
use Rattle.dccp_packets.specs.declared.reading.Malformed.{Malformed}
use Rattle.validity_windows.specs.Verdict.{verdict}
use Rattle.validity_windows.specs.declared.marks.Marks.{Marks}
use Rattle.validity_windows.specs.declared.verdict.Verdict.{Verdict}
use Rattle.validity_windows.specs.declared.verdict.Verdict.TheVariants.{Valid, SyncFor, Drop}
use Rattle.dccp_endpoint.specs.End.{EndState, is_live}
use Rattle.dccp_endpoint.specs.Receiving.{read_number}
use Rattle.dccp_states.specs.declared.outcome.Why.{Why}
use Rattle.path_rules.specs.Limits.{far_syncs, is_near_greatest, near_syncs, token_taken}
use Rattle.path_rules.specs.declared.limits.TokenGrant.{TokenGrant}
use Rattle.dccp_uses.specs.Notice.{no_notice, notice_read}
use Rattle.dccp_uses.specs.declared.notice.Notice.{Notice}
use Rattle.dccp_uses.specs.declared.path.Path.{Path}
use Rattle.dccp_uses.specs.declared.reader.Reader.{Reader}

-- the verdict is a Sync
abbrev pub is_sync_verdict : Verdict → Bool
is_sync_verdict Valid = false
is_sync_verdict (SyncFor number) = true
is_sync_verdict Drop = false

-- a packet of this type with these numbers would be answered by a Sync (section 7.5.3)
abbrev pub wants_sync : Marks → Kind → ℕ → Bool
wants_sync marks kind number = is_sync_verdict (verdict marks (packet_type kind) number (ack_near marks.gss kind))

-- its number in full, if it would be
abbrev pub unanswered : Marks → Kind → Result ℕ Why → Option ℕ
unanswered marks kind (Err why) = None
unanswered marks kind (Ok number) = if wants_sync marks kind number then Some number else None

-- the same for what was read
abbrev pub number_unanswered : EndState → Result Parts Malformed → Option ℕ
number_unanswered e (Ok packet) = unanswered e.marks packet.header.kind (read_number e packet.header.number)
number_unanswered e (Err fault) = None

-- the same for a datagram, if the windows judge what arrives (section 8.5, steps 5 and 6)
abbrev pub number_judged : EndState → List ℕ → Option ℕ
number_judged e bytes = if is_live e.phase then number_unanswered e (decoded bytes) else None

-- what it says about the peer's application, if they do
abbrev pub notice_judged : EndState → Reader → List ℕ → Notice
notice_judged e reader bytes = if is_live e.phase then notice_read e reader (decoded bytes) else no_notice

-- whether a datagram is heard, and what is kept of the path then
pub record Admission : Type 0 where
  pub heard : Bool
  pub path : Path

-- the admission with the token for a number near the peer's that was taken
abbrev pub near_taken : Path → TokenGrant → Admission
near_taken path taking = record { heard = taking.granted; path = record path { near = taking.bucket } }

-- the same for a number far from the peer's
abbrev pub far_taken : Path → TokenGrant → Admission
far_taken path taking = record { heard = taking.granted; path = record path { far = taking.bucket } }

-- a token for a Sync is taken, if there is one
abbrev pub sync_bucketed : Path → Bool → ℕ → Admission
sync_bucketed path near now =
    if near then near_taken path (token_taken near_syncs path.near now) else far_taken path (token_taken far_syncs path.far now)

-- a datagram that calls for no Sync is heard
abbrev pub admitted_by : Path → Option ℕ → ℕ → ℕ → Admission
admitted_by path None gsr now = record { heard = true; path = path }
admitted_by path (Some number) gsr now = sync_bucketed path (is_near_greatest number gsr) now

-- every datagram is heard if the rule is not followed
abbrev pub admitted_within : Path → Option ℕ → ℕ → ℕ → Admission
admitted_within path number gsr now =
    if path.pace.limits_syncs then admitted_by path number gsr now else record { heard = true; path = path }

-- what a datagram that is heard says about the peer's application is in the path until its end has heard it
abbrev pub noticed : Notice → Admission → Admission
noticed notice it = record it { path = record it.path { notice = if it.heard then notice else no_notice } }

-- the same if that rule is followed
abbrev pub noticed_if : Bool → Notice → Admission → Admission
noticed_if true notice it = noticed notice it
noticed_if false notice it = it

-- whether a datagram is heard, and what is kept then
abbrev pub admitted : EndState → Path → List ℕ → ℕ → Admission
admitted e path bytes now =
    noticed_if path.pace.heeds (notice_judged e path.reader bytes) (admitted_within path (number_judged e bytes) e.marks.gsr now)
