-- Marks as whole numbers, whose residues an end keeps, and what is valid by their plain order (RFC 4340, sections 7.5.1
-- and 7.5.3; own). Each number of a packet is the residue of just one whole number in ISR to ISR + 2^48 - 1, and each
-- acknowledgement number that of just one in ISS to ISS + 2^48 - 1.
--
-- The marks themselves lie within the first half of that turn.
use Rattle.std.specs.Prelude.{ℕ, ◌+◌, ◌-◌, ◌*◌, ◌/◌, ◌^◌, ◌<◌, ◌≤◌, max, Option, Some, None}
use Rattle.seq_circle.specs.Circle.{residue, distance}
use Rattle.dccp_packets.specs.declared.header.PacketType.{PacketType}
use Rattle.dccp_packets.specs.declared.header.PacketType.TheVariants as types
use Rattle.validity_windows.specs.declared.marks.Marks.{Marks}
use Rattle.validity_windows.specs.declared.verdict.Verdict.{Verdict}
use Rattle.validity_windows.specs.declared.verdict.Verdict.TheVariants.{SyncFor, Drop}

-- the marks that an end keeps of whole ones
abbrev pub residues : Marks → Marks
residues w = record {
  iss = residue w.iss;
  gss = residue w.gss;
  gar = residue w.gar;
  isr = residue w.isr;
  gsr = residue w.gsr;
  osr = residue w.osr;
  own_w = w.own_w;
  peer_w = w.peer_w;
}

-- whole marks: iss <= gar <= gss and isr <= gsr, with fewer than 2^47 numbers after the first of each end
pub record IsWhole (w : Marks) : Type 0 where
  pub acknowledged : w.iss ≤ w.gar
  pub sent : w.gar ≤ w.gss
  pub few_sent : w.gss < w.iss + 2 ^ 47
  pub received : w.isr ≤ w.gsr
  pub few_received : w.gsr < w.isr + 2 ^ 47

-- marks counted on from the first number of each end
abbrev pub unrolled : Marks → Marks
unrolled m = record m {
  gss = m.iss + distance m.iss m.gss;
  gar = m.iss + distance m.iss m.gar;
  gsr = m.isr + distance m.isr m.gsr;
}

-- SWL, SWH and AWL as whole numbers; AWH is GSS
abbrev pub whole_sequence_low : Marks → ℕ
whole_sequence_low w = max (w.gsr + 1 - w.peer_w / 4) w.isr

-- SWH
abbrev pub whole_sequence_high : Marks → ℕ
whole_sequence_high w = w.gsr + (3 * w.peer_w + 3) / 4

-- AWL
abbrev pub whole_ack_low : Marks → ℕ
whole_ack_low w = max (w.gss + 1 - w.own_w) w.iss

-- low <= ack <= high, where there is an acknowledgement number
abbrev pub AckLies : ℕ → ℕ → Option ℕ → Type 0
AckLies low high None = Unit {0}
AckLies low high (Some ack) = (low ≤ ack) × (ack ≤ high)

-- the acknowledgement number on the circle, if there is one
abbrev pub residue_of : Option ℕ → Option ℕ
residue_of None = None
residue_of (Some ack) = Some (residue ack)

-- the three rules: in the window, after GSR, and from SWL on with no upper end
abbrev pub LiesInWindow : Marks → ℕ → Option ℕ → Type 0
LiesInWindow w n ack =
    (whole_sequence_low w ≤ n) × (n ≤ whole_sequence_high w) × AckLies (whole_ack_low w) w.gss ack

-- after GSR, and acknowledging from GAR on
abbrev pub LiesAfterGreatest : Marks → ℕ → Option ℕ → Type 0
LiesAfterGreatest w n ack = (w.gsr < n) × (n ≤ whole_sequence_high w) × AckLies w.gar w.gss ack

-- from SWL on, fewer than 2^47 numbers of them
abbrev pub LiesFromLowEnd : Marks → ℕ → Option ℕ → Type 0
LiesFromLowEnd w n ack =
    (whole_sequence_low w ≤ n) × (n < whole_sequence_low w + 2 ^ 47) × AckLies (whole_ack_low w) w.gss ack

-- the numbers that are valid on each type (section 7.5.3)
abbrev pub HasValidNumbers : Marks → PacketType → ℕ → Option ℕ → Type 0
HasValidNumbers w types.Request n ack = LiesInWindow w n ack
HasValidNumbers w types.Response n ack = LiesInWindow w n ack
HasValidNumbers w types.Data n ack = LiesInWindow w n ack
HasValidNumbers w types.Ack n ack = LiesInWindow w n ack
HasValidNumbers w types.DataAck n ack = LiesInWindow w n ack
HasValidNumbers w types.CloseReq n ack = LiesAfterGreatest w n ack
HasValidNumbers w types.Close n ack = LiesAfterGreatest w n ack
HasValidNumbers w types.Reset n ack = LiesAfterGreatest w n ack
HasValidNumbers w types.Sync n ack = LiesFromLowEnd w n ack
HasValidNumbers w types.SyncAck n ack = LiesFromLowEnd w n ack

-- what answers a packet of each type whose numbers are not valid (sections 7.5.3 and 7.5.4)
abbrev pub refusal : Marks → PacketType → ℕ → Verdict
refusal m types.Request number = SyncFor number
refusal m types.Response number = SyncFor number
refusal m types.Data number = SyncFor number
refusal m types.Ack number = SyncFor number
refusal m types.DataAck number = SyncFor number
refusal m types.CloseReq number = SyncFor number
refusal m types.Close number = SyncFor number
refusal m types.Reset number = SyncFor m.gsr
refusal m types.Sync number = Drop
refusal m types.SyncAck number = Drop

-- an acknowledgement number, if there is one, counted from ISS on within one turn
abbrev pub IsAckOfTurn : ℕ → Option ℕ → Type 0
IsAckOfTurn iss None = Unit {0}
IsAckOfTurn iss (Some ack) = (iss ≤ ack) × (ack < iss + 2 ^ 48)

-- the greatest numbers received, by the plain order; a Sync's acknowledgement does not count (section 7.1)
abbrev pub whole_gar_after : ℕ → PacketType → Option ℕ → ℕ
whole_gar_after gar types.Sync ack = gar
whole_gar_after gar kind None = gar
whole_gar_after gar kind (Some ack) = max gar ack

-- what a valid packet other than Reset raises
abbrev pub whole_taken : Marks → PacketType → ℕ → Option ℕ → Marks
whole_taken w kind n ack = record w { gsr = max w.gsr n; gar = whole_gar_after w.gar kind ack }

-- the first packet received, as a whole number
abbrev pub whole_begun : Marks → PacketType → ℕ → Option ℕ → Marks
whole_begun w kind n ack = record w { isr = n; gsr = n; osr = n; gar = whole_gar_after w.gar kind ack }
