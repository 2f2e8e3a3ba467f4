-- How marks begin (RFC 4340, sections 7.1 and 8.1), and what makes them sound.
use Rattle.std.specs.Prelude.{ℕ, ◌^◌, ◌<◌, Option}
use Rattle.seq_circle.specs.Circle.{IsFrom, down}
use Rattle.dccp_packets.specs.declared.header.PacketType.{PacketType}
use Rattle.validity_windows.specs.declared.marks.Marks.{Marks}
use Rattle.validity_windows.specs.Verdict.{gar_after}

-- The marks before any packet: the greatest number sent is the one before the first, GAR is ISS, and what is known of
-- the peer is 0. Both windows have one width, the feature Sequence Window's first value (section 7.5.2).
abbrev pub new_marks : ℕ → ℕ → Marks
new_marks iss width = record {
  iss = iss;
  gss = down iss 1;
  gar = iss;
  isr = 0;
  gsr = 0;
  osr = 0;
  own_w = width;
  peer_w = width;
}

-- The first packet received sets the first and the greatest number received, and raises GAR. OSR is ISR until the
-- connection is open (own).
abbrev pub begun : Marks → PacketType → ℕ → Option ℕ → Marks
begun m kind number ack = record m { isr = number; gsr = number; osr = number; gar = gar_after m.gar kind ack }

-- Sound marks: iss <= gar <= gss and isr <= gsr, gss fewer than 2^47 after iss, and gsr fewer than 2^47 after isr. So
-- at least one packet was sent (own).
pub record AreSoundMarks (m : Marks) : Type 0 where
  pub acknowledged : IsFrom m.iss m.gar
  pub sent : IsFrom m.gar m.gss
  pub few_sent : IsFrom m.iss m.gss
  pub few_received : IsFrom m.isr m.gsr

-- every mark is a sequence number, as those of the program are
pub record AreNumbers (m : Marks) : Type 0 where
  pub iss : m.iss < 2 ^ 48
  pub gss : m.gss < 2 ^ 48
  pub gar : m.gar < 2 ^ 48
  pub isr : m.isr < 2 ^ 48
  pub gsr : m.gsr < 2 ^ 48
  pub osr : m.osr < 2 ^ 48
