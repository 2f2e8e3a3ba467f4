-- Which numbers are valid, by a packet's type (RFC 4340, section 7.5.3), and what a valid packet raises.
use Rattle.std.specs.Prelude.{ℕ, ◌+◌, Bool, true, ◌&&◌, Option, Some, None, if◌then◌else◌}
use Rattle.seq_circle.specs.Circle.{residue, later_of, open_end, is_within}
use Rattle.dccp_packets.specs.declared.header.PacketType.{PacketType}
use Rattle.dccp_packets.specs.declared.header.PacketType.TheVariants as types
use Rattle.validity_windows.specs.declared.marks.Marks.{Marks}
use Rattle.validity_windows.specs.declared.verdict.Verdict.{Verdict}
use Rattle.validity_windows.specs.declared.verdict.Verdict.TheVariants.{Valid, SyncFor, Drop}
use Rattle.validity_windows.specs.Windows.{sequence_low, sequence_high, ack_low, ack_high}

-- low <= ack <= high, if there is an acknowledgement number
abbrev pub is_ack_within : ℕ → ℕ → Option ℕ → Bool
is_ack_within low high None = true
is_ack_within low high (Some ack) = is_within ack low high

-- SWL <= number <= SWH
abbrev pub is_in_window : Marks → ℕ → Bool
is_in_window m number = is_within number (sequence_low m) (sequence_high m)

-- GSR < number <= SWH
abbrev pub is_after_greatest : Marks → ℕ → Bool
is_after_greatest m number = is_within number (residue (m.gsr + 1)) (sequence_high m)

-- SWL <= number, in the interval that has no upper end
abbrev pub is_not_old : Marks → ℕ → Bool
is_not_old m number = is_within number (sequence_low m) (open_end (sequence_low m))

-- The three rules: both windows; after GSR, and from GAR on; and from SWL on.
abbrev pub by_window : Marks → ℕ → Option ℕ → Verdict
by_window m number ack =
    if is_in_window m number && is_ack_within (ack_low m) (ack_high m) ack then Valid else SyncFor number

-- after GSR, and acknowledging from GAR on; anything else is answered by a Sync for this number
abbrev pub by_greatest : Marks → ℕ → Option ℕ → ℕ → Verdict
by_greatest m number ack answer =
    if is_after_greatest m number && is_ack_within m.gar (ack_high m) ack then Valid else SyncFor answer

-- from SWL on; anything else is dropped
abbrev pub by_low_end : Marks → ℕ → Option ℕ → Verdict
by_low_end m number ack =
    if is_not_old m number && is_ack_within (ack_low m) (ack_high m) ack then Valid else Drop

-- the table: which rule a type has (RFC 4340, section 7.5.3)
abbrev pub verdict : Marks → PacketType → ℕ → Option ℕ → Verdict
verdict m types.Request number ack = by_window m number ack
verdict m types.Response number ack = by_window m number ack
verdict m types.Data number ack = by_window m number ack
verdict m types.Ack number ack = by_window m number ack
verdict m types.DataAck number ack = by_window m number ack
verdict m types.CloseReq number ack = by_greatest m number ack number
verdict m types.Close number ack = by_greatest m number ack number
verdict m types.Reset number ack = by_greatest m number ack m.gsr
verdict m types.Sync number ack = by_low_end m number ack
verdict m types.SyncAck number ack = by_low_end m number ack

-- the greatest acknowledgement number received; a Sync's does not count (section 7.1)
abbrev pub gar_after : ℕ → PacketType → Option ℕ → ℕ
gar_after gar types.Sync ack = gar
gar_after gar kind None = gar
gar_after gar kind (Some ack) = later_of gar ack

-- what a valid packet other than Reset raises
abbrev pub taken : Marks → PacketType → ℕ → Option ℕ → Marks
taken m kind number ack = record m { gsr = later_of m.gsr number; gar = gar_after m.gar kind ack }
