-- How the owner of a server's end notices that its client connects again from the same port (own; RFC 4340, section 8.5, step 4).
use Rattle.std.specs.Prelude.{◌==◌, ℕ, Bool, false, List, Option, Some, None, Result, Ok, Err, if◌then◌else◌}
use Rattle.dccp_packets.specs.Grammar.{Parts, decoded}
use Rattle.dccp_packets.specs.ResetCodes.{number_of_code}
use Rattle.dccp_packets.specs.declared.header.Kind.{Kind}
use Rattle.dccp_packets.specs.declared.header.Kind.TheVariants as kind
use Rattle.dccp_packets.specs.declared.reading.Malformed.{Malformed}
use Rattle.dccp_packets.specs.declared.reset_code.ResetCode.TheVariants as codes

-- A Reset that a client in REQUEST sends for a Sync (RFC 4340, section 8.5, step 4): the number that it acknowledges.
abbrev pub refused_number : Kind → Option ℕ
refused_number (kind.Reset ack code detail) = if code == number_of_code codes.PacketError then Some ack else None
refused_number _ = None

-- the same of bytes
abbrev pub sync_refused : Result Parts Malformed → Option ℕ
sync_refused (Ok parts) = refused_number parts.header.kind
sync_refused (Err _) = None

-- both numbers are there, and they are equal
abbrev pub is_same_number : Option ℕ → Option ℕ → Bool
is_same_number (Some a) (Some b) = a == b
is_same_number _ _ = false

-- The datagram is the Reset with which a client in REQUEST refuses the last Sync of its old connection, which has this number. Only someone who
-- sees the connection's packets knows it.
abbrev pub refuses_sync : Option ℕ → List ℕ → Bool
refuses_sync last bytes = is_same_number last (sync_refused (decoded bytes))
