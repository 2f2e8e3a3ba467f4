-- How C learns that the client of an end connects again from its port (own; RFC 4340, section 8.5, step 4).
use Rattle.std.specs.Prelude.{◌==◌, ◌&&◌, ◌||◌, ℕ, Bool, not, List, Option, Some, None, is_some, if◌then◌else◌}
use Rattle.dccp_c.specs.declared.last_sync.LastSync.{LastSync}
use Rattle.dccp_c.specs.declared.told.Told.{Told}
use Rattle.dccp_packets.specs.Grammar.{decoded}
use Rattle.dccp_uses.specs.Anew.{refuses_sync, sync_refused}

-- the number of the last Sync, if there was one
abbrev pub sync_kept : LastSync → Option ℕ
sync_kept last = if last.is_there then Some last.number else None

-- the end has answered a datagram with a Sync
abbrev pub was_synced : Told → Bool
was_synced told = told.kind == 3

-- the end has left a datagram out, since it has answered too many
abbrev pub was_left_out : Told → Bool
was_left_out told = (told.kind == 2) && (told.cause == 12)

-- The client has connected again: its datagram refuses the last Sync, and was answered with a further one, or left out.
abbrev pub client_began_anew : Option ℕ → List ℕ → Told → Bool
client_began_anew last bytes told = (was_synced told || was_left_out told) && refuses_sync last bytes

-- The last Sync after a datagram: the one that answers it, which has this number, unless the datagram refuses a Sync, so that two exchanges at
-- one time do not hide each other's numbers.
abbrev pub sync_noted : Option ℕ → List ℕ → Told → ℕ → Option ℕ
sync_noted last bytes told number = if was_synced told && not (is_some (sync_refused (decoded bytes))) then Some number else last
