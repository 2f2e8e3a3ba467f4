-- First numbers that nobody without the key can guess (RFC 4340, section 7.2, drawn as RFC 1948 does for TCP; own).
use Rattle.std.specs.Prelude.{ℕ, ◌+◌, ◌*◌, List, ◌++◌}
use Rattle.byteorder.specs.Endian.{big_bytes, big_number}
use Rattle.dccp_listener.specs.declared.peer.Peer.{Peer}
use Rattle.init_cookies.specs.Keyed.{keyed_hash}
use Rattle.seq_circle.specs.Circle.{residue}

-- the addresses and ports of both ends
abbrev pub named_ends : List ℕ → ℕ → Peer → List ℕ
named_ends own port peer = ((own ++ big_bytes 2 port) ++ peer.address) ++ big_bytes 2 peer.port

-- the first 48 bits of their keyed hash, and a clock of four microseconds: 250 times the milliseconds
abbrev pub keyed_number : List ℕ → List ℕ → ℕ → Peer → ℕ → ℕ
keyed_number key own port peer now = residue (big_number 6 (keyed_hash key (named_ends own port peer)) + residue now * 250)
