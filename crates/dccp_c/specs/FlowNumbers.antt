-- The first numbers of the flows of a listener in C (own).
use Rattle.std.specs.Prelude.{ℕ}
use Rattle.server_peers.specs.FirstNumbers.{keyed_number}
use Rattle.dccp_c.specs.Listening.{peer_named}
use Rattle.dccp_c.specs.Making.{first_four}
use Rattle.dccp_c.specs.declared.flow_numbers.Key.{Key}
use Rattle.dccp_c.specs.declared.making.Settings.{Settings}
use Rattle.dccp_c.specs.declared.peer.PeerAddress.{PeerAddress}

-- the first number of a peer's flow that begins now, at a listener of these settings
abbrev pub number_by : Settings → Key → PeerAddress → ℕ → ℕ
number_by listener key peer now = keyed_number key.bytes (first_four listener.own_address) listener.own_port (peer_named peer) now
