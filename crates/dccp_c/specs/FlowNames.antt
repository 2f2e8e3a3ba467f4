-- The names under which a listener in C knows its peers (own).
use Rattle.std.specs.Prelude.{ℕ, ◌==◌, ◌&&◌, Bool}
use Rattle.server_peers.specs.Naming.{stand_in}
use Rattle.dccp_c.specs.Listening.{address_of}
use Rattle.dccp_c.specs.Making.{first_four, pseudo_of}
use Rattle.dccp_c.specs.declared.making.Settings.{Settings}
use Rattle.dccp_c.specs.declared.peer.PeerAddress.{PeerAddress}

-- both settings have the library's size
abbrev pub are_sized : Settings → Settings → Bool
are_sized listener path = listener.size == 80 && path.size == 80

-- the name of the peer of a path, at a listener of these settings
abbrev pub name_by : Settings → Settings → ℕ → PeerAddress
name_by listener path turn = address_of (stand_in (first_four listener.own_address) (pseudo_of path) path.peer_port turn)
