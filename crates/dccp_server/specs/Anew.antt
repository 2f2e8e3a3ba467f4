-- When a peer connects again while its old flow is there (own; RFC 4340, section 7.5.4).
use Rattle.std.specs.Prelude.{◌&&◌, ℕ, Bool, not, List, is_some}
use Rattle.dccp_packets.specs.Grammar.{decoded}
use Rattle.server_peers.specs.declared.life.Life.{Life}
use Rattle.server_peers.specs.declared.life.Signs.{Signs}
use Rattle.server_peers.specs.declared.rules.Rules.{Rules}
use Rattle.dccp_uses.specs.Anew.{refuses_sync, sync_refused}

-- The datagram is the Reset with which a client in REQUEST refuses the last Sync of its old flow. Only someone who sees the flow's packets knows
-- its number.
abbrev pub refuses_last_sync : Rules → Life → List ℕ → Bool
refuses_last_sync rules life bytes = rules.ends_old_flows && refuses_sync life.sync bytes

-- The peer has connected again: the datagram was heard, and answered with a Sync.
abbrev pub begins_anew : Rules → Life → List ℕ → Signs → Bool
begins_anew rules life bytes signs = signs.synced && refuses_last_sync rules life bytes

-- What a datagram says about its peer, as far as it is kept: a Sync that answers such a Reset is not noted, so that two exchanges at one time do
-- not hide each other's numbers.
abbrev pub signs_noted : List ℕ → Signs → Signs
signs_noted bytes signs = record signs { synced = signs.synced && not (is_some (sync_refused (decoded bytes))) }
