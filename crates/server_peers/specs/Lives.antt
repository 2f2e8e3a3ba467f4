-- What an owner knows of a flow besides its end: since when it is in its phase, and its signs of life (own; the phases are those of RFC 4340,
-- section 8.4).
use Rattle.std.specs.Prelude.{◌==◌, ℕ, true, false, List, Option, Some, None, unwrap_or, if◌then◌else◌}
use Rattle.std.specs.Map.{lookup}
use Rattle.dccp_listener.specs.Peers.{FlowEnd, is_peer}
use Rattle.dccp_listener.specs.Runs.{CallTold, Stepped}
use Rattle.dccp_listener.specs.declared.peer.Peer.{Peer}
use Rattle.server_peers.specs.Places.{kept_then}
use Rattle.server_peers.specs.declared.life.Life.{Life}
use Rattle.server_peers.specs.declared.life.Signs.{Signs}
use Rattle.dccp_states.specs.declared.outcome.Outcome.{Outcome}
use Rattle.dccp_states.specs.declared.outcome.Outcome.TheVariants.{Took, Synced}
use Rattle.dccp_states.specs.declared.phase.Phase.{Phase}
use Rattle.dccp_states.specs.declared.phase.Phase.TheVariants as phases
use Rattle.dccp_states.specs.declared.seen.Seen.TheVariants.{Received}

-- the lives of the peers that have a flow, in the order of the peers
abbrev pub Lives : Type 0
Lives = List (Peer × Life)

-- a life that has not begun
abbrev pub no_life : Life
no_life = record { phase = phases.Closed; since = 0; taken = 0; sync = None; user = 0 }

-- the life of a peer, which has not begun if it has no flow
abbrev pub life_of : Lives → Peer → Life
life_of lives peer = unwrap_or (lookup (is_peer peer) lives) no_life

-- the phases as numbers
abbrev pub rank_of : Phase → ℕ
rank_of phases.Closed = 0
rank_of phases.Listen = 1
rank_of phases.Request = 2
rank_of phases.Respond = 3
rank_of phases.PartOpen = 4
rank_of phases.Open = 5
rank_of phases.CloseReq = 6
rank_of phases.Closing = 7
rank_of phases.TimeWait = 8

-- the connection is in this phase; if it was before, it has been since the same time
abbrev pub stands_in : ℕ → Phase → Life → Life
stands_in now phase life = if rank_of life.phase == rank_of phase then life else record life { phase = phase; since = now }

-- What an outcome says about a peer. A packet that was taken is the only sign of life; one that was answered with a Sync is none.
abbrev pub signs_in : Outcome → Signs
signs_in (Took delivered) = record { taken = true; synced = false }
signs_in (Synced number) = record { taken = false; synced = true }
signs_in _ = record { taken = false; synced = false }

-- signs that say nothing about a peer
abbrev pub no_signs : Signs
no_signs = record { taken = false; synced = false }

-- what a deed says about its peer
abbrev pub signs_of : CallTold → Signs
signs_of (Stepped (Some (Received outcome))) = signs_in outcome
signs_of _ = record { taken = false; synced = false }

-- The life of a flow goes on. A Sync that was sent has the greatest number that its end has sent.
abbrev pub lives_on : ℕ → FlowEnd → Signs → Life → Life
lives_on now e signs life =
    record (stands_in now e.state.phase life) {
      taken = if signs.taken then now else life.taken;
      sync = if signs.synced then Some e.state.marks.gss else life.sync;
    }

-- the life of a peer goes on from this one with its end, and ends with it
abbrev pub life_then : ℕ → Lives → Peer → Option FlowEnd → Signs → Life → Lives
life_then now lives peer end signs life = kept_then lives peer (λ e. lives_on now e signs life) end

-- the owner sets a number for a peer's flow, if it has one
abbrev pub user_written : ℕ → Lives → Peer → Option FlowEnd → Lives
user_written user lives peer None = lives
user_written user lives peer (Some e) = kept_then lives peer (λ e. record (life_of lives peer) { user = user }) (Some e)
