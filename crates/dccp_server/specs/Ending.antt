-- Ticks of a listener come to an end (own).
use Rattle.std.specs.Prelude.{◌≡◌, ℕ, zero, suc, ◌+◌, ◌*◌, ◌≤◌, ◌<◌, nat_le, Bool, false, List, length, Option, Some, None, is_some}
use Rattle.std.specs.List.Sorted.{IsStrictlySortedBy}
use Rattle.std.specs.Map.{keys_of, lookup}
use Rattle.dccp_listener.specs.Chain.{Calls, Fires}
use Rattle.dccp_listener.specs.Peers.{is_peer, peer_cmp}
use Rattle.dccp_listener.specs.declared.config.ListenConfig.{ListenConfig}
use Rattle.dccp_listener.specs.declared.peer.Peer.{Peer}
use Rattle.dccp_uses.specs.Upkeeps.{every_due, first_due}
use Rattle.dccp_uses.specs.declared.pace.Pace.{Pace}
use Rattle.dccp_uses.specs.declared.timed_end.Due.{Due}
use Rattle.dccp_uses.specs.declared.timed_end.Due.TheVariants as due
use Rattle.dccp_server.specs.Due.{never}
use Rattle.server_peers.specs.Lives.{Lives}
use Rattle.server_peers.specs.Rules.{first_given_up, is_none_left, life_left}
use Rattle.dccp_server.specs.Serving.{PeerDeed, Does, Follows, ServedListener, TimedDeed, Upkeeps, first_due_flow, least_wait, served_by, served_through, serving_begins}
use Rattle.server_peers.specs.declared.life.Life.{Life}
use Rattle.server_peers.specs.declared.rules.Rules.{Rules}
use Rattle.dccp_uses.specs.declared.upkeep.Upkeep.{Upkeep}

-- what is done with what is due: a timer of the peer's end fires, or a rule is followed
abbrev pub doing_due : Due → PeerDeed
doing_due (due.Timer timer) = Does (Calls (Fires timer))
doing_due due.Rules = Follows

-- the listener after what is due was done, if something is due
abbrev pub due_served : ℕ → ServedListener → Option (Peer × Due) → ServedListener
due_served now s None = s
due_served now s (Some it) = served_by now s it.0 (doing_due it.1)

-- a listener after this many ticks at one time
abbrev pub listener_ticked : ℕ → ℕ → ServedListener → ServedListener
listener_ticked now zero s = s
listener_ticked now (suc n) s = listener_ticked now n (due_served now s (first_due_flow now s.upkeeps))

-- Thirteen ticks for each flow leave nothing that is due, whatever was done before: each of its six timers fires once, and the rules are
-- followed once at first and once after each of them.
abbrev pub ListenerTicksEnd : Type 0
ListenerTicksEnd =
    (config : ListenConfig) (pace : Pace) (all : List TimedDeed) (now : ℕ)
    → first_due_flow now
    (listener_ticked now (13 * length (served_through (serving_begins config pace) all).listening.flows) (served_through (serving_begins config pace) all)).upkeeps
    ≡ None

-- Nothing is due at a flow before its moment, and from then on something is. So no flow is passed over: if there is nothing to do, nothing is
-- due at any flow. The wait that is returned is exact. Clocks have 64 bits.
pub record IsNonePassedOver (upkeeps : Upkeeps) (now later : ℕ) : Type 0 where
  pub none_is_due : first_due_flow later upkeeps ≡ None → (peer : Peer) (u : Upkeep) → lookup (is_peer peer) upkeeps ≡ Some u → first_due u later every_due ≡ None
  pub wait_is_exact : is_some (first_due_flow later upkeeps) ≡ nat_le (now + least_wait now upkeeps) later

-- this holds whatever is kept of peers in their order, and whatever the times
abbrev pub NoneIsPassedOver : Type 0
NoneIsPassedOver =
    (upkeeps : Upkeeps) (now later : ℕ) → IsStrictlySortedBy peer_cmp (keys_of upkeeps) → now ≤ later → later < never → IsNonePassedOver upkeeps now later

-- No flow that has stayed for too long is passed over either, with any rules: if none is given up, each may stay.
abbrev pub EachMayStay : Type 0
EachMayStay =
    (rules : Rules) (crowded : Bool) (now : ℕ) (lives : Lives) → IsStrictlySortedBy peer_cmp (keys_of lives) → first_given_up rules crowded now lives ≡ None
    → (peer : Peer) (life : Life) → lookup (is_peer peer) lives ≡ Some life → is_none_left (life_left rules crowded now life) ≡ false
