-- What the laws of a server speak of, word by word: a law cites these words, and so nothing else refuses words that say less.
use Rattle.std.proofs.Common.{◌≡◌, ℕ, ◌*◌, ◌+◌, ◌≤◌, ◌<◌, Bool, true, false, List, length, Some, None, slice_get}
use Rattle.std.specs.Prelude.{nat_le, is_some}
use Rattle.std.specs.List.Sorted.{IsStrictlySortedBy}
use Rattle.std.specs.Map.{keys_of, lookup}
use Rattle.dccp_listener.specs.Chain.{Arrives, Calls, FlowCall}
use Rattle.dccp_listener.specs.Listens.{listens}
use Rattle.dccp_listener.specs.Peers.{end_of_peer, is_peer, peer_cmp}
use Rattle.dccp_listener.specs.declared.config.ListenConfig.{ListenConfig}
use Rattle.dccp_listener.specs.declared.peer.Peer.{Peer}
use Rattle.dccp_uses.specs.Upkeeps.{every_due, first_due}
use Rattle.dccp_uses.specs.declared.pace.Pace.{Pace}
use Rattle.dccp_uses.specs.declared.upkeep.Upkeep.{Upkeep}
use Rattle.server_peers.specs.Lives.{Lives}
use Rattle.server_peers.specs.Places.{WalksNameEachOnce, peers_walked}
use Rattle.server_peers.specs.Rules.{first_given_up, is_none_left, life_left}
use Rattle.server_peers.specs.declared.life.Life.{Life}
use Rattle.server_peers.specs.declared.rules.Rules.{Rules}
use Rattle.dccp_server.specs.Due.{never}
use Rattle.dccp_server.specs.Ending.{EachMayStay, ListenerTicksEnd, NoneIsPassedOver, listener_ticked}
use Rattle.dccp_server.specs.Rooms.{LivesChangeNothing, Room, RulesAreDeeds, comes, does_all}
use Rattle.dccp_server.specs.Serving.{CallsWantNoMemory, OnlyStrangersWantMemory, RefusedCallsChangeNothing, TimedDeed, UpkeepsStandWithFlows, Upkeeps, WantsMemory, deed_served, first_due_flow, is_refusal, least_wait, served_through, serving_begins}

ticks_that_end : ListenerTicksEnd → (config : ListenConfig) (pace : Pace) (all : List TimedDeed) (now : ℕ)
    → first_due_flow now
    (listener_ticked now (13 * length (served_through (serving_begins config pace) all).listening.flows) (served_through (serving_begins config pace) all)).upkeeps
    ≡ None
ticks_that_end law = law

what_is_due_at_a_flow : NoneIsPassedOver → (upkeeps : Upkeeps) (now later : ℕ) → IsStrictlySortedBy peer_cmp (keys_of upkeeps) → now ≤ later → later < never
    → (first_due_flow later upkeeps ≡ None → (peer : Peer) (u : Upkeep) → lookup (is_peer peer) upkeeps ≡ Some u → first_due u later every_due ≡ None)
    × (is_some (first_due_flow later upkeeps) ≡ nat_le (now + least_wait now upkeeps) later)
what_is_due_at_a_flow law upkeeps now later ordered order early =
    let is = law upkeeps now later ordered order early in (is.none_is_due, is.wait_is_exact)

flows_that_may_stay : EachMayStay → (rules : Rules) (crowded : Bool) (now : ℕ) (lives : Lives) → IsStrictlySortedBy peer_cmp (keys_of lives)
    → first_given_up rules crowded now lives ≡ None
    → (peer : Peer) (life : Life) → lookup (is_peer peer) lives ≡ Some life → is_none_left (life_left rules crowded now life) ≡ false
flows_that_may_stay law = law

peers_of_a_walk : WalksNameEachOnce → (peers : List Peer) (most : ℕ) → IsStrictlySortedBy peer_cmp peers → length peers ≤ most
    → peers_walked most peers (slice_get peers 0) ≡ peers
peers_of_a_walk law = law

calls_that_are_refused : RefusedCallsChangeNothing → (config : ListenConfig) (pace : Pace) (all : List TimedDeed) (now : ℕ) (peer : Peer) (call : FlowCall)
    → is_refusal (listens (served_through (serving_begins config pace) all).listening peer (Calls call)).told ≡ true
    → deed_served now (served_through (serving_begins config pace) all) peer (Calls call) ≡ served_through (serving_begins config pace) all
calls_that_are_refused law = law

peers_of_what_is_kept : UpkeepsStandWithFlows → (config : ListenConfig) (pace : Pace) (all : List TimedDeed)
    → keys_of (served_through (serving_begins config pace) all).upkeeps ≡ keys_of (served_through (serving_begins config pace) all).listening.flows
peers_of_what_is_kept law = law

who_wants_memory : OnlyStrangersWantMemory → (config : ListenConfig) (pace : Pace) (all : List TimedDeed) (peer : Peer) (iss : ℕ) (bytes : List ℕ)
    → WantsMemory (served_through (serving_begins config pace) all) peer (Arrives iss bytes)
    → end_of_peer (served_through (serving_begins config pace) all).listening.flows peer ≡ None
who_wants_memory law = law

calls_without_memory : CallsWantNoMemory → (config : ListenConfig) (pace : Pace) (all : List TimedDeed) (peer : Peer) (call : FlowCall)
    → WantsMemory (served_through (serving_begins config pace) all) peer (Calls call) → ⊥
calls_without_memory law = law

deeds_of_the_rules : RulesAreDeeds → (now : ℕ) (rules : Rules) (r : Room) (peer : Peer) (iss : ℕ) (bytes : List ℕ)
    → (all : List TimedDeed) × ((comes now rules r peer iss bytes).room ≡ does_all r all)
deeds_of_the_rules law = law

rooms_without_lives : LivesChangeNothing → (r : Room) (all : List TimedDeed) → (does_all r all).served ≡ served_through r.served all
rooms_without_lives law = law
