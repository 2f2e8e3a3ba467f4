-- What a listener with the timers of its flows, and the rules of their paths, does with a peer (own; the flows are the
-- listener's).
use Rattle.std.specs.Prelude.{◌≡◌, ◌⊎◌, ◌++◌, ◌-◌, ℕ, Bool, true, false, not, List, [], ◌∷◌, Option, Some, None, is_some, IsSome, Err, unwrap_or}
use Rattle.std.specs.BTreeMap.{insert_entry}
use Rattle.std.specs.Map.{keys_of, lookup}
use Rattle.std.specs.Option.{option_map}
use Rattle.ccid_two.specs.Kinds.{kinds_control}
use Rattle.dccp_endpoint.specs.Controlled.{in_flight_of}
use Rattle.dccp_packets.specs.Outgoing.{Outgoing}
use Rattle.dccp_listener.specs.Chain.{Deed, Arrives, Calls, FlowCall}
use Rattle.dccp_listener.specs.Listens.{AreInOrder, listening_after, listens, turns_of}
use Rattle.dccp_listener.specs.Peers.{FlowEnd, ListenerState, end_of_peer, is_peer, peer_cmp}
use Rattle.dccp_listener.specs.Runs.{CallTold, IsRunOfTurns, Stepped}
use Rattle.dccp_listener.specs.declared.config.ListenConfig.{ListenConfig}
use Rattle.dccp_listener.specs.declared.peer.Peer.{Peer}
use Rattle.dccp_uses.specs.Reader.{restraint_of}
use Rattle.dccp_uses.specs.Rules.{due_rule}
use Rattle.dccp_uses.specs.Syncs.{admitted}
use Rattle.dccp_uses.specs.Upkeeps.{every_due, first_due, upkeep_begins, upkeep_moment}
use Rattle.dccp_uses.specs.declared.pace.Pace.{Pace}
use Rattle.dccp_uses.specs.declared.reader.Restraint.{Restraint}
use Rattle.dccp_uses.specs.declared.timed_end.Due.{Due}
use Rattle.dccp_states.specs.declared.seen.Seen.TheVariants.{Called}
use Rattle.dccp_server.specs.Due.{never}
use Rattle.server_peers.specs.Places.{kept_then}
use Rattle.server_peers.specs.Queues.{first_in, queue_of}
use Rattle.dccp_server.specs.Upkeeps.{arrived_so, call_for_rule, called_so, next_upkeep, sight_if}
use Rattle.dccp_server.specs.declared.happening.FlowHappening.{FlowHappening}
use Rattle.dccp_server.specs.declared.happening.FlowHappening.TheVariants as happening
use Rattle.server_peers.specs.declared.queue.Ticket.{Ticket}
use Rattle.dccp_uses.specs.declared.upkeep.Upkeep.{Upkeep}

-- what is kept of each peer that has a flow, in the order of the peers
abbrev pub Upkeeps : Type 0
Upkeeps = List (Peer × Upkeep)

-- a listener, the rules that the paths of its flows follow, and what is kept of each flow
pub record ServedListener : Type 0 where
  pub listening : ListenerState
  pub pace : Pace
  pub upkeeps : List (Peer × Upkeep)

-- the listener of these three
abbrev pub served : ListenerState → Pace → Upkeeps → ServedListener
served listening pace upkeeps = record { listening = listening; pace = pace; upkeeps = upkeeps }

-- a listener without flows
abbrev pub serving_begins : ListenConfig → Pace → ServedListener
serving_begins config pace = served (record { config = config; flows = [] }) pace []

-- what is kept of a peer; of one that has no flow nothing is known
abbrev pub upkeep_at : Pace → Upkeeps → Peer → Upkeep
upkeep_at pace upkeeps peer = unwrap_or (lookup (is_peer peer) upkeeps) (upkeep_begins pace)

-- what is kept goes on with the peer's end, and is dropped with it
abbrev pub upkeeps_then : ℕ → Pace → Upkeeps → Peer → Option FlowEnd → Upkeep → FlowHappening → Upkeeps
upkeeps_then now pace upkeeps peer end u it = kept_then upkeeps peer (next_upkeep now pace u it) end

-- the peer's end has refused the call, or there is none
abbrev pub is_refusal : CallTold → Bool
is_refusal (Stepped None) = true
is_refusal (Stepped (Some (Called (Err fault)))) = true
is_refusal _ = false

-- what a deed does to the peer's end
abbrev pub happening_by : ServedListener → Peer → Deed → FlowHappening
happening_by s peer (Arrives iss bytes) =
    arrived_so (sight_if (end_of_peer s.listening.flows peer)) (listens s.listening peer (Arrives iss bytes)).told
    (not (is_some (listens s.listening peer (Arrives iss bytes)).frame))
happening_by s peer (Calls call) = called_so call (is_refusal (listens s.listening peer (Calls call)).told)

-- the served listener once the listener is this, and that has happened to the peer's end
abbrev pub serves_on : ℕ → ServedListener → ListenerState → Peer → FlowHappening → ServedListener
serves_on now s after peer it =
    served after s.pace (upkeeps_then now s.pace s.upkeeps peer (end_of_peer after.flows peer) (upkeep_at s.pace s.upkeeps peer) it)

-- A deed of a peer, if there is memory: the listener does what is computed for it, and what is kept of the peer goes on.
abbrev pub deed_served : ℕ → ServedListener → Peer → Deed → ServedListener
deed_served now s peer deed = serves_on now s (listening_after s.listening peer deed) peer (happening_by s peer deed)

-- what is kept of a flow once a datagram was counted: one that its numbers would have answered by a Sync takes a token
abbrev pub upkeep_counted : ℕ → List ℕ → Upkeep → FlowEnd → Upkeep
upkeep_counted now bytes u e = record u { path = (admitted e.state u.path bytes now).path }

-- A datagram of a peer is counted.
abbrev pub served_counted_by : ℕ → ServedListener → Peer → List ℕ → Upkeep → Option FlowEnd → ServedListener
served_counted_by now s peer bytes u None = s
served_counted_by now s peer bytes u (Some e) =
    record s { upkeeps = insert_entry peer_cmp s.upkeeps peer (upkeep_counted now bytes u e) }

-- the same, by the limits of the peer's flow
abbrev pub served_counted : ℕ → ServedListener → Peer → List ℕ → ServedListener
served_counted now s peer bytes = served_counted_by now s peer bytes (upkeep_at s.pace s.upkeeps peer) (end_of_peer s.listening.flows peer)

-- a datagram is to be heard: there was a token, or none was needed
abbrev pub is_admitted_by : ℕ → List ℕ → Upkeep → Option FlowEnd → Bool
is_admitted_by now bytes u None = true
is_admitted_by now bytes u (Some e) = (admitted e.state u.path bytes now).heard

-- the same, by the limits of the peer's flow
abbrev pub is_admitted : ℕ → ServedListener → Peer → List ℕ → Bool
is_admitted now s peer bytes = is_admitted_by now bytes (upkeep_at s.pace s.upkeeps peer) (end_of_peer s.listening.flows peer)

-- why data to a flow have to wait, as those to the peer of a single end, if there is one
abbrev pub flow_restraint_by : Upkeep → Option FlowEnd → Option Restraint
flow_restraint_by u None = None
flow_restraint_by u (Some e) = restraint_of u.path.reader (in_flight_of kinds_control e.congestion)

-- the same for the data to a peer
abbrev pub flow_restraint : ServedListener → Peer → Option Restraint
flow_restraint s peer = flow_restraint_by (upkeep_at s.pace s.upkeeps peer) (end_of_peer s.listening.flows peer)

-- the call of an end by the rule that is due, if there is one
abbrev pub call_by_rule : ℕ → Upkeep → Option FlowEnd → Option FlowCall
call_by_rule now u found = call_for_rule (due_rule u.path now) u.path.aim found

-- the same for a peer's end
abbrev pub call_due : ℕ → ServedListener → Peer → Option FlowCall
call_due now s peer = call_by_rule now (upkeep_at s.pace s.upkeeps peer) (end_of_peer s.listening.flows peer)

-- the listener after a call, if there is one
abbrev pub listening_if : ListenerState → Peer → Option FlowCall → ListenerState
listening_if l peer None = l
listening_if l peer (Some call) = listening_after l peer (Calls call)

-- the frame that then goes to the peer
abbrev pub frame_if : ListenerState → Peer → Option FlowCall → Option Outgoing
frame_if l peer None = None
frame_if l peer (Some call) = (listens l peer (Calls call)).frame

-- the first rule of a peer's path that is due makes its end do something
abbrev pub rule_followed : ℕ → ServedListener → Peer → ServedListener
rule_followed now s peer =
    serves_on now s (listening_if s.listening peer (call_due now s peer)) peer (happening.Ruled (due_rule (upkeep_at s.pace s.upkeeps peer).path now))

-- What is done with a peer: a deed; a datagram, which may be left out, is counted; or a rule of its path is followed.
pub data PeerDeed : Type 0 where
  Does : (deed : Deed) → PeerDeed
  Spends : (bytes : List ℕ) → PeerDeed
  Follows : PeerDeed

-- the listener after it
abbrev pub served_by : ℕ → ServedListener → Peer → PeerDeed → ServedListener
served_by now s peer (Does deed) = deed_served now s peer deed
served_by now s peer (Spends bytes) = served_counted now s peer bytes
served_by now s peer Follows = rule_followed now s peer

-- the frame that then goes to the peer
abbrev pub doing_frame : ℕ → ServedListener → Peer → PeerDeed → Option Outgoing
doing_frame now s peer (Does deed) = (listens s.listening peer deed).frame
doing_frame now s peer (Spends bytes) = None
doing_frame now s peer Follows = frame_if s.listening peer (call_due now s peer)

-- A deed may need memory: a datagram of a peer that has no flow or no place for what is kept of it, or a call of a flow that has no such place.
abbrev pub WantsMemory : ServedListener → Peer → Deed → Type 0
WantsMemory s peer (Arrives iss bytes) = (end_of_peer s.listening.flows peer ≡ None) ⊎ (lookup (is_peer peer) s.upkeeps ≡ None)
WantsMemory s peer (Calls call) = IsSome (end_of_peer s.listening.flows peer) × (lookup (is_peer peer) s.upkeeps ≡ None)

-- the first thing that is due at a peer's flow, by what is kept of it
abbrev pub due_of_flow : ℕ → Peer → Option Upkeep → Option (Peer × Due)
due_of_flow now peer None = None
due_of_flow now peer (Some u) = option_map (λ it. (peer, it)) (first_due u now every_due)

-- the same for the peer that has a ticket
abbrev pub due_of_ticket : ℕ → Upkeeps → Option Ticket → Option (Peer × Due)
due_of_ticket now upkeeps None = None
due_of_ticket now upkeeps (Some ticket) = due_of_flow now ticket.peer (lookup (is_peer ticket.peer) upkeeps)

-- the ticket of the flow at which something is due first; of two the first in the order of peers
abbrev pub soonest : Upkeeps → Option Ticket
soonest upkeeps = first_in 0 (queue_of upkeep_moment upkeeps)

-- the flow at which something has been due for longest, and the first thing that is due there
abbrev pub first_due_flow : ℕ → Upkeeps → Option (Peer × Due)
first_due_flow now upkeeps = due_of_ticket now upkeeps (soonest upkeeps)

-- The peers of which something is kept are those that have a flow, and are in order.
pub record IsTied (s : ServedListener) : Type 0 where
  pub same_peers : keys_of s.upkeeps ≡ keys_of s.listening.flows
  pub ordered : AreInOrder s.listening.flows

-- how long it is until the time of a ticket; never if there is none
abbrev pub wait_until : ℕ → Option Ticket → ℕ
wait_until now None = never
wait_until now (Some ticket) = ticket.time - now

-- in how many milliseconds something is due at any flow
abbrev pub least_wait : ℕ → Upkeeps → ℕ
least_wait now upkeeps = wait_until now (soonest upkeeps)

-- The listener has done what is computed for a deed.
abbrev pub IsDone : ListenerState → ListenerState → Peer → Deed → Option Outgoing → CallTold → Type 0
IsDone before after peer deed frame told =
    (after ≡ listening_after before peer deed) × (frame ≡ (listens before peer deed).frame) × (told ≡ (listens before peer deed).told)

-- something that is done with a peer at a time
pub record TimedDeed : Type 0 where
  pub now : ℕ
  pub peer : Peer
  pub doing : PeerDeed

-- one after another, if there is memory
abbrev pub served_through : ServedListener → List TimedDeed → ServedListener
served_through s [] = s
served_through s (it ∷ later) = served_through (served_by it.now s it.peer it.doing) later

-- the deed of the listener for a call, if there is one
abbrev pub deed_if : Peer → Option FlowCall → List (Peer × Deed)
deed_if peer None = []
deed_if peer (Some call) = (peer, Calls call) ∷ []

-- the deeds of the listener that something done consists of
abbrev pub deeds_by : ServedListener → TimedDeed → PeerDeed → List (Peer × Deed)
deeds_by s it (Does deed) = (it.peer, deed) ∷ []
deeds_by s it (Spends bytes) = []
deeds_by s it Follows = deed_if it.peer (call_due it.now s it.peer)

-- the deeds of the listener for all that is done
abbrev pub deeds_through : ServedListener → List TimedDeed → List (Peer × Deed)
deeds_through s [] = []
deeds_through s (it ∷ later) = deeds_by s it it.doing ++ deeds_through (served_by it.now s it.peer it.doing) later

-- With any times and rules, what is done leads a listener that has begun through a run of its deeds, of which each peer sees its own chain.
abbrev pub CallsAreARun : Type 0
CallsAreARun =
    (config : ListenConfig) (pace : Pace) (all : List TimedDeed)
    → IsRunOfTurns (serving_begins config pace).listening (served_through (serving_begins config pace) all).listening
    (turns_of (serving_begins config pace).listening (deeds_through (serving_begins config pace) all))

-- After any deeds, something is kept of the peers that have a flow, and of no others.
abbrev pub UpkeepsStandWithFlows : Type 0
UpkeepsStandWithFlows =
    (config : ListenConfig) (pace : Pace) (all : List TimedDeed)
    → keys_of (served_through (serving_begins config pace) all).upkeeps ≡ keys_of (served_through (serving_begins config pace) all).listening.flows

-- So only a datagram of a peer that has no flow may need memory.
abbrev pub OnlyStrangersWantMemory : Type 0
OnlyStrangersWantMemory =
    (config : ListenConfig) (pace : Pace) (all : List TimedDeed) (peer : Peer) (iss : ℕ) (bytes : List ℕ)
    → WantsMemory (served_through (serving_begins config pace) all) peer (Arrives iss bytes)
    → end_of_peer (served_through (serving_begins config pace) all).listening.flows peer ≡ None

-- No call needs memory.
abbrev pub CallsWantNoMemory : Type 0
CallsWantNoMemory =
    (config : ListenConfig) (pace : Pace) (all : List TimedDeed) (peer : Peer) (call : FlowCall)
    → WantsMemory (served_through (serving_begins config pace) all) peer (Calls call) → ⊥

-- A call that is refused leaves the listener and what is kept of all flows as they were, after any deeds.
abbrev pub RefusedCallsChangeNothing : Type 0
RefusedCallsChangeNothing =
    (config : ListenConfig) (pace : Pace) (all : List TimedDeed) (now : ℕ) (peer : Peer) (call : FlowCall)
    → is_refusal (listens (served_through (serving_begins config pace) all).listening peer (Calls call)).told ≡ true
    → deed_served now (served_through (serving_begins config pace) all) peer (Calls call) ≡ served_through (serving_begins config pace) all
