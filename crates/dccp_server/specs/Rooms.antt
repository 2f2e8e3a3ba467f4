-- A room: a listener with what is kept of its flows and their lives, and what the rules do with it (own; the flows are the listener's).
use Rattle.std.specs.Prelude.{◌≡◌, ◌&&◌, ◌||◌, ℕ, Bool, true, false, not, List, [], ◌∷◌, Option, Some, None, is_some, Result, Ok, Err, if◌then◌else◌}
use Rattle.std.specs.Map.{keys_of}
use Rattle.dccp_packets.specs.Outgoing.{Outgoing}
use Rattle.dccp_listener.specs.Chain.{Deed, Arrives, Calls, Aborts, Fires}
use Rattle.dccp_listener.specs.Listens.{listens}
use Rattle.dccp_listener.specs.Peers.{ListenerState, end_of_peer}
use Rattle.dccp_listener.specs.Runs.{CallTold, Stepped, WasBusy, HadNoMemory, told_of}
use Rattle.dccp_listener.specs.declared.calls.Heard.{Heard}
use Rattle.dccp_listener.specs.declared.calls.Heard.TheVariants as heard
use Rattle.seq_circle.specs.declared.memory.NoMemory.{NoMemory}
use Rattle.dccp_listener.specs.declared.config.ListenConfig.{ListenConfig}
use Rattle.dccp_listener.specs.declared.peer.Peer.{Peer}
use Rattle.dccp_states.specs.declared.calls.Timer.TheVariants as timers
use Rattle.feature_machine.specs.Lists.{IsLists}
use Rattle.dccp_uses.specs.Rules.{due_rule}
use Rattle.dccp_uses.specs.declared.pace.Pace.{Pace}
use Rattle.dccp_uses.specs.declared.timed_end.Due.{Due}
use Rattle.dccp_uses.specs.declared.timed_end.Due.TheVariants as due
use Rattle.server_peers.specs.declared.cookie_use.CookieUse.{CookieUse}
use Rattle.server_peers.specs.declared.cookie_use.CookieUse.TheVariants.{InACrowd}
use Rattle.init_cookies.specs.declared.cookie.CookieKeys.{CookieKeys}
use Rattle.server_peers.specs.Lives.{Lives, life_of, life_then, no_signs, signs_in, signs_of, user_written}
use Rattle.server_peers.specs.Rules.{first_given_up, is_crowd, makes_way, least_left}
use Rattle.dccp_server.specs.Anew.{begins_anew, refuses_last_sync, signs_noted}
use Rattle.dccp_server.specs.Serving.{PeerDeed, Does, Follows, IsTied, ServedListener, Spends, TimedDeed, first_due_flow, doing_frame, is_admitted, least_wait, served_by, served_through, serving_begins, upkeep_at}
use Rattle.server_peers.specs.Strangers.{frame_if_goes, spared_if, strangers_begin, told_of_arrival}
use Rattle.dccp_server.specs.declared.duty.Duty.{Duty}
use Rattle.dccp_server.specs.declared.duty.Duty.TheVariants.{Ring, Follow, GiveUp}
use Rattle.server_peers.specs.declared.life.Life.{Life}
use Rattle.server_peers.specs.declared.life.Signs.{Signs}
use Rattle.server_peers.specs.declared.rules.Rules.{Rules}
use Rattle.server_peers.specs.declared.strangers.StrangerAnswer.{StrangerAnswer}
use Rattle.server_peers.specs.declared.strangers.Strangers.{Strangers}

-- the listener with the timers of its flows, and their lives
pub record Room : Type 0 where
  pub served : ServedListener
  pub lives : List (Peer × Life)

-- the room of these two
abbrev pub as_room : ServedListener → Lives → Room
as_room served lives = record { served = served; lives = lives }

-- something is kept of each flow, and it has a life
pub record IsLiving (r : Room) : Type 0 where
  pub tied : IsTied r.served
  pub same_peers : keys_of r.lives ≡ keys_of r.served.listening.flows

-- a room without flows
abbrev pub room_begins : ListenConfig → Pace → Room
room_begins config pace = as_room (serving_begins config pace) []

-- what a deed says about its peer, as far as it is kept
abbrev pub signs_by : ListenerState → Peer → Deed → Signs
signs_by l peer (Arrives iss bytes) = signs_noted bytes (signs_of (listens l peer (Arrives iss bytes)).told)
signs_by l peer (Calls call) = signs_of (listens l peer (Calls call)).told

-- once that was done with a peer, the life of its flow goes on
abbrev pub room_then : ℕ → Room → Peer → ServedListener → Signs → Room
room_then now r peer after signs =
    as_room after (life_then now r.lives peer (end_of_peer after.listening.flows peer) signs (life_of r.lives peer))

-- Something is done with a peer, if there is memory: the listener and what is kept of the flow change by it, and its life goes on. A datagram
-- that is only counted is no part of its life.
abbrev pub room_does : ℕ → Room → Peer → PeerDeed → Room
room_does now r peer (Does deed) = room_then now r peer (served_by now r.served peer (Does deed)) (signs_by r.served.listening peer deed)
room_does now r peer (Spends bytes) = record r { served = served_by now r.served peer (Spends bytes) }
room_does now r peer Follows = room_then now r peer (served_by now r.served peer Follows) no_signs

-- A peer's flow is forgotten: its end aborts, and if it is in TIMEWAIT, that ends. No frame is sent.
abbrev pub forgets : ℕ → Room → Peer → Room
forgets now r peer = room_does now (room_does now r peer (Does (Calls Aborts))) peer (Does (Calls (Fires timers.TimeWait)))

-- the owner sets a number for a peer's flow
abbrev pub with_user : ℕ → Room → Peer → Room
with_user user r peer = record r { lives = user_written user r.lives peer (end_of_peer r.served.listening.flows peer) }

-- more flows are half open in the room than places are free
abbrev pub is_crowded : Room → Bool
is_crowded r = is_crowd r.served.listening.config.most r.lives

-- the peer whose flow makes room
abbrev pub who_leaves : ℕ → Rules → Room → Option Peer
who_leaves now rules r = makes_way rules (is_crowded r) now r.lives

-- the peer whose flow is given up first
abbrev pub who_is_over : ℕ → Rules → Room → Option Peer
who_is_over now rules r = first_given_up rules (is_crowded r) now r.lives

-- What comes of a datagram: the room after it, the frame for its peer, its result, if it was heard, the peer whose flow made room, and whether
-- the peer's old flow was ended.
pub record RoomStep : Type 0 where
  pub room : Room
  pub frame : Option Outgoing
  pub told : Option CallTold
  pub evicted : Option Peer
  pub anew : Bool

-- the datagram is heard, and no rule applies
abbrev pub heard_plainly : ℕ → Room → Peer → ℕ → List ℕ → Option Peer → RoomStep
heard_plainly now r peer iss bytes evicted =
    record {
      room = room_does now r peer (Does (Arrives iss bytes));
      frame = (listens r.served.listening peer (Arrives iss bytes)).frame;
      told = Some (listens r.served.listening peer (Arrives iss bytes)).told;
      evicted = evicted;
      anew = false;
    }

-- The listener was busy, and is this then. The flow that leaves is forgotten, and the datagram is heard once more.
abbrev pub room_made : ℕ → Room → Peer → ℕ → List ℕ → Option Peer → RoomStep → RoomStep
room_made now r peer iss bytes None busy = busy
room_made now r peer iss bytes (Some leaving) busy = heard_plainly now (forgets now r leaving) peer iss bytes (Some leaving)

-- If the peer has connected again, its old flow is forgotten, and the Sync is not sent, so that the peer asks again.
abbrev pub begun_anew : ℕ → Peer → RoomStep → Bool → RoomStep
begun_anew now peer plain false = plain
begun_anew now peer plain true = record plain { room = forgets now plain.room peer; frame = None; anew = true }

-- what comes of a datagram that was heard, by its result
abbrev pub comes_by : ℕ → Rules → Room → Peer → ℕ → List ℕ → RoomStep → CallTold → RoomStep
comes_by now rules r peer iss bytes plain WasBusy = room_made now plain.room peer iss bytes (who_leaves now rules plain.room) plain
comes_by now rules r peer iss bytes plain HadNoMemory = plain
comes_by now rules r peer iss bytes plain (Stepped it) =
    begun_anew now peer plain (begins_anew rules (life_of r.lives peer) bytes (signs_of (Stepped it)))

-- What comes of a datagram that is heard, if there is memory.
abbrev pub comes_heard : ℕ → Rules → Room → Peer → ℕ → List ℕ → RoomStep
comes_heard now rules r peer iss bytes =
    comes_by now rules r peer iss bytes (heard_plainly now r peer iss bytes None) (listens r.served.listening peer (Arrives iss bytes)).told

-- a datagram is left out: nothing is sent, and no number is used
abbrev pub left_out : Room → RoomStep
left_out r = record { room = r; frame = None; told = None; evicted = None; anew = false }

-- the room once a datagram was counted; one that refuses the last Sync is not counted
abbrev pub counted_room : ℕ → Rules → Room → Peer → List ℕ → Room
counted_room now rules r peer bytes = if refuses_last_sync rules (life_of r.lives peer) bytes then r else room_does now r peer (Spends bytes)

-- it is to be heard
abbrev pub is_to_be_heard : ℕ → Rules → Room → Peer → List ℕ → Bool
is_to_be_heard now rules r peer bytes = refuses_last_sync rules (life_of r.lives peer) bytes || is_admitted now r.served peer bytes

-- it is heard, or left out
abbrev pub comes_if : ℕ → Rules → Room → Peer → ℕ → List ℕ → Bool → RoomStep
comes_if now rules r peer iss bytes true = comes_heard now rules r peer iss bytes
comes_if now rules r peer iss bytes false = left_out r

-- What comes of a datagram, if there is memory.
abbrev pub comes : ℕ → Rules → Room → Peer → ℕ → List ℕ → RoomStep
comes now rules r peer iss bytes =
    comes_if now rules (counted_room now rules r peer bytes) peer iss bytes (is_to_be_heard now rules r peer bytes)

-- if there is no memory, the room is as it was, or only without the flow that made room
abbrev pub left_without_memory : ℕ → Room → Peer → ℕ → List ℕ → Option Peer → Room
left_without_memory now r peer iss bytes None = r
left_without_memory now r peer iss bytes (Some leaving) = forgets now (room_does now r peer (Does (Arrives iss bytes))) leaving

-- in how many milliseconds something is due at a flow or one is given up; 2^64 - 1 if there is no such time
abbrev pub room_waits : ℕ → Rules → Room → ℕ
room_waits now rules r = least_left rules (is_crowded r) now (least_wait now r.served.upkeeps) r.lives

-- the duty for what is due at a flow: a timer fires, or the first rule that is due is followed
abbrev pub duty_due : ℕ → ServedListener → Peer → Due → Duty
duty_due now s peer (due.Timer timer) = Ring peer timer
duty_due now s peer due.Rules = Follow peer (due_rule (upkeep_at s.pace s.upkeeps peer).path now)

-- the first duty: what is due is done, or else a flow that is over its time is given up
abbrev pub duty_of : ℕ → ServedListener → Option (Peer × Due) → Option Peer → Option Duty
duty_of now s (Some it) over = Some (duty_due now s it.0 it.1)
duty_of now s None (Some peer) = Some (GiveUp peer)
duty_of now s None None = None

-- the same for a room
abbrev pub duty_in : ℕ → Rules → Room → Option Duty
duty_in now rules r = duty_of now r.served (first_due_flow now r.served.upkeeps) (who_is_over now rules r)

-- the peer of a duty
abbrev pub duty_peer : Duty → Peer
duty_peer (Ring peer timer) = peer
duty_peer (Follow peer rule) = peer
duty_peer (GiveUp peer) = peer

-- how a duty is done: a flow is given up by aborting its end
abbrev pub doing_for : Duty → PeerDeed
doing_for (Ring peer timer) = Does (Calls (Fires timer))
doing_for (Follow peer rule) = Follows
doing_for (GiveUp peer) = Does (Calls Aborts)

-- the room once it is done
abbrev pub duty_done : ℕ → Room → Option Duty → Room
duty_done now r None = r
duty_done now r (Some duty) = room_does now r (duty_peer duty) (doing_for duty)

-- the frame that then goes to its peer
abbrev pub duty_frame : ℕ → Room → Option Duty → Option Outgoing
duty_frame now r None = None
duty_frame now r (Some duty) = doing_frame now r.served (duty_peer duty) (doing_for duty)

-- what is done with peers, and its times, one after another
abbrev pub does_all : Room → List TimedDeed → Room
does_all r [] = r
does_all r (it ∷ later) = does_all (room_does it.now r it.peer it.doing) later

-- a room with its rules, what is left of the limits for strangers, and when cookies are used, with their keys, if there
-- are any
pub record RuledRoom : Type 0 where
  pub room : Room
  pub rules : Rules
  pub strangers : Strangers
  pub cookies : CookieUse
  pub keys : Option CookieKeys

-- a room without flows that goes by these rules
abbrev pub ruled_begins : ListenConfig → Pace → Rules → RuledRoom
ruled_begins config pace rules = record { room = room_begins config pace; rules = rules; strangers = strangers_begin; cookies = InACrowd; keys = None }

-- The listener was busy when a datagram came, the room is this one, and a frame was left. The flow that leaves is forgotten, and the datagram is
-- heard once more, if there is memory.
abbrev pub IsRoomMade : ℕ → Room → Room → Peer → ℕ → List ℕ → Option Peer → Option Outgoing → Option Outgoing → Result Heard NoMemory → Type 0
IsRoomMade now busy after peer iss bytes None left frame result = (after ≡ busy) × (frame ≡ left) × (result ≡ Ok heard.Busy)
IsRoomMade now busy after peer iss bytes (Some leaving) left frame (Ok it) =
    (after ≡ room_does now (forgets now busy leaving) peer (Does (Arrives iss bytes)))
    × (frame ≡ (listens (forgets now busy leaving).served.listening peer (Arrives iss bytes)).frame)
    × (told_of (Ok it) ≡ (listens (forgets now busy leaving).served.listening peer (Arrives iss bytes)).told)
IsRoomMade now busy after peer iss bytes (Some leaving) left frame (Err _) = after ≡ forgets now busy leaving

-- The rules were applied to a datagram that was heard in this room, from a peer with this life before it, and that left a frame: if the listener
-- was busy, a flow may make room; otherwise the peer may have connected again.
abbrev pub IsJudged : ℕ → Rules → Life → Room → Room → Peer → ℕ → List ℕ → Heard → Option Outgoing → Option Outgoing → Result Heard NoMemory → Option Peer → Bool
    → Type 0
IsJudged now rules life before after peer iss bytes heard.Busy left frame result evicted anew =
    (evicted ≡ who_leaves now rules before) × IsRoomMade now before after peer iss bytes evicted left frame result × (anew ≡ false)
IsJudged now rules life before after peer iss bytes (heard.Flow outcome) left frame result evicted anew =
    (anew ≡ begins_anew rules life bytes (signs_in outcome)) × (after ≡ (if anew then forgets now before peer else before))
    × (frame ≡ (if anew then None else left)) × (evicted ≡ None) × (result ≡ Ok (heard.Flow outcome))

-- What hearing a datagram does, by its answer: what comes of it, or there was no memory.
abbrev pub HasHeard : ℕ → Rules → Room → Room → Peer → ℕ → List ℕ → Option Outgoing → Result Heard NoMemory → Option Peer → Bool → Type 0
HasHeard now rules before after peer iss bytes frame (Ok it) evicted anew =
    record { room = after; frame = frame; told = Some (told_of (Ok it)); evicted = evicted; anew = anew } ≡ comes_heard now rules before peer iss bytes
HasHeard now rules before after peer iss bytes frame (Err _) evicted anew =
    (after ≡ left_without_memory now before peer iss bytes evicted) × (anew ≡ false)

-- the result of a datagram that was heard, as one that might have been ignored
abbrev pub heard_or_fault : Result Heard NoMemory → Result (Option Heard) NoMemory
heard_or_fault (Ok it) = Ok (Some it)
heard_or_fault (Err fault) = Err fault

-- the frame that was left, but none if there was no memory
abbrev pub unless_fault : Result Heard NoMemory → Option Outgoing → Option Outgoing
unless_fault (Ok it) left = left
unless_fault (Err fault) left = None

-- What a datagram that may be left out does, by its answer.
abbrev pub HasArrived : ℕ → Rules → Room → Room → Peer → ℕ → List ℕ → Option Outgoing → Result (Option Heard) NoMemory → Option Peer → Bool → Type 0
HasArrived now rules before after peer iss bytes frame (Ok it) evicted anew =
    record { room = after; frame = frame; told = told_of_arrival (Ok it); evicted = evicted; anew = anew } ≡ comes now rules before peer iss bytes
HasArrived now rules before after peer iss bytes frame (Err _) evicted anew =
    (after ≡ left_without_memory now (counted_room now rules before peer bytes) peer iss bytes evicted) × (frame ≡ None) × (anew ≡ false)

-- a frame goes to a stranger: a peer that has no flow, and had none
abbrev pub is_to_stranger : Room → Room → Peer → Option Outgoing → Bool
is_to_stranger before after peer frame =
    not (is_some (end_of_peer before.served.listening.flows peer))
    && (not (is_some (end_of_peer after.served.listening.flows peer)) && is_some frame)

-- whether the frame that was left goes out, and what is left of the limits
abbrev pub reply_spared : ℕ → RuledRoom → Peer → Room → Option Outgoing → Option CallTold → StrangerAnswer
reply_spared now s peer after left told = spared_if now s.rules s.strangers (is_to_stranger s.room after peer left) told

-- What a datagram does to a server: the server after it, the frame that goes to the peer, the answer, if it was heard, the peer whose flow made
-- room, and whether the peer's old flow was ended.
pub record Reception : Type 0 where
  pub server : RuledRoom
  pub frame : Option Outgoing
  pub told : Option CallTold
  pub evicted : Option Peer
  pub anew : Bool

-- the server with this room, and with this much left of its limits
abbrev pub moved_on : RuledRoom → Room → Strangers → RuledRoom
moved_on s room strangers = record s { room = room; strangers = strangers }

-- what came of the datagram, except that its frame may be one too many for a stranger
abbrev pub reception_of : ℕ → RuledRoom → Peer → RoomStep → Reception
reception_of now s peer coming =
    record {
      server = moved_on s coming.room (reply_spared now s peer coming.room coming.frame coming.told).strangers;
      frame = frame_if_goes (reply_spared now s peer coming.room coming.frame coming.told).goes coming.frame;
      told = coming.told;
      evicted = coming.evicted;
      anew = coming.anew;
    }

-- What a datagram does to a server, if there is memory.
abbrev pub received_at : ℕ → RuledRoom → Peer → ℕ → List ℕ → Reception
received_at now s peer iss bytes = reception_of now s peer (comes now s.rules s.room peer iss bytes)

-- the server after it, if there is no memory
abbrev pub unreceived_at : ℕ → RuledRoom → Peer → ℕ → List ℕ → Option Peer → RuledRoom
unreceived_at now s peer iss bytes evicted =
    moved_on s (left_without_memory now (counted_room now s.rules s.room peer bytes) peer iss bytes evicted) s.strangers

-- What a datagram does at a server, by its answer.
abbrev pub IsServed : ℕ → RuledRoom → RuledRoom → Peer → ℕ → List ℕ → Option Outgoing → Result (Option Heard) NoMemory → Option Peer → Bool → Type 0
IsServed now s after peer iss bytes frame (Ok it) evicted anew =
    record { server = after; frame = frame; told = told_of_arrival (Ok it); evicted = evicted; anew = anew } ≡ received_at now s peer iss bytes
IsServed now s after peer iss bytes frame (Err _) evicted anew =
    (after ≡ unreceived_at now s peer iss bytes evicted) × (frame ≡ None) × (anew ≡ false)

-- Whatever the rules, what comes of a datagram is the effect of a list of deeds that a listener's owner might have done.
abbrev pub RulesAreDeeds : Type 0
RulesAreDeeds =
    (now : ℕ) (rules : Rules) (r : Room) (peer : Peer) (iss : ℕ) (bytes : List ℕ)
    → (all : List TimedDeed) × ((comes now rules r peer iss bytes).room ≡ does_all r all)

-- What is done in a room leaves the listener and what is kept of its flows as it leaves them without lives.
abbrev pub LivesChangeNothing : Type 0
LivesChangeNothing = (r : Room) (all : List TimedDeed) → (does_all r all).served ≡ served_through r.served all

-- After any deeds, a peer whose flow is forgotten has none.
abbrev pub ForgottenHaveNone : Type 0
ForgottenHaveNone =
    (config : ListenConfig) (pace : Pace) (all : List TimedDeed) (now : ℕ) (peer : Peer) → IsLists config.lists
    → end_of_peer (forgets now (does_all (room_begins config pace) all) peer).served.listening.flows peer ≡ None
