-- What meeting a datagram leaves is what a list of doings leaves.
use Rattle.std.proofs.Common.{◌≡◌, refl, ap, ◌∙◌, ℕ, List, [], ◌∷◌, ◌++◌, Bool, Option, Some, None, Result, Ok, Err}
use Rattle.dccp_packets.specs.Outgoing.{Outgoing}
use Rattle.dccp_listener.specs.Chain.{Aborts, Arrives, Calls, Fires}
use Rattle.dccp_listener.specs.Peers.{FlowEnd}
use Rattle.dccp_listener.specs.declared.calls.Heard.{Heard}
use Rattle.dccp_listener.specs.declared.peer.Peer.{Peer}
use Rattle.dccp_states.specs.declared.calls.Timer.TheVariants as timers
use Rattle.init_cookies.specs.Openings.{OpeningState}
use Rattle.init_cookies.specs.declared.cookie.CookieKeys.{CookieKeys}
use Rattle.seq_circle.specs.declared.memory.NoMemory.{NoMemory}
use Rattle.server_peers.specs.Lives.{life_of}
use Rattle.dccp_server.specs.Meeting.{IsGreeted, IsReopened, IsUnopened, MeetingsAreDeeds, cleared, cleared_if, entry_met, flow_at, hurrying, reopened, request_at, unreopened}
use Rattle.dccp_server.specs.Rooms.{IsServed, Reception, Room, RuledRoom, left_without_memory, received_at, unreceived_at}
use Rattle.dccp_server.specs.Anew.{refuses_last_sync}
use Rattle.dccp_server.specs.Serving.{ServedListener, TimedDeed, served_by, served_through}
use Rattle.server_peers.specs.declared.asking.DatagramKind.{DatagramKind}
use Rattle.server_peers.specs.declared.asking.DatagramKind.TheVariants as entry
use Rattle.dccp_server.specs.declared.meeting.Way.TheVariants as way
use Rattle.dccp_server.proofs.Judging.{IsByDoings, by_counting, does, lives_change_nothing, rules_are_deeds}

abbrev LeavesByDoings : RuledRoom → RuledRoom → Type 0
LeavesByDoings s after = (all : List TimedDeed) × (after.room.served ≡ served_through s.room.served all)

through-both : (s : ServedListener) (first last : List TimedDeed) → served_through (served_through s first) last ≡ served_through s (first ++ last)
through-both s [] last = refl
through-both s (it ∷ later) last = through-both (served_by it.now s it.peer it.doing) later last

and-then : (s mid after : RuledRoom) → LeavesByDoings s mid → LeavesByDoings mid after → LeavesByDoings s after
and-then s mid after first last =
    (first.0 ++ last.0, last.1 ∙ ap (λ (x : ServedListener). served_through x last.0) first.1 ∙ through-both s.room.served first.0 last.0)

by-room : (s after : RuledRoom) → IsByDoings s.room after.room → LeavesByDoings s after
by-room s after is = (is.0, ap (λ (r : Room). r.served) is.1 ∙ lives_change_nothing s.room is.0)

as-it-was : (s after : RuledRoom) → after ≡ s → LeavesByDoings s after
as-it-was s after is = ([], ap (λ (x : RuledRoom). x.room.served) is)

-- where no memory was found

module _ (now : ℕ) (peer : Peer) (iss : ℕ) (bytes : List ℕ) where
  left-so : (r : Room) (evicted : Option Peer) → IsByDoings r (left_without_memory now r peer iss bytes evicted)
  left-so r None = ([], refl)
  left-so r (Some who) =
      (does now peer (Arrives iss bytes) ∷ does now who (Calls Aborts) ∷ does now who (Calls (Fires timers.TimeWait)) ∷ [], refl)

  unserved : (s : RuledRoom) (evicted : Option Peer) → LeavesByDoings s (unreceived_at now s peer iss bytes evicted)
  unserved s evicted =
      by-room s (unreceived_at now s peer iss bytes evicted)
      (by_counting now peer bytes (λ x. left_without_memory now x peer iss bytes evicted) (λ x. left-so x evicted) s.room
      (refuses_last_sync s.rules (life_of s.room.lives peer) bytes))

  received : (s : RuledRoom) → LeavesByDoings s (received_at now s peer iss bytes).server
  received s = by-room s (received_at now s peer iss bytes).server (rules_are_deeds now s.rules s.room peer iss bytes)

moved-along : (s mid after : RuledRoom) → after ≡ mid → LeavesByDoings s mid → LeavesByDoings s after
moved-along s mid after is by = (by.0, ap (λ (x : RuledRoom). x.room.served) is ∙ by.1)

served-so : (now : ℕ) (s after : RuledRoom) (peer : Peer) (iss : ℕ) (bytes : List ℕ) (frame : Option Outgoing) (told : Result (Option Heard) NoMemory)
    (evicted : Option Peer) (anew : Bool) → IsServed now s after peer iss bytes frame told evicted anew → LeavesByDoings s after
served-so now s after peer iss bytes frame (Ok it) evicted anew is =
    moved-along s (received_at now s peer iss bytes).server after (ap (λ (x : Reception). x.server) is) (received now peer iss bytes s)
served-so now s after peer iss bytes frame (Err fault) evicted anew is =
    moved-along s (unreceived_at now s peer iss bytes evicted) after is.0 (unserved now peer iss bytes s evicted)

-- a flow that was half open is forgotten, and the Request arrives again

cleared-so : (now : ℕ) (s : RuledRoom) (peer : Peer) (found : Option FlowEnd) → LeavesByDoings s (cleared_if now s peer found)
cleared-so now s peer None = ([], refl)
cleared-so now s peer (Some e) =
    by-room s (cleared_if now s peer (Some e)) (does now peer (Calls Aborts) ∷ does now peer (Calls (Fires timers.TimeWait)) ∷ [], refl)

reopened-so : (now : ℕ) (s : RuledRoom) (peer : Peer) (o : OpeningState) → LeavesByDoings s (reopened now s peer o)
reopened-so now s peer o =
    and-then s (cleared now s peer) (reopened now s peer o) (cleared-so now s peer (flow_at s peer))
    (received o.time peer o.iss (request_at s peer o) (hurrying (cleared now s peer)))

unreopened-so : (now : ℕ) (s : RuledRoom) (peer : Peer) (o : OpeningState) (made_room : Option Peer) → LeavesByDoings s (unreopened now s peer o made_room)
unreopened-so now s peer o made_room =
    and-then s (cleared now s peer) (unreopened now s peer o made_room) (cleared-so now s peer (flow_at s peer))
    (unserved o.time peer o.iss (request_at s peer o) (hurrying (cleared now s peer)) made_room)

greeted-so : (keys : Option CookieKeys) (it : DatagramKind) (s after : RuledRoom) (peer : Peer) (frame : Option Outgoing) (told : Result (Option Heard) NoMemory)
    → IsGreeted keys it s after peer frame told → LeavesByDoings s after
greeted-so (Some keys) (entry.Asks o) s after peer frame told is = as-it-was s after is.0
greeted-so (Some keys) entry.Plain s after peer frame told is = absurd is
greeted-so (Some keys) entry.TooLong s after peer frame told is = absurd is
greeted-so (Some keys) (entry.Returns o) s after peer frame told is = absurd is
greeted-so None it s after peer frame told is = absurd is

unopened-so : (now : ℕ) (it : DatagramKind) (s after : RuledRoom) (peer : Peer) (frame : Option Outgoing) (told : Result (Option Heard) NoMemory)
    (made_room : Option Peer) → IsUnopened now it s after peer frame told made_room → LeavesByDoings s after
unopened-so now (entry.Returns o) s after peer frame (Ok heard) made_room is = moved-along s (reopened now s peer o) after is.0 (reopened-so now s peer o)
unopened-so now (entry.Returns o) s after peer frame (Err fault) made_room is =
    moved-along s (unreopened now s peer o made_room) after is.0 (unreopened-so now s peer o made_room)
unopened-so now entry.Plain s after peer frame told made_room is = absurd is
unopened-so now entry.TooLong s after peer frame told made_room is = absurd is
unopened-so now (entry.Asks o) s after peer frame told made_room is = absurd is

opened-so : (now : ℕ) (it : DatagramKind) (s after : RuledRoom) (peer : Peer) (iss : ℕ) (bytes : List ℕ) (frame : Option Outgoing) (told : Result (Option Heard) NoMemory)
    (evicted : Option Peer) (anew : Bool) (made_room : Option Peer) → IsReopened now it s after peer iss bytes frame told evicted anew made_room
    → LeavesByDoings s after
opened-so now (entry.Returns o) s after peer iss bytes frame told evicted anew made_room is =
    and-then s (reopened now s peer o) after (reopened-so now s peer o)
    (served-so now (reopened now s peer o) after peer iss bytes frame told evicted anew is.0)
opened-so now entry.Plain s after peer iss bytes frame told evicted anew made_room is = absurd is
opened-so now entry.TooLong s after peer iss bytes frame told evicted anew made_room is = absurd is
opened-so now (entry.Asks o) s after peer iss bytes frame told evicted anew made_room is = absurd is

pub meetings_are_deeds : MeetingsAreDeeds
meetings_are_deeds now s after peer iss bytes frame told evicted anew made_room way.Plain is =
    served-so now s after peer iss bytes frame told evicted anew is.0
meetings_are_deeds now s after peer iss bytes frame told evicted anew made_room way.Greeted is =
    greeted-so s.keys (entry_met now s peer iss bytes) s after peer frame told is.0
meetings_are_deeds now s after peer iss bytes frame told evicted anew made_room way.Unanswered is = as-it-was s after is.0
meetings_are_deeds now s after peer iss bytes frame told evicted anew made_room way.Reopened is =
    opened-so now (entry_met now s peer iss bytes) s after peer iss bytes frame told evicted anew made_room is
meetings_are_deeds now s after peer iss bytes frame told evicted anew made_room way.Unopened is =
    unopened-so now (entry_met now s peer iss bytes) s after peer frame told made_room is.0
