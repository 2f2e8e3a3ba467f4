-- A client and a server with a wire in each direction, as their two owners drive them: what the worked stories of sessions are about. Each call
-- is the step that its clause names. A frame that a step makes is put on the wire, and nothing else is.
use Rattle.std.specs.Prelude.{ℕ, ◌+◌, ◌-◌, zero, suc, Bool, true, false, List, [], ◌∷◌, ◌++◌, length, slice_range, Option, Some, None, is_some, Result}
use Rattle.std.specs.List.{list_any}
use Rattle.dccp_packets.specs.Outgoing.{Outgoing}
use Rattle.ccid_two.specs.Kinds.{Both, at_first, kinds_control}
use Rattle.congestion_trait.specs.Control.{Control, may_send}
use Rattle.dccp_endpoint.specs.Controlled.{in_flight_of, window_of, with_control}
use Rattle.dccp_endpoint.specs.Usual.{usual}
use Rattle.dccp_states.specs.declared.calls.Timer.{Timer}
use Rattle.dccp_states.specs.declared.calls.Timer.TheVariants as timers
use Rattle.dccp_states.specs.declared.phase.Phase.{Phase}
use Rattle.dccp_states.specs.declared.phase.Phase.TheVariants as phase
use Rattle.dccp_states.specs.declared.phase.Role.TheVariants.{Client, Server}
use Rattle.dccp_uses.specs.Alarms.{alarm_of, has_run_out, until_first}
use Rattle.dccp_uses.specs.Path.{classic_pace}
use Rattle.dccp_uses.specs.Holding.{HoldingState, HoldingStep, without_inbox}
use Rattle.dccp_uses.specs.Sessions.{HoldingSteps, holding_hears, rings_each_due, session_accepted, session_hears}
use Rattle.dccp_uses.specs.Timed.{TimedState, TimedStep, timed_begins, timed_closes, timed_opens, timed_sends}
use Rattle.dccp_uses.specs.Upkeeps.{every_due}
use Rattle.dccp_uses.specs.declared.reader.SendRefusal.{SendRefusal}
use Rattle.dccp_uses.specs.declared.alarms.Alarm.{Alarm}
use Rattle.dccp_uses.specs.declared.alarms.Alarms.{Alarms}
use Rattle.dccp_uses.specs.declared.news.News.{News}
use Rattle.dccp_uses.specs.declared.news.News.TheVariants as news

-- The time; the service of the server; the client's session, the server's once there is one, the frames on either wire, the code with which
-- each was told that the connection has ended, and what was delivered to the server.
pub record Pair (C : Type 0) : Type 0 where
  pub now : ℕ
  pub service : ℕ
  pub client : TimedState C
  pub server : Option (TimedState Both)
  pub to_server : List (List ℕ)
  pub to_client : List (List ℕ)
  pub client_ended : Option ℕ
  pub server_ended : Option ℕ
  pub got : List ℕ

-- a frame goes onto a wire
abbrev pub onto : List (List ℕ) → Option Outgoing → List (List ℕ)
onto wire None = wire
onto wire (Some sent) = wire ++ sent.bytes ∷ []

abbrev pub onto_all : List (List ℕ) → List (Option Outgoing) → List (List ℕ)
onto_all wire [] = wire
onto_all wire (frame ∷ rest) = onto_all (onto wire frame) rest

-- the pair after a step of either session
abbrev pub client_did : {C Answer : Type 0} → Pair C → TimedStep C Answer → Pair C
client_did p step = record p { client = step.timed; to_server = onto p.to_server step.frame }

abbrev pub server_did : {C Answer : Type 0} → Pair C → TimedStep Both Answer → Pair C
server_did p step = record p { server = Some step.timed; to_client = onto p.to_client step.frame }

-- what the owners do with news of a datagram
abbrev pub told_at_client : {C : Type 0} → Pair C → News → Pair C
told_at_client p (news.Data first past) = p
told_at_client p news.Quiet = p
told_at_client p (news.Ended code) = record p { client_ended = Some code }
told_at_client p news.TooLong = p
told_at_client p news.Waits = p
told_at_client p (news.Dropped code) = p

abbrev pub told_at_server : {C : Type 0} → Pair C → List ℕ → News → Pair C
told_at_server p datagram (news.Data first past) = record p { got = p.got ++ slice_range datagram first past }
told_at_server p datagram news.Quiet = p
told_at_server p datagram (news.Ended code) = record p { server_ended = Some code }
told_at_server p datagram news.TooLong = p
told_at_server p datagram news.Waits = p
told_at_server p datagram (news.Dropped code) = p

-- the end with its timers of a session, which has no inbox here
abbrev pub timed_in : Option (HoldingState Both) → Option (TimedState Both)
timed_in None = None
timed_in (Some h) = Some h.timed

-- a datagram at the server: it belongs to the connection, or may open one
abbrev pub stranger_told : {C : Type 0} → Pair C → HoldingStep Both News → Pair C
stranger_told p step = record p { server = timed_in (session_accepted step); to_client = onto p.to_client step.frame }

abbrev pub server_told : {C : Type 0} → Pair C → List ℕ → TimedStep Both News → Pair C
server_told p datagram step = told_at_server (server_did p step) datagram step.answer

abbrev pub serves : {C : Type 0} → Pair C → Option (TimedState Both) → List ℕ → Pair C
serves p None datagram =
    stranger_told p
    (holding_hears kinds_control p.now (without_inbox (timed_begins kinds_control (record (usual Server) { service = p.service }) at_first classic_pace)) datagram)
serves p (Some s) datagram = server_told p datagram (session_hears kinds_control p.now s datagram)

-- the first frame of a wire, if any, arrives
abbrev pub server_takes : {C : Type 0} → Pair C → List (List ℕ) → Pair C
server_takes p [] = p
server_takes p (datagram ∷ rest) = serves (record p { to_server = rest }) p.server datagram

abbrev pub client_told : {C : Type 0} → Pair C → TimedStep C News → Pair C
client_told p step = told_at_client (client_did p step) step.answer

abbrev pub client_hears : {C : Type 0} → Control C → Pair C → List ℕ → Pair C
client_hears control p datagram = client_told p (session_hears control p.now p.client datagram)

abbrev pub client_takes : {C : Type 0} → Control C → Pair C → List (List ℕ) → Pair C
client_takes control p [] = p
client_takes control p (datagram ∷ rest) = client_hears control (record p { to_client = rest }) datagram

-- some timer has run out
abbrev pub is_due : ℕ → Alarms → Bool
is_due now alarms =
    list_any (λ timer. has_run_out (alarm_of alarms timer) now)
    (timers.Request ∷ timers.Ack ∷ timers.Negotiate ∷ timers.Rto ∷ timers.Close ∷ timers.TimeWait ∷ [])

-- The timers of both get the time. Where none has run out nothing comes of it.
abbrev pub client_rang : {C : Type 0} → Pair C → HoldingSteps C → Pair C
client_rang p steps = record p { client = steps.holding.timed; to_server = onto_all p.to_server steps.frames }

abbrev pub client_ticks_if : {C : Type 0} → Bool → Control C → Pair C → Pair C
client_ticks_if false control p = p
client_ticks_if true control p = client_rang p (rings_each_due control p.now (without_inbox p.client) every_due)

abbrev pub client_ticks : {C : Type 0} → Control C → Pair C → Pair C
client_ticks control p = client_ticks_if (is_due p.now p.client.upkeep.alarms) control p

abbrev pub server_rang : {C : Type 0} → Pair C → HoldingSteps Both → Pair C
server_rang p steps = record p { server = Some steps.holding.timed; to_client = onto_all p.to_client steps.frames }

abbrev pub server_ticks_if : {C : Type 0} → Bool → Pair C → TimedState Both → Pair C
server_ticks_if false p s = p
server_ticks_if true p s = server_rang p (rings_each_due kinds_control p.now (without_inbox s) every_due)

abbrev pub server_ticks_in : {C : Type 0} → Pair C → Option (TimedState Both) → Pair C
server_ticks_in p None = p
server_ticks_in p (Some s) = server_ticks_if (is_due p.now s.upkeep.alarms) p s

abbrev pub server_ticks : {C : Type 0} → Pair C → Pair C
server_ticks p = server_ticks_in p p.server

-- this many milliseconds go by, and nothing arrives
abbrev pub later : {C : Type 0} → Pair C → ℕ → Pair C
later p time = record p { now = p.now + time }

abbrev pub waits : {C : Type 0} → Control C → Pair C → ℕ → Pair C
waits control p time = server_ticks (client_ticks control (later p time))

-- this many go by in one turn: a frame arrives at each side, if there is one, and the timers get the time
abbrev pub client_turn : {C : Type 0} → Control C → Pair C → Pair C
client_turn control p = client_takes control p p.to_client

abbrev pub passes : {C : Type 0} → Control C → Pair C → ℕ → Pair C
passes control p time = server_ticks (client_ticks control (client_turn control (server_takes (later p time) p.to_server)))

-- this many turns of 50 milliseconds go by
abbrev pub turns : {C : Type 0} → Control C → ℕ → Pair C → Pair C
turns control zero p = p
turns control (suc count) p = turns control count (passes control p 50)

-- the phase of the server
abbrev pub serving : Option (TimedState Both) → Phase
serving None = phase.Listen
serving (Some s) = s.end.state.phase

-- how long an alarm waits, if it runs
abbrev pub wait_in : Option Alarm → Option ℕ
wait_in None = None
wait_in (Some alarm) = Some alarm.wait

abbrev pub wait_of : Option (TimedState Both) → Timer → Option ℕ
wait_of None timer = None
wait_of (Some s) timer = wait_in (alarm_of s.upkeep.alarms timer)

-- all frames to the server are lost
abbrev pub loses : {C : Type 0} → Pair C → Pair C
loses p = record p { to_server = [] }

-- the client sends data, and the server closes
abbrev pub client_sends : {C : Type 0} → Control C → Pair C → List ℕ → TimedStep C (Result (Unit {0}) SendRefusal)
client_sends control p payload =
    timed_sends control p.now p.client payload

abbrev pub sends : {C : Type 0} → Control C → Pair C → List ℕ → Pair C
sends control p payload = client_did p (client_sends control p payload)

abbrev pub server_closes_in : {C : Type 0} → Pair C → Option (TimedState Both) → Pair C
server_closes_in p None = p
server_closes_in p (Some s) = server_did p (timed_closes kinds_control p.now s)

abbrev pub server_closes : {C : Type 0} → Pair C → Pair C
server_closes p = server_closes_in p p.server

-- how many packets the client may send
abbrev pub room : {C : Type 0} → Control C → Pair C → ℕ
room control p = window_of control p.client.end.congestion - in_flight_of control p.client.end.congestion

abbrev pub client_asks : {C : Type 0} → Control C → Pair C → Pair C
client_asks control p =
    client_did p (timed_opens control p.now p.client)

-- a client of this congestion control asks a server of this service
abbrev pub asking : {C : Type 0} → Control C → C → ℕ → Pair C
asking control congestion service =
    client_asks control
    (record {
      now = 5000;
      service = service;
      client = timed_begins control (usual Client) congestion classic_pace;
      server = None;
      to_server = [];
      to_client = [];
      client_ended = None;
      server_ended = None;
      got = [];
    })

-- What happens: the client sends a byte; the server closes; turns of 50 milliseconds, one of another length, or a time in which nothing arrives;
-- all frames to the server are lost. And what is looked at: the phases, what was delivered, how many frames are on the way to the server, how
-- long it is until the client's first timer runs out, or only that, the wait of a timer that runs at either, the codes with which they were told
-- the end, how many packets the client may send, and whether there is a server.
pub data Word : Type 0 where
  Say : (byte : ℕ) → Word
  ServerCloses Lose : Word
  Turns Pass Wait : (count : ℕ) → Word
  AtPhases AtGot AtFirst AtLeft AtCodes AtRoom AtServer : Word
  AtClientsTimer AtServersTimer : (timer : Timer) → Word

pub data Told : Type 0 where
  Answers : (answer : Result (Unit {0}) SendRefusal) → Told
  PhasesAre : (client server : Phase) → Told
  Got : (bytes : List ℕ) → Told
  FirstIs : (frames : ℕ) (left : Option ℕ) → Told
  CodesAre : (client server : Option ℕ) → Told
  LeftIs : (left : Option ℕ) → Told
  RoomIs : (room : ℕ) → Told
  IsServed : (served : Bool) → Told
  WaitIs : (wait : Option ℕ) → Told

abbrev pub told : {C : Type 0} → Control C → Pair C → List Word → List Told
told control p [] = []
told control p (Say byte ∷ rest) = Answers (client_sends control p (byte ∷ [])).answer ∷ told control (sends control p (byte ∷ [])) rest
told control p (ServerCloses ∷ rest) = told control (server_closes p) rest
told control p (Lose ∷ rest) = told control (loses p) rest
told control p (Turns count ∷ rest) = told control (turns control count p) rest
told control p (Pass time ∷ rest) = told control (passes control p time) rest
told control p (Wait time ∷ rest) = told control (waits control p time) rest
told control p (AtPhases ∷ rest) = PhasesAre p.client.end.state.phase (serving p.server) ∷ told control p rest
told control p (AtGot ∷ rest) = Got p.got ∷ told control p rest
told control p (AtFirst ∷ rest) = FirstIs (length p.to_server) (until_first p.client.upkeep.alarms p.now) ∷ told control p rest
told control p (AtLeft ∷ rest) = LeftIs (until_first p.client.upkeep.alarms p.now) ∷ told control p rest
told control p (AtCodes ∷ rest) = CodesAre p.client_ended p.server_ended ∷ told control p rest
told control p (AtRoom ∷ rest) = RoomIs (room control p) ∷ told control p rest
told control p (AtServer ∷ rest) = IsServed (is_some p.server) ∷ told control p rest
told control p (AtClientsTimer timer ∷ rest) = WaitIs (wait_in (alarm_of p.client.upkeep.alarms timer)) ∷ told control p rest
told control p (AtServersTimer timer ∷ rest) = WaitIs (wait_of p.server timer) ∷ told control p rest
