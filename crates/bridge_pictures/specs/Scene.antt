-- A ladder while it is drawn, row by row (own).
use Rattle.std.specs.Prelude.{ℕ, ◌+◌, nat_lt, Bool, true, false, if◌then◌else◌, List, [], ◌∷◌, ◌++◌, flat_map, slice_get, slice_set, codes, Option, Some, None}
use Rattle.dccp_listener.specs.declared.peer.Peer.{Peer}
use Rattle.dccp_packets.specs.Grammar.{packet_type}
use Rattle.dccp_packets.specs.declared.header.Kind.{Kind}
use Rattle.dccp_packets.specs.declared.header.PacketType.{PacketType}
use Rattle.dccp_states.specs.declared.phase.Phase.{Phase}
use Rattle.dccp_states.specs.declared.phase.Phase.TheVariants as phases
use Rattle.world_events.specs.Actors.{other}
use Rattle.world_events.specs.declared.event.Side.{Side}
use Rattle.world_events.specs.declared.event.Side.TheVariants.{Client, Server}
use Rattle.bridge_pictures.specs.Peers.{PeersParts, arrow_from, arrow_to, entry, first_peers, lane_of, lanes_drawn, listener_size, peer_entered, text_at_lane}
use Rattle.bridge_pictures.specs.Phases.{phase_asked, phase_came, phase_sent}
use Rattle.bridge_pictures.specs.Places.{arrow, arrow_class, lost, name, plain, segment, ladder_size, text_beside}
use Rattle.bridge_pictures.specs.Style.{key, style}
use Rattle.bridge_pictures.specs.Svg.{front}
use Rattle.bridge_pictures.specs.declared.ladder.phases.Demand.{Demand}
use Rattle.bridge_pictures.specs.declared.ladder.phases.Fate.{Fate}
use Rattle.bridge_pictures.specs.declared.ladder.scene.Flight.{Flight}
use Rattle.bridge_pictures.specs.declared.ladder.scene.Subject.{Subject}
use Rattle.bridge_pictures.specs.declared.ladder.scene.Subject.TheVariants as subjects
use Rattle.bridge_pictures.specs.declared.svg.Point.{Point}

-- The line of one end: its phase, the row from which it is still to be drawn, and the frames that it sent.
pub record LifelineParts : Type 0 where
  pub phase : Phase
  pub since : ℕ
  pub frames : List Flight

-- A ladder while it is drawn: how many rows it has, whose lines they are, both lines, those of a listener's peers, and the elements that are
-- drawn already.
pub record Drawing : Type 0 where
  pub rows : ℕ
  pub subject : Subject
  pub client : LifelineParts
  pub server : LifelineParts
  pub peers : PeersParts
  pub body : List ℕ

-- a line before the first row
abbrev pub first_lifeline : Phase → LifelineParts
first_lifeline phase = record { phase = phase; since = 0; frames = [] }

-- Before the first row: the client is CLOSED, and the server in LISTEN.
abbrev pub first_drawing : Drawing
first_drawing = record {
  rows = 0;
  subject = subjects.BothEnds;
  client = first_lifeline phases.Closed;
  server = first_lifeline phases.Listen;
  peers = first_peers;
  body = [];
}

-- the row after this one
abbrev pub next_row : ℕ → ℕ
next_row row = if nat_lt row 4294967295 then row + 1 else row

-- a line up to this row, in the colour of its phase
unfoldable pub drawn_up_to : Side → LifelineParts → ℕ → List ℕ
drawn_up_to side l row = segment side l.phase l.since row

-- a line that is drawn up to this row, from which it has this phase
abbrev pub with_phase : LifelineParts → ℕ → Phase → LifelineParts
with_phase l row phase = record l { phase = phase; since = row }

-- a frame that was sent in this row, and that has not come
abbrev pub flight_from : ℕ → Option PacketType → Flight
flight_from row kind = record { row = row; kind = kind; came = false }

-- one more frame was sent
abbrev pub noted : LifelineParts → ℕ → Option PacketType → LifelineParts
noted l row kind = record l { frames = l.frames ++ flight_from row kind ∷ [] }

-- the frame of this index
abbrev pub flight_of : LifelineParts → ℕ → Option Flight
flight_of l index = slice_get l.frames index

-- a frame that came
abbrev pub come : Flight → Flight
come f = record f { came = true }

-- the frame of this index, if there is one, came
abbrev pub with_come_if : LifelineParts → ℕ → Option Flight → LifelineParts
with_come_if l index None = l
with_come_if l index (Some f) = record l { frames = slice_set l.frames index (come f) }

-- the frame of this index, if there is one, came
abbrev pub with_come : LifelineParts → ℕ → LifelineParts
with_come l index = with_come_if l index (flight_of l index)

-- the arrow of a frame that never came
abbrev pub loss : Side → Flight → List ℕ
loss side f = if f.came then [] else lost side f.row

-- the arrows of those among a side's frames that never came
abbrev pub losses : Side → List Flight → List ℕ
losses side frames = flat_map (loss side) frames

-- the arrows of the frames of a line that never came
unfoldable pub losses_of : Side → LifelineParts → List ℕ
losses_of side l = losses side l.frames

-- the line of a side
abbrev pub lifeline_of : Drawing → Side → LifelineParts
lifeline_of d Client = d.client
lifeline_of d Server = d.server

-- the same drawing with another line of a side
abbrev pub with_lifeline : Drawing → Side → LifelineParts → Drawing
with_lifeline d Client l = record d { client = l }
with_lifeline d Server l = record d { server = l }

-- a drawing with further elements
abbrev pub with_text : Drawing → List ℕ → Drawing
with_text d text = record d { body = d.body ++ text }

-- the same drawing, with the lines of these ends
abbrev pub drawn_of : Subject → Drawing → Drawing
drawn_of subject d = record d { subject = subject }

-- the left line is a single end
abbrev pub is_one_end : Subject → Bool
is_one_end subjects.BothEnds = false
is_one_end subjects.OneEnd = true
is_one_end subjects.Listener = false

-- a new row, with this text beside a side's line
unfoldable pub row_told : Drawing → Side → List ℕ → Drawing
row_told d side words = record d { rows = next_row d.rows; body = d.body ++ text_beside side (next_row d.rows) words }

-- a side has this phase from this row on
unfoldable pub turned_to : Drawing → Side → Phase → Drawing
turned_to d side phase = with_lifeline (with_text d (drawn_up_to side (lifeline_of d side) d.rows)) side (with_phase (lifeline_of d side) d.rows phase)

-- the phase of a side
abbrev pub phase_of : Drawing → Side → Phase
phase_of d side = (lifeline_of d side).phase

-- a side was asked for something in this row
abbrev pub asked_in_row : Drawing → Side → Demand → Drawing
asked_in_row d side asked = turned_to d side (phase_asked (phase_of d side) asked)

-- A side was asked for something.
unfoldable pub asked_at : Drawing → Side → Demand → List ℕ → Drawing
asked_at d side asked words = asked_in_row (row_told d side words) side asked

-- the frame of this side and index comes now
abbrev pub come_from : Drawing → Side → ℕ → Drawing
come_from d from index = with_lifeline d from (with_come (lifeline_of d from) index)

-- the receiver's phase once a packet of this type came
abbrev pub turned_by : Drawing → Side → Option PacketType → Fate → Drawing
turned_by d to None came = d
turned_by d to (Some kind) came = turned_to d to (phase_came (phase_of d to) kind came)

-- a frame came that this side had sent
abbrev pub arrow_arrived : Drawing → Side → Flight → Fate → List ℕ → Drawing
arrow_arrived d from f came words = turned_by (with_text d (arrow (arrow_class came f.came) from f.row d.rows words)) (other from) f.kind came

-- the frame of this index came, if this side sent one
abbrev pub arrived_if : Drawing → Side → Option Flight → Fate → List ℕ → Drawing
arrived_if d from None came words = d
arrived_if d from (Some f) came words = arrow_arrived d from f came words

-- the frame of this side and index came in this row
abbrev pub delivered_in_row : Drawing → Side → ℕ → Fate → List ℕ → Drawing
delivered_in_row d from index came words = arrived_if (come_from d from index) from (flight_of (lifeline_of d from) index) came words

-- The frame of this side and index came, and this became of it.
unfoldable pub delivered : Drawing → Side → ℕ → Fate → List ℕ → Drawing
delivered d from index came words = delivered_in_row (row_told d (other from) words) from index came words

-- a side sent a frame in this row
abbrev pub noted_at : Drawing → Side → Option PacketType → Drawing
noted_at d side kind = with_lifeline d side (noted (lifeline_of d side) d.rows kind)

-- a frame was sent, which is a packet of this kind or none
abbrev pub sent_in_row : Drawing → Side → Option Kind → Drawing
sent_in_row d side None = noted_at d side None
sent_in_row d side (Some kind) = turned_to (noted_at d side (Some (packet_type kind))) side (phase_sent (phase_of d side) kind)

-- A side sent a frame, which is a packet of this kind or none.
unfoldable pub frame_sent : Drawing → Side → Option Kind → List ℕ → Drawing
frame_sent d side kind words = sent_in_row (row_told d side words) side kind

-- A frame goes between the lines in this row.
unfoldable pub gone_straight : Drawing → Side → List ℕ → List ℕ → Drawing
gone_straight d from class words = with_text d (arrow class from d.rows d.rows words)

-- both lines to the bottom, and the frames that never came
abbrev pub two_ends_rest : Drawing → List ℕ
two_ends_rest d =
    drawn_up_to Client d.client (next_row d.rows) ++ drawn_up_to Server d.server (next_row d.rows)
    ++ losses_of Client d.client ++ losses_of Server d.server

-- a peer is seen in this row
abbrev pub entered_in_row : Drawing → Peer → Drawing
entered_in_row d peer = record d { peers = peer_entered d.peers peer d.rows; body = d.body ++ entry d.peers peer d.rows }

-- a packet of a peer came in this row
abbrev pub heard_in_row : Drawing → Peer → List ℕ → List ℕ → Drawing
heard_in_row d peer class words = with_text (entered_in_row d peer) (arrow_from class (lane_of d.peers peer) d.rows words)

-- A listener was asked for something, or lists its flows.
unfoldable pub listener_told : Drawing → List ℕ → Drawing
listener_told d words = row_told (drawn_of subjects.Listener d) Client words

-- A packet of a peer came to a listener. Its look shows what became of it.
unfoldable pub peer_heard : Drawing → Peer → List ℕ → List ℕ → Drawing
peer_heard d peer class words = heard_in_row (listener_told d words) peer class words

-- a packet goes to a peer in this row
abbrev pub answered_in_row : Drawing → Peer → List ℕ → Drawing
answered_in_row d peer words = with_text (entered_in_row d peer) (arrow_to (lane_of d.peers peer) d.rows words)

-- A listener sends a packet to a peer.
unfoldable pub peer_answered : Drawing → Peer → List ℕ → Drawing
peer_answered d peer words = answered_in_row (listener_told d words) peer words

-- what a packet says that came in this row, beside the line of its peer
abbrev pub told_at_lane : Drawing → Peer → List ℕ → Drawing
told_at_lane d peer words = with_text (entered_in_row d peer) (text_at_lane (lane_of d.peers peer) d.rows words)

-- What a packet says that came in the latest row: from a peer, or from the other end.
unfoldable pub arrival_drawn_beside : Drawing → Option Peer → List ℕ → Drawing
arrival_drawn_beside d (Some peer) words = told_at_lane d peer words
arrival_drawn_beside d None words = with_text d (text_beside Server d.rows words)

-- what is drawn at the end: for both ends the lines to the bottom, and the frames that never came; for others, whose phases are not known, the
-- lines alone
abbrev pub parts_by_subject : Subject → Drawing → List ℕ
parts_by_subject subjects.BothEnds d = two_ends_rest d
parts_by_subject subjects.OneEnd d = plain Client (next_row d.rows) ++ plain Server (next_row d.rows)
parts_by_subject subjects.Listener d = plain Client (next_row d.rows) ++ lanes_drawn d.peers (next_row d.rows)

-- What is drawn at the end.
unfoldable pub last_parts : Drawing → List ℕ
last_parts d = parts_by_subject d.subject d

-- What the lines are called; peers have their names where their lines begin. Colours show phases, and only in pictures of both ends.
abbrev pub names : Subject → List ℕ
names subjects.BothEnds = key ++ name Client (codes "client") ++ name Server (codes "server")
names subjects.OneEnd = name Client (codes "this end") ++ name Server (codes "its peer")
names subjects.Listener = name Client (codes "listener")

-- the size of a picture: a listener's is as wide as it has peers
abbrev pub size_by : Subject → Drawing → Point
size_by subjects.BothEnds d = ladder_size d.rows
size_by subjects.OneEnd d = ladder_size d.rows
size_by subjects.Listener d = listener_size d.peers d.rows

-- The picture: its size, its style, what the lines are called, and all that was drawn.
unfoldable pub picture : Drawing → List ℕ
picture d = front (size_by d.subject d) ++ style ++ names d.subject ++ d.body ++ last_parts d ++ codes "</svg>\n"
