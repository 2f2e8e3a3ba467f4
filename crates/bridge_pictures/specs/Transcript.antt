-- What `ladder` draws of a transcript that `run`, `replay` or `listen` wrote (own).
use Rattle.std.specs.Prelude.{ℕ, nat_lt, Bool, false, is_some, if◌then◌else◌, List, [], ◌++◌, length, codes, decimal, Option, Some, None, Result, Ok, Err}
use Rattle.dccp_listener.specs.declared.peer.Peer.{Peer}
use Rattle.dccp_packets.specs.Grammar.{Parts, decoded}
use Rattle.dccp_packets.specs.declared.header.Kind.{Kind}
use Rattle.dccp_packets.specs.declared.reading.Malformed.{Malformed}
use Rattle.packet_show.specs.Lines.{words_text}
use Rattle.schedule_text.specs.Printing.{side_letter}
use Rattle.tool_jobs.specs.Peers.{peer_text}
use Rattle.tool_text.specs.Jobs.{Accepted, LinesResult, Job, Refused, LineVerdict, gone_through, refusal_told, text_apart}
use Rattle.tool_text.specs.Names.{malformed_name}
use Rattle.tool_text.specs.declared.lines.refusals.LineRefusal.{LineRefusal}
use Rattle.tool_text.specs.declared.words.faults.LineFault.{LineFault}
use Rattle.world_events.specs.declared.event.Side.{Side}
use Rattle.world_events.specs.declared.event.Side.TheVariants.{Client, Server}
use Rattle.bridge_pictures.specs.LadderLines.{drawn_by_line}
use Rattle.bridge_pictures.specs.Places.{arrow_class}
use Rattle.bridge_pictures.specs.Scene.{Drawing, arrival_drawn_beside, asked_at, delivered, drawn_of, first_drawing, gone_straight, is_one_end, listener_told, peer_answered, peer_heard, picture, frame_sent, row_told}
use Rattle.bridge_pictures.specs.declared.ladder.lines.LadderLine.{LadderLine}
use Rattle.bridge_pictures.specs.declared.ladder.lines.LadderLine.TheVariants as draws
use Rattle.bridge_pictures.specs.declared.ladder.phases.Fate.{Fate}
use Rattle.bridge_pictures.specs.declared.ladder.scene.Subject.TheVariants as subjects

-- what a packet says, or why bytes are none
abbrev pub words_by : Result Parts Malformed → List ℕ
words_by (Ok packet) = words_text packet
words_by (Err fault) = codes " malformed " ++ malformed_name fault

-- what the packet in these bytes says
abbrev pub packet_words : List ℕ → List ℕ
packet_words bytes = words_by (decoded bytes)

-- a frame's name, and what it says
unfoldable pub frame_label : Side → ℕ → List ℕ → List ℕ
frame_label from index bytes = side_letter from ++ decimal index ++ packet_words bytes

-- the kind of a packet
abbrev pub kind_by : Result Parts Malformed → Option Kind
kind_by (Ok packet) = Some packet.header.kind
kind_by (Err fault) = None

-- the kind of packet that bytes are, if they are one
abbrev pub kind_in : List ℕ → Option Kind
kind_in bytes = kind_by (decoded bytes)

-- a side, or the only end
abbrev pub drawn_side : Drawing → Side → Side
drawn_side d side = if is_one_end d.subject then Client else side

-- a frame with these words was sent: that of a single end has a straight arrow
unfoldable pub frame_drawn : Drawing → Side → List ℕ → List ℕ → Drawing
frame_drawn d from bytes words =
    if is_one_end d.subject then gone_straight (row_told d Client words) Client (codes "sent") words
    else frame_sent d from (kind_in bytes) words

-- a frame came to a single end, from a peer that is not seen
unfoldable pub came_alone : Drawing → Fate → List ℕ → Drawing
came_alone d came line = gone_straight (row_told (drawn_of subjects.OneEnd d) Client line) Server (arrow_class came false) line

-- a frame was sent, of at most 2,044 bytes
abbrev pub sent_on : Drawing → Side → ℕ → List ℕ → Drawing
sent_on d from index frame = if nat_lt 2044 (length frame) then d else frame_drawn d from frame (frame_label from index frame)

-- a peer, and what a frame to it says
unfoldable pub peer_label : Peer → List ℕ → List ℕ
peer_label peer bytes = peer_text peer ++ packet_words bytes

-- what a packet says that came
unfoldable pub arrival_label : List ℕ → List ℕ
arrival_label bytes = codes "came" ++ packet_words bytes

-- a frame went to a peer, of at most 2,044 bytes
abbrev pub sent_to_peer : Drawing → Peer → List ℕ → Drawing
sent_to_peer d peer frame = if nat_lt 2044 (length frame) then d else peer_answered d peer (peer_label peer frame)

-- What a line draws.
unfoldable pub drawn_on : Drawing → List ℕ → LadderLine → Drawing
drawn_on d line (draws.Asked side what) = asked_at d side what line
drawn_on d line (draws.Came from index came) = delivered d from index came line
drawn_on d line draws.AskedAlone = row_told (drawn_of subjects.OneEnd d) Client line
drawn_on d line (draws.CameAlone came) = came_alone d came line
drawn_on d line (draws.Sent from index frame) = sent_on d from index frame
drawn_on d line (draws.Ended side) = row_told d (drawn_side d side) line
drawn_on d line (draws.PeerCame peer came) = peer_heard d peer (arrow_class came false) line
drawn_on d line (draws.SentToPeer peer frame) = sent_to_peer d peer frame
drawn_on d line draws.ListenerTold = listener_told d line
drawn_on d line (draws.Arrived peer frame) = arrival_drawn_beside d peer (arrival_label frame.bytes)

-- the result of a line: it is drawn, or refused, or says nothing
abbrev pub line_drawn : Drawing → List ℕ → Result (Option LadderLine) LineFault → LineVerdict (Unit {0}) Drawing
line_drawn d line (Err fault) = Refused fault
line_drawn d line (Ok None) = Accepted None d
line_drawn d line (Ok (Some drawn)) = Accepted None (drawn_on d line drawn)

-- A line of a transcript, without its newline.
unfoldable pub line_judged : Drawing → ℕ → List ℕ → LineVerdict (Unit {0}) Drawing
line_judged d number line = line_drawn d line (drawn_by_line line)

-- What `ladder` makes of the lines: each is drawn, and the picture comes at the end.
abbrev pub ladder_job : Job (Unit {0}) Drawing
ladder_job = record { judged = line_judged; told = λ _. []; ending = picture }

-- the result of the lines of a transcript
abbrev pub ladder_gone : List ℕ → LinesResult (Unit {0}) Drawing
ladder_gone input = gone_through ladder_job first_drawing input

-- What `ladder` writes of a transcript: the picture, or nothing if a line is refused.
abbrev pub ladder_text : List ℕ → List ℕ
ladder_text input = text_apart ladder_job (ladder_gone input)

-- The line that is refused, if one is.
abbrev pub ladder_refusal : List ℕ → Option LineRefusal
ladder_refusal input = refusal_told (ladder_gone input)

-- The transcript is refused at some line.
abbrev pub ladder_refused : List ℕ → Bool
ladder_refused input = is_some (ladder_gone input).refusal

-- How many bytes of a transcript its accepted lines have.
abbrev pub ladder_accepted : List ℕ → ℕ
ladder_accepted input = (ladder_gone input).accepted
