-- What a line draws of a transcript that `run`, `replay` or `listen` wrote, or that the launcher added about what came (own).
use Rattle.std.specs.Prelude.{ℕ, ◌^◌, ◌-◌, ◌==◌, ◌||◌, ◌&&◌, not, nat_lt, Bool, is_some, if◌then◌else◌, List, [], ◌∷◌, length, take, slice_index, codes, Option, Some, None, option_and_then, Result, Ok, Err}
use Rattle.std.specs.Str.{bytes_eq}
use Rattle.dccp_listener.specs.declared.peer.Peer.{Peer}
use Rattle.schedule_text.specs.Frames.{replay_row}
use Rattle.tool_jobs.specs.Peers.{peer_of}
use Rattle.tool_text.specs.Kinds.{hex_kind, word_read}
use Rattle.tool_text.specs.Lines.{line_read}
use Rattle.tool_text.specs.Numbers.{number_below}
use Rattle.tool_text.specs.Refusals.{fault_at}
use Rattle.tool_text.specs.Rows.{◌>>=◌}
use Rattle.tool_text.specs.Words.{WordsLeft, first_word, later}
use Rattle.tool_text.specs.declared.words.faults.LineFault.{LineFault}
use Rattle.tool_text.specs.declared.words.faults.LineWhy.TheVariants as why
use Rattle.world_events.specs.declared.event.Side.{Side}
use Rattle.world_events.specs.declared.event.Side.TheVariants.{Client, Server}
use Rattle.bridge_pictures.specs.declared.ladder.lines.LadderLine.{LadderLine}
use Rattle.bridge_pictures.specs.declared.ladder.lines.LadderLine.TheVariants as draws
use Rattle.bridge_pictures.specs.declared.ladder.phases.Demand.{Demand}
use Rattle.bridge_pictures.specs.declared.ladder.phases.Demand.TheVariants as asks
use Rattle.bridge_pictures.specs.declared.ladder.phases.Fate.{Fate}
use Rattle.bridge_pictures.specs.declared.ladder.phases.Fate.TheVariants as comes

-- a word without the colon at its end, if one is there
abbrev pub without_colon : List ℕ → List ℕ
without_colon word =
    if nat_lt 0 (length word) && slice_index word (length word - 1) == 58 then take (length word - 1) word else word

-- the side of this name
abbrev pub side_of_word : List ℕ → Option Side
side_of_word word =
    if bytes_eq word (codes "client") then Some Client
    else if bytes_eq word (codes "server") then Some Server
    else None

-- what became of a frame, from the first word of the answer
abbrev pub came_of : List ℕ → Option Fate
came_of word =
    if bytes_eq word (codes "took") then Some comes.Took
    else if bytes_eq word (codes "dropped") then Some comes.Dropped
    else if bytes_eq word (codes "synced") then Some comes.Synced
    else if bytes_eq word (codes "was") then Some comes.WasReset
    else if bytes_eq word (codes "sent") then Some comes.SentReset
    else None

-- the index of a frame: a number below 2^47
abbrev pub frame_index : List ℕ → Option ℕ
frame_index text = number_below (2 ^ 47) text

-- the frame of a sender with this index, if it is one
abbrev pub frame_from : Side → Option ℕ → Option (Side × ℕ)
frame_from from index = option_and_then (λ i. Some (from, i)) index

-- the sender and the index in a frame's name
abbrev pub named_frame : List ℕ → Option (Side × ℕ)
named_frame [] = None
named_frame (letter ∷ index) =
    if letter == 99 then frame_from Client (frame_index index)
    else if letter == 115 then frame_from Server (frame_index index)
    else None

-- the number of a line, with a colon or without
abbrev pub is_line_number : List ℕ → Bool
is_line_number word = is_some (number_below (2 ^ 32) (without_colon word))

-- a frame came, from its name and the first word of the answer
abbrev pub came : List ℕ → List ℕ → Option LadderLine
came name answer = option_and_then (λ f. option_and_then (λ c. Some (draws.Came f.0 f.1 c)) (came_of answer)) (named_frame (without_colon name))

-- a side was asked for this
abbrev pub asked_drawn : List ℕ → Demand → Option LadderLine
asked_drawn side what = option_and_then (λ s. Some (draws.Asked s what)) (side_of_word (without_colon side))

-- the result of an abort
abbrev pub abort_asked : List ℕ → Demand
abort_asked answer = if bytes_eq answer (codes "ok") then asks.GivenUp else asks.Other

-- what the end is asked for by a timer that ran out, if the timer had something to do
abbrev pub timer_asked : List ℕ → List ℕ → Demand
timer_asked timer answer =
    if not (bytes_eq answer (codes "fired")) then asks.Other
    else if bytes_eq timer (codes "timewait:") then asks.GivenUp
    else if bytes_eq timer (codes "rto:") then asks.TimedOut
    else asks.Other

-- what became of a packet of a peer: a full listener answers it by a Reset
abbrev pub peer_came_of : List ℕ → Option Fate
peer_came_of answer = if bytes_eq answer (codes "busy") then Some comes.SentReset else came_of answer

-- what became of a packet of a peer, if one came
abbrev pub peer_by : Peer → Option Fate → LadderLine
peer_by peer (Some c) = draws.PeerCame peer c
peer_by peer None = draws.ListenerTold

-- what happened to a peer, from its name and the first word of the answer
abbrev pub peer_event : List ℕ → List ℕ → Option LadderLine
peer_event name answer = option_and_then (λ peer. Some (peer_by peer (peer_came_of answer))) (peer_of (without_colon name))

-- An event of two ends or of a listener's peer, from the words after its number. An end gives up if it aborts or if its TIMEWAIT is over.
abbrev pub event : List ℕ → List ℕ → List ℕ → List ℕ → Option LadderLine
event second third fourth fifth =
    if bytes_eq second (codes "open:") then Some (draws.Asked Client asks.Other)
    else if bytes_eq second (codes "deliver") then came third fourth
    else if bytes_eq second (codes "abort") then asked_drawn third (abort_asked fourth)
    else if bytes_eq second (codes "timer") then asked_drawn third (timer_asked fourth fifth)
    else if (bytes_eq second (codes "send") || bytes_eq second (codes "prefer")) || bytes_eq second (codes "close") then asked_drawn third asks.Other
    else peer_event second third

-- what became of a frame that came to a single end, if one came
abbrev pub alone_by : Option Fate → LadderLine
alone_by (Some c) = draws.CameAlone c
alone_by None = draws.AskedAlone

-- what a single end answered
abbrev pub answered_alone : List ℕ → LadderLine
answered_alone answer = alone_by (came_of answer)

-- how a side ended
abbrev pub end_drawn : List ℕ → Option LadderLine
end_drawn side = option_and_then (λ s. Some (draws.Ended s)) (side_of_word side)

-- What a line without a frame means, from its first five words: a number with a colon is a replay's.
unfoldable pub told_drawn : List ℕ → List ℕ → List ℕ → List ℕ → List ℕ → Option LadderLine
told_drawn first second third fourth fifth =
    if bytes_eq first (codes "end") then end_drawn second
    else if bytes_eq first (codes "open:") then Some draws.AskedAlone
    else if bytes_eq first (codes "flows") || bytes_eq first (codes "flow") then Some draws.ListenerTold
    else if not (is_line_number first) then None
    else if nat_lt (length (without_colon first)) (length first) then Some (answered_alone second)
    else event second third fourth fifth

-- what was found, or the fault of an unknown word at this column
abbrev pub or_unknown : ℕ → Option LadderLine → Result LadderLine LineFault
or_unknown column (Some drawn) = Ok drawn
or_unknown column None = Err (fault_at column why.UnknownWord)

-- a frame was sent to a peer of this name
abbrev pub peer_sent : List ℕ → List ℕ → Option LadderLine
peer_sent name frame = option_and_then (λ peer. Some (draws.SentToPeer peer frame)) (peer_of name)

-- a frame of an end was sent, or a frame to a peer
abbrev pub sent_by_name : Option (Side × ℕ) → List ℕ → List ℕ → Option LadderLine
sent_by_name (Some f) name frame = Some (draws.Sent f.0 f.1 frame)
sent_by_name None name frame = peer_sent name frame

-- a frame was sent
abbrev pub sent_frame : List ℕ → List ℕ → Option LadderLine
sent_frame name frame = sent_by_name (named_frame name) name frame

-- what follows `sent`: a frame's name, or the peer to which it went, and its bytes
abbrev pub sent_drawn : WordsLeft → Result LadderLine LineFault
sent_drawn left =
    word_read hex_kind.reads (first_word (later left)) >>= (λ frame. or_unknown (first_word left).column (sent_frame (first_word left).text frame))

-- what a line without a frame means, from its first word, which is at this column, and the remaining words
unfoldable pub by_first_word : ℕ → List ℕ → WordsLeft → Result LadderLine LineFault
by_first_word column first left =
    or_unknown column
    (told_drawn first (first_word left).text (first_word (later left)).text (first_word (later (later left))).text
    (first_word (later (later (later left)))).text)

-- a packet that came, from this peer or from the other end
abbrev pub arrival_drawn : Option Peer → WordsLeft → Result LadderLine LineFault
arrival_drawn peer left = replay_row.said left >>= (λ frame. Ok (draws.Arrived peer frame))

-- what follows `came`: the frame of a line of the input, with its peer in front if it has one
abbrev pub arrival_by : Option Peer → WordsLeft → Result LadderLine LineFault
arrival_by (Some peer) left = arrival_drawn (Some peer) (later left)
arrival_by None left = arrival_drawn None left

-- what follows `sent` or `came`, or a line without a frame, from the first word
abbrev pub came_drawn : WordsLeft → Result LadderLine LineFault
came_drawn left = arrival_by (peer_of (first_word left).text) left

-- the words of a line
abbrev pub ladder_row : WordsLeft → Result LadderLine LineFault
ladder_row left =
    if bytes_eq (first_word left).text (codes "sent") then sent_drawn (later left)
    else if bytes_eq (first_word left).text (codes "came") then came_drawn (later left)
    else by_first_word (first_word left).column (first_word left).text (later left)

-- What a line draws, without its newline; an empty line and a comment draw nothing.
abbrev pub drawn_by_line : List ℕ → Result (Option LadderLine) LineFault
drawn_by_line line = line_read ladder_row line
