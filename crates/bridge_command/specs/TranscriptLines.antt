-- What the lines of a transcript mean: those that `run`, `replay` and `listen` write, and those that the launcher adds about what came (own).
use Rattle.std.specs.Prelude.{◌≡◌, ◌≤◌, ℕ, true, ◌^◌, ◌==◌, ◌||◌, nat_lt, Bool, if◌then◌else◌, List, [], ◌∷◌, length, codes, Option, Some, None, Result, Ok, Err}
use Rattle.std.specs.Str.{bytes_eq}
use Rattle.bridge_pictures.specs.LadderLines.{without_colon}
use Rattle.dccp_listener.specs.declared.peer.Peer.{Peer}
use Rattle.schedule_text.specs.Frames.{replay_row}
use Rattle.tool_jobs.specs.Peers.{peer_of}
use Rattle.tool_text.specs.Numbers.{number_below}
use Rattle.tool_text.specs.declared.words.faults.LineFault.{LineFault}
use Rattle.tool_text.specs.declared.words.faults.LineWhy.TheVariants as why
use Rattle.tool_text.specs.declared.words.kinds.Flaw.{Flaw}
use Rattle.tool_text.specs.Kinds.{flaw_after, found_or, hex_kind, word_read}
use Rattle.tool_text.specs.Lines.{line_read}
use Rattle.tool_text.specs.Refusals.{fault_at}
use Rattle.tool_text.specs.Rows.{◌>>=◌, ended, then_row}
use Rattle.tool_text.specs.Words.{WordsLeft, first_word, later, word_at}
use Rattle.world_events.specs.declared.event.Side.{Side}
use Rattle.world_events.specs.declared.event.Side.TheVariants.{Client, Server}
use Rattle.bridge_command.specs.FrameRecords.{travel_of, travel_to}
use Rattle.bridge_command.specs.declared.capture.lines.TranscriptLine.{TranscriptLine}
use Rattle.bridge_command.specs.declared.capture.lines.TranscriptLine.TheVariants as told
use Rattle.bridge_command.specs.declared.capture.records.Travel.{Travel}

-- from a side to the other, if an index was found
abbrev pub with_index : Side → Result ℕ Flaw → Result Travel Flaw
with_index from (Ok index) = Ok (travel_of from)
with_index from (Err flaw) = Err flaw

-- the way of the frame of this sender whose index this is: a number below 2^47
abbrev pub frame_of_sender : Side → List ℕ → Result Travel Flaw
frame_of_sender from index = with_index from (found_or why.BadNumber (number_below (2 ^ 47) index))

-- the way of a frame that a listener sent to this peer
abbrev pub to_peer_named : Option Peer → Result Travel Flaw
to_peer_named (Some peer) = Ok (travel_to peer)
to_peer_named None = Err (flaw_after 0 why.UnknownWord)

-- a frame's name: `c` or `s` for its sender, and its index; or the peer to which a listener sent it
abbrev pub frame_name_read : List ℕ → Result Travel Flaw
frame_name_read [] = Err (flaw_after 0 why.UnknownWord)
frame_name_read (letter ∷ index) =
    if letter == 99 then frame_of_sender Client index
    else if letter == 115 then frame_of_sender Server index
    else to_peer_named (peer_of (letter ∷ index))

-- the first words of the lines of ends and of flows; the word of a refusal is not one of them, so what was refused is refused again
abbrev pub is_other : List ℕ → Bool
is_other word = (bytes_eq word (codes "end") || bytes_eq word (codes "flows")) || bytes_eq word (codes "flow")

-- the number of a line, if one was found
abbrev pub numbered : Result ℕ Flaw → Result TranscriptLine Flaw
numbered (Ok number) = Ok (told.Number number)
numbered (Err flaw) = Err flaw

-- the first word of a line without a frame: the number of the line that was answered, with a colon in a replay, or one of a few words
abbrev pub told_first : List ℕ → Result TranscriptLine Flaw
told_first word =
    if bytes_eq word (codes "open:") then Ok told.Opened
    else if is_other word then Ok told.Other
    else numbered (found_or why.UnknownWord (number_below (2 ^ 32) (without_colon word)))

-- a frame has at most 2,044 bytes; the fault is at this column
abbrev pub frame_told : ℕ → Travel × (List ℕ × Unit {0}) → Result TranscriptLine LineFault
frame_told column said =
    if nat_lt 2044 (length said.1.0) then Err (fault_at column why.FrameTooLong) else Ok (told.Sent said.0 said.1.0)

-- what follows `sent`: a frame's name and its bytes, and nothing after them
abbrev pub sent_said : WordsLeft → Result TranscriptLine LineFault
sent_said left = then_row frame_name_read (then_row hex_kind.reads ended) left >>= (λ said. frame_told (word_at 1 left).column said)

-- a frame that came, of this peer or of the only other end
abbrev pub frame_came : Option Peer → WordsLeft → Result TranscriptLine LineFault
frame_came peer left = replay_row.said left >>= (λ frame. Ok (told.Came peer frame))

-- what follows `came`: the frame of a line of the input, with its peer in front if it has one
abbrev pub came_by : Option Peer → WordsLeft → Result TranscriptLine LineFault
came_by (Some peer) left = frame_came (Some peer) (later left)
came_by None left = frame_came None left

-- what follows the first word of a line
abbrev pub came_said : WordsLeft → Result TranscriptLine LineFault
came_said left = came_by (peer_of (first_word left).text) left

-- the words of a line: after `sent` and `came` those of a frame, and otherwise the first word alone counts
abbrev pub line_said : WordsLeft → Result TranscriptLine LineFault
line_said left =
    if bytes_eq (first_word left).text (codes "sent") then sent_said (later left)
    else if bytes_eq (first_word left).text (codes "came") then came_said (later left)
    else word_read told_first (first_word left)

-- a frame that came has at most 2,044 bytes, and at least eight if its checksum is to be set
abbrev pub CanArrive : TranscriptLine → Type 0
CanArrive (told.Came peer frame) = (length frame.bytes ≤ 2044) × (frame.seal ≡ true → 8 ≤ length frame.bytes)
CanArrive _ = Unit {0}

-- what a line means, without its newline; an empty line and a comment mean nothing
abbrev pub told_of_line : List ℕ → Result (Option TranscriptLine) LineFault
told_of_line line = line_read line_said line
