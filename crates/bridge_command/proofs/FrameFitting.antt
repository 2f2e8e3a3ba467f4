-- The frames of a transcript fit their records.
use Rattle.std.proofs.Common.{arith, ◌≡◌, ◌≤◌, ◌<◌, ◌^◌, ℕ, ◌+◌, List, [], ◌∷◌, ◌++◌, length, ◌==◌, Bool, true, false, nat_lt, if◌then◌else◌, Option, Some, None, Result, Ok, Err, refl, sym, ap, ◌∙◌, subst}
use Rattle.std.specs.Prelude.{All, IfOk, IfSome, ⊤, codes, flat_map, map}
use Rattle.std.proofs.lemmas.Bool.{ltb-false}
use Rattle.std.proofs.lemmas.List.{append-nil}
use Rattle.std.proofs.lemmas.List.Elements.{All-append, All-cons, All-head, All-nil, All-tail}
use Rattle.std.specs.Str.{bytes_eq}
use Rattle.dccp_io.specs.Lines.{Next, End, Line, Long, Much, next_in_lines, lines_of, text_of}
use Rattle.tool_text.specs.Jobs.{Accepted, LinesResult, Refused, LineVerdict, by_next, deeds_of, gone_by, gone_from, last_in}
use Rattle.tool_text.specs.Numbers.{number_below}
use Rattle.tool_text.proofs.Numerals.{number-spelled}
use Rattle.tool_text.specs.Kinds.{found_or, hex_kind, read_at, word_read}
use Rattle.tool_text.specs.Lines.{clean, says_nothing, text_read, words_read}
use Rattle.tool_text.specs.Refusals.{fault_at}
use Rattle.tool_text.specs.Rows.{◌>>=◌, ◌>>◌, ended, then_row}
use Rattle.tool_text.specs.Words.{WordAt, WordsLeft, first_word, later, word_at, words_of}
use Rattle.tool_text.specs.declared.words.faults.LineFault.{LineFault}
use Rattle.tool_text.specs.declared.words.faults.LineWhy.TheVariants as why
use Rattle.tool_text.specs.declared.words.kinds.Flaw.{Flaw}
use Rattle.dccp_listener.specs.declared.peer.Peer.{Peer}
use Rattle.schedule_text.specs.Frames.{replay_row}
use Rattle.schedule_text.specs.declared.line.FrameLine.{FrameLine}
use Rattle.tool_jobs.specs.Peers.{peer_of}
use Rattle.bridge_command.specs.Capturing.{timed_arrival, by_told, capture_job, first_clock, frames_capture, timed, transcript_gone, transcript_judged, travel_in}
use Rattle.bridge_pictures.specs.LadderLines.{without_colon}
use Rattle.bridge_command.specs.TranscriptLines.{CanArrive, came_by, came_said, frame_name_read, frame_told, is_other, line_said, numbered, sent_said, told_first, told_of_line}
use Rattle.bridge_command.specs.FrameReading.{FitsFrame, travels}
use Rattle.bridge_command.specs.FrameRecords.{TimedFrame, frame_record}
use Rattle.capture_reader.specs.Records.{captured}
use Rattle.bridge_records.specs.Writing.{FitsHeader, capture_of, file_header, raw_entries, raw_record}
use Rattle.bridge_records.proofs.ReadingBack.{records-read}
use Rattle.bridge_command.proofs.Arriving.{IsWhole, arriving-few, frame-whole}
use Rattle.bridge_command.proofs.FrameCarrying.{packet_length}
use Rattle.bridge_command.specs.declared.capture.capturing.Clock.{Clock}
use Rattle.bridge_command.specs.declared.capture.lines.TranscriptLine.{TranscriptLine}
use Rattle.bridge_command.specs.declared.capture.lines.TranscriptLine.TheVariants as told
use Rattle.bridge_command.specs.declared.capture.records.Travel.{Travel}

-- what is told fits: a number has 32 bits, and a frame at most 2,044 bytes
abbrev FitsTold : TranscriptLine → Type 0
FitsTold told.Other = ⊤
FitsTold told.Opened = ⊤
FitsTold (told.Number number) = number < 2 ^ 32
FitsTold (told.Sent travel frame) = length frame ≤ 2044
FitsTold (told.Came peer frame) = CanArrive (told.Came peer frame)

-- the same of a result
abbrev FitsRead : {E : Type 0} → Result TranscriptLine E → Type 0
FitsRead (Ok t) = FitsTold t
FitsRead (Err fault) = ⊤

-- and of what a line means, if it means something
abbrev FitsLine : Result (Option TranscriptLine) LineFault → Type 0
FitsLine (Ok (Some t)) = FitsTold t
FitsLine (Ok None) = ⊤
FitsLine (Err fault) = ⊤

number-fits : (found : Option ℕ) → ((n : ℕ) → found ≡ Some n → n < 2 ^ 32) → FitsRead (numbered (found_or why.UnknownWord found))
number-fits (Some n) fits = fits n refl
number-fits None fits = tt

by-other : (test : Bool) (read : Result TranscriptLine Flaw) → FitsRead read → FitsRead (if test then Ok told.Other else read)
by-other true read fits = tt
by-other false read fits = fits

by-opened : (test : Bool) (read : Result TranscriptLine Flaw) → FitsRead read → FitsRead (if test then Ok told.Opened else read)
by-opened true read fits = tt
by-opened false read fits = fits

first-fits : (word : List ℕ) → FitsRead (told_first word)
first-fits word =
    by-opened (bytes_eq word (codes "open:")) (if is_other word then Ok told.Other else numbered (found_or why.UnknownWord (number_below (2 ^ 32) (without_colon word))))
    (by-other (is_other word) (numbered (found_or why.UnknownWord (number_below (2 ^ 32) (without_colon word))))
    (number-fits (number_below (2 ^ 32) (without_colon word)) (λ n is. (number-spelled (2 ^ 32) (omega arith) (without_colon word) n is).1)))

-- a word that is read at its column
at-fits : (column : ℕ) (read : Result TranscriptLine Flaw) → FitsRead read → FitsRead (read_at column read)
at-fits column (Ok t) fits = fits
at-fits column (Err flaw) fits = tt

if-fits : (test : Bool) (fault : LineFault) (read : Result TranscriptLine LineFault) → FitsRead read → FitsRead (if test then Err fault else read)
if-fits true fault read fits = tt
if-fits false fault read fits = fits

word-fits : (word : WordAt) → FitsRead (word_read told_first word)
word-fits word =
    if-fits (length word.text == 0) (fault_at word.column why.Missing) (read_at word.column (told_first word.text))
    (at-fits word.column (told_first word.text) (first-fits word.text))

size-fits : (test : Bool) (column : ℕ) (said : Travel × (List ℕ × Unit {0})) → nat_lt 2044 (length said.1.0) ≡ test → FitsRead (frame_told column said)
size-fits true column said is =
    subst (λ (t : Bool). FitsRead (if t then Err (fault_at column why.FrameTooLong) else Ok (told.Sent said.0 said.1.0))) (sym is) tt
size-fits false column said is =
    subst (λ (t : Bool). FitsRead (if t then Err (fault_at column why.FrameTooLong) else Ok (told.Sent said.0 said.1.0))) (sym is)
    (ltb-false 2044 (length said.1.0) is)

said-fits : (column : ℕ) (said : Result (Travel × (List ℕ × Unit {0})) LineFault) → FitsRead (said >>= (λ s. frame_told column s))
said-fits column (Ok s) = size-fits (nat_lt 2044 (length s.1.0)) column s refl
said-fits column (Err fault) = tt

by-sent : (test : Bool) (sent other : Result TranscriptLine LineFault) → FitsRead sent → FitsRead other → FitsRead (if test then sent else other)
by-sent true sent other s o = s
by-sent false sent other s o = o

came-fits : (peer : Option Peer) (said : Result FrameLine LineFault) → ((frame : FrameLine) → said ≡ Ok frame → IsWhole frame)
    → FitsRead (said >>= (λ frame. Ok (told.Came peer frame)))
came-fits peer (Ok frame) whole = whole frame refl
came-fits peer (Err fault) whole = tt

arrival-fits : (peer : Option Peer) (left : WordsLeft) → FitsRead (came_by peer left)
arrival-fits (Some peer) left = came-fits (Some peer) (replay_row.said (later left)) (frame-whole (later left))
arrival-fits None left = came-fits None (replay_row.said left) (frame-whole left)

words-fit : (left : WordsLeft) → FitsRead (line_said left)
words-fit left =
    by-sent (bytes_eq (first_word left).text (codes "sent")) (sent_said (later left))
    (if bytes_eq (first_word left).text (codes "came") then came_said (later left) else word_read told_first (first_word left))
    (said-fits (word_at 1 (later left)).column (then_row frame_name_read (then_row hex_kind.reads ended) (later left)))
    (by-sent (bytes_eq (first_word left).text (codes "came")) (came_said (later left)) (word_read told_first (first_word left))
    (arrival-fits (peer_of (first_word (later left)).text) (later left)) (word-fits (first_word left)))

some-fits : (read : Result TranscriptLine LineFault) → FitsRead read → FitsLine (read >>= (λ t. Ok (Some t)))
some-fits (Ok t) fits = fits
some-fits (Err fault) fits = tt

text-fits : (test : Bool) (read : Result (Option TranscriptLine) LineFault) → FitsLine read → FitsLine (if test then Ok None else read)
text-fits true read fits = tt
text-fits false read fits = fits

clean-fits : (judged : Result (Unit {0}) LineFault) (read : Result (Option TranscriptLine) LineFault) → FitsLine read → FitsLine (judged >> read)
clean-fits (Ok _) read fits = fits
clean-fits (Err fault) read fits = tt

line-fits : (line : List ℕ) → FitsLine (told_of_line line)
line-fits line =
    clean-fits (clean line) (text_read line_said line)
    (text-fits (says_nothing line) (words_read line_said line) (some-fits (line_said (words_of line)) (words-fit (words_of line))))

fits-arrives : (said : TranscriptLine) → FitsTold said → CanArrive said
fits-arrives (told.Came peer frame) fits = fits
fits-arrives _ fits = tt

read-arrives : (read : Result (Option TranscriptLine) LineFault) → FitsLine read → IfOk read (λ said. IfSome said CanArrive)
read-arrives (Ok (Some said)) fits = fits-arrives said fits
read-arrives (Ok None) fits = tt
read-arrives (Err fault) fits = tt

pub lines-arrive : (line : List ℕ) → IfOk (told_of_line line) (λ said. IfSome said CanArrive)
lines-arrive line = read-arrives (told_of_line line) (line-fits line)

-- a verdict that keeps time and frames in their bounds
abbrev FitsVerdict : LineVerdict TimedFrame Clock → Type 0
FitsVerdict (Accepted deed next) = All FitsFrame (deeds_of deed) × (next.seconds < 2 ^ 32)
FitsVerdict (Refused fault) = ⊤

told-fits : (clock : Clock) (read : Result (Option TranscriptLine) LineFault) → clock.seconds < 2 ^ 32 → FitsLine read → FitsVerdict (by_told clock read)
told-fits clock (Err fault) time fits = tt
told-fits clock (Ok (Some (told.Number number))) time fits = (All-nil FitsFrame, fits)
told-fits clock (Ok (Some (told.Sent travel frame))) time fits =
    (All-cons FitsFrame (timed clock travel frame) [] (record { time = time; size = fits }) (All-nil FitsFrame), time)
told-fits clock (Ok (Some (told.Came peer frame))) time fits = (
  All-cons FitsFrame (timed_arrival clock (travel_in clock peer) frame) [] (record { time = time; size = arriving-few (travels (travel_in clock peer)) frame fits })
      (All-nil FitsFrame),
  time,
)
told-fits clock _ time fits = (All-nil FitsFrame, time)

judged-fits : (clock : Clock) (number : ℕ) (line : List ℕ) → clock.seconds < 2 ^ 32 → FitsVerdict (transcript_judged clock number line)
unfolding transcript_judged
judged-fits clock number line time = told-fits clock (told_of_line line) time (line-fits line)

next-fits : (clock : Clock) (number : ℕ) (next : Next) → clock.seconds < 2 ^ 32 → FitsVerdict (by_next capture_job clock number next)
next-fits clock number End time = (All-nil FitsFrame, time)
next-fits clock number (Line line) time = judged-fits clock number (text_of line) time
next-fits clock number _ time = tt

gone-fits : (clock : Clock) (number given : ℕ) (verdict : LineVerdict TimedFrame Clock) (rest : Clock → LinesResult TimedFrame Clock) → FitsVerdict verdict
    → ((next : Clock) → next.seconds < 2 ^ 32 → All FitsFrame (rest next).deeds) → All FitsFrame (gone_by clock number given verdict rest).deeds
gone-fits clock number given (Accepted deed next) rest fits others = All-append FitsFrame (deeds_of deed) (rest next).deeds fits.0 (others next fits.1)
gone-fits clock number given (Refused fault) rest fits others = All-nil FitsFrame

lines-fit : (clock : Clock) (number given : ℕ) (lines : List (List ℕ)) → clock.seconds < 2 ^ 32
    → All FitsFrame (gone_from capture_job clock number given lines).deeds
lines-fit clock number given [] time = All-nil FitsFrame
lines-fit clock number given (line ∷ lines) time =
    gone-fits clock number given (by_next capture_job clock number (next_in_lines given (line ∷ lines)))
    (λ next. gone_from capture_job next (number + 1) (given + length line) lines)
    (next-fits clock number (next_in_lines given (line ∷ lines)) time)
    (λ next fits. lines-fit next (number + 1) (given + length line) lines fits)

pub deeds-fit : (input : List ℕ) → All FitsFrame (transcript_gone input).deeds
deeds-fit input = lines-fit first_clock 1 0 (lines_of input) (omega arith)

-- the records of frames, one after the other
records-of : (frames : List TimedFrame) → flat_map (λ f. raw_record (frame_record f)) frames ≡ flat_map raw_record (map frame_record frames)
records-of [] = refl
records-of (f ∷ frames) = ap (λ (more : List ℕ). raw_record (frame_record f) ++ more) (records-of frames)

-- nothing follows the records, whether a line is refused or not
nothing-last : (last : Clock) (number : ℕ) (refusal : Option LineFault) → last_in true capture_job last number refusal ≡ []
nothing-last last number None = refl
nothing-last last number (Some fault) = refl

pub made-of : (input : List ℕ) → frames_capture input ≡ capture_of false (map frame_record (transcript_gone input).deeds)
made-of input =
    let gone = transcript_gone input in
    ap (λ (last : List ℕ). file_header false ++ (flat_map (λ f. raw_record (frame_record f)) gone.deeds ++ last))
    (nothing-last gone.last gone.number gone.refusal)
    ∙ ap (λ (records : List ℕ). file_header false ++ records) (append-nil (flat_map (λ f. raw_record (frame_record f)) gone.deeds))
    ∙ ap (λ (records : List ℕ). file_header false ++ records) (records-of gone.deeds)

headers-fit : (frames : List TimedFrame) → All FitsFrame frames → All FitsHeader (map frame_record frames)
headers-fit [] fits = All-nil FitsHeader
headers-fit (f ∷ frames) fits =
    let size = packet_length f.travel f.frame in
    let first = All-head FitsFrame f frames fits in
    All-cons FitsHeader (frame_record f) (map frame_record frames)
    (record { seconds = first.time; fraction = omega arith; original = omega (arith, first.size); size = omega (arith, size, first.size) })
    (headers-fit frames (All-tail FitsFrame f frames fits))

pub frames-read : (input : List ℕ) → length (frames_capture input) ≤ 2 ^ 32
    → captured (frames_capture input) ≡ record { records = raw_entries false 0 (map frame_record (transcript_gone input).deeds); end = None }
frames-read input room =
    let records = map frame_record (transcript_gone input).deeds in
    let made = made-of input in
    ap captured made ∙ records-read false records (headers-fit (transcript_gone input).deeds (deeds-fit input))
    (subst (λ (bytes : List ℕ). length bytes ≤ 2 ^ 32) made room)
