-- What a line of a replay says, or the first of its faults (own).
use Rattle.std.specs.Prelude.{ℕ, Bool, true, false, ◌&&◌, nat_lt, if◌then◌else◌, List, length, codes, Option, Some, None, Result}
use Rattle.std.specs.Str.{bytes_eq}
use Rattle.schedule_text.specs.declared.line.FrameLine.{FrameLine}
use Rattle.tool_text.specs.declared.words.faults.LineFault.{LineFault}
use Rattle.tool_text.specs.declared.words.faults.LineWhy.{LineWhy}
use Rattle.tool_text.specs.declared.words.faults.LineWhy.TheVariants as why
use Rattle.tool_text.specs.Refusals.{fault_at}
use Rattle.tool_text.specs.Words.{WordsLeft, first_word, later, words_of}
use Rattle.tool_text.specs.Digits.{bytes_of_digits}
use Rattle.tool_text.specs.Kinds.{hex_kind}
use Rattle.tool_text.specs.Rows.{◌>>◌, WordRow, ◌▷◌, end_row, row_as, judged_row, after_word, first_or, nothing_more}
use Rattle.tool_text.specs.Lines.{clean, says_nothing, text_read, first_other, no_text}
use Rattle.schedule_text.specs.Faults.{digits_fault}

-- a frame, whose checksum is to be set or is in it
abbrev pub frame_line : Bool → List ℕ → FrameLine
frame_line seal bytes = record { seal = seal; bytes = bytes }

-- a frame has at most 2,044 bytes, and one whose checksum is to be set at least 8
abbrev pub size_cause : Bool → ℕ → Option LineWhy
size_cause seal size =
    if nat_lt 2044 size then Some why.FrameTooLong
    else if seal && nat_lt size 8 then Some why.SealShort
    else None

-- the frame of what the digits say
abbrev pub digits_frame : Bool → List ℕ × Unit {0} → FrameLine
digits_frame seal s = frame_line seal s.0

-- the size of what the digits say
abbrev pub size_judged : Bool → List ℕ × Unit {0} → Option LineWhy
size_judged seal s = size_cause seal (length s.0)

-- its digits, and nothing after them
abbrev pub frame_row : Bool → WordRow FrameLine
frame_row seal = row_as (digits_frame seal) (judged_row 0 (size_judged seal) (hex_kind ▷ end_row))

-- the words of a line with a frame: `seal` if the checksum is to be set, then the digits
abbrev pub replay_row : WordRow FrameLine
replay_row = after_word (codes "seal") (frame_row true) (frame_row false)

-- the frame of a line whose bytes are text; an empty line or a comment has none
abbrev pub read_clean_frame : List ℕ → Result (Option FrameLine) LineFault
read_clean_frame text = text_read replay_row.said text

-- a replay's line without its newline: its frame, if it has one, or the first of its faults
abbrev pub read_frame : List ℕ → Result (Option FrameLine) LineFault
read_frame text = do
  clean text
  read_clean_frame text

-- The first fault of such a line, as a table.

-- the word `seal` may come before the digits
abbrev pub seals : WordsLeft → Bool
seals left = bytes_eq (first_word left).text (codes "seal")

-- more than 2,044 bytes, or fewer than 8 if the checksum is to be set
abbrev pub size_fault : Bool → ℕ → List ℕ → Option LineFault
size_fault seal column bytes =
    if nat_lt 2044 (length bytes) then Some (fault_at column why.FrameTooLong)
    else if seal && nat_lt (length bytes) 8 then Some (fault_at column why.SealShort)
    else None

-- a flaw in the digits comes before a word after them, and that before a size that no frame has
abbrev pub digits_line_fault : Bool → WordsLeft → Option LineFault
digits_line_fault seal left =
    first_or (digits_fault (first_word left))
    (first_or (nothing_more (later left).words) (size_fault seal (first_word left).column (bytes_of_digits (first_word left).text)))

-- the digits are the second word if `seal` is the first
abbrev pub replayed_fault : WordsLeft → Option LineFault
replayed_fault left = if seals left then digits_line_fault true (later left) else digits_line_fault false left

-- the first fault of a replay's line: its length, then a byte that is no text, then its words
abbrev pub frame_fault : List ℕ → Option LineFault
frame_fault text =
    first_or (if nat_lt 4096 (length text) then Some (fault_at 4097 why.LineTooLong) else None)
    (first_or (no_text (first_other text)) (if says_nothing text then None else replayed_fault (words_of text)))
