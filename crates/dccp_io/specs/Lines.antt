-- The lines of an input, and where they are too long or too much (own).
use Rattle.std.specs.Prelude.{◌≡◌, ℕ, suc, ◌+◌, ◌-◌, ◌≤◌, ◌<◌, ◌⊎◌, ◌==◌, ◌||◌, nat_le, nat_lt, is_some, min, Bool, true, false, if◌then◌else◌, List, [], ◌∷◌, length, take, drop, Option, Some, None, IfSome, Result, Ok, Err, ⊤}
use Rattle.std.specs.Io.KnownBytes.{prepend_known}
use Rattle.dccp_io.specs.Ahead.{BytesAhead, ahead_of}
use Rattle.dccp_io.specs.Counts.{Rose}
use Rattle.dccp_io.specs.Fronts.{GivesAtMost}
use Rattle.dccp_io.specs.declared.lines.LineRead.{LineRead}
use Rattle.dccp_io.specs.declared.lines.LineRead.TheVariants as read
use Rattle.dccp_io.specs.declared.lines.LinesFault.{LinesFault}
use Rattle.dccp_io.specs.declared.lines.NextItem.{NextItem}
use Rattle.dccp_io.specs.declared.lines.NextItem.TheVariants as next_item
use Rattle.dccp_io.specs.declared.lines.Stop.{Stop}
use Rattle.dccp_io.specs.declared.lines.Stop.TheVariants as stop

-- The byte that ends a line.
abbrev pub newline : ℕ
newline = 10

-- The byte at which a line is too long, counted from 1.
abbrev pub one_too_many : ℕ
one_too_many = 4097

-- The most bytes of an input.
abbrev pub most_input_bytes : ℕ
most_input_bytes = 16777216

-- How many bytes come before the first newline, or before the end if there is none.
abbrev pub text_length : List ℕ → ℕ
text_length [] = 0
text_length (byte ∷ rest) = if byte == newline then 0 else suc (text_length rest)

-- The first line, with its newline; the last line of an input may lack it.
abbrev pub first_line : List ℕ → List ℕ
first_line bytes = take (suc (text_length bytes)) bytes

-- A line without its newline.
abbrev pub text_of : List ℕ → List ℕ
text_of line = take (text_length line) line

-- If a line comes after this many bytes, its bytes up to its newline, to the end of the input, or to the byte at which it is too long are within
-- the bytes that an input may have.
abbrev pub ends_within : ℕ → List ℕ → Bool
ends_within given line = nat_le (given + min (length line) one_too_many) most_input_bytes

-- What comes next in an input: its end, a line with its newline, the front of a line that is too long, or a line that
-- is too much.
pub data Next : Type 0 where
  End : Next
  Line : (line : List ℕ) → Next
  Long : (front : List ℕ) → Next
  Much : Next

-- A first line whose text has this many bytes: it comes next, or its front if it is too long.
abbrev pub by_length : List ℕ → ℕ → Next
by_length bytes n = if nat_le one_too_many n then Long (take one_too_many bytes) else Line (first_line bytes)

-- What comes next among the bytes that are left of an input, after this many that were given: a line is judged for too much input before its
-- length.
abbrev pub next_in_bytes : ℕ → List ℕ → Next
next_in_bytes given [] = End
next_in_bytes given (byte ∷ bytes) =
    if ends_within given (first_line (byte ∷ bytes)) then by_length (byte ∷ bytes) (text_length (byte ∷ bytes)) else Much

-- The lines of an input, each with its newline; the last may lack it. A byte goes onto the first line after it.
abbrev pub before_line : ℕ → List (List ℕ) → List (List ℕ)
before_line byte [] = (byte ∷ []) ∷ []
before_line byte (line ∷ lines) = (byte ∷ line) ∷ lines

-- all lines of these bytes
abbrev pub lines_of : List ℕ → List (List ℕ)
lines_of [] = []
lines_of (byte ∷ rest) = if byte == newline then (newline ∷ []) ∷ lines_of rest else before_line byte (lines_of rest)

-- The same for the lines that are left: the end, or the first of them.
abbrev pub next_in_lines : ℕ → List (List ℕ) → Next
next_in_lines given [] = End
next_in_lines given (line ∷ lines) = if ends_within given line then by_length line (text_length line) else Much

-- What was found in the bytes that are pending.
abbrev pub made_out : List ℕ → NextItem → Next
made_out bytes next_item.End = End
made_out bytes (next_item.Line count) = Line (take count bytes)
made_out bytes next_item.TooLong = Long (take one_too_many bytes)
made_out bytes next_item.TooMuch = Much

-- A line that was found has some of the pending bytes, is not too long, lies within the bytes that an input may have, and has no newline except
-- at its end.
abbrev pub IsLineOf : ℕ → List ℕ → NextItem → Type 0
IsLineOf given bytes (next_item.Line count) =
    (0 < count) × (count ≤ length bytes) × (count ≤ one_too_many) × (given + count ≤ most_input_bytes) × (count ≤ suc (text_length bytes))
IsLineOf given bytes _ = ⊤

-- The first line is pending up to its newline, or this many bytes of it are, or all that is left.
abbrev pub IsSought : ℕ → List ℕ → Option (List ℕ) → Type 0
IsSought asked pending left = (asked ≤ text_length pending) ⊎ ((text_length pending < length pending) ⊎ IfSome left (λ more. more ≡ []))

-- How many bytes of a line settle what comes next, after this many that were given: as many as make it too long, or too much.
abbrev pub enough : ℕ → ℕ
enough given = min one_too_many (most_input_bytes - given + 1)

-- The pending bytes settle what comes next: this many of the first line's bytes are there, or its newline is.
abbrev pub is_line_settled : ℕ → List ℕ → Bool
is_line_settled asked pending = nat_le asked (text_length pending) || nat_lt (text_length pending) (length pending)

-- What a search does not change: what is still to come, the block, and to whom the source belongs.
pub record Seeks {S : Type 0} (left : S → Option (List ℕ)) (faults lender : S → ℕ) (old new : BytesAhead) (before after : S) : Type 0 where
  pub same_ahead : ahead_of new (left after) ≡ ahead_of old (left before)
  pub same_size : new.size ≡ old.size
  pub fits : length new.pending ≤ new.size
  pub never_falls : faults before ≤ faults after
  pub same_lender : lender after ≡ lender before

-- What a reader of lines shows of itself: the source, the bytes that were read and not given, the line that was given
-- last, with its newline, how many bytes of the input the lines have that were given, and why no further line comes.
pub record LinesState (S : Type 0) : Type 0 where
  pub source : S
  pub pending : List ℕ
  pub line : List ℕ
  pub given : ℕ
  pub stop : Option Stop

-- The next call reads nothing: what is pending settles its answer, or no further line comes.
abbrev pub holds_next : {S : Type 0} → LinesState S → Bool
holds_next l = is_some l.stop || is_line_settled (enough l.given) l.pending

-- what is left of the input after the lines that were given, if the source's bytes are known
abbrev pub rest_of_input : {S : Type 0} → (S → Option (List ℕ)) → LinesState S → Option (List ℕ)
rest_of_input left l = prepend_known l.pending (left l.source)

-- The line that comes next was given.
pub record GivesLine {S : Type 0} (left : S → Option (List ℕ)) (old new : LinesState S) : Type 0 where
  pub was_open : old.stop ≡ None
  pub is_open : new.stop ≡ None
  pub some : 0 < length new.line
  pub short : length new.line ≤ one_too_many
  pub given : new.given ≡ old.given + length new.line
  pub next : IfSome (rest_of_input left old) (λ bytes. (next_in_bytes old.given bytes ≡ Line new.line) × (rest_of_input left new ≡ Some (drop (length new.line) bytes)))

-- The input is at its end.
pub record EndsInput {S : Type 0} (left : S → Option (List ℕ)) (old new : LinesState S) : Type 0 where
  pub was_open : old.stop ≡ None
  pub is_open : new.stop ≡ None
  pub given : new.given ≡ old.given
  pub next : IfSome (rest_of_input left old) (λ bytes. (bytes ≡ []) × (rest_of_input left new ≡ Some []))

-- why no line was given: the one that comes next is too long or too much, or the source failed
abbrev pub CausesStop : {S : Type 0} → (S → Option (List ℕ)) → (S → ℕ) → LinesState S → LinesState S → Stop → Type 0
CausesStop left faults old new stop.TooLong = IfSome (rest_of_input left old) (λ bytes. next_in_bytes old.given bytes ≡ Long (take one_too_many new.pending))
CausesStop left faults old new stop.TooMuch = IfSome (rest_of_input left old) (λ bytes. next_in_bytes old.given bytes ≡ Much)
CausesStop left faults old new stop.Failed = Rose (faults old.source) (faults new.source)

-- No further line comes, for a cause in this call or before, and then nothing was done.
pub record Stops {S : Type 0} (left : S → Option (List ℕ)) (faults : S → ℕ) (old new : LinesState S) (why : Stop) : Type 0 where
  pub kept : new.stop ≡ Some why
  pub given : new.given ≡ old.given
  pub same_rest : rest_of_input left new ≡ rest_of_input left old
  pub cause : ((old.stop ≡ Some why) × (new ≡ old)) ⊎ ((old.stop ≡ None) × CausesStop left faults old new why)

-- what `find` answered: a line is given, the input has ended, or no further line comes
abbrev pub AnswersNextLine : {S : Type 0} → (S → Option (List ℕ)) → (S → ℕ) → LinesState S → LinesState S → Result Bool Stop → Type 0
AnswersNextLine left faults old new (Ok true) = GivesLine left old new
AnswersNextLine left faults old new (Ok false) = EndsInput left old new
AnswersNextLine left faults old new (Err why) = Stops left faults old new why

-- A line was asked for. At most 8,192 bytes were read past the lines that were given.
pub record Finds {S : Type 0} (left : S → Option (List ℕ)) (faults lender : S → ℕ) (old new : LinesState S) (found : Result Bool Stop) : Type 0 where
  pub never_falls : faults old.source ≤ faults new.source
  pub same_lender : lender new.source ≡ lender old.source
  pub within : new.given ≤ most_input_bytes
  pub past : GivesAtMost 8192 (rest_of_input left new) (left new.source)
  pub answer : AnswersNextLine left faults old new found

-- the answer, without the place of a line's bytes
abbrev pub found_of : Result (Option LineRead) LinesFault → Result Bool Stop
found_of (Ok (Some (read.Whole text))) = Ok true
found_of (Ok (Some (read.TooLong front))) = Err stop.TooLong
found_of (Ok (Some read.TooMuch)) = Err stop.TooMuch
found_of (Ok None) = Ok false
found_of (Err _) = Err stop.Failed

-- what is lent: the line that was given, without its newline, or the front of one that is too long
abbrev pub Lends : {S : Type 0} → LinesState S → Result (Option LineRead) LinesFault → Type 0
Lends lines (Ok (Some (read.Whole text))) = text.now ≡ text_of lines.line
Lends lines (Ok (Some (read.TooLong front))) = front.now ≡ take one_too_many lines.pending
Lends lines _ = ⊤
