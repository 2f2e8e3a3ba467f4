-- The faults of lines, and the line that reports one (own).
use Rattle.std.specs.Prelude.{ℕ, ◌++◌, List, codes, decimal}
use Rattle.tool_text.specs.declared.words.faults.LineFault.{LineFault}
use Rattle.tool_text.specs.declared.words.faults.LineWhy.{LineWhy}
use Rattle.tool_text.specs.declared.words.faults.LineWhy.TheVariants as why

-- the fault of this cause, at this column
abbrev pub fault_at : ℕ → LineWhy → LineFault
fault_at column cause = record { column = column; why = cause }

-- The fault of a whole line, at its first byte.
abbrev pub whole_line : LineWhy → LineFault
whole_line cause = record { column = 1; why = cause }

-- Why a line is refused.
abbrev pub line_why_name : LineWhy → List ℕ
line_why_name why.TooMuchInput = codes "TooMuchInput"
line_why_name why.LineTooLong = codes "LineTooLong"
line_why_name why.NotText = codes "NotText"
line_why_name why.Missing = codes "Missing"
line_why_name why.UnknownWord = codes "UnknownWord"
line_why_name why.BadPeer = codes "BadPeer"
line_why_name why.BadNumber = codes "BadNumber"
line_why_name why.BadHex = codes "BadHex"
line_why_name why.Trailing = codes "Trailing"
line_why_name why.FrameTooLong = codes "FrameTooLong"
line_why_name why.SealShort = codes "SealShort"
line_why_name why.HeaderLate = codes "HeaderLate"
line_why_name why.BadList = codes "BadList"
line_why_name why.NotOurs = codes "NotOurs"
line_why_name why.TooManyEvents = codes "TooManyEvents"
line_why_name why.NoSuchFrame = codes "NoSuchFrame"

-- The line of a refusal, under the number of the line that is refused.
abbrev pub refusal_line : ℕ → LineFault → List ℕ
refusal_line number fault =
    codes "line " ++ decimal number ++ codes " column " ++ decimal fault.column ++ codes ": " ++ line_why_name fault.why ++ codes "\n"
