-- Worked schedules with a line that is refused because of its place. The values are by hand, after the text of the form `run` (own).
use Rattle.std.proofs.Common.{◌≡◌, refl, ℕ, List, [], codes, Option, None, Some}
use Rattle.std.specs.Fmt.{digits}
use Prim.Native.String.{String}
use Rattle.tool_text.specs.declared.words.faults.LineFault.{LineFault}
use Rattle.tool_text.specs.Refusals.{refusal_line}
use Rattle.tool_jobs.specs.Transcript.{judged_line, performed}
use Rattle.dccp_endpoint.specs.Calling.{fires}

-- the line that refuses a line with this number, where it is refused
abbrev refusal : ℕ → Option LineFault → List ℕ
refusal number None = []
refusal number (Some fault) = refusal_line number fault

-- `run` refuses a schedule with this line
abbrev IsRefused : String → String → Type 0
IsRefused schedule line = refusal (performed (codes schedule)).number (performed (codes schedule)).refusal ≡ codes line

-- The faults that need the lines before, and which of two comes first
faults_of_a_place :
    IsRefused "plain\nversion 2\n" "line 2 column 1: HeaderLate\n"
    × IsRefused "version 1\nversion 2\n" "line 2 column 1: HeaderLate\n"
    × IsRefused "open\nversion 1\n" "line 2 column 1: HeaderLate\n"
    × IsRefused "open\nversion 3\n" "line 2 column 9: BadNumber\n"
    × IsRefused "plain\nopen\nplain\n" "line 3 column 1: HeaderLate\n"
    × IsRefused "plain\nopen\niss client 1\n" "line 3 column 1: HeaderLate\n"
    × IsRefused "plain\nopen\niss client 1 2\n" "line 3 column 14: Trailing\n"
    × IsRefused "open\nset client here 3 200\n" "line 2 column 1: HeaderLate\n"
    × IsRefused "open\nset client there 3 200\n" "line 2 column 1: HeaderLate\n"
    × IsRefused "open\nset client here 1 3\n" "line 2 column 1: HeaderLate\n"
    × IsRefused "open\nset client here 1 3 x\n" "line 2 column 21: Trailing\n"
    × IsRefused "open\noffer client there 3\n" "line 2 column 1: HeaderLate\n"
    × IsRefused "open\noffer client here 1 mandatory\n" "line 2 column 1: HeaderLate\n"
    × IsRefused "send client 00\niss client 1\n" "line 2 column 1: HeaderLate\n"
    × IsRefused "timer server rto\ndeliver s0\n" "line 2 column 9: NoSuchFrame\n"
    × IsRefused "timer server rto 1\n" "line 1 column 18: Trailing\n"
    × IsRefused "deliver c140737488355327\n" "line 1 column 9: NoSuchFrame\n"
    × IsRefused "close client\ndeliver s0\n" "line 2 column 9: NoSuchFrame\n"
unfolding digits judged_line fires
faults_of_a_place = (refl, refl, refl, refl, refl, refl, refl, refl, refl, refl, refl, refl, refl, refl, refl, refl, refl, refl)
