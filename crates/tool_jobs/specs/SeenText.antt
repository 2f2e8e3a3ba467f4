-- The texts of the result of an event, and of the two ends at the end (own).
use Rattle.std.specs.Prelude.{ℕ, ◌++◌, List, [], length, codes, decimal, slice_get, Option, Some, None}
use Rattle.run_list.specs.declared.answers.Marked.{Marked}
use Rattle.run_list.specs.declared.answers.Marked.TheVariants as answer
use Rattle.dccp_ecn.specs.declared.ledger.Check.{Check}
use Rattle.dccp_ecn.specs.declared.ledger.Check.TheVariants as check
use Rattle.dccp_ecn.specs.declared.event.EcnSeen.{EcnSeen}
use Rattle.dccp_ecn.specs.declared.event.EcnSeen.TheVariants as seen
use Rattle.dccp_ecn.specs.World.{EcnReport, EcnState}
use Rattle.tool_text.specs.Text.{hex_or_dash}

-- the word for what became of a number that came
abbrev pub marked_name : Marked → List ℕ
marked_name answer.New = codes "new"
marked_name answer.Again = codes "again"
marked_name answer.BelowFloor = codes "below"

-- the word for the sender's verdict on a report
abbrev pub check_name : Check → List ℕ
check_name check.Fits = codes "fits"
check_name check.Unfit = codes "unfit"
check_name check.Unknown = codes "unknown"

-- a report's type and bytes; no text if there is no report
abbrev pub vector_text : Option EcnReport → List ℕ
vector_text None = []
vector_text (Some report) = codes "vector " ++ decimal report.kind ++ codes " " ++ hex_or_dash report.bytes

-- the result of an event that left this world
abbrev pub ecn_seen_text : EcnState → EcnSeen → List ℕ
ecn_seen_text after seen.Sent = codes "ok"
ecn_seen_text after (seen.Took marked) = marked_name marked
ecn_seen_text after (seen.Reported None) = codes "nothing"
ecn_seen_text after (seen.Reported (Some index)) = vector_text (slice_get after.reports index)
ecn_seen_text after (seen.Checked told) = check_name told

-- The line of an event that took place: the number of its line, the line as it was read, and the result of the event.
abbrev pub ecn_event_line : ℕ → List ℕ → EcnState → EcnSeen → List ℕ
ecn_event_line number line after seen = decimal number ++ codes " " ++ line ++ codes ": " ++ ecn_seen_text after seen ++ codes "\n"

-- The last line: how many packets were sent, and how many reports kept.
abbrev pub ecn_ending : EcnState → List ℕ
ecn_ending last = codes "sent " ++ decimal (length last.sent) ++ codes " reports " ++ decimal (length last.reports) ++ codes "\n"
