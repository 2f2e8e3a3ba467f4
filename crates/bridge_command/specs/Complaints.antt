-- What was skipped of a capture, and why the input of a form is refused. This is reported separately from the output (own).
use Rattle.std.specs.Prelude.{◌≡◌, ◌⊎◌, ◌++◌, ◌==◌, ℕ, if◌then◌else◌, List, [], codes, decimal, Option, Some, None}
use Rattle.bridge_records.specs.Skips.{no_skips}
use Rattle.bridge_records.specs.declared.recording.CaptureRefusal.{CaptureRefusal}
use Rattle.bridge_records.specs.declared.skips.Skips.{Skips}
use Rattle.bridge_records.specs.declared.skips.Tally.{Tally}
use Rattle.tool_text.specs.Ends.{IsAnswered}
use Rattle.tool_text.specs.Refusals.{refusal_line}
use Rattle.tool_text.specs.declared.lines.refusals.LineRefusal.{LineRefusal}
use Rattle.tool_text.specs.declared.output.status.JobEnd.{JobEnd}
use Rattle.tool_text.specs.declared.output.status.JobEnd.TheVariants as ended
use Rattle.bridge_command.specs.Unwrapping.{piece_fault_name}
use Rattle.bridge_command.specs.declared.complaints.Complaint.{Complaint}
use Rattle.bridge_command.specs.declared.complaints.Complaint.TheVariants as complains
use Rattle.bridge_command.specs.declared.complaints.Remarks.{Remarks}

-- a line that is refused, if one is
abbrev pub line_complaint : Option LineRefusal → Option Complaint
line_complaint None = None
line_complaint (Some refusal) = Some (complains.Line refusal)

-- the fault of a capture, if it has one
abbrev pub capture_complaint : Option CaptureRefusal → Option Complaint
capture_complaint None = None
capture_complaint (Some refusal) = Some (complains.Capture refusal)

-- The line of a fault of a capture: its cause, and how many whole records come before it.
unfoldable pub capture_line : CaptureRefusal → List ℕ
capture_line refusal =
    codes "capture " ++ piece_fault_name refusal.fault ++ codes " after " ++ codes "record " ++ decimal refusal.records ++ codes "\n"

-- The line that says why an input is refused.
abbrev pub complaint_line : Complaint → List ℕ
complaint_line (complains.Line refusal) = refusal_line refusal.number refusal.fault
complaint_line (complains.Capture refusal) = capture_line refusal

-- the same, or nothing if the input is not refused
abbrev pub complaint_text : Option Complaint → List ℕ
complaint_text None = []
complaint_text (Some complaint) = complaint_line complaint

-- What is reported about lines: nothing was skipped.
abbrev pub line_said : Option LineRefusal → Remarks
line_said refusal = record { skips = no_skips; complaint = line_complaint refusal }

-- What is reported about a capture.
abbrev pub capture_said : Option CaptureRefusal → Skips → Remarks
capture_said refusal skips = record { skips = skips; complaint = capture_complaint refusal }

-- The line about skipped records of one kind: how many, and what is reported about the first; nothing if there is none.
unfoldable pub tally_line : List ℕ → Tally → List ℕ
tally_line name tally =
    if tally.count == 0 then []
    else codes "skipped " ++ name ++ codes ": " ++ decimal tally.count ++ codes ", first " ++ decimal tally.first ++ codes "\n"

-- The lines about what was skipped.
unfoldable pub skips_text : Skips → List ℕ
skips_text skips =
    tally_line (codes "packets of other links") skips.links ++ tally_line (codes "packets of too many bytes") skips.long
    ++ tally_line (codes "blocks of other types") skips.blocks

-- All that a form reports: what was skipped, and why its input is refused.
abbrev pub said_text : Remarks → List ℕ
said_text said = skips_text said.skips ++ complaint_text said.complaint

-- A call ends as its form did, or for lack of memory.
abbrev pub EndsAs : JobEnd → JobEnd → Type 0
EndsAs end result = (result ≡ end) ⊎ (result ≡ ended.Memory)

-- If a form ended with an answer, this holds.
abbrev pub OnAnswer : JobEnd → Type 0 → Type 0
OnAnswer result Holds = IsAnswered result → Holds
