-- What each form of the second tool's words makes of the input that it reads (own).
use Rattle.std.specs.Prelude.{◌≡◌, ℕ, Bool, true, false, List, Option, Some, None, String}
use Rattle.std.specs.declared.alloc.Global.{Global}
use Rattle.bridge_records.specs.Recording.{capture_refusal, capture_skips}
use Rattle.bridge_command.specs.Capturing.{frames_capture, transcript_accepted, transcript_refusal, transcript_refused}
use Rattle.bridge_command.specs.Complaints.{capture_said, line_said}
use Rattle.bridge_command.specs.declared.complaints.Remarks.{Remarks}
use Rattle.bridge_command.specs.Framing.{frames_pieces, frames_text, is_frames_faulty}
use Rattle.bridge_pictures.specs.Flow.{flow_ladder_pieces, flow_ladder_text, is_flow_ladder_faulty}
use Rattle.bridge_pictures.specs.FlowWindows.{flow_windows_pieces, flow_windows_text, is_flow_windows_faulty}
use Rattle.bridge_pictures.specs.Played.{windows_accepted, windows_refusal, windows_refused, windows_text}
use Rattle.bridge_pictures.specs.Transcript.{ladder_accepted, ladder_refusal, ladder_refused, ladder_text}
use Rattle.bridge_command.specs.Telling.{is_json_faulty, json_pieces, json_text}
use Rattle.bridge_command.specs.Schedule.{seed_text}
use Rattle.bridge_command.specs.SeedLines.{seeds_text}
use Rattle.bridge_command.specs.Unwrapping.{is_unwrapped_faulty, unwrapped_pieces, unwrapped_text}
use Rattle.bridge_command.specs.Words.{asked_form}
use Rattle.bridge_command.specs.declared.words.BridgeForm.{BridgeForm}
use Rattle.bridge_command.specs.declared.words.BridgeForm.TheVariants as form
use Rattle.bridge_command.specs.declared.words.Picture.TheVariants as pictures

-- Only `seed` and `seeds` read no input.
abbrev pub has_input : BridgeForm → Bool
has_input (form.Seed run) = false
has_input (form.Seeds range) = false
has_input _ = true

-- What a form writes for the bytes that it reads, when all is written: a capture of the frames that they list, a capture of raw IP, the schedule
-- of a seed, an object for each seed, a flow's packets as lines of `replay`, an object for each record, and a picture of lines or of a flow.
abbrev pub bridge_text : BridgeForm → List ℕ → List ℕ
bridge_text form.Capture bytes = frames_capture bytes
bridge_text form.Unwrap bytes = unwrapped_text bytes
bridge_text (form.Seed run) bytes = seed_text run.seed run.events
bridge_text (form.Seeds range) bytes = seeds_text range
bridge_text (form.Frames asked) bytes = frames_text asked.flow asked.side bytes
bridge_text (form.Json payload) bytes = json_text payload bytes
bridge_text (form.Picture pictures.Ladder) bytes = ladder_text bytes
bridge_text (form.Picture pictures.Windows) bytes = windows_text bytes
bridge_text (form.FlowPicture pictures.Ladder flow) bytes = flow_ladder_text flow bytes
bridge_text (form.FlowPicture pictures.Windows flow) bytes = flow_windows_text flow bytes

-- Whether a form refuses these bytes: a line of them, or a capture for its fault. (`seed` and `seeds` read none; for them the rows here and
-- below are those of an empty input.)
abbrev pub is_bridge_refused : BridgeForm → List ℕ → Bool
is_bridge_refused form.Capture bytes = transcript_refused bytes
is_bridge_refused form.Unwrap bytes = is_unwrapped_faulty bytes
is_bridge_refused (form.Seed run) bytes = false
is_bridge_refused (form.Seeds range) bytes = false
is_bridge_refused (form.Frames asked) bytes = is_frames_faulty asked.flow asked.side bytes
is_bridge_refused (form.Json payload) bytes = is_json_faulty payload bytes
is_bridge_refused (form.Picture pictures.Ladder) bytes = ladder_refused bytes
is_bridge_refused (form.Picture pictures.Windows) bytes = windows_refused bytes
is_bridge_refused (form.FlowPicture pictures.Ladder flow) bytes = is_flow_ladder_faulty flow bytes
is_bridge_refused (form.FlowPicture pictures.Windows flow) bytes = is_flow_windows_faulty flow bytes

-- How many of these bytes a form accepts: whole lines, or a capture's header and records, up to what it refuses.
abbrev pub bridge_accepted : BridgeForm → List ℕ → ℕ
bridge_accepted form.Capture bytes = transcript_accepted bytes
bridge_accepted form.Unwrap bytes = (unwrapped_pieces bytes).accepted
bridge_accepted (form.Seed run) bytes = 0
bridge_accepted (form.Seeds range) bytes = 0
bridge_accepted (form.Frames asked) bytes = (frames_pieces asked.flow asked.side bytes).accepted
bridge_accepted (form.Json payload) bytes = (json_pieces payload bytes).accepted
bridge_accepted (form.Picture pictures.Ladder) bytes = ladder_accepted bytes
bridge_accepted (form.Picture pictures.Windows) bytes = windows_accepted bytes
bridge_accepted (form.FlowPicture pictures.Ladder flow) bytes = (flow_ladder_pieces flow bytes).accepted
bridge_accepted (form.FlowPicture pictures.Windows flow) bytes = (flow_windows_pieces flow bytes).accepted

-- What a form reports about these bytes besides its output: what is skipped of a capture, and why the bytes are refused, if they are: for a
-- line, or for a fault of the capture.
abbrev pub bridge_said : BridgeForm → List ℕ → Remarks
bridge_said form.Capture bytes = line_said (transcript_refusal bytes)
bridge_said form.Unwrap bytes = capture_said (capture_refusal (unwrapped_pieces bytes)) (capture_skips (unwrapped_pieces bytes))
bridge_said (form.Seed run) bytes = line_said None
bridge_said (form.Seeds range) bytes = line_said None
bridge_said (form.Frames asked) bytes =
    capture_said (capture_refusal (frames_pieces asked.flow asked.side bytes)) (capture_skips (frames_pieces asked.flow asked.side bytes))
bridge_said (form.Json payload) bytes = capture_said (capture_refusal (json_pieces payload bytes)) (capture_skips (json_pieces payload bytes))
bridge_said (form.Picture pictures.Ladder) bytes = line_said (ladder_refusal bytes)
bridge_said (form.Picture pictures.Windows) bytes = line_said (windows_refusal bytes)
bridge_said (form.FlowPicture pictures.Ladder flow) bytes =
    capture_said (capture_refusal (flow_ladder_pieces flow bytes)) (capture_skips (flow_ladder_pieces flow bytes))
bridge_said (form.FlowPicture pictures.Windows flow) bytes =
    capture_said (capture_refusal (flow_windows_pieces flow bytes)) (capture_skips (flow_windows_pieces flow bytes))

-- How many bytes a form may have read after those that it accepts: two blocks of lines, or a block of a capture.
abbrev pub bridge_reads_past : BridgeForm → ℕ
bridge_reads_past form.Capture = 16384
bridge_reads_past (form.Picture picture) = 16384
bridge_reads_past _ = 524288

-- If a form reads its input, over a source whose bytes contracts can see, something holds of them.
abbrev pub OnBridgeRead : BridgeForm → Option (List ℕ) → (List ℕ → Type 0) → Type 0
OnBridgeRead form told Holds = has_input form ≡ true → (bytes : List ℕ) → told ≡ Some bytes → Holds bytes

-- For any form that the words have and that reads its input, something holds of both.
abbrev pub OnBridgeInput : List (String Global) → Option (List ℕ) → (BridgeForm → List ℕ → Type 0) → Type 0
OnBridgeInput words told Holds = (form : BridgeForm) → asked_form words ≡ Some form → OnBridgeRead form told (Holds form)
