-- What `replay` writes for an input: what an end does with its frames, line by line, then the end's line or the line of the first refusal (own).
-- An end with a receive buffer and one without differ only in what they do.
use Rattle.std.specs.Prelude.{◌≡◌, ℕ, ◌+◌, ◌++◌, Bool, if◌then◌else◌, List, [], codes, Option, Some, None, Result, Ok, Err}
use Rattle.ccid_two.specs.Kinds.{Both}
use Rattle.dccp_packets.specs.Outgoing.{Outgoing}
use Rattle.dccp_endpoint.specs.Controlled.{End}
use Rattle.dccp_endpoint.specs.Usual.{usual}
use Rattle.dccp_states.specs.declared.calls.OpenFault.{OpenFault}
use Rattle.dccp_endpoint.specs.declared.config.Config.{Config}
use Rattle.world_events.specs.declared.event.Side.{Side}
use Rattle.world_events.specs.declared.event.Side.TheVariants.{Client, Server}
use Rattle.schedule_text.specs.Frames.{read_frame}
use Rattle.schedule_text.specs.declared.line.FrameLine.{FrameLine}
use Rattle.tool_text.specs.declared.words.faults.LineFault.{LineFault}
use Rattle.tool_jobs.specs.EndLines.{bytes_line, end_line}
use Rattle.tool_jobs.specs.Ends.{arriving, config_without_offers, role_of}
use Rattle.tool_text.specs.Jobs.{Accepted, LinesResult, Job, Refused, LineVerdict, gone_through, text_of_job}

-- The state of a replay: how many frames its end has sent, whose end it is, and the end.
pub record ReplayState (E : Type 0) : Type 0 where
  pub sent : ℕ
  pub side : Side
  pub end : E

-- What an end does: the line that is written for it, the end after it, and the frame that it sends, if any.
pub record ReplayStep (E : Type 0) : Type 0 where
  pub text : List ℕ
  pub after : E
  pub frame : Option Outgoing

-- the same for a line that makes it send nothing
pub record HeedStep (E : Type 0) : Type 0 where
  pub text : List ℕ
  pub after : E

-- An end of some kind, as a replay has it: what it does at the call `open`, and with bytes that arrive by the line of this number; which lines
-- say what it should do, and what it does then; and the end whose line comes last.
pub record Acts (E : Type 0) : Type 0 where
  pub opening : E → ReplayStep E
  pub hearing : E → ℕ → List ℕ → ReplayStep E
  pub is_own : List ℕ → Bool
  pub heeding : E → ℕ → List ℕ → HeedStep E
  pub standing : E → End Both

-- the usual end of a side, with its offers or without
abbrev pub replay_config : Side → Bool → Config
replay_config side plain = if plain then config_without_offers (usual (role_of side)) else usual (role_of side)

-- The line of the call `open`.
abbrev pub opened_line : Result (Unit {0}) OpenFault → List ℕ
opened_line (Ok _) = codes "open: ok\n"
opened_line (Err _) = codes "open: refused NotFresh\n"

-- how many frames a step sent: one or none
abbrev pub count : Option Outgoing → ℕ
count None = 0
count (Some sent) = 1

-- The line of the frame that a step sent, with the frame's name; nothing if it sent none.
abbrev pub reply_line : Side → ℕ → Option Outgoing → List ℕ
reply_line side index None = []
reply_line side index (Some sent) = bytes_line side index sent.bytes

-- The state before anything happened: the end is new, and has sent nothing.
abbrev pub first_replay : {E : Type 0} → Side → E → ReplayState E
first_replay side end = record { sent = 0; side = side; end = end }

-- The line of what the end did, and that of the frame that it sent.
abbrev pub act_lines : {E : Type 0} → ReplayState E → ReplayStep E → List ℕ
act_lines replay act = act.text ++ reply_line replay.side replay.sent act.frame

-- the end after it, and how many frames it has sent then
abbrev pub after_act : {E : Type 0} → ReplayState E → ReplayStep E → ReplayState E
after_act replay act = record { sent = replay.sent + count act.frame; side = replay.side; end = act.after }

-- What comes before the first line: its text, and the state of the replay after it.
pub record ReplayStart (E : Type 0) : Type 0 where
  pub text : List ℕ
  pub replay : ReplayState E

-- A client opens first; a server waits.
abbrev pub begun_from : {E : Type 0} → Acts E → ReplayState E → Side → ReplayStart E
begun_from acts replay Client = record { text = act_lines replay (acts.opening replay.end); replay = after_act replay (acts.opening replay.end) }
begun_from acts replay Server = record { text = []; replay = replay }

-- what comes before the first line of a replay of this side, at this new end
abbrev pub begun_replay : {E : Type 0} → Acts E → Side → E → ReplayStart E
begun_replay acts side end = begun_from acts (first_replay side end) side

-- a line whose frame arrived is accepted, whatever the end did with the frame
abbrev pub by_act : {E : Type 0} → ReplayState E → ReplayStep E → LineVerdict (List ℕ) (ReplayState E)
by_act replay act = Accepted (Some (act_lines replay act)) (after_act replay act)

-- a line that says nothing is accepted and does nothing, and one with a frame reaches the end
abbrev pub by_frame_line : {E : Type 0} → Acts E → ReplayState E → ℕ → Result (Option FrameLine) LineFault → LineVerdict (List ℕ) (ReplayState E)
by_frame_line acts replay number (Err fault) = Refused fault
by_frame_line acts replay number (Ok None) = Accepted None replay
by_frame_line acts replay number (Ok (Some frame)) =
    by_act replay (acts.hearing replay.end number (arriving (usual (role_of replay.side)).pseudo_in frame))

-- a line that says what the end should do is accepted
abbrev pub by_heeded : {E : Type 0} → ReplayState E → HeedStep E → LineVerdict (List ℕ) (ReplayState E)
by_heeded replay heeded = Accepted (Some heeded.text) (record { sent = replay.sent; side = replay.side; end = heeded.after })

-- A line without its newline.
unfoldable pub replay_judged : {E : Type 0} → Acts E → ReplayState E → ℕ → List ℕ → LineVerdict (List ℕ) (ReplayState E)
replay_judged acts replay number line =
    if acts.is_own line then by_heeded replay (acts.heeding replay.end number line) else by_frame_line acts replay number (read_frame line)

-- What a line does is its text, and the end's line is the last.
abbrev pub replay_job : {E : Type 0} → Acts E → Job (List ℕ) (ReplayState E)
replay_job acts = record { judged = replay_judged acts; told = λ text. text; ending = λ replay. end_line replay.side (acts.standing replay.end) }

-- the result of an input whose frames arrive at this new end of this side
abbrev pub replay_of_input : {E : Type 0} → Acts E → Side → E → List ℕ → LinesResult (List ℕ) (ReplayState E)
replay_of_input acts side end input = gone_through (replay_job acts) (begun_replay acts side end).replay input

-- What is written for an input: the text before the first line, and that of the lines.
abbrev pub text_of_replay : {E : Type 0} → Acts E → Side → E → List ℕ → List ℕ
text_of_replay acts side end input = (begun_replay acts side end).text ++ text_of_job (replay_job acts) (replay_of_input acts side end input)

-- An act took place in this way: its line is at the text's end.
abbrev pub Performs : {E : Type 0} → ReplayStep E → E → Option Outgoing → List ℕ → List ℕ → Type 0
Performs act after frame old new = (after ≡ act.after) × (frame ≡ act.frame) × (new ≡ old ++ act.text)

-- the same if nothing is sent
abbrev pub Heeds : {E : Type 0} → HeedStep E → E → List ℕ → List ℕ → Type 0
Heeds heeded after old new = (after ≡ heeded.after) × (new ≡ old ++ heeded.text)
