-- What one call of the tool may have written, and why it ends (own).
use Rattle.std.specs.Prelude.{◌≡◌, ◌⊎◌, ℕ, Bool, true, false, List, [], ◌++◌, take, drop, Option, Some}
use Rattle.std.specs.Io.KnownBytes.{append_known}
use Rattle.dccp_io.specs.Counts.{Rose}
use Rattle.dccp_io.specs.Fronts.{GivesAtMost}
use Rattle.tool_text.specs.declared.output.status.JobEnd.{JobEnd}
use Rattle.tool_text.specs.declared.output.status.JobEnd.TheVariants as ended
use Rattle.tool_text.specs.declared.output.status.Status.{Status}
use Rattle.tool_text.specs.declared.output.status.Status.TheVariants as status

-- A sink whose bytes are known has taken this text.
abbrev pub HasTaken : Option (List ℕ) → Option (List ℕ) → List ℕ → Type 0
HasTaken before after text = after ≡ append_known before text

-- It has taken the first bytes of this text, some or none or all.
abbrev pub HasBegun : Option (List ℕ) → Option (List ℕ) → List ℕ → Type 0
HasBegun before after text = (n : ℕ) × (after ≡ append_known before (take n text))

-- A prefix of the text has gone to the sink, and is no longer in the text.
abbrev pub IsMovedOut : Option (List ℕ) → Option (List ℕ) → List ℕ → List ℕ → Type 0
IsMovedOut before after text kept = (moved : List ℕ) × (after ≡ append_known before moved) × (text ≡ moved ++ kept)

-- A text is written once it has this many bytes.
abbrev pub block_length : ℕ
block_length = 65536

-- A sink's counts show that it failed, or took no byte of a piece that was not empty.
abbrev pub SinkFailed : ℕ → ℕ → ℕ → ℕ → Type 0
SinkFailed faults faults_after takes takes_after = Rose faults faults_after ⊎ Rose takes takes_after

-- The same for one sink, from a call's beginning to its end.
abbrev pub SinkFails : {K : Type 0} → (K → ℕ) → (K → ℕ) → K → K → Type 0
SinkFails faults empty_takes before after = SinkFailed (faults before) (faults after) (empty_takes before) (empty_takes after)

-- A text was written as far as the sink took it, and whole unless the sink failed.
pub record IsWritten (text : List ℕ) (before after : Option (List ℕ)) (sink_failed : Type 0) : Type 0 where
  pub front : HasBegun before after text
  pub whole : (sink_failed → ⊥) → HasTaken before after text

-- The status of a program whose job ended in this way.
abbrev pub status_of : JobEnd → Status
status_of ended.Done = status.Done
status_of ended.Input = status.Input
status_of ended.Read = status.Read
status_of ended.Write = status.Write
status_of ended.Memory = status.Memory

-- A program ended as a job does that has this property. No job ends with Words.
abbrev pub OnJobEnd : Status → (JobEnd → Type 0) → Type 0
OnJobEnd status.Done Holds = Holds ended.Done
OnJobEnd status.Input Holds = Holds ended.Input
OnJobEnd status.Words Holds = ⊥
OnJobEnd status.Read Holds = Holds ended.Read
OnJobEnd status.Write Holds = Holds ended.Write
OnJobEnd status.Memory Holds = Holds ended.Memory

-- The whole job was done, or the input was refused: in both cases all that there is to write was written.
abbrev pub IsAnswered : JobEnd → Type 0
IsAnswered result = (result ≡ ended.Done) ⊎ (result ≡ ended.Input)

-- A fault or a lack of memory ended the job.
abbrev pub IsCutOff : JobEnd → Type 0
IsCutOff result = (result ≡ ended.Read) ⊎ ((result ≡ ended.Write) ⊎ (result ≡ ended.Memory))

-- If an input is refused, at most this many bytes were read after those that were accepted.
abbrev pub StopsWithin : ℕ → ℕ → List ℕ → JobEnd → Option (List ℕ) → Type 0
StopsWithin most accepted bytes result left = result ≡ ended.Input → GivesAtMost most (Some (drop accepted bytes)) left

-- What a form that reads its input guarantees, for an input with this text that is refused or not. With Done or Input
-- the whole text is written, and otherwise a prefix of it; Done leaves nothing to read; and Done and Input say whether
-- the input was refused.
pub record Answers (text : List ℕ) (is_refused : Bool) (result : JobEnd) (left before after : Option (List ℕ)) : Type 0 where
  pub whole : IsAnswered result → HasTaken before after text
  pub front : IsCutOff result → HasBegun before after text
  pub done : result ≡ ended.Done → (is_refused ≡ false) × (left ≡ Some [])
  pub input : result ≡ ended.Input → is_refused ≡ true

-- Why a form ends: with Read only if the source failed, and with Write only if the sink did. If neither failed it ends
-- with Done or Input, unless memory runs out.
pub record EndsForCause (result : JobEnd) (source_failed sink_failed : Type 0) : Type 0 where
  pub read : result ≡ ended.Read → source_failed
  pub write : result ≡ ended.Write → sink_failed
  pub complete : (source_failed → ⊥) → (sink_failed → ⊥) → IsAnswered result ⊎ (result ≡ ended.Memory)
