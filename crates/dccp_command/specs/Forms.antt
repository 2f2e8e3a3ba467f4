-- What each form of the tool's words does with the input that it reads (own).
use Rattle.std.specs.Prelude.{◌≡◌, ℕ, Bool, true, false, List, Option, Some, String}
use Rattle.std.specs.declared.alloc.Global.{Global}
use Rattle.dccp_command.specs.CampaignText.{AnswersUnread, campaign_text}
use Rattle.tool_jobs.specs.Transcript.{SafeThroughout, transcript, is_refused, accepted_bytes}
use Rattle.tool_jobs.specs.Bare.{replay_text, replay_refused, replay_accepted}
use Rattle.tool_jobs.specs.Buffered.{buffered_text, buffered_refused, buffered_accepted}
use Rattle.tool_jobs.specs.Listen.{listen_text, listen_refused, listen_accepted}
use Rattle.packet_show.specs.CaptureText.{capture_text, is_faulty, records_end}
use Rattle.tool_jobs.specs.Play.{ecn_text, ecn_refused, ecn_accepted}
use Rattle.tool_forms.specs.Words.{form_of}
use Rattle.tool_forms.specs.declared.campaign_words.Campaign.{Campaign}
use Rattle.tool_forms.specs.declared.words.Form.{Form}
use Rattle.tool_forms.specs.declared.words.Form.TheVariants as form
use Rattle.tool_text.specs.Ends.{Answers, EndsForCause, IsAnswered, StopsWithin}
use Rattle.tool_text.specs.declared.output.status.JobEnd.{JobEnd}

-- Only `campaign` reads no input.
abbrev pub reads_input : Form → Bool
reads_input (form.Campaign campaign) = false
reads_input _ = true

-- What a form writes for the bytes that it reads, when all is written: the transcript of a schedule, the text of a replay without a receive
-- buffer or with one, the sums of a campaign, the lines of a capture's packets, what a listener answers its peers, and the results of events
-- between an ECN-capable sender and receiver. For `campaign`, which reads no bytes, it is the same for all; also below.
abbrev pub form_text : Form → List ℕ → List ℕ
form_text form.Run bytes = transcript bytes
form_text (form.Replay side plain) bytes = replay_text side plain bytes
form_text (form.Buffered side plain capacity) bytes = buffered_text side plain capacity bytes
form_text (form.Campaign campaign) bytes = campaign_text campaign
form_text form.Show bytes = capture_text bytes
form_text (form.Listen most) bytes = listen_text most bytes
form_text form.Ecn bytes = ecn_text bytes

-- Whether a form refuses these bytes: a line of them, or a capture for its fault.
abbrev pub is_form_refused : Form → List ℕ → Bool
is_form_refused form.Run bytes = is_refused bytes
is_form_refused (form.Replay side plain) bytes = replay_refused side plain bytes
is_form_refused (form.Buffered side plain capacity) bytes = buffered_refused side plain capacity bytes
is_form_refused (form.Campaign campaign) bytes = false
is_form_refused form.Show bytes = is_faulty bytes
is_form_refused (form.Listen most) bytes = listen_refused most bytes
is_form_refused form.Ecn bytes = ecn_refused bytes

-- How many of these bytes a form accepts: whole lines, or a capture's records, up to what it refuses.
abbrev pub form_accepted : Form → List ℕ → ℕ
form_accepted form.Run bytes = accepted_bytes bytes
form_accepted (form.Replay side plain) bytes = replay_accepted side plain bytes
form_accepted (form.Buffered side plain capacity) bytes = buffered_accepted side plain capacity bytes
form_accepted (form.Campaign campaign) bytes = 0
form_accepted form.Show bytes = records_end bytes
form_accepted (form.Listen most) bytes = listen_accepted most bytes
form_accepted form.Ecn bytes = ecn_accepted bytes

-- How many bytes a form may have read after those that it accepts: two blocks of a capture, or of lines.
abbrev pub form_reads_past : Form → ℕ
form_reads_past form.Show = 524288
form_reads_past _ = 16384

-- If a form reads its input, over a source whose bytes are known, something holds of these bytes.
abbrev pub OnRead : Form → Option (List ℕ) → (List ℕ → Type 0) → Type 0
OnRead form told Holds = reads_input form ≡ true → (bytes : List ℕ) → told ≡ Some bytes → Holds bytes

-- For any form that the words name and that reads its input, something holds of the form and the input.
abbrev pub OnInput : List (String Global) → Option (List ℕ) → (Form → List ℕ → Type 0) → Type 0
OnInput words told Holds = (form : Form) → form_of words ≡ Some form → OnRead form told (Holds form)

-- With `run` each event of these bytes took place in a safe world and left a safe one. Other forms have no such world.
abbrev pub KeepsSafe : Form → List ℕ → Type 0
KeepsSafe form.Run bytes = SafeThroughout bytes
KeepsSafe _ bytes = Unit {0}

-- What a form that reads these bytes does: what it writes and how it ends, how far it has read if it refuses them, and what it keeps safe.
pub record DoesForm (form : Form) (bytes : List ℕ) (result : JobEnd) (left before after : Option (List ℕ)) : Type 0 where
  pub answers : Answers (form_text form bytes) (is_form_refused form bytes) result left before after
  pub past : StopsWithin (form_reads_past form) (form_accepted form bytes) bytes result left
  pub safe : IsAnswered result → KeepsSafe form bytes

-- One thing holds of a campaign, and another of each form that reads its input.
abbrev pub OnForm : Form → (Campaign → Type 0) → Type 0 → Type 0
OnForm (form.Campaign campaign) OfCampaign OfReader = OfCampaign campaign
OnForm _ OfCampaign OfReader = OfReader

-- How a form acts on its source and sink: a campaign leaves the input as it was, and answers it unread; any other form does what it does with the
-- bytes of the input, where they are known. Each ends for a cause.
pub record PerformsForm (form : Form) (result : JobEnd) (IsUnread : Type 0) (input left before after : Option (List ℕ)) (source_failed sink_failed : Type 0)
    : Type 0 where
  pub does : OnForm form (λ campaign. IsUnread × AnswersUnread (campaign_text campaign) result before after sink_failed)
      ((bytes : List ℕ) → input ≡ Some bytes → DoesForm form bytes result left before after)
  pub cause : EndsForCause result source_failed sink_failed
