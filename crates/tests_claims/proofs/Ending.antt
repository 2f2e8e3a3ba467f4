-- What the tool's call has done, depending on the status with which it ends.
use Rattle.std.proofs.Common.{◌≡◌, ◌∙◌, ap, inl, inr, refl, sym, subst, ℕ, ◌-◌, ◌^◌, ◌<◌, Bool, List, ◌++◌, Option, Some, length, arith}
use Rattle.std.specs.Io.KnownBytes.{append_known}
use Rattle.std.specs.Prelude.{◌⊎◌, take}
use Rattle.std.proofs.Math.Seq.{take-length}
use Rattle.ccid_two.specs.Kinds.{kinds_control}
use Rattle.dccp_command.specs.CampaignText.{AnswersUnread}
use Rattle.dccp_command.specs.Forms.{form_reads_past}
use Rattle.dccp_io.specs.Counts.{Rose}
use Rattle.tool_forms.specs.declared.words.Form.{Form}
use Rattle.tool_forms.specs.declared.words.Form.TheVariants as form
use Rattle.tool_jobs.proofs.SchedulesRunning.{prefix-safe}
use Rattle.tool_jobs.specs.Scenes.{IsRun, scene_events}
use Rattle.tool_jobs.specs.Transcript.{SafeThroughout, performed, world_at_first, world_of}
use Rattle.tool_text.specs.Ends.{Answers, HasBegun, HasTaken, OnJobEnd, SinkFailed}
use Rattle.tool_text.specs.declared.output.status.JobEnd.{JobEnd}
use Rattle.tool_text.specs.declared.output.status.JobEnd.TheVariants as ended
use Rattle.tool_text.specs.declared.output.status.Status.{Status}
use Rattle.tool_text.specs.declared.output.status.Status.TheVariants as status
use Rattle.two_ends.specs.Controlled.{plays}
use Rattle.two_ends.specs.Safe.{Safe}

pub on-done : (s : Status) (Holds : JobEnd → Type 0) → OnJobEnd s Holds → s ≡ status.Done → Holds ended.Done
on-done s Holds on same = subst (λ (t : Status). OnJobEnd t Holds) same on

pub on-input : (s : Status) (Holds : JobEnd → Type 0) → OnJobEnd s Holds → s ≡ status.Input → Holds ended.Input
on-input s Holds on same = subst (λ (t : Status). OnJobEnd t Holds) same on

pub on-read : (s : Status) (Holds : JobEnd → Type 0) → OnJobEnd s Holds → s ≡ status.Read → Holds ended.Read
on-read s Holds on same = subst (λ (t : Status). OnJobEnd t Holds) same on

pub on-write : (s : Status) (Holds : JobEnd → Type 0) → OnJobEnd s Holds → s ≡ status.Write → Holds ended.Write
on-write s Holds on same = subst (λ (t : Status). OnJobEnd t Holds) same on

-- a count that is what it was, and not at its end, has not risen
pub has-not-risen : (before after : ℕ) → Rose before after → before ≡ after → after < 2 ^ 64 - 1 → ⊥
has-not-risen before after (inl rose) same below = omega (arith, rose, same)
has-not-risen before after (inr at_end) same below = omega (arith, at_end, below)

-- nor has one of two
pub has-not-failed : (faults faults_after takes takes_after : ℕ) → SinkFailed faults faults_after takes takes_after → faults ≡ faults_after
    → takes ≡ takes_after → faults_after < 2 ^ 64 - 1 → takes_after < 2 ^ 64 - 1 → ⊥
has-not-failed faults faults_after takes takes_after (inl rose) same taken below under = has-not-risen faults faults_after rose same below
has-not-failed faults faults_after takes takes_after (inr rose) same taken below under = has-not-risen takes takes_after rose taken under

module _ (text : List ℕ) (is_refused : Bool) (left before after : Option (List ℕ)) where
  abbrev Held : JobEnd → Type 0
  Held end = Answers text is_refused end left before after

  pub taken-whole : (s : Status) → OnJobEnd s Held → (s ≡ status.Done) ⊎ (s ≡ status.Input) → HasTaken before after text
  taken-whole s on which =
      elim which [
        | inl done ↦ (on-done s Held on done).whole (inl refl)
        | inr input ↦ (on-input s Held on input).whole (inr refl)
      ]

  all-of : HasTaken before after text → HasBegun before after text
  all-of whole = (length text, whole ∙ ap (append_known before) (sym (take-length text)))

  pub begun : (s : Status) → OnJobEnd s Held → HasBegun before after text
  begun status.Done on = all-of (on.whole (inl refl))
  begun status.Input on = all-of (on.whole (inr refl))
  begun status.Words on = absurd on
  begun status.Read on = on.front (inl refl)
  begun status.Write on = on.front (inr (inl refl))
  begun status.Memory on = on.front (inr (inr refl))

  pub known-whole : (old : List ℕ) → before ≡ Some old → HasTaken before after text → after ≡ Some (old ++ text)
  known-whole old told whole = whole ∙ ap (λ (o : Option (List ℕ)). append_known o text) told

  pub known-front : (old : List ℕ) → before ≡ Some old → HasBegun before after text → (count : ℕ) × (after ≡ Some (old ++ take count text))
  known-front old told front = (front.0, front.1 ∙ ap (λ (o : Option (List ℕ)). append_known o (take front.0 text)) told)

-- a call does not end with two statuses
pub no-two-ends : {A : Type 0} (s : Status) → s ≡ status.Words → s ≡ status.Memory → A
no-two-ends s words memory = let both = sym words ∙ memory in cc both

-- a form whose input is lines reads at most two blocks of them too far
pub reads-past-lines : (which : Form) → (which ≡ form.Show → ⊥) → form_reads_past which ≡ 16384
reads-past-lines form.Show other = absurd (other refl)
reads-past-lines form.Run other = refl
reads-past-lines (form.Replay side plain) other = refl
reads-past-lines (form.Buffered side plain capacity) other = refl
reads-past-lines (form.Campaign campaign) other = refl
reads-past-lines (form.Listen most) other = refl
reads-past-lines form.Ecn other = refl

module _ (text : List ℕ) (before after : Option (List ℕ)) (failed : Type 0) where
  abbrev HeldUnread : JobEnd → Type 0
  HeldUnread end = AnswersUnread text end before after failed

  all-unread : HasTaken before after text → HasBegun before after text
  all-unread whole = (length text, whole ∙ ap (append_known before) (sym (take-length text)))

  pub begun-unread : (s : Status) → OnJobEnd s HeldUnread → HasBegun before after text
  begun-unread status.Done on = all-unread (on.whole refl)
  begun-unread status.Input on = absurd (on.accepted refl)
  begun-unread status.Words on = absurd on
  begun-unread status.Read on = on.front (inl refl)
  begun-unread status.Write on = on.front (inr (inl refl))
  begun-unread status.Memory on = on.front (inr (inr refl))

-- where each event of a schedule kept a safe world, so did any number of the first
pub first-events-safe : (bytes : List ℕ) (n : ℕ) → IsRun (world_at_first (performed bytes)) (performed bytes).deeds (world_of (performed bytes).last)
    → SafeThroughout bytes
    → Safe kinds_control (plays kinds_control (world_at_first (performed bytes)) (take n (scene_events (performed bytes).deeds)))
first-events-safe bytes n run safe =
    prefix-safe (world_at_first (performed bytes)) (performed bytes).deeds (world_of (performed bytes).last) run safe.0 safe.1 n
