-- Six forms do what their jobs ensure. Search would find these proofs too, but slowly.
use Rattle.std.proofs.Common.{◌≡◌, ◌∙◌, ap, refl, Option}
use Rattle.std.proofs.lemmas.Bool.{false≢true, true≢false}
use Rattle.bridge_records.specs.declared.recording.CaptureRefusal.{CaptureRefusal}
use Rattle.bridge_records.specs.declared.skips.Skips.{Skips}
use Rattle.tool_text.proofs.Ending.{ends-for-more}
use Rattle.bridge_command.specs.Complaints.{capture_said, line_said}
use Rattle.bridge_command.proofs.top.perform.Goals as goal

said-alike : (r q : Option CaptureRefusal) (s t : Skips) → r ≡ q → s ≡ t → capture_said r s ≡ capture_said q t
said-alike r q s t refusals skips = ap (λ (refusal : Option CaptureRefusal). capture_said refusal s) refusals ∙ ap (λ (skipped : Skips). capture_said q skipped) skips

pub returns-in-Capture : goal.returns-in-Capture
returns-in-Capture g c = record {
  answers = rw c.in-Capture.is (rw c.of_lines.ensures.end (λ reads bytes told. c.capture_frames.ensures.captured bytes told));
  past = rw c.in-Capture.is (rw c.of_lines.ensures.end (λ reads bytes told. c.capture_frames.ensures.past bytes told));
  refused = rw c.in-Capture.is (rw c.of_lines.ensures.end (λ reads bytes told answered. c.of_lines.ensures.said ∙ ap line_said (c.capture_frames.ensures.refused bytes told answered)));
  told = rw c.in-Capture.is (λ none. absurd (true≢false none));
  unread = rw c.in-Capture.is (λ none. absurd (true≢false none));
  cause = rw c.of_lines.ensures.end c.capture_frames.ensures.cause;
}

pub returns-in-Seed : goal.returns-in-Seed
returns-in-Seed g c = record {
  answers = rw c.in-Seed.is (λ reads. absurd (false≢true reads));
  past = rw c.in-Seed.is (λ reads. absurd (false≢true reads));
  refused = rw c.in-Seed.is (λ reads. absurd (false≢true reads));
  told = rw c.in-Seed.is (rw c.of_lines-in-Seed.ensures.end (λ none. c.tell_seed-end.ensures.told));
  unread = λ none. refl;
  cause = rw c.of_lines-in-Seed.ensures.end (ends-for-more c.tell_seed-end.result _ _ _ absurd c.tell_seed-end.ensures.cause);
}

pub returns-in-Seeds : goal.returns-in-Seeds
returns-in-Seeds g c = record {
  answers = rw c.in-Seeds.is (λ reads. absurd (false≢true reads));
  past = rw c.in-Seeds.is (λ reads. absurd (false≢true reads));
  refused = rw c.in-Seeds.is (λ reads. absurd (false≢true reads));
  told = rw c.in-Seeds.is (rw c.of_lines-in-Seeds.ensures.end (λ none. c.tell_seeds-end.ensures.told));
  unread = λ none. refl;
  cause = rw c.of_lines-in-Seeds.ensures.end (ends-for-more c.tell_seeds-end.result _ _ _ absurd c.tell_seeds-end.ensures.cause);
}

pub returns-in-Unwrap : goal.returns-in-Unwrap
returns-in-Unwrap g c = record {
  answers = rw c.in-Unwrap.is (rw c.of_records.ensures.end (λ reads bytes told. c.unwrap_capture.ensures.unwrapped bytes told));
  past = rw c.in-Unwrap.is (rw c.of_records.ensures.end (λ reads bytes told. c.unwrap_capture.ensures.past bytes told));
  refused = rw c.in-Unwrap.is (rw c.of_records.ensures.end (λ reads bytes told answered.
      c.of_records.ensures.said ∙ said-alike _ _ _ _ (c.unwrap_capture.ensures.refused bytes told answered) (c.unwrap_capture.ensures.skipped bytes told answered)));
  told = rw c.in-Unwrap.is (λ none. absurd (true≢false none));
  unread = rw c.in-Unwrap.is (λ none. absurd (true≢false none));
  cause = rw c.of_records.ensures.end c.unwrap_capture.ensures.cause;
}

pub returns-in-Frames : goal.returns-in-Frames
returns-in-Frames g c = record {
  answers = rw c.in-Frames.is (rw c.of_records-in-Frames.ensures.end (λ reads bytes told. c.frame_flow.ensures.framed bytes told));
  past = rw c.in-Frames.is (rw c.of_records-in-Frames.ensures.end (λ reads bytes told. c.frame_flow.ensures.past bytes told));
  refused = rw c.in-Frames.is (rw c.of_records-in-Frames.ensures.end (λ reads bytes told answered.
      c.of_records-in-Frames.ensures.said ∙ said-alike _ _ _ _ (c.frame_flow.ensures.refused bytes told answered) (c.frame_flow.ensures.skipped bytes told answered)));
  told = rw c.in-Frames.is (λ none. absurd (true≢false none));
  unread = rw c.in-Frames.is (λ none. absurd (true≢false none));
  cause = rw c.of_records-in-Frames.ensures.end c.frame_flow.ensures.cause;
}

pub returns-in-Json : goal.returns-in-Json
returns-in-Json g c = record {
  answers = rw c.in-Json.is (rw c.of_records-in-Json.ensures.end (λ reads bytes told. c.json_records.ensures.told bytes told));
  past = rw c.in-Json.is (rw c.of_records-in-Json.ensures.end (λ reads bytes told. c.json_records.ensures.past bytes told));
  refused = rw c.in-Json.is (rw c.of_records-in-Json.ensures.end (λ reads bytes told answered.
      c.of_records-in-Json.ensures.said ∙ said-alike _ _ _ _ (c.json_records.ensures.refused bytes told answered) (c.json_records.ensures.skipped bytes told answered)));
  told = rw c.in-Json.is (λ none. absurd (true≢false none));
  unread = rw c.in-Json.is (λ none. absurd (true≢false none));
  cause = rw c.of_records-in-Json.ensures.end c.json_records.ensures.cause;
}
