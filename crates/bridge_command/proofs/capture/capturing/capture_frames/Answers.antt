-- What was written and how far the input was read, from where the clock begins.
use Rattle.std.proofs.Common.{◌≡◌, ◌∙◌, sym, ap, subst, ℕ, List, ◌++◌, false}
use Rattle.std.specs.Prelude.{is_some}
use Rattle.bridge_records.specs.Writing.{file_header}
use Rattle.tool_text.specs.Jobs.{gone_through, refusal_told, text_apart}
use Rattle.tool_text.specs.Ends.{Answers, StopsWithin}
use Rattle.tool_text.proofs.Ending.{on-ok}
use Rattle.bridge_command.specs.Capturing.{capture_job}
use Rattle.bridge_command.specs.declared.capture.capturing.Clock.{Clock}
use Rattle.bridge_command.proofs.capture.capturing.capture_frames.Goals as goal

pub returns-clause-captured : goal.returns-clause-captured
returns-clause-captured g c = λ bytes told.
    let header : c.put_file_header.new.text.items ≡ file_header false =
    on-ok c.put_file_header.result _ c.put_file_header.ensures (sym c.is_err.ensures.value ∙ c.if-is_err.false)
    ∙ ap (λ (front : List ℕ). front ++ file_header false) c.new-text.ensures.items in
    subst (λ (first : Clock). Answers (file_header false ++ text_apart capture_job (gone_through capture_job first bytes))
    (is_some (gone_through capture_job first bytes).refusal)
    c.run_lines_apart.result.end (g.S.Source.left c.run_lines_apart.new.input) (g.K.Sink.taken c.args.output.now) (g.K.Sink.taken c.run_lines_apart.new.output)) c.new-clock.ensures
    (subst (λ (front : List ℕ). Answers (front ++ text_apart capture_job (gone_through capture_job c.new-clock.result bytes))
    (is_some (gone_through capture_job c.new-clock.result bytes).refusal)
    c.run_lines_apart.result.end (g.S.Source.left c.run_lines_apart.new.input) (g.K.Sink.taken c.args.output.now) (g.K.Sink.taken c.run_lines_apart.new.output)) header
    (c.run_lines_apart.ensures.through bytes told).answers)

pub returns-clause-past : goal.returns-clause-past
returns-clause-past g c = λ bytes told.
    subst (λ (first : Clock). StopsWithin 16384 (gone_through capture_job first bytes).accepted bytes c.run_lines_apart.result.end
    (g.S.Source.left c.run_lines_apart.new.input))
    c.new-clock.ensures (c.run_lines_apart.ensures.through bytes told).past

pub returns-clause-refused : goal.returns-clause-refused
returns-clause-refused g c = λ bytes told answered.
    (c.run_lines_apart.ensures.through bytes told).refused answered
    ∙ ap (λ (first : Clock). refusal_told (gone_through capture_job first bytes)) c.new-clock.ensures
