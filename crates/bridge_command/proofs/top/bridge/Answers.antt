-- The form that was found is the one that the words have.
use Rattle.std.proofs.Common.{rules, ◌≡◌, ◌∙◌, ap, subst, [], true, false, Some}
use Rattle.std.proofs.lemmas.Option.{same_Some}
use Rattle.dccp_io.specs.Counts.{Rose}
use Rattle.tool_text.specs.Ends.{Answers, EndsForCause, IsWritten, SinkFails, StopsWithin}
use Rattle.bridge_command.specs.Complaints.{OnAnswer, said_text}
use Rattle.tool_text.specs.declared.output.status.JobEnd.{JobEnd}
use Rattle.tool_text.proofs.Ending.{on-job-end}
use Rattle.bridge_command.specs.declared.words.BridgeForm.{BridgeForm}
use Rattle.bridge_command.specs.Forms.{bridge_accepted, bridge_reads_past, bridge_said, bridge_text, has_input, is_bridge_refused}
use Rattle.bridge_command.specs.Words.{asked_form}
use Rattle.bridge_command.proofs.top.bridge.Goals as goal

pub returns-in-Ok-Some-clause-answers : goal.returns-in-Ok-Some-clause-answers
returns-in-Ok-Some-clause-answers g c = λ asked words reads bytes told.
    let found : Some c.in-Ok-Some.form ≡ asked_form c.args.words.now = search rules in
    on-job-end c.perform_and_tell.result c.status.result
    (λ (end : JobEnd). Answers (bridge_text asked bytes) (is_bridge_refused asked bytes) end (g.S.Source.left c.perform_and_tell.new.input) (g.K.Sink.taken c.args.output.now)
    (g.K.Sink.taken c.perform_and_tell.new.output)) c.status.ensures.value
    (subst
    (λ (f : BridgeForm). has_input f ≡ true → Answers (bridge_text f bytes) (is_bridge_refused f bytes) c.perform_and_tell.result (g.S.Source.left c.perform_and_tell.new.input)
    (g.K.Sink.taken c.args.output.now) (g.K.Sink.taken c.perform_and_tell.new.output))
    (same_Some c.in-Ok-Some.form asked (found ∙ words)) (λ ok. c.perform_and_tell.ensures.answers ok bytes told) reads)

pub returns-in-Ok-Some-clause-past : goal.returns-in-Ok-Some-clause-past
returns-in-Ok-Some-clause-past g c = λ asked words reads bytes told.
    let found : Some c.in-Ok-Some.form ≡ asked_form c.args.words.now = search rules in
    on-job-end c.perform_and_tell.result c.status.result
    (λ (end : JobEnd). StopsWithin (bridge_reads_past asked) (bridge_accepted asked bytes) bytes end (g.S.Source.left c.perform_and_tell.new.input)) c.status.ensures.value
    (subst
    (λ (f : BridgeForm). has_input f ≡ true → StopsWithin (bridge_reads_past f) (bridge_accepted f bytes) bytes c.perform_and_tell.result (g.S.Source.left c.perform_and_tell.new.input))
    (same_Some c.in-Ok-Some.form asked (found ∙ words)) (λ ok. c.perform_and_tell.ensures.past ok bytes told) reads)

pub returns-in-Ok-Some-clause-form_unread : goal.returns-in-Ok-Some-clause-form_unread
returns-in-Ok-Some-clause-form_unread g c = λ asked words unread.
    let found : Some c.in-Ok-Some.form ≡ asked_form c.args.words.now = search rules in
    c.perform_and_tell.ensures.unread (ap has_input (same_Some c.in-Ok-Some.form asked (found ∙ words)) ∙ unread)

pub returns-in-Ok-Some-clause-cause : goal.returns-in-Ok-Some-clause-cause
returns-in-Ok-Some-clause-cause g c = λ asked words.
    on-job-end c.perform_and_tell.result c.status.result
    (λ (end : JobEnd). EndsForCause end (Rose (g.S.Source.faults c.args.input.now) (g.S.Source.faults c.perform_and_tell.new.input))
    (SinkFails g.K.Sink.faults g.K.Sink.empty_takes c.args.output.now c.perform_and_tell.new.output)) c.status.ensures.value c.perform_and_tell.ensures.cause

pub returns-in-Ok-Some-clause-told : goal.returns-in-Ok-Some-clause-told
returns-in-Ok-Some-clause-told g c = λ asked words unread.
    let found : Some c.in-Ok-Some.form ≡ asked_form c.args.words.now = search rules in
    on-job-end c.perform_and_tell.result c.status.result
    (λ (end : JobEnd). Answers (bridge_text asked []) false end (Some []) (g.K.Sink.taken c.args.output.now) (g.K.Sink.taken c.perform_and_tell.new.output))
    c.status.ensures.value
    (subst
    (λ (f : BridgeForm). has_input f ≡ false → Answers (bridge_text f []) false c.perform_and_tell.result (Some []) (g.K.Sink.taken c.args.output.now)
    (g.K.Sink.taken c.perform_and_tell.new.output))
    (same_Some c.in-Ok-Some.form asked (found ∙ words)) c.perform_and_tell.ensures.told unread)

pub returns-in-Ok-Some-clause-said : goal.returns-in-Ok-Some-clause-said
returns-in-Ok-Some-clause-said g c = λ asked words reads bytes told.
    let found : Some c.in-Ok-Some.form ≡ asked_form c.args.words.now = search rules in
    on-job-end c.perform_and_tell.result c.status.result
    (λ (end : JobEnd). OnAnswer end (IsWritten (said_text (bridge_said asked bytes)) (g.E.Sink.taken c.args.errors.now)
    (g.E.Sink.taken c.perform_and_tell.new.errors)
    (SinkFails g.E.Sink.faults g.E.Sink.empty_takes c.args.errors.now c.perform_and_tell.new.errors))) c.status.ensures.value
    (subst
    (λ (f : BridgeForm). has_input f ≡ true → OnAnswer c.perform_and_tell.result (IsWritten (said_text (bridge_said f bytes))
    (g.E.Sink.taken c.args.errors.now) (g.E.Sink.taken c.perform_and_tell.new.errors)
    (SinkFails g.E.Sink.faults g.E.Sink.empty_takes c.args.errors.now c.perform_and_tell.new.errors)))
    (same_Some c.in-Ok-Some.form asked (found ∙ words)) (λ ok. c.perform_and_tell.ensures.said ok bytes told) reads)
