use Rattle.std.proofs.Common.{◌∙◌, ◌≤◌, inl, inr, refl, sym, subst, false, ℕ, None}
use Rattle.std.proofs.lemmas.Option.{none-some}
use Rattle.dccp_command.specs.CampaignText.{AnswersUnread, campaign_text}
use Rattle.dccp_command.specs.Forms.{form_accepted, form_reads_past, form_text, is_form_refused}
use Rattle.tool_forms.specs.Words.{usage}
use Rattle.tool_forms.specs.declared.words.Form.TheVariants as form
use Rattle.tool_jobs.specs.Transcript.{SafeThroughout, is_refused, transcript}
use Rattle.dccp_io.specs.Counts.{Rose}
use Rattle.tool_text.specs.Ends.{Answers, EndsForCause, IsAnswered, SinkFails, StopsWithin}
use Rattle.tool_text.specs.declared.output.status.JobEnd.{JobEnd}
use Rattle.tests_claims.proofs.Ending.{begun, begun-unread, first-events-safe, known-front, known-whole, has-not-failed, has-not-risen, no-two-ends, on-done, on-input, on-read, on-write, reads-past-lines, taken-whole}
use Rattle.tests_claims.proofs.tool.played.Goals as goal

pub returns-clause-done : goal.returns-clause-done
returns-clause-done g c = λ bytes n words told done.
    first-events-safe bytes n (c.every_schedule_is_a_run.ensures.run bytes)
    (on-done c.dccp.result (λ (end : JobEnd). IsAnswered end → SafeThroughout bytes) (c.dccp.ensures.safe words bytes told) done (inl refl))

pub returns-clause-refused : goal.returns-clause-refused
returns-clause-refused g c = λ bytes n words told refused.
    first-events-safe bytes n (c.every_schedule_is_a_run.ensures.run bytes)
    (on-input c.dccp.result (λ (end : JobEnd). IsAnswered end → SafeThroughout bytes) (c.dccp.ensures.safe words bytes told) refused (inr refl))

pub returns-clause-transcript : goal.returns-clause-transcript
returns-clause-transcript g c = λ bytes before words told taken which.
    let left = g.S.Source.left c.dccp.new.input in let old = g.K.Sink.taken c.args.output.now in let new = g.K.Sink.taken c.dccp.new.output in
    known-whole (transcript bytes) (is_refused bytes) left old new before taken (taken-whole (transcript bytes) (is_refused bytes) left old new c.dccp.result (c.dccp.ensures.answers form.Run words refl bytes told) which)

pub returns-clause-whole : goal.returns-clause-whole
returns-clause-whole g c = λ which bytes before words reads told taken ended.
    known-whole (form_text which bytes) (is_form_refused which bytes) (g.S.Source.left c.dccp.new.input) (g.K.Sink.taken c.args.output.now) (g.K.Sink.taken c.dccp.new.output) before taken (taken-whole (form_text which bytes) (is_form_refused which bytes) (g.S.Source.left c.dccp.new.input) (g.K.Sink.taken c.args.output.now) (g.K.Sink.taken c.dccp.new.output) c.dccp.result (c.dccp.ensures.answers which words reads bytes told) ended)

pub returns-clause-accepted : goal.returns-clause-accepted
returns-clause-accepted g c = λ which bytes words reads told done.
    ((on-done c.dccp.result (λ (end : JobEnd). Answers (form_text which bytes) (is_form_refused which bytes) end (g.S.Source.left c.dccp.new.input) (g.K.Sink.taken c.args.output.now) (g.K.Sink.taken c.dccp.new.output)) (c.dccp.ensures.answers which words reads bytes told) done).done refl).0

pub returns-clause-faulty : goal.returns-clause-faulty
returns-clause-faulty g c = λ which bytes words reads told refused.
    (on-input c.dccp.result (λ (end : JobEnd). Answers (form_text which bytes) (is_form_refused which bytes) end (g.S.Source.left c.dccp.new.input) (g.K.Sink.taken c.args.output.now) (g.K.Sink.taken c.dccp.new.output)) (c.dccp.ensures.answers which words reads bytes told) refused).input refl

pub returns-clause-front : goal.returns-clause-front
returns-clause-front g c = λ which bytes before words reads told taken.
    known-front (form_text which bytes) (is_form_refused which bytes) (g.S.Source.left c.dccp.new.input) (g.K.Sink.taken c.args.output.now) (g.K.Sink.taken c.dccp.new.output) before taken (begun (form_text which bytes) (is_form_refused which bytes) (g.S.Source.left c.dccp.new.input) (g.K.Sink.taken c.args.output.now) (g.K.Sink.taken c.dccp.new.output) c.dccp.result (c.dccp.ensures.answers which words reads bytes told))

pub returns-clause-sums : goal.returns-clause-sums
returns-clause-sums g c = λ campaign before words taken done.
    let old = g.K.Sink.taken c.args.output.now in let new = g.K.Sink.taken c.dccp.new.output in
    known-whole (campaign_text campaign) false None old new before taken ((on-done c.dccp.result (λ (end : JobEnd). AnswersUnread (campaign_text campaign) end old new (SinkFails g.K.Sink.faults g.K.Sink.empty_takes c.args.output.now c.dccp.new.output)) (c.dccp.ensures.totals campaign words) done).whole refl)

pub returns-clause-emptied : goal.returns-clause-emptied
returns-clause-emptied g c = λ which bytes words reads told done.
    ((on-done c.dccp.result (λ (end : JobEnd). Answers (form_text which bytes) (is_form_refused which bytes) end (g.S.Source.left c.dccp.new.input) (g.K.Sink.taken c.args.output.now) (g.K.Sink.taken c.dccp.new.output)) (c.dccp.ensures.answers which words reads bytes told) done).done refl).1

pub returns-clause-read : goal.returns-clause-read
returns-clause-read g c = λ which words ended same below.
    let source = Rose (g.S.Source.faults c.args.input.now) (g.S.Source.faults c.dccp.new.input) in
    let sink = SinkFails g.K.Sink.faults g.K.Sink.empty_takes c.args.output.now c.dccp.new.output in
    has-not-risen (g.S.Source.faults c.args.input.now) (g.S.Source.faults c.dccp.new.input)
    ((on-read c.dccp.result (λ (end : JobEnd). EndsForCause end source sink) (c.dccp.ensures.cause which words) ended).read refl) same below

pub returns-clause-written : goal.returns-clause-written
returns-clause-written g c = λ which words ended same taken below under.
    let source = Rose (g.S.Source.faults c.args.input.now) (g.S.Source.faults c.dccp.new.input) in
    let sink = SinkFails g.K.Sink.faults g.K.Sink.empty_takes c.args.output.now c.dccp.new.output in
    has-not-failed (g.K.Sink.faults c.args.output.now) (g.K.Sink.faults c.dccp.new.output) (g.K.Sink.empty_takes c.args.output.now) (g.K.Sink.empty_takes c.dccp.new.output)
    ((on-write c.dccp.result (λ (end : JobEnd). EndsForCause end source sink) (c.dccp.ensures.cause which words) ended).write refl) same taken below under

pub returns-clause-unnamed : goal.returns-clause-unnamed
returns-clause-unnamed g c = λ which words ended. none-some which (sym (c.dccp.ensures.words ended) ∙ words)

pub returns-clause-named : goal.returns-clause-named
returns-clause-named g c = λ none. elim (c.dccp.ensures.others none) [
  | inl words ↦ inl words
  | inr memory ↦ inr memory.0
]

pub returns-clause-sums_front : goal.returns-clause-sums_front
returns-clause-sums_front g c = λ campaign before words taken.
    let old = g.K.Sink.taken c.args.output.now in let new = g.K.Sink.taken c.dccp.new.output in
    let failed = SinkFails g.K.Sink.faults g.K.Sink.empty_takes c.args.output.now c.dccp.new.output in
    known-front (campaign_text campaign) false None old new before taken (begun-unread (campaign_text campaign) old new failed c.dccp.result (c.dccp.ensures.totals campaign words))

pub returns-clause-past : goal.returns-clause-past
returns-clause-past g c = λ which bytes words reads other told refused.
    let left = g.S.Source.left c.dccp.new.input in
    let stops = on-input c.dccp.result (λ (end : JobEnd). StopsWithin (form_reads_past which) (form_accepted which bytes) bytes end left) (c.dccp.ensures.past which words reads bytes told) refused refl in
    (stops.0, (subst (λ (most : ℕ). stops.0 ≤ most) (reads-past-lines which other) stops.1, stops.2))

pub returns-clause-past_records : goal.returns-clause-past_records
returns-clause-past_records g c = λ bytes words told refused.
    let left = g.S.Source.left c.dccp.new.input in
    let stops = on-input c.dccp.result (λ (end : JobEnd). StopsWithin (form_reads_past form.Show) (form_accepted form.Show bytes) bytes end left) (c.dccp.ensures.past form.Show words refl bytes told) refused refl in
    (stops.0, (stops.1, stops.2))

pub returns-clause-unread : goal.returns-clause-unread
returns-clause-unread g c = λ campaign words. c.dccp.ensures.form_unread (form.Campaign campaign) words refl

pub returns-clause-idle : goal.returns-clause-idle
returns-clause-idle g c = λ none. c.dccp.ensures.unread none

pub returns-clause-settings : goal.returns-clause-settings
returns-clause-settings g c = λ none memory. elim (c.dccp.ensures.others none) [
  | inl words ↦ no-two-ends c.dccp.result words memory
  | inr has ↦ has.1
]

pub returns-clause-silent : goal.returns-clause-silent
returns-clause-silent g c = λ none memory. c.dccp.ensures.silent none memory

pub returns-clause-line : goal.returns-clause-line
returns-clause-line g c = λ before words taken.
    known-front usage false None (g.K.Sink.taken c.args.output.now) (g.K.Sink.taken c.dccp.new.output) before taken (c.dccp.ensures.usage words).front

pub returns-clause-usage : goal.returns-clause-usage
returns-clause-usage g c = λ before words taken same kept below under.
    known-whole usage false None (g.K.Sink.taken c.args.output.now) (g.K.Sink.taken c.dccp.new.output) before taken
    ((c.dccp.ensures.usage words).whole (λ failed.
    has-not-failed (g.K.Sink.faults c.args.output.now) (g.K.Sink.faults c.dccp.new.output) (g.K.Sink.empty_takes c.args.output.now) (g.K.Sink.empty_takes c.dccp.new.output) failed same kept below under))
