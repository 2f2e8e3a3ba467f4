-- The call ends as its form did, or for lack of memory.
use Rattle.std.proofs.Common.{subst}
use Rattle.tool_text.specs.Ends.{IsWritten, SinkFails}
use Rattle.bridge_command.specs.Complaints.{said_text}
use Rattle.bridge_command.specs.Forms.{bridge_accepted, bridge_reads_past}
use Rattle.bridge_command.proofs.Telling.{answered-as, answers-as, ends-as, stops-as}
use Rattle.bridge_command.proofs.top.perform_and_tell.Goals as goal

pub returns-clause-answers : goal.returns-clause-answers
returns-clause-answers g c = λ reads bytes told.
    answers-as c.perform-ended.result.end c.tell_said.result _ _ _ _ _ c.tell_said.ensures.end (c.perform-ended.ensures.answers reads bytes told)

pub returns-clause-past : goal.returns-clause-past
returns-clause-past g c = λ reads bytes told.
    stops-as c.perform-ended.result.end c.tell_said.result (bridge_reads_past c.args.form) (bridge_accepted c.args.form bytes) bytes _
    c.tell_said.ensures.end (c.perform-ended.ensures.past reads bytes told)

pub returns-clause-told : goal.returns-clause-told
returns-clause-told g c = λ reads.
    answers-as c.perform-ended.result.end c.tell_said.result _ _ _ _ _ c.tell_said.ensures.end (c.perform-ended.ensures.told reads)

pub returns-clause-cause : goal.returns-clause-cause
returns-clause-cause g c =
    ends-as c.perform-ended.result.end c.tell_said.result _ _ c.tell_said.ensures.end c.perform-ended.ensures.cause

pub returns-clause-said : goal.returns-clause-said
returns-clause-said g c = λ reads bytes told answered.
    subst (λ said. IsWritten (said_text said) (g.E.Sink.taken c.args.errors.now) (g.E.Sink.taken c.tell_said.new.errors)
    (SinkFails g.E.Sink.faults g.E.Sink.empty_takes c.args.errors.now c.tell_said.new.errors))
    (c.perform-ended.ensures.refused reads bytes told
    (answered-as c.perform-ended.result.end c.tell_said.result c.tell_said.ensures.end answered))
    (c.tell_said.ensures.said answered)
