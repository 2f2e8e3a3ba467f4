-- What was written and how far the input was read, from where the end begins.
use Rattle.std.proofs.Common.{subst}
use Rattle.std.specs.Prelude.{is_some}
use Rattle.ccid_two.specs.Kinds.{Both}
use Rattle.data_dropped.specs.Buffering.{BufferedState}
use Rattle.tool_text.specs.Ends.{Answers, StopsWithin}
use Rattle.tool_jobs.specs.Buffered.{buffered_acts}
use Rattle.tool_jobs.specs.Replay.{replay_of_input, text_of_replay}
use Rattle.tool_jobs.proofs.replay.replaying.replay_at_buffer.Goals as goal

pub returns-clause-replayed : goal.returns-clause-replayed
returns-clause-replayed g c = λ bytes told.
    subst (λ (end : BufferedState Both). Answers (text_of_replay buffered_acts c.args.side end bytes)
    (is_some (replay_of_input buffered_acts c.args.side end bytes).refusal)
    c.replay_at.result (g.S.Source.left c.replay_at.new.input) (g.K.Sink.taken c.args.output.now) (g.K.Sink.taken c.replay_at.new.output))
    c.in-Ok.ensures (c.replay_at.ensures.replayed bytes told)

pub returns-clause-past : goal.returns-clause-past
returns-clause-past g c = λ bytes told.
    subst (λ (end : BufferedState Both). StopsWithin 16384 (replay_of_input buffered_acts c.args.side end bytes).accepted bytes c.replay_at.result
    (g.S.Source.left c.replay_at.new.input))
    c.in-Ok.ensures (c.replay_at.ensures.past bytes told)
