use Rattle.std.proofs.Common.{◌∙◌, ap}
use Rattle.fault_campaign.specs.Seeded.{RunState, played}
use Rattle.fault_campaign.proofs.Turns.{plays, refuses}
use denote.Enum.Declared.{tag_of}
use Rattle.world_events.specs.contracts.event.WorldFault as fault
use Rattle.fault_campaign.proofs.run.OngoingRun.play.Goals as goal

pub returns-in-Ok : goal.returns-in-Ok
returns-in-Ok c =
    plays c.self.inside.words c.self.inside.world c.step.new.self c.self.inside.report c.count.new.self c.args.event.now c.in-Ok.seen c.in-Ok.ensures.ok
    c.count.ensures
    ∙ ap (λ (run : RunState). played run c.args.event.now) c.self.view_is

pub returns-in-Err : goal.returns-in-Err
returns-in-Err c =
    refuses c.self.inside.words c.self.inside.world c.step.new.self c.self.inside.report c.args.event.now c.in-Err.field-0
    (λ none. c.in-Err.in-Err-own'.refused-1.1 (ap (tag_of fault.the_type) none)) c.in-Err.ensures.no_such_frame.0 c.in-Err.ensures.full.0
    c.in-Err.ensures.far_short.0 c.in-Err.ensures.err
    ∙ ap (λ (run : RunState). played run c.args.event.now) c.self.view_is
