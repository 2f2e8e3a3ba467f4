use Rattle.std.proofs.Common.{rules, ◌∙◌, ap}
use Rattle.world_events.specs.declared.event.Event.TheVariants.{Open}
use Rattle.fault_campaign.specs.Seeded.{RunState, played}
use Rattle.fault_campaign.proofs.Turns.{opened-few, reported}
use Rattle.fault_campaign.proofs.run.OngoingRun.play_all.Goals as goal

pub go_on_with-requires : goal.go_on_with-requires
go_on_with-requires c = opened-few c.args.events c.args.self.now c.play.new.self (search rules) (search rules) c.in_ok-play.ensures

pub returns : goal.returns
returns c seed begun =
    c.report.ensures
    ∙ reported seed c.args.events c.play.new.self c.go_on_with.new.self
    (c.in_ok-play.ensures ∙ ap (λ (run : RunState). played run Open) begun)
    c.in_ok-go_on_with.ensures
