use Rattle.std.proofs.Common.{ap, ◌∙◌}
use Rattle.dccp_listener.specs.Chain.{Calls, Fires}
use Rattle.dccp_states.specs.declared.calls.Timer.TheVariants as timers
use Rattle.dccp_server.specs.Rooms.{Room, room_does}
use Rattle.dccp_server.specs.Serving.{Does}
use Rattle.dccp_server.proofs.room.forget.Goals as goal

pub returns-clause-after : goal.returns-clause-after
returns-clause-after c =
    c.ask-2.ensures.after ∙ ap (λ (r : Room). room_does c.args.now r c.args.peer (Does (Calls (Fires timers.TimeWait)))) c.ask.ensures.after
