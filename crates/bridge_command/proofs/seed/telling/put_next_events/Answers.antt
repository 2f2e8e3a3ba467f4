use Rattle.std.proofs.Common.{rules}
use Rattle.bridge_command.proofs.SeedTold.{drawn-little, told-all, told-first, told-more}
use Rattle.bridge_command.proofs.seed.telling.put_next_events.Goals as goal

pub loop-init : goal.loop-init
loop-init c = told-first c.args.more c.args.run.now c.args.text.now.items (search rules)

pub play-requires : goal.play-requires
play-requires c =
    drawn-little c.args.more c.loop.counter c.args.run.now c.loop.run c.draw-event.new.self c.args.text.now.items c.loop.text.items c.draw-event.ensures.rest
    c.loop.invariant

pub loop-preserved : goal.loop-preserved
loop-preserved c =
    told-more c.args.more c.loop.counter c.args.run.now c.loop.run c.draw-event.new.self c.play.new.self c.draw-event.result c.args.text.now.items
    c.loop.text.items
    c.put_event_line.new.text.items (search rules) c.draw-event.ensures.event c.draw-event.ensures.rest c.in_ok-play.ensures c.in_ok-put_event_line.ensures
    c.loop.invariant

pub returns : goal.returns
returns c = told-all c.args.more c.loop.counter c.args.run.now c.loop.run c.args.text.now.items c.loop.text.items (search rules) c.loop.invariant
