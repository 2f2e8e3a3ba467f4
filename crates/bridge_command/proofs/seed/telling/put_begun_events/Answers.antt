-- The first event opens the connection, and the lines of all others follow its line.
use Rattle.std.proofs.Common.{rules}
use Rattle.std.proofs.lemmas.Result.{on_ok_weaker}
use Rattle.fault_campaign.proofs.Turns.{opened-few}
use Rattle.bridge_command.proofs.SeedTold.{opened-told}
use Rattle.bridge_command.proofs.seed.telling.put_begun_events.Goals as goal

pub put_next_events-requires : goal.put_next_events-requires
put_next_events-requires c =
    record { few = opened-few c.args.events c.args.run.now c.play.new.self (search rules) (search rules) c.in_ok-play.ensures }

pub returns : goal.returns
returns c =
    on_ok_weaker c.put_next_events.result
    (opened-told c.args.events c.args.run.now c.play.new.self c.args.text.now.items c.put_event_line.new.text.items c.put_next_events.new.text.items
    c.in_ok-play.ensures c.in_ok-put_event_line.ensures)
    c.put_next_events.ensures
