use Rattle.std.proofs.Common.{rules}
use Rattle.std.proofs.lemmas.Result.{on_ok_weaker}
use Rattle.bridge_command.proofs.SeedTold.{begun-few, seed-told}
use Rattle.bridge_command.proofs.seed.telling.put_events.Goals as goal

pub put_begun_events-requires : goal.put_begun_events-requires
put_begun_events-requires c =
    record { some = search rules; few = begun-few c.args.seed c.args.events _ (search rules) c.in_ok-run.ensures }

pub returns : goal.returns
returns c =
    on_ok_weaker c.put_begun_events.result
    (seed-told c.args.seed c.args.events _ c.args.text.now.items c.put_begun_events.new.text.items c.in_ok-run.ensures)
    c.put_begun_events.ensures
