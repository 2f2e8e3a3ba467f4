use Rattle.std.proofs.Common.{rules}
use Rattle.fault_campaign.proofs.Turns.{starts-little}
use Rattle.fault_campaign.proofs.run.run_seed_with.Goals as goal

pub play_all-requires : goal.play_all-requires
play_all-requires c =
    record {
      some = search rules;
      few = starts-little _ c.args.events _ (search rules) c.in_ok-run.ensures;
    }

pub returns : goal.returns
returns c = record { value = c.play_all.ensures c.args.seed c.in_ok-run.ensures }
