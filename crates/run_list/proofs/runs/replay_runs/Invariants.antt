use Rattle.std.proofs.Common.{◌≡◌, ◌+◌, ◌≤◌, drop}
use Rattle.run_list.specs.Replay.{replayed, count_of_new}
use Rattle.run_list.proofs.runs.replay_runs.Given as goal

abbrev pub invariant-loop-call : goal.invariant-loop-call
invariant-loop-call g l =
    let set = g.R.Runs.set in
    record {
      few : l.new ≤ l.call-index;
      told : l.new + count_of_new (drop l.call-index l.calls) (set l.runs) ≡ count_of_new l.calls (set l.fn.runs);
      rest : replayed (drop l.call-index l.calls) (set l.runs) ≡ replayed l.calls (set l.fn.runs);
    }
