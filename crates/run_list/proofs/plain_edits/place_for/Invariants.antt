use Rattle.std.proofs.Common.{◌<◌, take}
use Rattle.run_list.specs.Runs.{bound_after}
use Rattle.run_list.proofs.plain_edits.place_for.Given as goal

abbrev pub invariant-loop-at : goal.invariant-loop-at
invariant-loop-at l = l.place < bound_after l.floor 2048 (take l.at l.runs)
