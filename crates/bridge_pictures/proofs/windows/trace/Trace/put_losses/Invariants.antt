use Rattle.std.proofs.Common.{◌≡◌, ◌++◌, drop}
use Rattle.std.specs.Prelude.{flat_map}
use Rattle.bridge_pictures.specs.Trace.{loss_mark}
use Rattle.bridge_pictures.proofs.windows.trace.Trace.put_losses.Given as goal

abbrev pub invariant-loop-sent : goal.invariant-loop-sent
invariant-loop-sent l =
    l.text.items ++ flat_map (loss_mark l.processed) (drop l.sent-index l.self.sent) ≡ l.initial.text.items ++ flat_map (loss_mark l.processed) l.self.sent
