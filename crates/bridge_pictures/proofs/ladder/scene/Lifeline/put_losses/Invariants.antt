use Rattle.std.proofs.Common.{◌≡◌, ◌++◌, drop}
use Rattle.bridge_pictures.specs.Scene.{losses}
use Rattle.bridge_pictures.proofs.ladder.scene.Lifeline.put_losses.Given as goal

abbrev pub invariant-loop-flight : goal.invariant-loop-flight
invariant-loop-flight l = l.text.items ++ losses l.side (drop l.flight-index l.self.frames) ≡ l.initial.text.items ++ losses l.side l.self.frames
