use Rattle.std.proofs.Common.{◌≡◌, ℕ, Option, length}
use Rattle.dccp_options.specs.Grammar.{options_of}
use Rattle.dccp_endpoint.specs.Heeding.{ReadingState, heeds}
use Rattle.dccp_endpoint.specs.Silent.{IsFirstOf}
use Rattle.dccp_endpoint.proofs.heeding.silent_options.Given as goal

abbrev pub invariant-loop-item : goal.invariant-loop-item
invariant-loop-item l =
    ((ack : Option ℕ) (h : ReadingState) → heeds l.count ack h l.left ≡ heeds l.count ack h (options_of l.area l.on_data))
    × IsFirstOf l.first l.left (options_of l.area l.on_data)

abbrev pub decreases-loop-item : goal.decreases-loop-item
decreases-loop-item l = length l.left
