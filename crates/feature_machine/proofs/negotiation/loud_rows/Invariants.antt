use Rattle.std.proofs.Common.{◌≡◌, ◌+◌, ◌≤◌, drop}
use Rattle.feature_machine.specs.Negotiating.{loud_rows}
use Rattle.feature_machine.proofs.negotiation.loud_rows.Given as goal

-- those so far and those of the rest are all
abbrev pub invariant-loop-row : goal.invariant-loop-row
invariant-loop-row l = (l.loud ≤ l.row-index) × (l.loud + loud_rows (drop l.row-index l.rows) ≡ loud_rows l.rows)
