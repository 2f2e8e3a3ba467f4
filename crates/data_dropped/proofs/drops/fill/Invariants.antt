use Rattle.std.proofs.Common.{◌≡◌, take}
use Rattle.data_dropped.specs.Drops.{code_table}
use Rattle.data_dropped.proofs.drops.fill.Given as goal

-- the drops so far are noted
abbrev pub invariant-loop-index : goal.invariant-loop-index
invariant-loop-index l = l.table ≡ code_table (take l.index l.drops.items) l.ack
