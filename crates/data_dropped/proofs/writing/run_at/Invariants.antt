use Rattle.std.proofs.Common.{◌≡◌, ◌+◌, ◌++◌, None, drop, get_or, replicate}
use Rattle.data_dropped.proofs.writing.run_at.Given as goal

-- this many codes are the same
abbrev pub invariant-loop-count : goal.invariant-loop-count
invariant-loop-count l = drop l.place l.codes ≡ replicate l.count (get_or l.codes l.place None) ++ drop (l.place + l.count) l.codes
