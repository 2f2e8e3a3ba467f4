use Rattle.std.proofs.Common.{◌≡◌, take}
use Rattle.ack_vectors.specs.Kept.{newest_whole}
use Rattle.ack_vectors.proofs.received.newest_among.Given as goal

-- no record so far, from the newest on, counts
abbrev pub invariant-loop-index : goal.invariant-loop-index
invariant-loop-index l = newest_whole l.n (take l.index l.records) ≡ newest_whole l.n l.records
