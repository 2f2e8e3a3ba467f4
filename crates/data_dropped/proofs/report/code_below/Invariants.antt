use Rattle.std.proofs.Common.{◌≡◌, ◌+◌, drop, length, slice_get}
use Rattle.ack_vectors.specs.Coding.{states_of}
use Rattle.data_dropped.specs.Drops.{drop_coding}
use Rattle.data_dropped.proofs.report.code_below.Given as goal

abbrev pub invariant-loop-byte : goal.invariant-loop-byte
invariant-loop-byte l = record {
  same : slice_get (states_of drop_coding (drop l.byte-index l.bytes)) l.left ≡ slice_get (states_of drop_coding l.bytes) l.below;
  passed : length (states_of drop_coding (drop l.byte-index l.bytes)) + l.below ≡ length (states_of drop_coding l.bytes) + l.left;
}
