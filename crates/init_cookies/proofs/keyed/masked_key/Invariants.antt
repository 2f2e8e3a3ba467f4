use Rattle.std.proofs.Common.{◌≡◌, length}
use Rattle.arrayvec.specs.ArrayVec.{array_vec_len}
use Rattle.init_cookies.specs.Keyed.{masked_key}
use Rattle.init_cookies.proofs.keyed.masked_key.Given as goal

abbrev pub invariant-loop-byte : goal.invariant-loop-byte
invariant-loop-byte l = (l.masked.items ≡ masked_key l.mask l.yielded) × (array_vec_len l.masked ≡ length l.yielded)
