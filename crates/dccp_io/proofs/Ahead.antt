-- The bytes that are pending after a read.
use Rattle.std.proofs.Common.{arith, ◌≡◌, ◌≤◌, ℕ, ◌+◌, List, ◌++◌, length, take, drop, sym, Option}
use Rattle.std.proofs.lemmas.List.{drop-append-le, length-take, length-drop}
use Rattle.std.proofs.Math.Seq.{take-add}
use Rattle.std.specs.Io.KnownBytes.{prepend_known}
use Rattle.dccp_io.specs.Ahead.{BytesAhead}
use Rattle.dccp_io.proofs.Known.{prepend_known-append}

-- bytes ahead, of their two parts
abbrev pub ahead : List ℕ → ℕ → BytesAhead
ahead pending size = record { pending = pending; size = size }

pub pending-grows : (before after : List ℕ) (from to count : ℕ) → from ≤ to → to ≤ length before → take to after ≡ take to before
    → drop from (take (to + count) after) ≡ drop from (take to before) ++ take count (drop to after)
pending-grows before after from to count order inside front =
    let fits : from ≤ length (take to before) = rw (length-take to before) (omega (arith, order, inside)) in
    rw (take-add to count after, front) (drop-append-le from (take to before) (take count (drop to after)) fits)

pub length-came : (bytes : List ℕ) (to count : ℕ) → to + count ≤ length bytes → length (take count (drop to bytes)) ≡ count
length-came bytes to count fits = rw (length-take count (drop to bytes), length-drop to bytes) (omega (arith, fits))

-- what is still to come, where the source tells what came
pub same-ahead : (pending grown got : List ℕ) (before after : Option (List ℕ)) → grown ≡ pending ++ got → before ≡ prepend_known got after
    → prepend_known grown after ≡ prepend_known pending before
same-ahead pending grown got before after grows came = rw (grows, came) (sym (prepend_known-append after pending got))

pub no-longer : (bytes : List ℕ) (from to size : ℕ) → length (drop from (take to (take size bytes))) ≤ size
no-longer bytes from to size =
    rw (length-drop from (take to (take size bytes)), length-take to (take size bytes), length-take size bytes) (omega arith)
