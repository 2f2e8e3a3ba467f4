-- How the bytes of a report are written: at each place the byte of a run of codes, and then the rest.
use Rattle.std.specs.Prelude.{◌≡◌, ◌⊎◌, ℕ, ◌+◌, List, ◌++◌, Option, None, drop, get_or, replicate}
use Rattle.ack_vectors.specs.Coding.{BeginsWithout, coded_bytes}
use Rattle.data_dropped.specs.Drops.{drop_coding, most_numbers}

-- This many codes from a place on are the same, and a byte cannot cover more: it is full, another code follows, or no code follows.
pub record IsRunAt (codes : List (Option ℕ)) (place count : ℕ) : Type 0 where
  pub same : drop place codes ≡ replicate count (get_or codes place None) ++ drop (place + count) codes
  pub ends : (count ≡ most_numbers (get_or codes place None)) ⊎ BeginsWithout drop_coding (get_or codes place None) (drop (place + count) codes)

-- the bytes of the codes from a place on
abbrev pub bytes_from : List (Option ℕ) → ℕ → List ℕ
bytes_from codes place = coded_bytes drop_coding (drop place codes)
