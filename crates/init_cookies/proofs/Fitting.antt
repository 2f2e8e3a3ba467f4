-- A Request spelled again fits a frame.
use Rattle.std.proofs.Common.{◌≡◌, ℕ, ◌+◌, ◌-◌, ◌%◌, ◌≤◌, List, length, replicate, ap, ◌∙◌, arith}
use Rattle.std.proofs.lemmas.List.{length-append, length-replicate}
use Rattle.dccp_packets.specs.Grammar.{padded}

padded-length : (options : List ℕ) → length (padded options) ≡ length options + (4 - length options % 4) % 4
padded-length options =
    length-append options (replicate ((4 - length options % 4) % 4) 0)
    ∙ ap (λ (n : ℕ). length options + n) (length-replicate ((4 - length options % 4) % 4) 0)

pub request_fits : (fixed : ℕ) (options : List ℕ) → fixed ≡ 20 → length options ≤ 220 → fixed + length (padded options) ≤ 1020
request_fits fixed options is short = let filled = padded-length options in omega (arith, is, filled, short)
