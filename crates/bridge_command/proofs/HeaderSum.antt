-- The sum of the words of an IPv4 header.
use Rattle.std.proofs.Common.{arith, ◌≡◌, ◌≤◌, ◌<◌, ◌==◌, ℕ, ◌+◌, ◌-◌, ◌/◌, ◌%◌, ◌^◌, refl, ap, ◌∙◌, false}
use Rattle.std.proofs.lemmas.Grind.{common_steps}
use Rattle.dccp_sum.specs.Words.{ones_complement, word_sum}
use Rattle.bridge_command.specs.FrameRecords.{ip_checksum, ip_header_with}
use Rattle.bridge_command.specs.declared.capture.records.Travel.{Travel}

-- a sum of some words, folded
folded : (sum : ℕ) → 0 < sum → ones_complement sum ≡ 1 + (sum - 1) % 65535
folded sum some =
    let test : (sum == 0) ≡ false = grind (arith, common_steps) in
    rw test refl

words-sum : (t : Travel) (total : ℕ) → t.from < 2 ^ 32 → t.to < 2 ^ 32 → total ≤ 2068
    → word_sum (ip_header_with 0 t total) ≡ 50465 + total + (t.from / 65536 + t.from % 65536) + (t.to / 65536 + t.to % 65536)
words-sum t total from to fits = omega (arith, from, to, fits)

pub header_sum : (t : Travel) (total : ℕ) → t.from < 2 ^ 32 → t.to < 2 ^ 32 → total ≤ 2068
    → ip_checksum t total ≡ 65535 - (1 + (50465 + total + (t.from / 65536 + t.from % 65536) + (t.to / 65536 + t.to % 65536) - 1) % 65535)
header_sum t total from to fits =
    let sum = words-sum t total from to fits in
    ap (λ (n : ℕ). 65535 - ones_complement n) sum
    ∙ ap (λ (n : ℕ). 65535 - n) (folded (50465 + total + (t.from / 65536 + t.from % 65536) + (t.to / 65536 + t.to % 65536)) (omega arith))
