-- What a bucket grants.
use Rattle.std.proofs.Common.{◌≡◌, refl, subst, ℕ, ◌+◌, ◌-◌, ◌*◌, ◌≤◌, max, min, nat_le, Bool, true, false, List, [], ◌∷◌, arith}
use Rattle.std.proofs.Math.Nat.{mul-add, mul-le-mul_left}
use Rattle.std.proofs.lemmas.Bool.{leb-true}
use Rattle.path_rules.specs.Limits.{LimitsHold, asked_last, brim, tokens_for, refilled, token_taken, token_taken_from}
use Rattle.path_rules.specs.declared.limits.Bucket.{Bucket}
use Rattle.path_rules.specs.declared.limits.Limit.{Limit}

-- the last time is none before the first
asked-from : (since : ℕ) (times : List ℕ) → since ≤ asked_last since times
asked-from since [] = omega arith
asked-from since (now ∷ later) =
    let more = asked-from (max since now) later in
    omega (arith, more)

paid-by : (held : ℕ) (enough : Bool) → nat_le 1000 held ≡ enough → 1000 * tokens_for enough + (held - 1000 * tokens_for enough) ≡ held
paid-by held true is =
    let some : 1000 ≤ held = leb-true 1000 held is in
    omega (arith, some)
paid-by held false is = omega arith

-- what passes is paid
paid : (held since : ℕ) → 1000 * tokens_for (token_taken_from held since).granted + (token_taken_from held since).bucket.thousandths ≡ held
paid held since = paid-by held (nat_le 1000 held) refl

-- two waits one after the other bring no more than the time between
brought : (rate a b c : ℕ) → a + b ≤ c → rate * a + rate * b ≤ rate * c
brought rate a b c within = subst (λ x. x ≤ rate * c) (mul-add rate a b) (mul-le-mul_left rate within)

filled : (limit : Limit) (bucket : Bucket) (now : ℕ) → refilled limit bucket now ≤ bucket.thousandths + limit.per_second * (now - bucket.since)
filled limit bucket now =
    let less = brought limit.per_second (min (now - bucket.since) (brim limit)) 0 (now - bucket.since) (omega arith) in
    omega (arith, less)

pub limits_hold : LimitsHold
limits_hold limit bucket [] = omega arith
limits_hold limit bucket (now ∷ later) =
    let next = (token_taken limit bucket now).bucket in
    let rest = limits_hold limit next later in
    let one = paid (refilled limit bucket now) (max bucket.since now) in
    let come = filled limit bucket now in
    let last = asked-from (max bucket.since now) later in
    let both =
    brought limit.per_second (now - bucket.since) (asked_last (max bucket.since now) later - max bucket.since now)
    (asked_last (max bucket.since now) later - bucket.since) (omega (arith, last))
    in
    omega (arith, rest, one, come, both)
