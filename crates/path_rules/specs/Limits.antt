-- How many answers go out in a second to datagrams that anybody may send (RFC 4340, sections 7.5.4 and 8.1.3; own).
use Rattle.std.specs.Prelude.{ℕ, ◌+◌, ◌-◌, ◌*◌, ◌^◌, ◌≤◌, max, min, nat_lt, nat_le, Bool, true, false, ◌||◌, List, [], ◌∷◌}
use Rattle.seq_circle.specs.Circle.{distance}
use Rattle.path_rules.specs.declared.limits.Bucket.{Bucket}
use Rattle.path_rules.specs.declared.limits.Limit.{Limit}
use Rattle.path_rules.specs.declared.limits.TokenGrant.{TokenGrant}

-- 20 Syncs a second for numbers near the greatest received (own)
abbrev pub near_syncs : Limit
near_syncs = record { per_second = 20; burst = 20 }

-- one a second for all others (own)
abbrev pub far_syncs : Limit
far_syncs = record { per_second = 1; burst = 1 }

-- eight Resets a second to peers that have no connection (own)
abbrev pub resets_to_strangers : Limit
resets_to_strangers = record { per_second = 8; burst = 8 }

-- fewer than 2^24 steps up or down the circle from the greatest received (own)
abbrev pub is_near_greatest : ℕ → ℕ → Bool
is_near_greatest number greatest = nat_lt (distance number greatest) (2 ^ 24) || nat_lt (distance greatest number) (2 ^ 24)

-- the most that a bucket holds, in thousandths of a token
abbrev pub brim : Limit → ℕ
brim limit = limit.burst * 1000

-- a full bucket
abbrev pub full : Limit → ℕ → Bucket
full limit now = record { thousandths = brim limit; since = now }

-- What a bucket holds at a time: each millisecond brings a thousandth of what comes in a second, up to its capacity.
-- After as many milliseconds as the capacity has thousandths it is full.
abbrev pub refilled : Limit → Bucket → ℕ → ℕ
refilled limit bucket now = min (bucket.thousandths + limit.per_second * min (now - bucket.since) (brim limit)) (brim limit)

-- one token if it was granted, otherwise none
abbrev pub tokens_for : Bool → ℕ
tokens_for true = 1
tokens_for false = 0

-- A token is a thousand thousandths, and is granted if the bucket holds as many.
abbrev pub token_taken_from : ℕ → ℕ → TokenGrant
token_taken_from held since =
    record {
      granted = nat_le 1000 held;
      bucket = record { thousandths = held - 1000 * tokens_for (nat_le 1000 held); since = since };
    }

-- the result of asking for a token
abbrev pub token_taken : Limit → Bucket → ℕ → TokenGrant
token_taken limit bucket now = token_taken_from (refilled limit bucket now) (max bucket.since now)

-- how many of those that ask at these times are granted a token
abbrev pub granted : Limit → Bucket → List ℕ → ℕ
granted limit bucket [] = 0
granted limit bucket (now ∷ later) = tokens_for (token_taken limit bucket now).granted + granted limit (token_taken limit bucket now).bucket later

-- the last time at which a bucket was asked
abbrev pub asked_last : ℕ → List ℕ → ℕ
asked_last since [] = since
asked_last since (now ∷ later) = asked_last (max since now) later

-- However often and whenever a token is asked for, no more pass than the bucket held at first, plus what came in since.
abbrev pub LimitsHold : Type 0
LimitsHold =
    (limit : Limit) (bucket : Bucket) (times : List ℕ)
    → 1000 * granted limit bucket times ≤ bucket.thousandths + limit.per_second * (asked_last bucket.since times - bucket.since)
