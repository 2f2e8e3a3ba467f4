-- Rows of the rules, computed from the definitions. The values were worked out by hand from the formulas of RFC 6298, of RFC 4341, section 6.1.2,
-- and of docs/PROTOCOL.md.
use Rattle.std.proofs.Common.{◌≡◌, refl, ◌-◌, ◌^◌, true, false, [], ◌∷◌, replicate, Option, Some, None}
use Rattle.path_rules.specs.AckRatio.{ack_ratio_aim, period, wants_ack_ratio}
use Rattle.path_rules.specs.Allowance.{allowed_after_acks, allowed_after_congestion, allowed_after_drops, allowed_after_timeout, is_within_round_trip}
use Rattle.path_rules.specs.GivingUp.{asks_after_silence}
use Rattle.path_rules.specs.Limits.{far_syncs, full, granted, is_near_greatest, near_syncs, resets_to_strangers}
use Rattle.path_rules.specs.RoundTrip.{timeout, with_sample}
use Rattle.path_rules.specs.Waits.{ack_wait, wait_after, close_wait, negotiate_wait, probes_first, probing_wait, request_wait, rto_wait}
use Rattle.path_rules.specs.declared.round_trip.RoundTrip.{RoundTrip}

-- a path of 100 milliseconds, and one of 1,200
abbrev first_100 : Option RoundTrip
first_100 = Some (with_sample None 100)

abbrev first_1200 : Option RoundTrip
first_1200 = Some (with_sample None 1200)

-- SRTT 100 and RTTVAR 50; after 180 it is 110 and 57.5; a sample beyond 64 seconds counts as 64
a_sample_moves_the_round_trip :
    (with_sample None 100 ≡ record { smoothed = 100000; variance = 50000 })
    × (with_sample first_100 180 ≡ record { smoothed = 110000; variance = 57500 })
    × (with_sample first_100 100 ≡ record { smoothed = 100000; variance = 37500 })
    × (with_sample None 70000 ≡ record { smoothed = 64000000; variance = 32000000 })
a_sample_moves_the_round_trip = (refl, refl, refl, refl)

-- 100 + 250; 110 + 250; 1,200 + 4 x 600; a second without a sample; 64 seconds at most
a_timeout_is_waited_for :
    (timeout first_100 ≡ 350) × (timeout (Some (with_sample first_100 180)) ≡ 360) × (timeout first_1200 ≡ 3600) × (timeout None ≡ 1000)
    × (timeout (Some (with_sample None 30000)) ≡ 64000)
a_timeout_is_waited_for = (refl, refl, refl, refl, refl)

-- first waits, and what comes after them
a_timer_waits :
    ((request_wait).first ≡ 1000) × (wait_after request_wait 32000 ≡ 64000) × (wait_after request_wait 64000 ≡ 64000)
    × ((ack_wait).first ≡ 50) × (wait_after ack_wait 50 ≡ 100) × (wait_after ack_wait 12800 ≡ 20000) × (wait_after ack_wait 20000 ≡ 20000) × (wait_after ack_wait 0 ≡ 50)
    × ((negotiate_wait None).first ≡ 1000) × ((negotiate_wait first_100).first ≡ 350) × (wait_after (negotiate_wait first_100) 40000 ≡ 64000)
    × ((probing_wait first_1200).first ≡ 2000) × (wait_after (probing_wait first_100) 1400 ≡ 2000)
    × ((rto_wait first_100).first ≡ 350) × (wait_after (rto_wait first_100) 350 ≡ 700) × (wait_after (rto_wait first_100) 44800 ≡ 64000)
    × ((close_wait None).first ≡ 400) × ((close_wait first_100).first ≡ 200) × ((close_wait (Some (with_sample None 40))).first ≡ 100)
    × (wait_after (close_wait None) 400 ≡ 800)
a_timer_waits = (refl, refl, refl, refl, refl, refl, refl, refl, refl, refl, refl, refl, refl, refl, refl, refl, refl, refl, refl, refl)

-- 600 / 32 is 18.75; 2,400 / 100 is 24; half of 9 is 4.5; a connection begins with 2
an_ack_ratio_is_wanted :
    (ack_ratio_aim 3 3 10000 ≡ 1) × (ack_ratio_aim 4 4 100 ≡ 2) × (ack_ratio_aim 600 600 10000 ≡ 19) × (ack_ratio_aim 600 600 100 ≡ 24)
    × (ack_ratio_aim 1000 1000 32 ≡ 125) × (ack_ratio_aim 9 9 4 ≡ 5) × (ack_ratio_aim 1024 8 10000 ≡ 2)
an_ack_ratio_is_wanted = (refl, refl, refl, refl, refl, refl, refl)

-- lowered at once; raised from 1 after five seconds, and else after a period by twice
an_ack_ratio_is_asked_for :
    (wants_ack_ratio (record { held = 2; asked = Some 0 }) 1 3 200 1 ≡ true)
    × (wants_ack_ratio (record { held = 19; asked = Some 0 }) 10 600 200 1 ≡ false)
    × (wants_ack_ratio (record { held = 19; asked = Some 0 }) 9 600 200 1 ≡ true)
    × (wants_ack_ratio (record { held = 5; asked = Some 0 }) 4 8 200 1 ≡ true)
    × (wants_ack_ratio (record { held = 1; asked = Some 1000 }) 2 8 200 5999 ≡ false)
    × (wants_ack_ratio (record { held = 1; asked = Some 1000 }) 2 8 200 6000 ≡ true)
    × (wants_ack_ratio (record { held = 1; asked = None }) 2 8 200 0 ≡ true)
    × (wants_ack_ratio (record { held = 2; asked = None }) 3 600 200 0 ≡ false)
    × (wants_ack_ratio (record { held = 2; asked = Some 1000 }) 4 600 200 1199 ≡ false)
    × (wants_ack_ratio (record { held = 2; asked = Some 1000 }) 4 600 200 1200 ≡ true)
    × (period None ≡ 200) × (period first_100 ≡ 200) × (period first_1200 ≡ 1200)
an_ack_ratio_is_asked_for = (refl, refl, refl, refl, refl, refl, refl, refl, refl, refl, refl, refl, refl)

-- 20 at one time and then one each 50 milliseconds; one a second; eight at one time. A time that goes back brings nothing.
few_pass :
    (granted near_syncs (full near_syncs 1000) (replicate 25 1000) ≡ 20)
    × (granted near_syncs (record { thousandths = 0; since = 1000 }) (1049 ∷ 1050 ∷ 1050 ∷ 1100 ∷ []) ≡ 2)
    × (granted far_syncs (full far_syncs 0) (0 ∷ 999 ∷ 1000 ∷ 1999 ∷ 2000 ∷ []) ≡ 3)
    × (granted resets_to_strangers (full resets_to_strangers 5) (replicate 10 5) ≡ 8)
    × (granted far_syncs (record { thousandths = 0; since = 5000 }) (0 ∷ 5999 ∷ 6000 ∷ []) ≡ 1)
few_pass = (refl, refl, refl, refl, refl)

-- near on both sides, and round the end of the circle
numbers_are_near :
    (is_near_greatest 5 (2 ^ 48 - 5) ≡ true) × (is_near_greatest (2 ^ 48 - 5) 5 ≡ true) × (is_near_greatest (2 ^ 24 - 1) 0 ≡ true)
    × (is_near_greatest (2 ^ 24) 0 ≡ false) × (is_near_greatest 0 (2 ^ 24 - 1) ≡ true) × (is_near_greatest 0 (2 ^ 24) ≡ false)
numbers_are_near = (refl, refl, refl, refl, refl, refl)

-- a window of 16; a minute of silence, and ten seconds since the last question
some_ask :
    (probes_first 15 ≡ false) × (probes_first 16 ≡ true) × (asks_after_silence 0 0 59999 ≡ false) × (asks_after_silence 0 0 60000 ≡ true)
    × (asks_after_silence 0 50001 60000 ≡ false) × (asks_after_silence 0 50000 60000 ≡ true)
some_ask = (refl, refl, refl, refl, refl, refl)

-- A window of 100: three drops leave 97, a slow receiver 100, and more drops than there are one; a smaller allowance counts in its place.
an_allowance_falls :
    ((allowed_after_drops None 100 3).most ≡ 97) × ((allowed_after_drops None 100 0).most ≡ 100) × ((allowed_after_drops None 100 100).most ≡ 1)
    × ((allowed_after_drops (Some (record { most = 50; acked = 7 })) 100 3) ≡ record { most = 47; acked = 0 })
    × ((allowed_after_drops (Some (record { most = 500; acked = 7 })) 100 3).most ≡ 97)
    × ((allowed_after_congestion (Some (record { most = 51; acked = 7 })) 100).most ≡ 25) × ((allowed_after_congestion None 1).most ≡ 1)
    × ((allowed_after_timeout (record { most = 9; acked = 0 })).most ≡ 4) × ((allowed_after_timeout (record { most = 3; acked = 0 })).most ≡ 2)
an_allowance_falls = (refl, refl, refl, refl, refl, refl, refl, refl, refl)

-- a packet more for each window of them, and none if the congestion control has no more
an_allowance_grows :
    (allowed_after_acks (record { most = 10; acked = 4 }) 20 5 ≡ record { most = 10; acked = 9 })
    × (allowed_after_acks (record { most = 10; acked = 4 }) 20 6 ≡ record { most = 11; acked = 0 })
    × (allowed_after_acks (record { most = 10; acked = 4 }) 20 600 ≡ record { most = 11; acked = 0 })
    × (allowed_after_acks (record { most = 10; acked = 4 }) 10 6 ≡ record { most = 10; acked = 4 })
    × (allowed_after_acks (record { most = 10; acked = 4 }) 11 6 ≡ record { most = 11; acked = 0 })
an_allowance_grows = (refl, refl, refl, refl, refl)

-- 100 milliseconds after a sample of 100; a millisecond where it took less; and until the acknowledgement where none was measured
a_round_trip_goes_by :
    (is_within_round_trip first_100 99 true ≡ true) × (is_within_round_trip first_100 100 false ≡ false)
    × (is_within_round_trip (Some (with_sample None 0)) 0 true ≡ true) × (is_within_round_trip (Some (with_sample None 0)) 1 false ≡ false)
    × (is_within_round_trip None 0 true ≡ false) × (is_within_round_trip None 9000 false ≡ true)
a_round_trip_goes_by = (refl, refl, refl, refl, refl, refl)
