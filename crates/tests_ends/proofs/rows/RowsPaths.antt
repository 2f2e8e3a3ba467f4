-- More rows of the rules of a path, computed from the definitions: a value on the other side of each number. They were worked out by hand from the
-- formulas of RFC 6298, of RFC 4341, section 6.1.2, and of docs/PROTOCOL.md.
use Rattle.std.proofs.Common.{◌≡◌, refl, true, false, [], ◌∷◌, Some, None}
use Rattle.path_rules.specs.AckRatio.{ack_ratio_aim, shares, wants_ack_ratio}
use Rattle.path_rules.specs.Allowance.{is_within_round_trip}
use Rattle.path_rules.specs.GivingUp.{asks_after_silence}
use Rattle.path_rules.specs.Limits.{asked_last, far_syncs, full, granted, near_syncs, resets_to_strangers, token_taken}
use Rattle.path_rules.specs.RoundTrip.{timeout, with_sample}
use Rattle.path_rules.specs.Waits.{ack_wait, close_wait, negotiate_wait, probing_wait, request_wait, rto_wait, wait_after}

-- 33 packets are more than one part of 32; no part is none
parts_are_rounded_up :
    (shares 32 32 ≡ 1) × (shares 33 32 ≡ 2) × (shares 7 0 ≡ 7) × (ack_ratio_aim 100 64 10000 ≡ 2) × (ack_ratio_aim 100 65 10000 ≡ 3)
parts_are_rounded_up = (refl, refl, refl, refl, refl)

-- nothing is asked for what is held, for what is just half the window, and for 2 where 3 is no more than half of it
no_ack_ratio_is_asked_for :
    (wants_ack_ratio (record { held = 1; asked = None }) 1 3 200 0 ≡ false)
    × (wants_ack_ratio (record { held = 3; asked = Some 0 }) 2 6 200 1 ≡ false)
    × (wants_ack_ratio (record { held = 10; asked = Some 0 }) 9 20 200 1 ≡ false)
no_ack_ratio_is_asked_for = (refl, refl, refl)

-- 49 milliseconds bring 980 thousandths of a Sync, 999 of the others' one in a second, 124 bring 992 of a Reset, and one more the rest
tokens_come_in_time :
    (granted near_syncs (record { thousandths = 0; since = 1000 }) (1049 ∷ []) ≡ 0)
    × (granted near_syncs (record { thousandths = 0; since = 1000 }) (1050 ∷ []) ≡ 1)
    × (granted far_syncs (record { thousandths = 0; since = 0 }) (999 ∷ []) ≡ 0) × (granted far_syncs (record { thousandths = 0; since = 0 }) (1000 ∷ []) ≡ 1)
    × (granted resets_to_strangers (record { thousandths = 0; since = 0 }) (124 ∷ []) ≡ 0)
    × (granted resets_to_strangers (record { thousandths = 0; since = 0 }) (125 ∷ []) ≡ 1)
    × (granted far_syncs (full far_syncs 0) (0 ∷ 999 ∷ []) ≡ 1)
    × ((token_taken far_syncs (full far_syncs 7) 7).bucket ≡ record { thousandths = 0; since = 7 }) × (asked_last 5 (3 ∷ 9 ∷ 7 ∷ []) ≡ 9)
tokens_come_in_time = (refl, refl, refl, refl, refl, refl, refl, refl, refl)

-- the longest of each wait; a round trip of 999 milliseconds, and two of a second; 100.999 and 250 milliseconds
waits_have_their_numbers :
    ((request_wait).most ≡ 64000) × ((ack_wait).most ≡ 20000) × ((negotiate_wait None).most ≡ 64000) × ((probing_wait None).most ≡ 2000)
    × ((rto_wait None).most ≡ 64000) × ((close_wait None).most ≡ 64000) × (wait_after (close_wait None) 64000 ≡ 64000)
    × ((close_wait (Some (with_sample None 1000))).first ≡ 2000) × (timeout (Some (record { smoothed = 100999; variance = 0 })) ≡ 350)
    × (is_within_round_trip (Some (with_sample None 999)) 998 true ≡ true) × (is_within_round_trip (Some (with_sample None 999)) 999 false ≡ false)
waits_have_their_numbers = (refl, refl, refl, refl, refl, refl, refl, refl, refl, refl, refl)

-- the silence counts from the last packet
silence_counts_from_what_was_heard :
    (asks_after_silence 1 0 60000 ≡ false) × (asks_after_silence 1 0 60001 ≡ true) × (asks_after_silence 70000 0 60000 ≡ false)
silence_counts_from_what_was_heard = (refl, refl, refl)
