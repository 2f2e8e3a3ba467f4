-- The window's range, and that it falls only if congestion shows.
use Rattle.std.proofs.Common.{◌≡◌, ℕ, ◌+◌, ◌<◌, ◌≤◌, Bool, true, false, cond, ltb, leb, min, List, [], ◌∷◌, refl, arith}
use Rattle.congestion_trait.specs.Flight.{States, is_congested, acked_count}
use Rattle.congestion_trait.specs.Calls.{Call, Starts, Sends, Reports, TimesOut, after_call, run}
use Rattle.ccid_two.specs.Window.{State, first_state, with_report, grown_in_slow_start, grown_in_avoidance, capped, adjusted, ccid_control}

pub record IsSound (state : State) : Type 0 where
  pub low : 1 ≤ state.window
  pub high : state.window ≤ 1024
  pub threshold_low : 2 ≤ state.threshold
  pub threshold_high : state.threshold ≤ 1024

-- no congestion: the window stays or grows, up to the cap, and the threshold stays
pub record IsGrown (state after : State) : Type 0 where
  pub grows : min 1024 state.window ≤ after.window
  pub high : after.window ≤ 1024
  pub threshold : after.threshold ≡ state.threshold
  pub mark : after.mark ≡ state.mark
  pub last : after.last ≡ state.last

grown_quickly : (state : State) (acked ratio : ℕ) → IsGrown state (capped (grown_in_slow_start state acked ratio))
grown_quickly state acked ratio = record { grows = omega arith; high = omega arith; threshold = refl; mark = refl; last = refl }

grown_if : (test : Bool) (state : State) (credit : ℕ)
    → IsGrown state (capped (cond test (record state { window = state.window + 1; credit = 0 }) (record state { credit = credit })))
grown_if true state credit = record { grows = omega arith; high = omega arith; threshold = refl; mark = refl; last = refl }
grown_if false state credit = record { grows = omega arith; high = omega arith; threshold = refl; mark = refl; last = refl }

grown_either : (test : Bool) (state : State) (acked ratio : ℕ)
    → IsGrown state (capped (cond test (grown_in_slow_start state acked ratio) (grown_in_avoidance state acked)))
grown_either true state acked ratio = grown_quickly state acked ratio
grown_either false state acked ratio = grown_if (leb state.window (state.credit + acked)) state (state.credit + acked)

pub grown : (state : State) (acked ratio : ℕ) → IsGrown state (capped (adjusted false acked ratio state))
grown state acked ratio = grown_either (ltb state.window state.threshold) state acked ratio

adjusted_sound : (congested : Bool) (state : State) (acked ratio : ℕ) → IsSound state → IsSound (capped (adjusted congested acked ratio state))
adjusted_sound true state acked ratio sound =
    record { low = omega arith; high = omega arith; threshold_low = omega arith; threshold_high = omega (arith, sound.high) }
adjusted_sound false state acked ratio sound =
    let more = grown state acked ratio in
    record {
      low = omega (arith, more.grows, sound.low);
      high = more.high;
      threshold_low = omega (arith, more.threshold, sound.threshold_low);
      threshold_high = omega (arith, more.threshold, sound.threshold_high);
    }

pub sound_report : (state : State) (states : States) (ratio : ℕ) → IsSound state → IsSound (with_report state states ratio)
sound_report state states ratio sound =
    let it = adjusted_sound (is_congested states state.mark state.flight) state (acked_count states state.flight) ratio sound in
    record { low = it.low; high = it.high; threshold_low = it.threshold_low; threshold_high = it.threshold_high }

pub sound_after : (state : State) (call : Call) → IsSound state → IsSound (after_call ccid_control state call)
sound_after state (Starts ccid) sound = record { low = omega arith; high = omega arith; threshold_low = omega arith; threshold_high = omega arith }
sound_after state (Sends number) sound =
    record { low = sound.low; high = sound.high; threshold_low = sound.threshold_low; threshold_high = sound.threshold_high }
sound_after state (Reports states ratio) sound = sound_report state states ratio sound
sound_after state TimesOut sound =
    record { low = omega arith; high = omega arith; threshold_low = omega arith; threshold_high = omega (arith, sound.high) }

pub sound_run : (state : State) (calls : List Call) → IsSound state → IsSound (run ccid_control state calls)
sound_run state [] sound = sound
sound_run state (call ∷ rest) sound = sound_run (after_call ccid_control state call) rest (sound_after state call sound)

pub sound_fresh : IsSound first_state
sound_fresh = record { low = omega arith; high = omega arith; threshold_low = omega arith; threshold_high = omega arith }

falls_if : (congested : Bool) (state : State) (acked ratio : ℕ) → state.window ≤ 1024
    → (capped (adjusted congested acked ratio state)).window < state.window → congested ≡ true
falls_if true state acked ratio high falls = refl
falls_if false state acked ratio high falls =
    let more = grown state acked ratio in absurd (omega (arith, more.grows, falls, high))

pub falls_where_congested : (state : State) (states : States) (ratio : ℕ) → IsSound state
    → (with_report state states ratio).window < state.window → is_congested states state.mark state.flight ≡ true
falls_where_congested state states ratio sound falls =
    falls_if (is_congested states state.mark state.flight) state (acked_count states state.flight) ratio sound.high falls
