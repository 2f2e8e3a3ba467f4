-- After a halving nothing in the list is past the mark.
use Rattle.std.proofs.Common.{◌≡◌, ℕ, zero, suc, ◌-◌, ◌≤◌, Bool, true, false, not, ◌&&◌, ◌||◌, List, [], ◌∷◌, ◌++◌, map, Option, Some, length, drop, refl, sym, ap, ◌∙◌, subst, arith}
use Rattle.std.specs.List.{list_all}
use Rattle.std.proofs.lemmas.Bool.{and_parts, and_from, not-true}
use Rattle.seq_circle.specs.Circle.{distance, is_before}
use Rattle.congestion_trait.specs.declared.flight.FlightEntry.{FlightEntry}
use Rattle.congestion_trait.specs.declared.flight.Standing.TheVariants.{Out}
use Rattle.congestion_trait.specs.Flight.{States, sent, after_report, entry_reported, lost_if, is_passed, is_past, is_congested, is_newly_marked, is_newly_lost, acked_count}
use Rattle.dccp_options.specs.Vectors.{is_received}
use Rattle.congestion_trait.specs.Calls.{Call, Starts, Sends, Reports, TimesOut, after_call, run}
use Rattle.congestion_trait.proofs.Standings.{same_number}
use Rattle.ccid_two.specs.Window.{State, first_state, with_report, capped, adjusted, ccid_control}
use Rattle.ccid_two.specs.Mark.{NonePast, IsInOrder, after_reports}
use Rattle.ccid_two.proofs.Range.{IsSound, IsGrown, grown, sound_report, sound_run, sound_fresh}

-- a report changes no number
none_past_report : (states : States) (mark : Option ℕ) (entries : List FlightEntry) → NonePast mark entries → NonePast mark (after_report states entries)
none_past_report states mark [] none = refl
none_past_report states mark (entry ∷ later) none =
    let passed = is_passed (map (entry_reported states) later) in
    let parts = and_parts (not (is_past mark entry.number)) (list_all (λ e. not (is_past mark e.number)) later) none in
    let first = ap (λ n. not (is_past mark n)) (same_number (is_received (states entry.number)) passed entry) ∙ parts.0 in
    and_from (not (is_past mark (lost_if passed (entry_reported states entry)).number))
    (list_all (λ e. not (is_past mark e.number)) (after_report states later))
    first (none_past_report states mark later parts.1)

none_past_drop : (mark : Option ℕ) (n : ℕ) (entries : List FlightEntry) → NonePast mark entries → NonePast mark (drop n entries)
none_past_drop mark zero entries none = none
none_past_drop mark (suc n) [] none = refl
none_past_drop mark (suc n) (entry ∷ later) none =
    none_past_drop mark n later (and_parts (not (is_past mark entry.number)) (list_all (λ e. not (is_past mark e.number)) later) none).1

not_before_itself : (n : ℕ) → is_before n n ≡ false
not_before_itself n = let here : distance n n ≡ 0 = omega arith in rw here refl

none_past_push : (number : ℕ) (entries : List FlightEntry) → NonePast (Some number) entries
    → NonePast (Some number) (entries ++ record { number = number; standing = Out } ∷ [])
none_past_push number [] none = ap (λ b. not b && true) (not_before_itself number)
none_past_push number (entry ∷ later) none =
    let parts = and_parts (not (is_past (Some number) entry.number)) (list_all (λ e. not (is_past (Some number) e.number)) later) none in
    and_from (not (is_past (Some number) entry.number))
    (list_all (λ e. not (is_past (Some number) e.number)) (later ++ record { number = number; standing = Out } ∷ []))
    parts.0 (none_past_push number later parts.1)

none_past_sent : (number : ℕ) (entries : List FlightEntry) → NonePast (Some number) entries → NonePast (Some number) (sent entries number)
none_past_sent number entries none =
    none_past_drop (Some number) (length (entries ++ record { number = number; standing = Out } ∷ []) - 2048)
    (entries ++ record { number = number; standing = Out } ∷ []) (none_past_push number entries none)

last_same : (congested : Bool) (state : State) (acked ratio : ℕ) → (capped (adjusted congested acked ratio state)).last ≡ state.last
last_same true state acked ratio = refl
last_same false state acked ratio = (grown state acked ratio).last

none_past_told : (state : State) (states : States) (ratio : ℕ) → NonePast state.last state.flight
    → NonePast (with_report state states ratio).last (with_report state states ratio).flight
none_past_told state states ratio none =
    subst (λ last. NonePast last (after_report states state.flight))
    (sym (last_same (is_congested states state.mark state.flight) state (acked_count states state.flight) ratio))
    (none_past_report states state.last state.flight none)

-- in order, nothing in the list is past the number sent last
none_past_run : (state : State) (calls : List Call) → IsInOrder state calls → NonePast state.last state.flight
    → NonePast (run ccid_control state calls).last (run ccid_control state calls).flight
none_past_run state [] order none = none
none_past_run state (Starts ccid ∷ rest) order none = none_past_run (after_call ccid_control state (Starts ccid)) rest order refl
none_past_run state (Sends number ∷ rest) order none =
    none_past_run (after_call ccid_control state (Sends number)) rest order.1 (none_past_sent number state.flight order.0)
none_past_run state (Reports states ratio ∷ rest) order none =
    none_past_run (after_call ccid_control state (Reports states ratio)) rest order (none_past_told state states ratio none)
none_past_run state (TimesOut ∷ rest) order none = none_past_run (after_call ccid_control state TimesOut) rest order refl

-- what the mark covers shows no congestion
nothing_new : (states : States) (mark : Option ℕ) (entries : List FlightEntry) → NonePast mark entries → is_congested states mark entries ≡ false
nothing_new states mark [] none = refl
nothing_new states mark (entry ∷ later) none =
    let parts = and_parts (not (is_past mark entry.number)) (list_all (λ e. not (is_past mark e.number)) later) none in
    ap (λ b. b && (is_newly_marked states entry || is_newly_lost states entry later) || is_congested states mark later)
    (not-true (is_past mark entry.number) parts.0)
    ∙ nothing_new states mark later parts.1

grown_report : (state : State) (states : States) (ratio : ℕ) → NonePast state.mark state.flight
    → IsGrown state (capped (adjusted (is_congested states state.mark state.flight) (acked_count states state.flight) ratio state))
grown_report state states ratio none =
    subst (λ b. IsGrown state (capped (adjusted b (acked_count states state.flight) ratio state)))
    (sym (nothing_new states state.mark state.flight none)) (grown state (acked_count states state.flight) ratio)

never_lower : (state : State) (reports : List (States × ℕ)) → IsSound state → NonePast state.mark state.flight
    → state.window ≤ (after_reports state reports).window
never_lower state [] sound none = omega arith
never_lower state (report ∷ rest) sound none =
    let next = with_report state report.0 report.1 in
    let more = grown_report state report.0 report.1 none in
    let still : NonePast next.mark next.flight =
    subst (λ mark. NonePast mark (after_report report.0 state.flight)) (sym more.mark) (none_past_report report.0 state.mark state.flight none) in
    let first : state.window ≤ next.window = omega (arith, more.grows, sound.high) in
    let others = never_lower next rest (sound_report state report.0 report.1 sound) still in
    omega (arith, first, others)

mark_is_last : (congested : Bool) (state : State) (acked ratio : ℕ) → congested ≡ true
    → (capped (adjusted congested acked ratio state)).mark ≡ state.last
mark_is_last true state acked ratio is = refl
mark_is_last false state acked ratio is = cc

pub one_halving : (calls : List Call) (states : States) (ratio : ℕ) (reports : List (States × ℕ))
    → IsInOrder first_state calls
    → is_congested states (run ccid_control first_state calls).mark (run ccid_control first_state calls).flight ≡ true
    → (with_report (run ccid_control first_state calls) states ratio).window
    ≤ (after_reports (with_report (run ccid_control first_state calls) states ratio) reports).window
one_halving calls states ratio reports order congested =
    let state = run ccid_control first_state calls in
    let none : NonePast state.last state.flight = none_past_run first_state calls order refl in
    let marked = mark_is_last (is_congested states state.mark state.flight) state (acked_count states state.flight) ratio congested in
    let covered = subst (λ mark. NonePast mark (after_report states state.flight)) (sym marked) (none_past_report states state.last state.flight none) in
    never_lower (with_report state states ratio) reports (sound_report state states ratio (sound_run first_state calls sound_fresh)) covered
