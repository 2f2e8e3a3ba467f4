-- Worked windows, computed from the definitions: how the window of CCID 2 opens and is halved, what it is after a change of the kind, and the
-- fixed window. The values are worked out by hand from RFC 4341, section 5, with the own numbers of `Window` and `Fixed`.
use Rattle.std.proofs.Common.{◌≡◌, refl, ℕ, ◌+◌, ◌-◌, ◌==◌, zero, suc, Bool, true, false, nat_le, if◌then◌else◌, List, [], ◌∷◌, ◌++◌}
use Prim.Native.String.{String}
use Rattle.dccp_options.specs.Grammar.{options_of}
use Rattle.dccp_options.specs.Vectors.{state_at, vector_bytes}
use Rattle.run_list.specs.MarkedSet.{has}
use Rattle.congestion_trait.specs.Control.{Control, may_send}
use Rattle.congestion_trait.specs.Fixed.{fixed_control}
use Rattle.congestion_trait.specs.Flight.{States, numbers_reported, pipe_of}
use Rattle.ccid_two.specs.Kinds.{at_first, kinds_control}
use Rattle.ccid_two.specs.Window.{State, adjusted, capped, ccid_control, first_state, timed_out, with_report}
use Rattle.tests_codec.proofs.rows.RowsSeen.{bytes}

-- a call of a control, or what is seen of it by then
data Step : Type 0 where
  Start : (ccid : ℕ) → Step
  -- it knows this CCID
  Know : (ccid : ℕ) → Bool → Step
  -- each number from the first up to the second is sent
  Send : (first past : ℕ) → Step
  -- a packet with these options reports, at Ack Ratio 2
  Tell : (ack : ℕ) → (options : String) → Step
  -- the numbers after the first up to the second fill the window, and all are received at this Ack Ratio
  Fill : (following until ratio : ℕ) → Step
  Timeout : Step
  MaySend : Bool → Step
  Window : ℕ → Step
  InFlight : ℕ → Step
  -- this number is known as reported
  Reported : (number : ℕ) → Bool → Step
  -- the threshold, and the window with it
  Threshold : ℕ → Step
  Shown : (window threshold : ℕ) → Step
  -- a call that may not be made, or no full window
  Refused : Step

-- what the options of a packet report
abbrev told : ℕ → String → States
told ack options = state_at ack (vector_bytes (options_of (bytes options) false))

-- the 1,024 numbers up to this one were received
abbrev all_came : ℕ → States
all_came ack = told ack "26123f3f3f3f3f3f3f3f3f3f3f3f3f3f3f3f"

-- after this many numbers, from one up
abbrev sent_each : {S : Type 0} → Control S → S → ℕ → ℕ → S
sent_each control state zero number = state
sent_each control state (suc count) number = sent_each control (control.with_sent state number) count (number + 1)

-- after a step
abbrev after : {S : Type 0} → Control S → S → Step → S
after control state (Start ccid) = control.started state ccid
after control state (Send first past) = sent_each control state (past - first) first
after control state (Tell ack options) = control.with_report state (told ack options) 2
after control state (Fill following until ratio) =
    control.with_report (sent_each control state (until - following) (following + 1)) (all_came until) ratio
after control state Timeout = control.timed_out state
after control state step = state

-- a call that may be made
abbrev if_may : Bool → Step → Step
if_may may step = if may then step else Refused

-- what is there at a step, with this threshold
abbrev seen : {S : Type 0} → Control S → (S → ℕ) → S → Step → Step
seen control threshold state (Start ccid) = if_may (control.is_known ccid) (Start ccid)
seen control threshold state (Know ccid known) = Know ccid (control.is_known ccid)
seen control threshold state (Send first past) =
    if_may (nat_le (pipe_of (control.flight state) + (past - first)) (control.window state)) (Send first past)
seen control threshold state (Tell ack options) = Tell ack options
seen control threshold state (Fill following until ratio) =
    if_may (pipe_of (control.flight state) + (until - following) == control.window state) (Fill following until ratio)
seen control threshold state Timeout = Timeout
seen control threshold state (MaySend more) = MaySend (may_send control state)
seen control threshold state (Window window) = Window (control.window state)
seen control threshold state (InFlight count) = InFlight (pipe_of (control.flight state))
seen control threshold state (Reported number known) = Reported number (has (numbers_reported (control.flight state)) number)
seen control threshold state (Threshold low) = Threshold (threshold state)
seen control threshold state (Shown window low) = Shown (control.window state) (threshold state)
seen control threshold state Refused = Refused

-- steps, each as it is seen
abbrev played : {S : Type 0} → Control S → (S → ℕ) → S → List Step → List Step
played control threshold state [] = []
played control threshold state (step ∷ rest) =
    seen control threshold state step ∷ played control threshold (after control state step) rest

-- all is seen as these steps say, from a new control on
abbrev CcidTwo : List Step → Type 0
CcidTwo steps = played ccid_control (λ state. state.threshold) first_state steps ≡ steps

abbrev Kinds : List Step → Type 0
Kinds steps = played kinds_control (λ both. both.ccid_two.threshold) at_first steps ≡ steps

abbrev Fixed : List Step → Type 0
Fixed steps = played fixed_control (λ _. 0) [] steps ≡ steps

-- At 8 the lost 5 halves the window, and at 12 the lost 9 does not halve it again.
window_of_ccid_two : CcidTwo (
    Send 1 5 ∷ MaySend false ∷ Tell 4 "260403c0" ∷ Shown 5 1024 ∷ InFlight 0 ∷ Send 5 10 ∷ MaySend false ∷
    Tell 8 "260402c0" ∷ Shown 2 2 ∷ InFlight 1 ∷ Send 10 11 ∷ MaySend false ∷ Tell 10 "260400c0" ∷ Shown 2 2 ∷ InFlight 1 ∷
    Send 11 12 ∷ MaySend false ∷ Tell 11 "260400c0" ∷ Shown 3 2 ∷ InFlight 1 ∷ Send 12 13 ∷ MaySend true ∷
    Tell 12 "260400c0" ∷ Shown 3 2 ∷ InFlight 0 ∷ Timeout ∷ Shown 1 2 ∷ InFlight 0 ∷ [])
window_of_ccid_two = refl

-- Of four that are received slow start takes in two at most, and half the Ack Ratio rounded down, but one at least.
growth_by_the_ratio : CcidTwo (
    Start 2 ∷ Fill 0 4 0 ∷ Shown 5 1024 ∷ Start 2 ∷ Fill 0 4 1 ∷ Shown 5 1024 ∷ Start 2 ∷ Fill 0 4 2 ∷ Shown 5 1024 ∷
    Start 2 ∷ Fill 0 4 3 ∷ Shown 5 1024 ∷ Start 2 ∷ Fill 0 4 4 ∷ Shown 6 1024 ∷ Start 2 ∷ Fill 0 4 5 ∷ Shown 6 1024 ∷
    Start 2 ∷ Fill 0 4 65535 ∷ Shown 6 1024 ∷ [])
growth_by_the_ratio = refl

-- A packet for two that were received, and what is left over counts in the next round.
full_rounds : CcidTwo (
    Shown 4 1024 ∷ Fill 0 4 65535 ∷ Shown 6 1024 ∷ Fill 4 10 65535 ∷ Shown 9 1024 ∷ Fill 10 19 65535 ∷ Shown 13 1024 ∷
    Fill 19 32 65535 ∷ Shown 20 1024 ∷ Fill 32 52 65535 ∷ Shown 30 1024 ∷ Fill 52 82 65535 ∷ Shown 45 1024 ∷
    Fill 82 127 65535 ∷ Shown 67 1024 ∷ Fill 127 194 65535 ∷ Shown 101 1024 ∷ [])
full_rounds = refl

-- The same up to 1,024, each round by the number of packets that it acknowledges: 15 full rounds; two of four that are received
-- would open it past that, and a timeout halves the threshold.
abbrev shown : State → ℕ × ℕ
shown state = (state.window, state.threshold)

abbrev opened : ℕ → State → List (ℕ × ℕ)
opened zero state = shown state ∷ []
opened (suc rounds) state = shown state ∷ opened rounds (capped (adjusted false state.window 65535 state))

-- a window of this many packets, and nothing sent
abbrev wide : ℕ → State
wide window = record first_state { window = window }

windows_up_to_the_cap :
    (opened 15 first_state
    ≡ (4, 1024) ∷ (6, 1024) ∷ (9, 1024) ∷ (13, 1024) ∷ (20, 1024) ∷ (30, 1024) ∷ (45, 1024) ∷ (67, 1024) ∷ (101, 1024) ∷ (151, 1024)
    ∷ (227, 1024) ∷ (340, 1024) ∷ (510, 1024) ∷ (765, 1024) ∷ (1024, 1024) ∷ (1024, 1024) ∷ [])
    × (shown (with_report (sent_each ccid_control (wide 1023) 4 1) (all_came 4) 65535) ≡ (1024, 1024))
    × (shown (timed_out (wide 1024)) ≡ (1, 512))
windows_up_to_the_cap = (refl, refl, refl)

-- After this many full rounds the window and the threshold by one more packet that was marked, and by a timeout.
halves_round_down : CcidTwo (
    Start 2 ∷ Send 5000 5001 ∷ Tell 5000 "260440c0" ∷ Shown 2 2 ∷ Start 2 ∷ Timeout ∷ Shown 1 2 ∷
    Start 2 ∷ Fill 0 4 65535 ∷ Send 5000 5001 ∷ Tell 5000 "260440c0" ∷ Shown 3 3 ∷ Start 2 ∷ Fill 0 4 65535 ∷ Timeout ∷ Shown 1 3 ∷
    Start 2 ∷ Fill 0 4 65535 ∷ Fill 4 10 65535 ∷ Send 5000 5001 ∷ Tell 5000 "260440c0" ∷ Shown 4 4 ∷
    Start 2 ∷ Fill 0 4 65535 ∷ Fill 4 10 65535 ∷ Timeout ∷ Shown 1 4 ∷
    Start 2 ∷ Fill 0 4 65535 ∷ Fill 4 10 65535 ∷ Fill 10 19 65535 ∷ Send 5000 5001 ∷ Tell 5000 "260440c0" ∷ Shown 6 6 ∷
    Start 2 ∷ Fill 0 4 65535 ∷ Fill 4 10 65535 ∷ Fill 10 19 65535 ∷ Timeout ∷ Shown 1 6 ∷ [])
halves_round_down = refl

-- A marked number halves down to one packet, and at a window that is the threshold the window grows by one for a window: not by three of
-- four. Of more than a window nothing is left over: after 3 and 4 of four, 2 of five are too few, and 3 more are enough.
avoidance_from_the_threshold_on : CcidTwo (
    Send 1 2 ∷ Tell 1 "260440c0" ∷ Shown 2 2 ∷ Send 2 3 ∷ Tell 2 "260440c0" ∷ Shown 1 2 ∷ Send 3 4 ∷ Tell 3 "260440c0" ∷ Shown 1 2 ∷
    Start 2 ∷ Fill 100 104 65535 ∷ Fill 104 110 65535 ∷ Send 5000 5001 ∷ Tell 5000 "260440c0" ∷ Shown 4 4 ∷
    Send 5001 5004 ∷ Tell 5003 "260402c0" ∷ Window 4 ∷ Send 5004 5008 ∷ Tell 5007 "260403c0" ∷ Window 5 ∷
    Send 5008 5010 ∷ Tell 5009 "260401c0" ∷ Window 5 ∷ Send 5010 5013 ∷ Tell 5012 "260402c0" ∷ Window 6 ∷ [])
avoidance_from_the_threshold_on = refl

-- What was received before a halving, a timeout or a start opens no window after it.
credit_is_not_kept : CcidTwo (
    Send 1 2 ∷ Tell 1 "260400c0" ∷ Window 4 ∷ Send 2 3 ∷ Tell 2 "260440c0" ∷ Send 3 4 ∷ Tell 3 "260400c0" ∷ Window 2 ∷
    Timeout ∷ Send 4 5 ∷ Tell 4 "260400c0" ∷ Window 1 ∷ Start 2 ∷ Send 5 6 ∷ Tell 5 "260400c0" ∷ Window 4 ∷ [])
credit_is_not_kept = refl

-- Four full rounds, 15 numbers more, and a timeout, on a control that had a timeout before anything was sent.
abbrev timed_out_at_47 : List Step
timed_out_at_47 =
    Timeout ∷ Start 2 ∷ Fill 0 4 65535 ∷ Fill 4 10 65535 ∷ Fill 10 19 65535 ∷ Fill 19 32 65535 ∷ Window 20 ∷
    Send 33 48 ∷ Timeout ∷ Shown 1 10 ∷ []

-- Slow start ends at the first window that is not below the threshold, which may lie above it: 1, 1, 2, 3, 4, 6 and 9 packets are all
-- received, of which 9 open 5 more.
slow_start_past_the_threshold : CcidTwo (timed_out_at_47 ++
    Fill 47 48 65535 ∷ Fill 48 49 65535 ∷ Fill 49 51 65535 ∷ Fill 51 54 65535 ∷ Fill 54 58 65535 ∷ Fill 58 64 65535 ∷ Fill 64 73 65535 ∷
    Shown 14 10 ∷ [])
slow_start_past_the_threshold = refl

-- After them a marked number counts where it is past the number sent last, and after a start any does.
the_mark_of_a_timeout : CcidTwo (timed_out_at_47 ++
    Send 47 48 ∷ Tell 47 "260440c0" ∷ Threshold 10 ∷ [])
the_mark_of_a_timeout = refl

marked_48 : CcidTwo (timed_out_at_47 ++
    Send 48 49 ∷ Tell 48 "260440c0" ∷ Threshold 2 ∷ [])
marked_48 = refl

marked_after_a_start : CcidTwo (timed_out_at_47 ++
    Start 2 ∷ Send 47 48 ∷ Tell 47 "260440c0" ∷ Threshold 2 ∷ [])
marked_after_a_start = refl

-- Nor has a timeout after a start a mark: of 1 to 4 all are received, and 5 is marked.
timed_out_after_a_start : CcidTwo (timed_out_at_47 ++
    Start 2 ∷ Timeout ∷ Fill 0 1 65535 ∷ Fill 1 2 65535 ∷ Fill 2 4 65535 ∷ Shown 3 2 ∷ Send 5 6 ∷ Tell 5 "260440c0" ∷ Shown 1 2 ∷ [])
timed_out_after_a_start = refl

-- A second timeout with nothing sent between has the same mark: older numbers that are received open the window to 2, and one that is
-- marked does not halve it.
marked_after_a_second_timeout : CcidTwo (timed_out_at_47 ++
    Timeout ∷ Shown 1 2 ∷ Send 10 11 ∷ Tell 10 "260400c0" ∷ Window 1 ∷ Send 11 12 ∷ Tell 11 "260400c0" ∷ Window 2 ∷
    Send 12 13 ∷ Tell 12 "260440c0" ∷ Window 2 ∷ [])
marked_after_a_second_timeout = refl

-- Each call goes to the kind in force, and a start begins it anew.
kinds_switch : Kinds (
    Know 2 true ∷ Know 248 true ∷ Know 3 false ∷ Know 247 false ∷ Know 249 false ∷ Send 1 2 ∷ Window 4 ∷ InFlight 1 ∷
    Start 248 ∷ Send 2 4 ∷ Tell 2 "260400c0" ∷ Window 8 ∷ InFlight 1 ∷ Timeout ∷ Window 8 ∷ InFlight 0 ∷ Start 2 ∷ Window 4 ∷ InFlight 0 ∷
    Send 4 5 ∷ Tell 4 "260440c0" ∷ Shown 2 2 ∷ Send 5 6 ∷ InFlight 1 ∷ Timeout ∷ Shown 1 2 ∷ InFlight 0 ∷
    Start 248 ∷ Send 6 7 ∷ InFlight 1 ∷ Start 248 ∷ InFlight 0 ∷ [])
kinds_switch = refl

-- What is marked halves no fixed window: eight may be sent, of which 8 to 6 are received and marked.
fixed_window_is_eight : Fixed (
    Know 248 true ∷ Know 2 false ∷ Send 1 9 ∷ MaySend false ∷ Reported 6 false ∷
    Tell 8 "26044041" ∷ Window 8 ∷ InFlight 0 ∷ Reported 6 true ∷ Reported 5 false ∷
    Timeout ∷ Start 248 ∷ Window 8 ∷ InFlight 0 ∷ Reported 6 false ∷ Send 9 10 ∷ InFlight 1 ∷ Timeout ∷ InFlight 0 ∷
    Send 10 11 ∷ InFlight 1 ∷ Start 248 ∷ InFlight 0 ∷ [])
fixed_window_is_eight = refl
