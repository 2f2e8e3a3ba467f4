-- Where no rule is followed, an end with its timers is a session with the timers alone.
use Rattle.std.proofs.Common.{◌≡◌, refl, sym, ap, subst, ℕ, nat_lt, nat_le, List, length, Bool, true, false, not, ◌&&◌, is_some, if◌then◌else◌, Some, None, Result, Ok, Err}
use Rattle.std.proofs.Math.Bool.{and-true}
use Rattle.congestion_trait.specs.Control.{Control, may_send}
use Rattle.dccp_endpoint.specs.Calling.{aborts, closes, fires, opens, prefers}
use Rattle.dccp_endpoint.specs.Controlled.{End, EndStep, has_in_flight, in_flight_of, with_control}
use Rattle.dccp_endpoint.specs.Early.{sends_soon}
use Rattle.dccp_endpoint.specs.Receiving.{receives}
use Rattle.dccp_states.specs.declared.calls.SendFault.{SendFault}
use Rattle.dccp_states.specs.declared.calls.Timer.{Timer}
use Rattle.dccp_states.specs.declared.calls.Timer.TheVariants as timers
use Rattle.dccp_states.specs.declared.outcome.Outcome.{Outcome}
use Rattle.feature_lists.specs.declared.features.Feature.{Feature}
use Rattle.feature_lists.specs.declared.features.Place.{Place}
use Rattle.dccp_uses.specs.Alarms.{alarm_of, arranged, has_run_out, is_idle, rung, with_delivery, with_progress}
use Rattle.dccp_uses.specs.Classic.{ClassicIsTheSession, IsClassic, IsSessionStep, session_of, session_refusal_named}
use Rattle.dccp_uses.specs.Path.{aimed, answered_probe, classic_pace, fell, heard_from, is_answered, path_heard, sight_of, with_flight}
use Rattle.dccp_uses.specs.Reader.{reader_begins}
use Rattle.dccp_uses.specs.Session.{SessionStep, after_hearing, called, calls, calls_anew, condition_of, session_told_if, goes_on_with, hears, is_delivery, tells_end, tells_news}
use Rattle.dccp_uses.specs.Sessions.{session_hears, stands_still, tells_news_of}
use Rattle.dccp_uses.specs.Timed.{TimedState, TimedStep, heard_out, refusal_named, timed_aborts, timed_called, timed_closes, timed_fires, timed_heard, timed_opens, timed_prefers, timed_sends, timed_step, with_path, with_refusal_named}
use Rattle.dccp_uses.specs.Upkeeps.{heard_so, is_taken, kept_on, kept_rung_if, kept_with_path, ruled_condition}
use Rattle.dccp_uses.specs.declared.alarms.Alarms.{Alarms}
use Rattle.dccp_uses.specs.declared.path.Path.{Path}
use Rattle.dccp_uses.specs.declared.sight.Sight.{Sight}
use Rattle.dccp_uses.specs.declared.news.News.TheVariants as news

-- a path that follows no rule, with anything else that was kept of it
abbrev bare : Path → Path
bare path = record path { pace = classic_pace; ratio = None; reader = reader_begins }

-- and of which nothing is due
abbrev still : Path → Path
still path = record path { pace = classic_pace; ratio = None; rules = None; reader = reader_begins }

pub is_still : (path : Path) → IsClassic path → path ≡ still path
is_still path classic =
    subst (λ pace. path ≡ record path { pace = pace; ratio = None; rules = None; reader = reader_begins }) classic.follows_none
    (subst (λ ratio. path ≡ record path { ratio = ratio; rules = None; reader = reader_begins }) classic.asks_nothing
    (subst (λ rules. path ≡ record path { rules = rules; reader = reader_begins }) classic.nothing_is_due
    (subst (λ reader. path ≡ record path { reader = reader }) classic.heeds_nothing refl)))

module _ {C : Type 0} (control : Control C) where
  -- what the timers go by is what they always went by
  condition-is : (path : Path) (e : End C) → ruled_condition (bare path) (sight_of control e) ≡ condition_of control e
  condition-is path e =
      ap (λ flying. record { phase = e.state.phase; in_flight = flying }) (and-true (has_in_flight control e.congestion))

  alarms-are : (path : Path) (alarms : Alarms) (e : End C) (now least : ℕ)
      → (kept_on control now least alarms (bare path) e).alarms ≡ arranged alarms (condition_of control e) now
  alarms-are path alarms e now least = ap (λ condition. arranged alarms condition now) (condition-is path e)

  -- after a step of the end
  went-on : {Answer : Type 0} (path : Path) (alarms : Alarms) (now least : ℕ) (step : EndStep C Answer)
      → IsSessionStep (timed_step (kept_on control now least alarms (bare path) step.after) step) (goes_on_with control now alarms step)
  went-on path alarms now least step =
      record {
        session_is = ap (λ alarms. record { end = step.after; alarms = alarms }) (alarms-are path alarms step.after now least);
        frame_is = refl;
        answer_is = refl;
        stays_classic = record { follows_none = refl; asks_nothing = refl; nothing_is_due = refl; heeds_nothing = refl };
      }

  -- a call by its answer: one that was refused leaves all as it is
  called-by : {Fault : Type 0} (now : ℕ) (s : TimedState C) (alarms : Alarms) (path : Path) (step : EndStep C (Result (Unit {0}) Fault))
      → IsClassic s.upkeep.path → (answer : Result (Unit {0}) Fault)
      → IsSessionStep (timed_called s (kept_on control now 0 alarms (bare path) step.after) step answer) (called control now (session_of s) alarms step answer)
  called-by now s alarms path step classic (Ok done) = went-on path alarms now 0 step
  called-by now s alarms path step classic (Err fault) = record { session_is = refl; frame_is = refl; answer_is = refl; stays_classic = classic }

  still-classic : (path : Path) → IsClassic (still path)
  still-classic path = record { follows_none = refl; asks_nothing = refl; nothing_is_due = refl; heeds_nothing = refl }

  -- what holds of an end whose path is written out as one without rules holds of it
  abbrev still-end : TimedState C → TimedState C
  still-end s = with_path s (still s.upkeep.path)

  for-still : (P : TimedState C → Type 0) (s : TimedState C) → IsClassic s.upkeep.path → P (still-end s) → P s
  for-still P s classic it = subst (λ path. P (with_path s path)) (sym (is_still s.upkeep.path classic)) it

  opened : (now : ℕ) (s : TimedState C) → IsClassic s.upkeep.path
      → IsSessionStep (timed_opens control now s) (calls control now (session_of s) (with_control control s.end.congestion (opens s.end.state)))
  opened now s classic =
      let step = with_control control s.end.congestion (opens s.end.state) in
      for-still (λ t. IsSessionStep (timed_opens control now t) (calls control now (session_of t) (with_control control t.end.congestion (opens t.end.state)))) s classic
      (called-by now (still-end s) s.upkeep.alarms (still s.upkeep.path) step (still-classic s.upkeep.path) step.answer)

  -- of data with their refusal named
  named : {step : TimedStep C (Result (Unit {0}) SendFault)} {session : SessionStep C (Result (Unit {0}) SendFault)} → IsSessionStep step session
      → IsSessionStep (with_refusal_named step) (session_refusal_named session)
  named {step} {session} it =
      record { session_is = it.session_is; frame_is = it.frame_is; answer_is = ap refusal_named it.answer_is; stays_classic = it.stays_classic }

  sent : (now : ℕ) (s : TimedState C) (payload : List ℕ) → IsClassic s.upkeep.path
      → IsSessionStep (timed_sends control now s payload)
      (session_refusal_named
      (calls control now (session_of s) (with_control control s.end.congestion (sends_soon s.end.state payload (may_send control s.end.congestion)))))
  sent now s payload classic =
      let step = with_control control s.end.congestion (sends_soon s.end.state payload (may_send control s.end.congestion)) in
      for-still
      (λ t. IsSessionStep (timed_sends control now t payload)
      (session_refusal_named
      (calls control now (session_of t) (with_control control t.end.congestion (sends_soon t.end.state payload (may_send control t.end.congestion))))))
      s classic (named (called-by now (still-end s) s.upkeep.alarms (still s.upkeep.path) step (still-classic s.upkeep.path) step.answer))

  wished : (now : ℕ) (s : TimedState C) (feature : Feature) (place : Place) (values : List ℕ) → IsClassic s.upkeep.path
      → IsSessionStep (timed_prefers control now s feature place values)
      (calls_anew control now (session_of s) (with_control control s.end.congestion (prefers s.end.state (feature, place) values)))
  wished now s feature place values classic =
      let step = with_control control s.end.congestion (prefers s.end.state (feature, place) values) in
      for-still
      (λ t. IsSessionStep (timed_prefers control now t feature place values)
      (calls_anew control now (session_of t) (with_control control t.end.congestion (prefers t.end.state (feature, place) values))))
      s classic
      (called-by now (still-end s) (record s.upkeep.alarms { negotiate = None }) (still s.upkeep.path) step (still-classic s.upkeep.path) step.answer)

  closed : (now : ℕ) (s : TimedState C) → IsClassic s.upkeep.path
      → IsSessionStep (timed_closes control now s) (calls control now (session_of s) (with_control control s.end.congestion (closes s.end.state)))
  closed now s classic =
      let step = with_control control s.end.congestion (closes s.end.state) in
      for-still (λ t. IsSessionStep (timed_closes control now t) (calls control now (session_of t) (with_control control t.end.congestion (closes t.end.state)))) s classic
      (called-by now (still-end s) s.upkeep.alarms (record (still s.upkeep.path) { give_up = None }) step (still-classic s.upkeep.path) step.answer)

  aborted : (now : ℕ) (s : TimedState C) → IsClassic s.upkeep.path
      → IsSessionStep (timed_aborts control now s) (calls control now (session_of s) (with_control control s.end.congestion (aborts s.end.state)))
  aborted now s classic =
      let step = with_control control s.end.congestion (aborts s.end.state) in
      for-still (λ t. IsSessionStep (timed_aborts control now t) (calls control now (session_of t) (with_control control t.end.congestion (aborts t.end.state)))) s classic
      (called-by now (still-end s) s.upkeep.alarms (still s.upkeep.path) step (still-classic s.upkeep.path) step.answer)

  -- what is kept of a packet that was heard
  taken-bare : (path : Path) (taken : Bool) → heard_from (bare path) taken ≡ bare (heard_from path taken)
  taken-bare path true = refl
  taken-bare path false = refl

  fallen-bare : (path : Path) (falls : Bool)
      → (if falls then record (bare path) { probing = None } else bare path) ≡ bare (if falls then record path { probing = None } else path)
  fallen-bare path true = refl
  fallen-bare path false = refl

  answered-bare : (path : Path) (now : ℕ) (answered : Bool)
      → (if answered then record (bare path) { probing = Some (record { since = now; wait = 0 }) } else bare path)
      ≡ bare (if answered then record path { probing = Some (record { since = now; wait = 0 }) } else path)
  answered-bare path now true = refl
  answered-bare path now false = refl

  fell-bare : (path : Path) (taken progress : Bool) → fell (heard_from (bare path) taken) progress ≡ bare (fell (heard_from path taken) progress)
  fell-bare path taken progress =
      subst (λ it. fell it progress ≡ bare (fell (heard_from path taken) progress)) (sym (taken-bare path taken))
      (fallen-bare (heard_from path taken) (progress && not (is_some (heard_from path taken).probe)))

  heard-bare : (path : Path) (old new : Sight) (taken : Bool) (now : ℕ)
      → path_heard (bare path) old new taken now
      ≡ bare (answered_probe (fell (heard_from path taken) (nat_lt new.in_flight old.in_flight)) new.gar now)
  heard-bare path old new taken now =
      let after = fell (heard_from path taken) (nat_lt new.in_flight old.in_flight) in
      subst (λ it. answered_probe (aimed (with_flight it new.in_flight now) new now) new.gar now ≡ bare (answered_probe after new.gar now))
      (sym (fell-bare path taken (nat_lt new.in_flight old.in_flight))) (answered-bare after now (is_answered after.probe new.gar))

  -- the end hears a datagram
  heard-still : (now : ℕ) (s : TimedState C) (step : EndStep C Outcome)
      → IsSessionStep (timed_heard control now (still-end s) step) (after_hearing control now (session_of s) step)
  heard-still now s step =
      let old = sight_of control s.end in
      let new = sight_of control step.after in
      let rest = answered_probe (fell (heard_from (still s.upkeep.path) (is_taken step.answer)) (nat_lt new.in_flight old.in_flight)) new.gar now in
      let it = heard_so old step.answer (not (is_some step.frame)) in
      subst
      (λ path. IsSessionStep (timed_step (kept_with_path now (still-end s).upkeep it new path) step) (after_hearing control now (session_of s) step))
      (sym (heard-bare (still s.upkeep.path) old new (is_taken step.answer) now))
      (went-on rest
      (with_delivery (with_progress s.upkeep.alarms (nat_lt (in_flight_of control step.after.congestion) (in_flight_of control s.end.congestion))) (is_delivery step.answer))
      now 0 step)

  told-news : (now : ℕ) (s : TimedState C) (step : EndStep C Outcome) (fits : Bool)
      → IsSessionStep
      (if fits then tells_news_of (still-end s) (heard_out (timed_heard control now (still-end s) step))
      else record { timed = still-end s; frame = None; answer = news.TooLong })
      (if fits then tells_news (session_of s) (after_hearing control now (session_of s) step)
      else record { session = session_of s; frame = None; answer = news.TooLong })
  told-news now s step true =
      let heard = heard-still now s step in
      record { session_is = heard.session_is; frame_is = refl; answer_is = refl; stays_classic = heard.stays_classic }
  told-news now s step false = record { session_is = refl; frame_is = refl; answer_is = refl; stays_classic = still-classic s.upkeep.path }

  heard : (now : ℕ) (s : TimedState C) (bytes : List ℕ) → IsClassic s.upkeep.path
      → IsSessionStep (session_hears control now s bytes) (hears control now (session_of s) bytes)
  heard now s bytes classic =
      for-still (λ t. IsSessionStep (session_hears control now t bytes) (hears control now (session_of t) bytes)) s classic
      (told-news now s (with_control control s.end.congestion (receives s.end.state bytes)) (nat_le (length bytes) 2044))

  abbrev fired : TimedState C → Timer → EndStep C Bool
  fired s timer = with_control control s.end.congestion (fires s.end.state timer (has_in_flight control s.end.congestion))

  -- a timer is told, by whether it is idle afterwards
  told-if : (now : ℕ) (s : TimedState C) (timer : Timer) (step : EndStep C Bool) (idle : Bool)
      → IsSessionStep (timed_step (kept_rung_if control now (still-end s).upkeep timer step.after idle) step) (session_told_if control now (session_of s) timer step idle)
  told-if now s timer step true = record { session_is = refl; frame_is = refl; answer_is = refl; stays_classic = still-classic s.upkeep.path }
  told-if now s timers.Request step false = went-on (still s.upkeep.path) (rung s.upkeep.alarms timers.Request now) now 0 step
  told-if now s timers.Ack step false = went-on (still s.upkeep.path) (rung s.upkeep.alarms timers.Ack now) now 0 step
  told-if now s timers.Negotiate step false = went-on (still s.upkeep.path) (rung s.upkeep.alarms timers.Negotiate now) now 0 step
  told-if now s timers.Rto step false = went-on (record (still s.upkeep.path) { timed = None }) (rung s.upkeep.alarms timers.Rto now) now 0 step
  told-if now s timers.Close step false = went-on (still s.upkeep.path) (rung s.upkeep.alarms timers.Close now) now 0 step
  told-if now s timers.TimeWait step false = went-on (still s.upkeep.path) (rung s.upkeep.alarms timers.TimeWait now) now 0 step

  told-still : (now : ℕ) (s : TimedState C) (timer : Timer)
      → IsSessionStep (timed_fires control now (still-end s) timer) (tells_end control now (session_of s) timer)
  told-still now s timer = told-if now s timer (fired s timer) (is_idle s.upkeep.alarms timer (fired s timer).after.state.phase)

  told : (now : ℕ) (s : TimedState C) (timer : Timer) → IsClassic s.upkeep.path
      → IsSessionStep (timed_fires control now s timer) (tells_end control now (session_of s) timer)
  told now s timer classic =
      for-still (λ t. IsSessionStep (timed_fires control now t timer) (tells_end control now (session_of t) timer)) s classic (told-still now s timer)

  -- where it has run out
  rung-if : (now : ℕ) (s : TimedState C) (timer : Timer) → IsClassic s.upkeep.path → (is_due : Bool)
      → IsSessionStep (if is_due then timed_fires control now s timer else stands_still s)
      (if is_due then tells_end control now (session_of s) timer else record { session = session_of s; frame = None; answer = false })
  rung-if now s timer classic true = told now s timer classic
  rung-if now s timer classic false = record { session_is = refl; frame_is = refl; answer_is = refl; stays_classic = classic }

  pub classic_is_the_session : ClassicIsTheSession control
  classic_is_the_session = record {
    begins = λ config congestion. refl;
    begins_classic = record { follows_none = refl; asks_nothing = refl; nothing_is_due = refl; heeds_nothing = refl };
    opens = opened;
    sends = sent;
    prefers = wished;
    closes = closed;
    aborts = aborted;
    hears = heard;
    tells = told;
    rings = λ now s timer classic. rung-if now s timer classic (has_run_out (alarm_of s.upkeep.alarms timer) now);
    never_rules = λ now s classic. ap (λ rules. has_run_out rules now) classic.nothing_is_due;
  }
