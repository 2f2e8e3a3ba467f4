-- What the owner of an end keeps of its path, and how the rules change it (own; the rules are those of path_rules).
use Rattle.std.specs.Prelude.{ℕ, ◌-◌, ◌*◌, ◌^◌, ◌==◌, max, min, nat_lt, nat_le, Bool, true, false, not, ◌&&◌, ◌||◌, Option, Some, None, is_some, if◌then◌else◌}
use Rattle.congestion_trait.specs.Control.{Control}
use Rattle.dccp_endpoint.specs.Controlled.{End, in_flight_of, window_of}
use Rattle.dccp_endpoint.specs.End.{held_of, is_open}
use Rattle.dccp_endpoint.specs.declared.config.Config.{Config}
use Rattle.dccp_states.specs.declared.calls.Timer.{Timer}
use Rattle.dccp_states.specs.declared.calls.Timer.TheVariants as timers
use Rattle.dccp_states.specs.declared.phase.Phase.{Phase}
use Rattle.dccp_states.specs.declared.phase.Phase.TheVariants as phases
use Rattle.feature_lists.specs.declared.features.Feature.TheVariants.{AckRatio, Ccid, SequenceWindow}
use Rattle.feature_lists.specs.declared.features.Place.TheVariants.{Here}
use Rattle.feature_lists.specs.declared.wishes.Wanted.TheVariants as wanted
use Rattle.feature_machine.specs.Lists.{with_offer, with_wish}
use Rattle.feature_machine.specs.declared.stands.Stand.{Stand}
use Rattle.feature_machine.specs.declared.stands.Stand.TheVariants as stands
use Rattle.path_rules.specs.AckRatio.{ack_ratio_aim, period, wants_ack_ratio}
use Rattle.path_rules.specs.Allowance.{window_within}
use Rattle.path_rules.specs.Limits.{far_syncs, full, near_syncs}
use Rattle.path_rules.specs.RoundTrip.{with_sample}
use Rattle.path_rules.specs.Waits.{ack_wait, close_wait, negotiate_wait, probes_first, probing_wait, request_wait, rto_wait}
use Rattle.path_rules.specs.declared.waits.Wait.{Wait}
use Rattle.seq_circle.specs.Circle.{is_from}
use Rattle.dccp_uses.specs.Alarms.{alarm_after, classic_waits, sooner}
use Rattle.dccp_uses.specs.Notice.{no_notice}
use Rattle.dccp_uses.specs.Reader.{reader_begins, reader_heard, reader_timed_out}
use Rattle.dccp_uses.specs.declared.alarms.Alarm.{Alarm}
use Rattle.dccp_uses.specs.declared.pace.Pace.{Pace}
use Rattle.dccp_uses.specs.declared.path.Path.{Path}
use Rattle.dccp_uses.specs.declared.path.TimedPacket.{TimedPacket}
use Rattle.dccp_uses.specs.declared.reader.Reader.{Reader}
use Rattle.dccp_uses.specs.declared.sight.Sight.{Sight}
use Rattle.dccp_uses.specs.declared.waits.Waits.{Waits}

-- all rules
abbrev pub usual_pace : Pace
usual_pace = record { measures = true; acks_soon = true; moves_ratio = true; probes = true; limits_syncs = true; gives_up = true; heeds = true }

-- no rule
abbrev pub classic_pace : Pace
classic_pace = record { measures = false; acks_soon = false; moves_ratio = false; probes = false; limits_syncs = false; gives_up = false; heeds = false }

-- nothing is known of the path
abbrev pub path_begins : Pace → Path
path_begins pace =
    record {
      pace = pace;
      round_trip = None;
      first = None;
      timed = None;
      most = 0;
      before = 0;
      period = 0;
      asked = None;
      aim = 2;
      probe = None;
      near = full near_syncs 0;
      far = full far_syncs 0;
      probing = None;
      ratio = None;
      silence = None;
      give_up = None;
      rules = None;
      reader = reader_begins;
      notice = no_notice;
    }

-- what the rules see of an end
abbrev pub sight_of : {C : Type 0} → Control C → End C → Sight
sight_of control e =
    record {
      phase = e.state.phase;
      gss = e.state.marks.gss;
      gar = e.state.marks.gar;
      gsr = e.state.marks.gsr;
      in_flight = in_flight_of control e.congestion;
      window = window_of control e.congestion;
      ccid = (held_of e.state Ccid Here).value;
      ratio = held_of e.state AckRatio Here;
      width = e.state.marks.peer_w;
    }

-- the first packet of the end waits for its answer
abbrev pub is_handshake : Phase → Bool
is_handshake phases.Closed = false
is_handshake phases.Listen = false
is_handshake phases.Request = true
is_handshake phases.Respond = true
is_handshake phases.PartOpen = false
is_handshake phases.Open = false
is_handshake phases.CloseReq = false
is_handshake phases.Closing = false
is_handshake phases.TimeWait = false

-- nothing is being negotiated
abbrev pub is_stand_stable : Stand → Bool
is_stand_stable stands.Stable = true
is_stand_stable stands.Changing = false
is_stand_stable stands.Unstable = false

-- a rule's wait, or the usual one if the rule is not followed
abbrev pub by_rule : Bool → Wait → Wait → Wait
by_rule true ruled classic = ruled
by_rule false ruled classic = classic

-- How long the timers wait: by the round trip if that is measured, and negotiate shorter while a probe is out.
abbrev pub path_waits : Path → Waits
path_waits path =
    record {
      request = request_wait;
      ack = by_rule path.pace.acks_soon ack_wait classic_waits.ack;
      negotiate =
          by_rule path.pace.measures (by_rule (is_some path.probe) (probing_wait path.round_trip) (negotiate_wait path.round_trip)) classic_waits.negotiate;
      rto = by_rule path.pace.measures (rto_wait path.round_trip) classic_waits.rto;
      close = by_rule path.pace.measures (close_wait path.round_trip) classic_waits.close;
      time_wait = classic_waits.time_wait;
    }

-- the first packet that was timed, or this one if there was none
abbrev pub first_sent : Option TimedPacket → TimedPacket → Option TimedPacket
first_sent None sent = Some sent
first_sent (Some old) sent = Some old

-- of the packets of a handshake the first and the last are timed
abbrev pub handshake_timed : Path → ℕ → ℕ → Path
handshake_timed path number now =
    if path.pace.measures then
    record path { first = first_sent path.first (record { number = number; at = now }); timed = Some (record { number = number; at = now }) }
    else path

-- of data packets one at a time is timed (RFC 6298, section 3)
abbrev pub data_timed : Path → ℕ → ℕ → Path
data_timed path number now = if path.pace.measures then record path { timed = first_sent path.timed (record { number = number; at = now }) } else path

-- how long ago the packet that is acknowledged was sent
abbrev pub since_sent : Option TimedPacket → ℕ → ℕ → Option ℕ
since_sent None gar now = None
since_sent (Some sent) gar now = if sent.number == gar then Some (now - sent.at) else None

-- the one, or else the other
abbrev pub either_of : Option ℕ → Option ℕ → Option ℕ
either_of None other = other
either_of (Some one) other = Some one

-- no packet is timed
abbrev pub none_timed : Path → Path
none_timed path = record path { first = None; timed = None }

-- the round trip took this long, if that is known
abbrev pub sampled_if : Path → Option ℕ → Path
sampled_if path None = path
sampled_if path (Some sample) = record path { round_trip = Some (with_sample path.round_trip sample) }

-- The answer to the handshake gives a sample if it acknowledges the first or the last of its packets.
abbrev pub handshake_over : Path → ℕ → ℕ → Path
handshake_over path gar now = sampled_if (none_timed path) (either_of (since_sent path.first gar now) (since_sent path.timed gar now))

-- what acknowledges the timed packet, or a later one, gives a sample
abbrev pub acked_sample : Path → Option TimedPacket → ℕ → ℕ → Path
acked_sample path None gar now = path
acked_sample path (Some sent) gar now = if is_from sent.number gar then sampled_if (none_timed path) (Some (now - sent.at)) else path

-- a packet of the handshake was sent, unless none was
abbrev pub sent_unless : Bool → Path → ℕ → ℕ → Path
sent_unless true path number now = path
sent_unless false path number now = handshake_timed path number now

-- what a packet that was heard says about the round trip, by what the rules saw of the end before and after it
abbrev pub measured : Path → Sight → Sight → ℕ → Path
measured path old new now =
    if not path.pace.measures then path
    else if is_handshake new.phase then sent_unless (old.gss == new.gss) path new.gss now
    else if is_handshake old.phase then handshake_over path new.gar now
    else acked_sample path path.timed new.gar now

-- the most that was in flight, in this period and in the one before
abbrev pub flown : Path → ℕ → ℕ → Path
flown path in_flight now =
    if nat_le (period path.round_trip) (now - path.period) then record path { before = path.most; most = in_flight; period = now }
    else record path { most = max path.most in_flight }

-- this many packets are in flight
abbrev pub with_flight : Path → ℕ → ℕ → Path
with_flight path in_flight now = if not path.pace.moves_ratio then path else flown path in_flight now

-- what the sender uses of its window: at most twice what was lately in flight
abbrev pub used_window : Path → ℕ → ℕ
used_window path window = min window (2 * max path.most path.before)

-- the window of the sender: as much of the congestion control's window as the application that reads the data leaves
abbrev pub window_left : Path → Sight → ℕ
window_left path sight = window_within path.reader.allowance sight.window

-- the Ack Ratio that is wanted
abbrev pub aim_of : Path → Sight → ℕ
aim_of path sight = ack_ratio_aim (window_left path sight) (used_window path (window_left path sight)) (min sight.width (2 ^ 40))

-- The ratio is asked for under CCID 2, whose rule it is (RFC 4341, section 6.1.2), in OPEN, while it is not being negotiated.
abbrev pub wants_aim : Path → Sight → ℕ → Bool
wants_aim path sight now =
    if not path.pace.moves_ratio || (not (sight.ccid == 2) || (not (is_open sight.phase) || not (is_stand_stable sight.ratio.stand))) then false
    else wants_ack_ratio (record { held = sight.ratio.value; asked = path.asked }) (aim_of path sight) (window_left path sight) (period path.round_trip) now

-- the ratio is then asked for at once
abbrev pub aimed : Path → Sight → ℕ → Path
aimed path sight now =
    if wants_aim path sight now then record path { aim = aim_of path sight; ratio = Some (record { since = now; wait = 0 }) }
    else record path { ratio = None }

-- the question is answered: its number is acknowledged, or a later one
abbrev pub is_answered : Option ℕ → ℕ → Bool
is_answered None gar = false
is_answered (Some probe) gar = is_from probe gar

-- Then what is still in flight is counted as lost at once.
abbrev pub answered_probe : Path → ℕ → ℕ → Path
answered_probe path gar now = if is_answered path.probe gar then record path { probing = Some (record { since = now; wait = 0 }) } else path

-- a packet was taken, so the peer is there
abbrev pub heard_from : Path → Bool → Path
heard_from path true = record path { silence = None; give_up = None }
heard_from path false = path

-- if something came out of flight and no question is out, the wait starts again
abbrev pub fell : Path → Bool → Path
fell path progress = if progress && not (is_some path.probe) then record path { probing = None } else path

-- what a packet that was taken has said about the peer's application
abbrev pub reader_if : Path → Sight → Sight → Bool → ℕ → Reader
reader_if path old new true now = reader_heard path.round_trip path.reader path.notice old new now
reader_if path old new false now = path.reader

-- What it says counts, if that rule is followed.
abbrev pub notice_heeded : Path → Sight → Sight → Bool → ℕ → Path
notice_heeded path old new taken now =
    if path.pace.heeds then record path { reader = reader_if path old new taken now; notice = no_notice } else path

-- what is kept after a packet was heard
abbrev pub path_heard : Path → Sight → Sight → Bool → ℕ → Path
path_heard path old new taken now =
    answered_probe
    (aimed
    (with_flight (fell (heard_from (measured (notice_heeded path old new taken now) old new now) taken) (nat_lt new.in_flight old.in_flight)) new.in_flight now)
    new now)
    new.gar now

-- After a timeout no packet is timed. It also counts as congestion for what is known of the peer's application.
abbrev pub timed_out_path : Path → ℕ → Path
timed_out_path path gss =
    if path.pace.heeds then record path { timed = None; reader = reader_timed_out path.reader gss } else record path { timed = None }

-- what is kept after a timer has fired: after a timeout the window has changed
abbrev pub told_timer : Path → Timer → Sight → ℕ → Path
told_timer path timers.Request sight now = handshake_timed path sight.gss now
told_timer path timers.Ack sight now = path
told_timer path timers.Negotiate sight now = path
told_timer path timers.Rto sight now = aimed (timed_out_path path sight.gss) sight now
told_timer path timers.Close sight now = path
told_timer path timers.TimeWait sight now = path

-- In OPEN with data in flight, the peer is asked before a timeout if the window is large, or was asked already.
abbrev pub is_probing : Path → Sight → Bool
is_probing path sight =
    path.pace.probes && (is_open sight.phase && (nat_lt 0 sight.in_flight && (probes_first sight.window || is_some path.probe)))

-- How long an end waits for its peer before it is given up: three minutes in REQUEST (RFC 4340, section 8.1.1), four in
-- RESPOND (section 8.1.3), two for the answer to a Close, and in between three since it has last taken a packet (own).
abbrev pub patience : Phase → Option ℕ
patience phases.Closed = None
patience phases.Listen = None
patience phases.Request = Some 180000
patience phases.Respond = Some 240000
patience phases.PartOpen = Some 180000
patience phases.Open = Some 180000
patience phases.CloseReq = Some 120000
patience phases.Closing = Some 120000
patience phases.TimeWait = None

-- for ever, if that rule is not followed
abbrev pub ruled_patience : Pace → Phase → Option ℕ
ruled_patience pace phase = if pace.gives_up then patience phase else None

-- the alarm goes on, begins, or is none
abbrev pub patient_alarm : Option ℕ → Option Alarm → ℕ → Option Alarm
patient_alarm None old now = None
patient_alarm (Some wait) old now = alarm_after true old wait now

-- the question is out as long as the end waits for its answer
abbrev pub kept_if : Bool → Option ℕ → Option ℕ
kept_if true probe = probe
kept_if false probe = None

-- the alarms of the rules as the end needs them, if the timer rto would begin with this wait; a peer may be silent for a minute
abbrev pub arranged_rules : Path → ℕ → Sight → ℕ → Path
arranged_rules path wait sight now =
    record path {
      probe = kept_if (is_probing path sight) path.probe;
      probing = alarm_after (is_probing path sight) path.probing wait now;
      silence = alarm_after (path.pace.gives_up && is_open sight.phase) path.silence 60000 now;
      give_up = patient_alarm (ruled_patience path.pace sight.phase) path.give_up now;
    }

-- in how many milliseconds a rule has something to do
abbrev pub rules_left : Path → ℕ → Option ℕ
rules_left path now = sooner (sooner (sooner (sooner None path.give_up now) path.probing now) path.silence now) path.ratio now

-- one alarm for all of them, which runs at least for this long
abbrev pub rules_alarm : Option ℕ → ℕ → ℕ → Option Alarm
rules_alarm None least now = None
rules_alarm (Some left) least now = Some (record { since = now; wait = max left least })

-- the path with that alarm
abbrev pub with_rules : Path → ℕ → ℕ → Path
with_rules path least now = record path { rules = rules_alarm (rules_left path now) least now }

-- the rules as they go on
abbrev pub arranged_path : Path → ℕ → Sight → ℕ → ℕ → Path
arranged_path path wait sight least now = with_rules (arranged_rules path wait sight now) least now

-- an end that wants a Sequence Window of 10,000 for itself (RFC 4340, section 7.5.2; own)
abbrev pub wide_wished : Config → Config
wide_wished config = record config { lists = with_wish config.lists SequenceWindow Here (wanted.Number 10000) }

-- an end that asks for it
abbrev pub wide_offered : Config → Config
wide_offered config = record config { lists = with_offer config.lists SequenceWindow Here false }

-- both
abbrev pub widened : Config → Config
widened config = wide_offered (wide_wished config)
