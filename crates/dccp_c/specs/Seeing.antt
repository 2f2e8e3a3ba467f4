-- What C may read about an end (own).
use Rattle.std.specs.Prelude.{ℕ, Bool, true, false, Option, Some, None}
use Rattle.ccid_two.specs.Kinds.{Both, kinds_control}
use Rattle.dccp_endpoint.specs.Controlled.{End, in_flight_of, window_of}
use Rattle.dccp_endpoint.specs.End.{held_of, marked_of}
use Rattle.feature_lists.specs.declared.features.Feature.{Feature}
use Rattle.feature_lists.specs.declared.features.Place.{Place}
use Rattle.dccp_c.specs.Codes.{stand_code}
use Rattle.dccp_states.specs.declared.calls.Timer.TheVariants as timers
use Rattle.dccp_uses.specs.Alarms.{starting_wait_by}
use Rattle.dccp_uses.specs.Path.{path_waits}
use Rattle.dccp_uses.specs.Timed.{TimedState}
use Rattle.path_rules.specs.Allowance.{window_within}
use Rattle.path_rules.specs.declared.allowance.Allowance.{Allowance}
use Rattle.path_rules.specs.declared.round_trip.RoundTrip.{RoundTrip}
use Rattle.server_peers.specs.Lives.{rank_of}
use Rattle.dccp_c.specs.Stepping.{CEnd}
use Rattle.dccp_c.specs.declared.readers.FeatureState.{FeatureState}
use Rattle.dccp_c.specs.declared.readers.RoundTripView.{RoundTripView}
use Rattle.dccp_c.specs.declared.readers.View.{View}

-- the numbers of an end, its phase and its window
abbrev pub seen : End Both → View
seen e =
    record {
      size = 72;
      iss = e.state.marks.iss;
      gss = e.state.marks.gss;
      gar = e.state.marks.gar;
      isr = e.state.marks.isr;
      gsr = e.state.marks.gsr;
      marked = marked_of e.state;
      phase = rank_of e.state.phase;
      window = window_of kinds_control e.congestion;
      in_flight = in_flight_of kinds_control e.congestion;
      service = e.state.config.service;
    }

-- the same, with a window that is at most the allowance from the application that reads its data
abbrev pub seen_within : Option Allowance → End Both → View
seen_within it e = record (seen e) { window = window_within it (window_of kinds_control e.congestion) }

-- what it holds for a feature, and the stand of its negotiation
abbrev pub seen_feature : Feature → Place → End Both → FeatureState
seen_feature feature place e = record { value = (held_of e.state feature place).value; stand = stand_code (held_of e.state feature place).stand }

-- what was measured of its path, and the timeout with which the timer rto would begin
abbrev pub trip_seen : Option RoundTrip → ℕ → RoundTripView
trip_seen None timeout = record { size = 24; timeout = timeout; smoothed = 0; variance = 0 }
trip_seen (Some trip) timeout = record { size = 24; timeout = timeout; smoothed = trip.smoothed; variance = trip.variance }

-- the same for an end with its timers
abbrev pub seen_path : TimedState Both → RoundTripView
seen_path s = trip_seen s.upkeep.path.round_trip (starting_wait_by (path_waits s.upkeep.path) s.upkeep.alarms timers.Rto)

-- the same, if there is an end
abbrev pub path_after : Option CEnd → RoundTripView → RoundTripView
path_after None old = old
path_after (Some s) old = seen_path s.timed

-- what C gets about an end, if there is one
abbrev pub view_after : Option CEnd → View → View
view_after None old = old
view_after (Some s) old = seen_within s.timed.upkeep.path.reader.allowance s.timed.end

-- What C gets from a reading: what was read, or what was there before if there is no end.
abbrev pub seen_after : {Seen : Type 0} → (End Both → Seen) → Option CEnd → Seen → Seen
seen_after see None old = old
seen_after see (Some s) old = see s.timed.end

-- What C gets if its struct has the library's size, and otherwise what was there before.
abbrev pub if_sized : {Read : Type 0} → Bool → Read → Read → Read
if_sized true read old = read
if_sized false read old = old

-- the code of reading into a struct: 20 if its size is not the library's
abbrev pub sized_code : Bool → ℕ → ℕ
sized_code true code = code
sized_code false code = 20

-- the code of a reading: 1 if there is no end
abbrev pub look_code : Option CEnd → ℕ
look_code None = 1
look_code (Some s) = 0

-- If no feature has the number, the code is 11, and nothing is read.
abbrev pub feature_after : Option Feature → Place → Option CEnd → FeatureState → FeatureState
feature_after None place held old = old
feature_after (Some feature) place held old = seen_after (seen_feature feature place) held old

-- the code of reading a feature
abbrev pub feature_code : Option Feature → Option CEnd → ℕ
feature_code None held = 11
feature_code (Some feature) held = look_code held
