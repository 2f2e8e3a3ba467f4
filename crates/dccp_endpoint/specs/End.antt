-- The state of one end of a connection (RFC 4340, sections 7.1, 8 and 11.4).
use Rattle.std.specs.Prelude.{◌≡◌, ℕ, Bool, true, false, List}
use Rattle.ack_vectors.specs.Kept.{ReceivedState}
use Rattle.ack_vectors.specs.Kept as kept
use Rattle.feature_lists.specs.Features.{initial_of}
use Rattle.feature_lists.specs.declared.features.Feature.{Feature}
use Rattle.feature_lists.specs.declared.features.Feature.TheVariants.{SequenceWindow}
use Rattle.feature_lists.specs.declared.features.Place.{Place}
use Rattle.feature_lists.specs.declared.features.Place.TheVariants.{Here, There}
use Rattle.feature_machine.specs.Negotiating.{AreRowsOf, first_rows, held_by, row_at}
use Rattle.feature_machine.specs.declared.row.Row.{Row}
use Rattle.feature_machine.specs.declared.stands.Held.{Held}
use Rattle.feature_machine.specs.declared.stands.Role2.{Role2}
use Rattle.feature_machine.specs.declared.stands.Role2.TheVariants as end
use Rattle.dccp_endpoint.specs.declared.config.Config.{Config}
use Rattle.dccp_states.specs.declared.phase.Role.{Role}
use Rattle.dccp_states.specs.declared.phase.Role.TheVariants.{Client, Server}
use Rattle.dccp_states.specs.declared.phase.Phase.{Phase}
use Rattle.dccp_states.specs.declared.phase.Phase.TheVariants as phase
use Rattle.validity_windows.specs.declared.marks.Marks.{Marks}
use Rattle.validity_windows.specs.Beginning.{new_marks}
use Rattle.validity_windows.specs.Windows.{InRange}

-- A configuration, the phase, whether it was opened, the marks and the rows of the negotiation. The marks are the first
-- and greatest numbers sent and received and the widths of the windows (RFC 4340, section 7.1); until isr is set, isr,
-- gsr and osr are 0. There is a row for each feature at each place. Then the set of the numbers that were taken, with
-- the records of the Ack Vectors that were sent (section 11.4); how many numbers were taken; whether a packet was taken
-- since the last Ack or DataAck went out; how many data packets were delivered since then (section 11.3); and the
-- number that was taken last, or 0 (own).
pub record EndState : Type 0 where
  pub config : Config
  pub phase : Phase
  pub opened : Bool
  pub marks : Marks
  pub rows : List Row
  pub received : ReceivedState
  pub marked : ℕ
  pub owed : Bool
  pub unacked : ℕ
  pub last : ℕ

-- whose end the rows are of: the server's list decides (section 6.3.1)
abbrev pub end_of : Role → Role2
end_of Client = end.Client
end_of Server = end.Server

-- the value that rows hold for a feature at a place
abbrev pub value_in : List Row → Feature → Place → ℕ
value_in rows feature place = (row_at rows feature place).value

-- The widths of both windows are the values of Sequence Window: the acknowledgement window's of the feature here, the
-- sequence window's of the feature at the peer (section 7.5.2).
abbrev pub with_widths : Marks → List Row → Marks
with_widths m rows = record m { own_w = value_in rows SequenceWindow Here; peer_w = value_in rows SequenceWindow There }

-- the end with these rows, and windows as wide as they say
abbrev pub with_rows : EndState → List Row → EndState
with_rows e rows = record e { marks = with_widths e.marks rows; rows = rows }

-- Each phase except CLOSED, OPEN, CLOSING and TIMEWAIT belongs to one role (section 4.3).
abbrev pub is_phase_of : Phase → Role → Bool
is_phase_of phase.Closed _ = true
is_phase_of phase.Listen Client = false
is_phase_of phase.Listen Server = true
is_phase_of phase.Request Client = true
is_phase_of phase.Request Server = false
is_phase_of phase.Respond Client = false
is_phase_of phase.Respond Server = true
is_phase_of phase.PartOpen Client = true
is_phase_of phase.PartOpen Server = false
is_phase_of phase.Open _ = true
is_phase_of phase.CloseReq Client = false
is_phase_of phase.CloseReq Server = true
is_phase_of phase.Closing _ = true
is_phase_of phase.TimeWait _ = true

-- the phase belongs to the role
abbrev pub IsPhaseOf : Phase → Role → Type 0
IsPhaseOf phase role = is_phase_of phase role ≡ true

-- the phases in which a first number was received (section 8.1)
abbrev pub is_live : Phase → Bool
is_live phase.Closed = false
is_live phase.Listen = false
is_live phase.Request = false
is_live phase.Respond = true
is_live phase.PartOpen = true
is_live phase.Open = true
is_live phase.CloseReq = true
is_live phase.Closing = true
is_live phase.TimeWait = false

-- those in which a packet was sent
abbrev pub is_begun : Phase → Bool
is_begun phase.Closed = false
is_begun phase.Listen = false
is_begun phase.Request = true
is_begun phase.Respond = true
is_begun phase.PartOpen = true
is_begun phase.Open = true
is_begun phase.CloseReq = true
is_begun phase.Closing = true
is_begun phase.TimeWait = true

-- PARTOPEN and OPEN: this end has done its part of the handshake
abbrev pub is_connected : Phase → Bool
is_connected phase.Closed = false
is_connected phase.Listen = false
is_connected phase.Request = false
is_connected phase.Respond = false
is_connected phase.PartOpen = true
is_connected phase.Open = true
is_connected phase.CloseReq = false
is_connected phase.Closing = false
is_connected phase.TimeWait = false

-- the one phase in which data are sent and delivered
abbrev pub is_open : Phase → Bool
is_open phase.Open = true
is_open phase.Closed = false
is_open phase.Listen = false
is_open phase.Request = false
is_open phase.Respond = false
is_open phase.PartOpen = false
is_open phase.CloseReq = false
is_open phase.Closing = false
is_open phase.TimeWait = false

-- the phase in which options are read: a Request that opens leaves LISTEN (section 8.5, step 3)
abbrev pub phase_entered : Phase → Phase
phase_entered phase.Closed = phase.Closed
phase_entered phase.Listen = phase.Respond
phase_entered phase.Request = phase.Request
phase_entered phase.Respond = phase.Respond
phase_entered phase.PartOpen = phase.PartOpen
phase_entered phase.Open = phase.Open
phase_entered phase.CloseReq = phase.CloseReq
phase_entered phase.Closing = phase.Closing
phase_entered phase.TimeWait = phase.TimeWait

-- What holds of every end: its phase is one of its role's, and so are its rows, which are sound; and its windows are as wide as the rows say and
-- as they may be. Without the first a Request that opens could be unexpected, and `Synced` would have to cover packets that also set the first
-- number received. That the set of marked numbers is sound is no part of it: the type of `Received` keeps that, and crates above have it from
-- `floor`.
pub record IsProper (e : EndState) : Type 0 where
  pub phase_fits : is_phase_of e.phase e.config.role ≡ true
  pub rows : AreRowsOf (end_of e.config.role) e.rows
  pub own_width : e.marks.own_w ≡ value_in e.rows SequenceWindow Here
  pub peer_width : e.marks.peer_w ≡ value_in e.rows SequenceWindow There
  pub widths : InRange e.marks

-- where each role begins (RFC 4340, section 8.1)
abbrev pub first_phase : Role → Phase
first_phase Client = phase.Closed
first_phase Server = phase.Listen

-- An end that has sent and received nothing. The windows are as wide as the feature Sequence Window says at first
-- (section 7.5.2), and nothing was negotiated.
abbrev pub new_end : Config → EndState
new_end config =
    record {
      config = config;
      phase = first_phase config.role;
      opened = false;
      marks = new_marks config.iss (initial_of SequenceWindow);
      rows = first_rows (end_of config.role) config.lists;
      received = kept.fresh 0;
      marked = 0;
      owed = false;
      unacked = 0;
      last = 0;
    }

-- what a row shows: its value and stand
abbrev pub held_of : EndState → Feature → Place → Held
held_of e feature place = held_by (row_at e.rows feature place)

-- the least number that an Ack Vector may report (section 11.4.2), or 0 before the first was received
abbrev pub floor_of : EndState → ℕ
floor_of e = e.received.set.floor

-- how many numbers were taken
abbrev pub marked_of : EndState → ℕ
marked_of e = e.marked

-- the number that was taken last, or 0 before the first was
abbrev pub last_taken : EndState → ℕ
last_taken e = e.last
