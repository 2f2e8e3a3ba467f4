-- The rules by which a server gives flows up and makes room (own, except where a section of RFC 4340 is named). Times are in milliseconds.
use Rattle.std.specs.Prelude.{◌==◌, ◌-◌, nat_lt, ℕ, Bool, true, false, List, length, Option, Some, None, min, unwrap_or, if◌then◌else◌}
use Rattle.std.specs.Option.{option_map}
use Rattle.dccp_listener.specs.declared.peer.Peer.{Peer}
use Rattle.path_rules.specs.Limits.{resets_to_strangers}
use Rattle.path_rules.specs.declared.limits.Limit.{Limit}
use Rattle.server_peers.specs.Lives.{Lives}
use Rattle.server_peers.specs.Queues.{count_in, first_in, queue_of}
use Rattle.server_peers.specs.declared.life.Life.{Life}
use Rattle.server_peers.specs.declared.queue.Ticket.{Ticket}
use Rattle.server_peers.specs.declared.rules.Rules.{Rules}
use Rattle.server_peers.specs.declared.stage.Stage.{Stage}
use Rattle.server_peers.specs.declared.stage.Stage.TheVariants as stage
use Rattle.dccp_states.specs.declared.phase.Phase.{Phase}
use Rattle.dccp_states.specs.declared.phase.Phase.TheVariants as phases

-- a hundred answers a second to all strangers together (own)
abbrev pub answers_to_strangers : Limit
answers_to_strangers = record { per_second = 100; burst = 100 }

-- no rules: a listener by itself
abbrev pub no_rules : Rules
no_rules =
    record { makes_room = false; ends_old_flows = false; respond = None; crowded = None; closing = None; idle = None; answers = None; resets = None }

-- The rules by default: RESPOND for four minutes, two maximum segment lifetimes (RFC 4340, section 8.1.3), and for ten seconds in a crowd;
-- CLOSEREQ and CLOSING for 64 seconds, the longest wait between two of their packets (section 8.3); two minutes of silence; a hundred answers a
-- second to strangers, and eight of them Resets without a connection.
abbrev pub usual_rules : Rules
usual_rules =
    record {
      makes_room = true;
      ends_old_flows = true;
      respond = Some 240000;
      crowded = Some 10000;
      closing = Some 64000;
      idle = Some 120000;
      answers = Some answers_to_strangers;
      resets = Some resets_to_strangers;
    }

-- the stages as numbers
abbrev pub class_of : Stage → ℕ
class_of stage.HalfOpen = 0
class_of stage.Live = 1
class_of stage.Ending = 2
class_of stage.Lingering = 3

-- The stage of a flow, and since when it counts as being in it: for an open one, since it last took a packet.
abbrev pub since_in : Life → Phase → Option (Stage × ℕ)
since_in life phases.Respond = Some (stage.HalfOpen, life.since)
since_in life phases.PartOpen = Some (stage.Live, life.taken)
since_in life phases.Open = Some (stage.Live, life.taken)
since_in life phases.CloseReq = Some (stage.Ending, life.since)
since_in life phases.Closing = Some (stage.Ending, life.since)
since_in life phases.TimeWait = Some (stage.Lingering, life.since)
since_in life _ = None

-- the moment by which it is in the queue of flows
abbrev pub life_moment : Life → Option (ℕ × ℕ)
life_moment life = option_map (λ it. (class_of it.0, it.1)) (since_in life life.phase)

-- all flows by stage, in each stage the longest first, and of two the first in the order of peers
abbrev pub queue_of_lives : Lives → List Ticket
queue_of_lives lives = queue_of life_moment lives

-- the flow that has been longest in a stage
abbrev pub longest : Stage → Lives → Option Ticket
longest it lives = first_in (class_of it) (queue_of_lives lives)

-- how many flows are half open
abbrev pub how_many_half_open : Lives → ℕ
how_many_half_open lives = count_in (class_of stage.HalfOpen) (queue_of_lives lives)

-- There is a crowd, if there may be this many flows: more are half open than places are free. So half-open flows have over half of the places
-- that the others leave.
abbrev pub is_crowd : ℕ → Lives → Bool
is_crowd most lives = nat_lt (most - length lives) (how_many_half_open lives)

-- for how long a flow may be in a stage, if there is a limit
abbrev pub limit_in : Rules → Bool → Stage → Option ℕ
limit_in rules crowded stage.HalfOpen = if crowded then rules.crowded else rules.respond
limit_in rules crowded stage.Live = rules.idle
limit_in rules crowded stage.Ending = rules.closing
limit_in rules crowded stage.Lingering = None

-- how long a flow may still be in its stage, by since when it has been; at 0 it is given up
abbrev pub left_since : Rules → Bool → ℕ → Option (Stage × ℕ) → Option ℕ
left_since rules crowded now None = None
left_since rules crowded now (Some it) = option_map (λ limit. limit - (now - it.1)) (limit_in rules crowded it.0)

-- the same by its life
abbrev pub life_left : Rules → Bool → ℕ → Life → Option ℕ
life_left rules crowded now life = left_since rules crowded now (since_in life life.phase)

-- no time is left
abbrev pub is_none_left : Option ℕ → Bool
is_none_left None = false
is_none_left (Some left) = left == 0

-- how long the flow that has been longest in a stage may still stay there
abbrev pub stage_left : Rules → Bool → ℕ → Stage → Option Ticket → Option ℕ
stage_left rules crowded now it ticket = left_since rules crowded now (option_map (λ t. (it, t.time)) ticket)

-- the flow that has been longest in a stage, if it may stay no longer
abbrev pub over_in : Rules → Bool → ℕ → Stage → Lives → Option Ticket
over_in rules crowded now it lives = if is_none_left (stage_left rules crowded now it (longest it lives)) then longest it lives else None

-- the first ticket, if there is one, otherwise the second
abbrev pub or_else : Option Ticket → Option Ticket → Option Ticket
or_else (Some it) other = Some it
or_else None other = other

-- the peer of a ticket
abbrev pub holder : Option Ticket → Option Peer
holder ticket = option_map (λ t. t.peer) ticket

-- Which flow is given up first, of those over their time: the longest half open, else the one that has been silent for longest, else the longest
-- in CLOSEREQ or CLOSING.
abbrev pub first_given_up : Rules → Bool → ℕ → Lives → Option Peer
first_given_up rules crowded now lives =
    holder (or_else (over_in rules crowded now stage.HalfOpen lives) (or_else (over_in rules crowded now stage.Live lives) (over_in rules crowded now stage.Ending lives)))

-- how long is left in a stage, at most this long
abbrev pub least_in : Rules → Bool → ℕ → Lives → Stage → ℕ → ℕ
least_in rules crowded now lives it least = min least (unwrap_or (stage_left rules crowded now it (longest it lives)) least)

-- in how many milliseconds the first flow is given up, at most this many
abbrev pub least_left : Rules → Bool → ℕ → ℕ → Lives → ℕ
least_left rules crowded now least lives =
    least_in rules crowded now lives stage.Ending (least_in rules crowded now lives stage.Live (least_in rules crowded now lives stage.HalfOpen least))

-- Which flow makes room: the longest in TIMEWAIT, else the longest in RESPOND, if it is over its time.
abbrev pub makes_way : Rules → Bool → ℕ → Lives → Option Peer
makes_way rules crowded now lives =
    if rules.makes_room then holder (or_else (longest stage.Lingering lives) (over_in rules crowded now stage.HalfOpen lives)) else None
