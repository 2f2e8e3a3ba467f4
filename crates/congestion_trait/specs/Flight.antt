-- The flight list of a sender, and what a report makes of it (RFC 4341, section 5; the three standings are own).
use Rattle.std.specs.Prelude.{ℕ, ◌+◌, Bool, true, false, not, ◌&&◌, ◌||◌, nat_le, List, [], ◌∷◌, ◌++◌, map, count_by, Contains, Option, Some, None, if◌then◌else◌}
use Rattle.std.specs.List.{filter}
use Rattle.circular_buffer.specs.Buffer.{keep_last}
use Rattle.seq_circle.specs.Circle.{is_before}
use Rattle.dccp_options.specs.Vectors.{is_unmarked, is_marked, is_received}
use Rattle.congestion_trait.specs.declared.flight.FlightEntry.{FlightEntry}
use Rattle.congestion_trait.specs.declared.flight.Standing.{Standing}
use Rattle.congestion_trait.specs.declared.flight.Standing.TheVariants.{Out, Reported, Lost}

-- what a report says: the state that it gives a number, if it gives one (RFC 4340, section 11.4)
abbrev pub States : Type 0
States = ℕ → Option ℕ

-- nothing is known of the packet
abbrev pub is_out : Standing → Bool
is_out Out = true
is_out Reported = false
is_out Lost = false

-- a report said that it was received
abbrev pub is_reported : Standing → Bool
is_reported Out = false
is_reported Reported = true
is_reported Lost = false

-- how many entries are Out: the pipe (RFC 4341, section 5)
abbrev pub pipe_of : List FlightEntry → ℕ
pipe_of entries = count_by (λ entry. is_out entry.standing) entries

-- how many entries are Reported
abbrev pub reported_count : List FlightEntry → ℕ
reported_count entries = count_by (λ entry. is_reported entry.standing) entries

-- a number that is sent joins at the end, as Out; at most the last 2,048 entries are kept (own)
abbrev pub sent : List FlightEntry → ℕ → List FlightEntry
sent entries number = keep_last 2048 (entries ++ record { number = number; standing = Out } ∷ [])

-- an entry whose number was received is Reported
abbrev pub entry_reported : States → FlightEntry → FlightEntry
entry_reported states entry = if is_received (states entry.number) then record entry { standing = Reported } else entry

-- at least three of these later packets were received, so that an earlier one that is Out is lost (RFC 4341, section 5)
abbrev pub is_passed : List FlightEntry → Bool
is_passed later = nat_le 3 (reported_count later)

-- an entry that is Out and was passed is Lost
abbrev pub lost_if : Bool → FlightEntry → FlightEntry
lost_if passed entry = if is_out entry.standing && passed then record entry { standing = Lost } else entry

-- the losses in a list, in the order of sending
abbrev pub with_losses : List FlightEntry → List FlightEntry
with_losses [] = []
with_losses (entry ∷ later) = lost_if (is_passed later) entry ∷ with_losses later

-- what a report makes of the list: first what was received is Reported, and then what was passed is Lost
abbrev pub after_report : States → List FlightEntry → List FlightEntry
after_report states entries = with_losses (map (entry_reported states) entries)

-- this report makes the entry Reported, by state 0
abbrev pub is_newly_acked : States → FlightEntry → Bool
is_newly_acked states entry = not (is_reported entry.standing) && is_unmarked (states entry.number)

-- this report makes the entry Reported, by state 1
abbrev pub is_newly_marked : States → FlightEntry → Bool
is_newly_marked states entry = not (is_reported entry.standing) && is_marked (states entry.number)

-- this report makes the entry Lost
abbrev pub is_newly_lost : States → FlightEntry → List FlightEntry → Bool
is_newly_lost states entry later =
    is_out (entry_reported states entry).standing && is_passed (map (entry_reported states) later)

-- how many entries this report makes Reported by state 0
abbrev pub acked_count : States → List FlightEntry → ℕ
acked_count states entries = count_by (λ entry. is_newly_acked states entry) entries

-- the number is after the recovery mark, or there is no mark
abbrev pub is_past : Option ℕ → ℕ → Bool
is_past None number = true
is_past (Some mark) number = is_before mark number

-- this report shows new congestion: some entry past the mark became Lost, or Reported by state 1 (RFC 4341, section 5)
abbrev pub is_congested : States → Option ℕ → List FlightEntry → Bool
is_congested states mark [] = false
is_congested states mark (entry ∷ later) =
    is_past mark entry.number && (is_newly_marked states entry || is_newly_lost states entry later)
    || is_congested states mark later

-- some entry of the list has this number and this standing
abbrev pub Has : List FlightEntry → ℕ → Standing → Type 0
Has entries number standing = Contains entries (record { number = number; standing = standing })

-- some entry of the list has this number, with any standing
abbrev pub HasEntry : List FlightEntry → ℕ → Type 0
HasEntry entries number = (standing : Standing) × Has entries number standing

-- the numbers that are Reported, in the order of sending
abbrev pub numbers_reported : List FlightEntry → List ℕ
numbers_reported entries = map (λ entry. entry.number) (filter (λ entry. is_reported entry.standing) entries)

-- this report takes the entry out of the pipe: it was Out, and is received or passed
abbrev pub leaves_pipe : States → FlightEntry → List FlightEntry → Bool
leaves_pipe states entry later =
    is_out entry.standing && (is_received (states entry.number) || is_passed (map (entry_reported states) later))

-- how many entries this report takes out of the pipe
abbrev pub leaving_count : States → List FlightEntry → ℕ
leaving_count states [] = 0
leaving_count states (entry ∷ later) = (if leaves_pipe states entry later then 1 else 0) + leaving_count states later
