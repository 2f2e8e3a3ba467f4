-- How a report is read along with a flight list, from the newest entry to the oldest.
use Rattle.std.specs.Prelude.{◌≡◌, ℕ, ◌+◌, ◌-◌, ◌^◌, ◌<◌, ◌≤◌, Bool, true, false, not, ◌&&◌, ◌||◌, nat_lt, List, [], ◌∷◌, ◌++◌, map, take, drop, length, Option, Some, None, slice_get, IsTrue, if◌then◌else◌}
use Rattle.std.specs.List.{list_all}
use Rattle.seq_circle.specs.Near.{AreNear}
use Rattle.dccp_options.specs.declared.report.Run.{Run}
use Rattle.dccp_options.specs.Vectors.{is_received}
use Rattle.congestion_trait.specs.declared.flight.Standing.{Standing}
use Rattle.congestion_trait.specs.declared.flight.Standing.TheVariants.{Reported, Lost}
use Rattle.congestion_trait.specs.declared.flight.FlightEntry.{FlightEntry}
use Rattle.congestion_trait.specs.declared.walk.FlightWalk.{FlightWalk}
use Rattle.congestion_trait.specs.declared.walk.Counts.{Counts}
use Rattle.congestion_trait.specs.Flight.{States, is_out, is_reported, after_report, acked_count, is_congested, reported_count, entry_reported, pipe_of}

-- the state that runs give a place, counted from the first run's highest number down
abbrev pub run_state : List Run → ℕ → Option ℕ
run_state [] place = None
run_state (run ∷ rest) place = if nat_lt place run.count then Some run.state else run_state rest (place - run.count)

-- one run covers the places from its start to its end, and these are left after it, of a list of states: none where the walk has ended
pub record IsAt (states : List ℕ) (start end state : ℕ) (left : List Run) (ended : Bool) : Type 0 where
  pub inside : (place : ℕ) → start ≤ place → place < end → slice_get states place ≡ Some state
  pub following : (place : ℕ) → end ≤ place → slice_get states place ≡ run_state left (place - end)
  pub over : IsTrue ended → left ≡ []

-- the standing of an entry after a report
abbrev pub standing_after : Option ℕ → Bool → Standing → Standing
standing_after state passed standing =
    if is_received state then Reported else if is_out standing && passed then Lost else standing

-- a test as a number
abbrev pub one_if : Bool → ℕ
one_if test = if test then 1 else 0

-- an entry that left the list was Out
abbrev pub was_out : Option FlightEntry → Bool
was_out None = false
was_out (Some entry) = is_out entry.standing

-- the result of the entries from a place on, and the list by then
pub record IsAlong (told : States) (mark : Option ℕ) (old : List FlightEntry) (index : ℕ) (now : List FlightEntry) (walk : FlightWalk) : Type 0 where
  pub entries : now ≡ take index old ++ after_report told (drop index old)
  pub acked : walk.acked ≡ acked_count told (drop index old)
  pub congested : walk.congested ≡ is_congested told mark (drop index old)
  pub reported : walk.reported ≡ reported_count (map (entry_reported told) (drop index old))
  pub out : walk.out ≡ pipe_of (after_report told (drop index old))
  pub seen : walk.seen ≡ pipe_of (drop index old)

-- the result of a report that has found entries Out and received, and does not reach so many after them
abbrev pub received_walk : ℕ → ℕ → ℕ → FlightWalk
received_walk unheard acked heard =
    record { acked = acked; congested = false; reported = acked; out = unheard; seen = unheard + acked; heard = heard }

-- the entries from one place up to another are Out, and the report says that they were received without a mark
abbrev pub AreReceived : States → ℕ → ℕ → List FlightEntry → Type 0
AreReceived told from to entries =
    (place : ℕ) (entry : FlightEntry) → from ≤ place → place < to → slice_get entries place ≡ Some entry
    → (is_out entry.standing ≡ true) × (told entry.number ≡ Some 0)

-- every entry is Reported: no report changes any of them
abbrev pub AllReported : List FlightEntry → Type 0
AllReported entries = IsTrue (list_all (λ entry. is_reported entry.standing) entries)

-- the report changes nothing of the entry: it is Reported, or it is Lost and not said to be received
abbrev pub is_untouched : States → FlightEntry → Bool
is_untouched told entry = is_reported entry.standing || not (is_out entry.standing) && not (is_received (told entry.number))

-- the report changes none of the entries
abbrev pub AllUntouched : States → List FlightEntry → Type 0
AllUntouched told entries = IsTrue (list_all (λ entry. is_untouched told entry) entries)

-- every entry is Out
abbrev pub AllOut : List FlightEntry → Type 0
AllOut entries = IsTrue (list_all (λ entry. is_out entry.standing) entries)

-- the entry is Out, and the report does not say that it was received
abbrev pub is_unheard : States → FlightEntry → Bool
is_unheard told entry = is_out entry.standing && not (is_received (told entry.number))

-- the report says of none of the entries, which are all Out, that it was received
abbrev pub AllUnheard : States → List FlightEntry → Type 0
AllUnheard told entries = IsTrue (list_all (λ entry. is_unheard told entry) entries)

-- the numbers of entries
abbrev pub numbers : List FlightEntry → List ℕ
numbers entries = map (λ entry. entry.number) entries

-- what the counts beside a list say about it
pub record FlightInvariant (entries : List FlightEntry) (capacity : ℕ) (counts : Counts) : Type 0 where
  pub holds : capacity ≡ 2048
  pub counted : counts.out ≡ pipe_of entries
  pub within : counts.settled ≤ length entries
  pub front : AllReported (take counts.settled entries)
  pub reached : counts.heard ≤ length entries
  pub unheard : AllOut (drop counts.heard entries)
  pub near : counts.span < 2 ^ 48 → AreNear counts.span (numbers entries)
