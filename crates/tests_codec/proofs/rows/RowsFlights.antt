-- Worked flights, computed from the definitions: what is sent, reported and lost. The values are worked out by hand from RFC 4340,
-- section 11.4, and RFC 4341, section 5.
use Rattle.std.proofs.Common.{◌≡◌, refl, ℕ, ◌+◌, zero, suc, Bool, true, false, List, [], ◌∷◌, map, Option, Some, None}
use Prim.Native.String.{String}
use Rattle.dccp_options.specs.Grammar.{options_of}
use Rattle.dccp_options.specs.Vectors.{reported}
use Rattle.run_list.specs.MarkedSet.{has}
use Rattle.congestion_trait.specs.Flight.{States, acked_count, after_report, entry_reported, is_congested, numbers_reported, pipe_of, sent}
use Rattle.congestion_trait.specs.declared.flight.FlightEntry.{FlightEntry}
use Rattle.seq_circle.specs.Circle.{residue}
use Rattle.tests_codec.proofs.rows.RowsSeen.{bytes}

-- a call of a flight list, or what is seen of it by then
data Step : Type 0 where
  -- this many numbers are sent, from the first up
  Send : (first count : ℕ) → Step
  -- A packet with these options and this mark reports. The result is how many are acknowledged, and whether there is congestion.
  Tell : (ack : ℕ) → (options : String) → (mark : Option ℕ) → (acked : ℕ) → (congested : Bool) → Step
  Out : ℕ → Step
  -- this number is known as reported
  IsReported : (number : ℕ) → Bool → Step
  Clear : Step

-- what the options of a packet report
abbrev told : ℕ → String → States
told ack options = reported ack (options_of (bytes options) false)

abbrev sent_each : List FlightEntry → ℕ → ℕ → List FlightEntry
sent_each entries zero number = entries
sent_each entries (suc count) number = sent_each (sent entries number) count (residue (number + 1))

-- after a step
abbrev after : List FlightEntry → Step → List FlightEntry
after entries (Send first count) = sent_each entries count first
after entries (Tell ack options mark acked congested) = after_report (told ack options) entries
after entries Clear = []
after entries step = entries

-- what is there at a step
abbrev seen : List FlightEntry → Step → Step
seen entries (Send first count) = Send first count
seen entries (Tell ack options mark acked congested) =
    Tell ack options mark (acked_count (told ack options) entries) (is_congested (told ack options) mark entries)
seen entries (Out count) = Out (pipe_of entries)
seen entries (IsReported number known) = IsReported number (has (numbers_reported entries) number)
seen entries Clear = Clear

-- steps, each as it is seen
abbrev played : List FlightEntry → List Step → List Step
played entries [] = []
played entries (step ∷ rest) = seen entries step ∷ played (after entries step) rest

-- all is seen as these steps say, from an empty list on
abbrev Flies : List Step → Type 0
Flies steps = played [] steps ≡ steps

-- 10 to 15 are out. 17 and 16 lie outside the list, and 15 is marked. Two later ones make nothing lost, and three do; what the mark
-- covers is no congestion. A lost one that is reported after all is acknowledged, and in flight stays. One that is reported as marked is
-- congestion past the mark, once, and not acknowledged.
several_vectors_and_numbers_outside : Flies (
    Send 10 6 ∷ Tell 17 "260301260340" (Some 9) 0 true ∷ Out 5 ∷ Tell 14 "2603002603c0" (Some 9) 1 false ∷ Out 4 ∷
    Tell 13 "2603002603c2" (Some 15) 1 false ∷ Out 0 ∷ Tell 11 "2603002603c0" (Some 9) 1 false ∷ Out 0 ∷ IsReported 12 false ∷
    Tell 12 "2603402603c0" (Some 9) 0 true ∷ IsReported 12 true ∷
    Tell 12 "2603402603c0" (Some 9) 0 false ∷ Tell 10 "2603402603c0" (Some 15) 0 false ∷ [])
several_vectors_and_numbers_outside = refl

-- 2 and 1 are received, and then 0: the two before the wrap are lost, of which only the second is past the mark.
round_the_circle : Flies (
    Send 281474976710654 1 ∷ Send 281474976710655 1 ∷ Send 0 3 ∷ Tell 2 "2603012603c2" None 2 false ∷
    Tell 0 "2603002603c1" (Some 281474976710654) 1 true ∷ Out 0 ∷ [])
round_the_circle = refl

-- Of 2,049 numbers the first has left when 1 and 0 are reported: 2,048 are out, of which one is acknowledged, and only 1 is Reported.
abbrev reported_of : States → List FlightEntry → ℕ × ℕ × List ℕ
reported_of states entries =
    (pipe_of entries, acked_count states entries, numbers_reported (map (entry_reported states) entries))

oldest_entries_leave : reported_of (told 1 "260300260300") (sent_each [] 2049 0) ≡ (2048, 1, 1 ∷ [])
oldest_entries_leave = refl

-- A byte reports up to 64 numbers: of 68, the one at the report's number was not received, the 33 and 34 below it were.
long_runs : Flies (
    Send 1 68 ∷ Tell 68 "2605c02021" None 67 false ∷ Out 1 ∷ Clear ∷ Send 1 65 ∷ Tell 65 "26033f" None 64 true ∷ Out 0 ∷ [])
long_runs = refl
