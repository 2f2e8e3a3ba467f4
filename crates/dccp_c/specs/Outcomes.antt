-- How an outcome is told to C (own).
use Rattle.std.specs.Prelude.{ℕ, [], ◌∷◌, Option, Some, None}
use Rattle.data_dropped.specs.declared.answers.Arrival.{Arrival}
use Rattle.data_dropped.specs.declared.answers.Arrival.TheVariants.{Kept}
use Rattle.data_dropped.specs.declared.answers.Arrival.TheVariants as arrival
use Rattle.dccp_packets.specs.declared.reading.Malformed.TheVariants as malformed
use Rattle.dccp_sum.specs.declared.packet_sum.SumFault.TheVariants as sum
use Rattle.dccp_states.specs.declared.outcome.Outcome.{Outcome}
use Rattle.dccp_states.specs.declared.outcome.Outcome.TheVariants.{Took, Dropped, Synced, WasReset, SentReset}
use Rattle.dccp_states.specs.declared.outcome.Why.{Why}
use Rattle.dccp_states.specs.declared.outcome.Why.TheVariants as why
use Rattle.dccp_uses.specs.declared.holding.Reading.{Reading}
use Rattle.dccp_c.specs.declared.told.Told.{Told}

-- the number of the cause for which a packet was dropped
abbrev pub cause_code : Why → ℕ
cause_code (why.Malformed malformed.Short) = 1
cause_code (why.Malformed malformed.ReservedType) = 2
cause_code (why.Malformed malformed.OffsetSmall) = 3
cause_code (why.Malformed malformed.OffsetLarge) = 4
cause_code (why.Malformed malformed.ShortNumbers) = 5
cause_code (why.Sum sum.CoverageTooLarge) = 6
cause_code (why.Sum sum.Wrong) = 7
cause_code why.OtherFlow = 8
cause_code why.StrayReset = 9
cause_code why.ShortOff = 10
cause_code why.BadSync = 11

-- a packet that was taken and brought no data
abbrev pub told_quiet : Told
told_quiet = record { kind = 0; cause = 0; first = 0; past = 0; number = 0; code = 0; detail = 0 ∷ 0 ∷ 0 ∷ [] }

-- an outcome as it is told to C: fields that do not belong to its kind are 0
abbrev pub told_outcome : Outcome → Told
told_outcome (Took None) = told_quiet
told_outcome (Took (Some place)) = record told_quiet { kind = 1; first = place.0; past = place.1 }
told_outcome (Dropped cause) = record told_quiet { kind = 2; cause = cause_code cause }
told_outcome (Synced number) = record told_quiet { kind = 3; number = number }
told_outcome (WasReset code) = record told_quiet { kind = 4; code = code }
told_outcome (SentReset code detail) = record told_quiet { kind = 5; code = code; detail = detail }

-- what C is told about data that came into an inbox or were dropped there, and about any other outcome
abbrev pub told_arrival : Option Arrival → Told → Told
told_arrival None told = told
told_arrival (Some Kept) told = record told_quiet { kind = 6 }
told_arrival (Some (arrival.Dropped code)) told = record told_quiet { kind = 7; code = code }

-- what C is told about a datagram; one that was left out counts as dropped, for the cause 12
abbrev pub told_heard : Option Outcome → Told
told_heard None = record told_quiet { kind = 2; cause = 12 }
told_heard (Some outcome) = told_outcome outcome

-- what C is told about a datagram and its data
abbrev pub told_reading : Reading → Told
told_reading reading = told_arrival reading.arrival (told_heard reading.heard)
