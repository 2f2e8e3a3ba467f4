-- What an end has received, and the records of the Ack Vectors that it sent (own).
use Rattle.std.specs.Prelude.{ℕ, ◌+◌, ◌==◌, ◌&&◌, Bool, List, [], ◌∷◌, ◌++◌, Option, None, Some, if◌then◌else◌}
use Rattle.circular_buffer.specs.Buffer.{keep_last}
use Rattle.seq_circle.specs.Circle.{residue}
use Rattle.run_list.specs.MarkedSet.{MarkedSet, empty_from, marked, raised}
use Rattle.ack_vectors.specs.declared.received.VectorRecord.{VectorRecord}

-- the set of received numbers with its floor, and the records from the oldest on
pub record ReceivedState : Type 0 where
  pub set : MarkedSet
  pub records : List VectorRecord

-- nothing received, and no record
abbrev pub fresh : ℕ → ReceivedState
fresh floor = record { set = empty_from floor; records = [] }

-- after a number was marked
abbrev pub marked_by : ReceivedState → ℕ → ReceivedState
marked_by kept n = record { set = marked kept.set n; records = kept.records }

-- one more record; of all the last 64 are kept
abbrev pub recorded : ReceivedState → ℕ → ℕ → Bool → ReceivedState
recorded kept number ack whole =
    record { set = kept.set; records = keep_last 64 (kept.records ++ record { number = number; ack = ack; whole = whole } ∷ []) }

-- a record of a whole vector under this number
abbrev pub is_whole_at : ℕ → VectorRecord → Bool
is_whole_at n r = r.whole && (r.number == n)

-- the last such record of a list, or else the one found before
abbrev pub newest_from : ℕ → Option VectorRecord → List VectorRecord → Option VectorRecord
newest_from n found [] = found
newest_from n found (r ∷ rs) = newest_from n (if is_whole_at n r then Some r else found) rs

-- the newest record of a whole vector under this number
abbrev pub newest_whole : ℕ → List VectorRecord → Option VectorRecord
newest_whole n records = newest_from n None records

-- the floor after the report of a record's vector
abbrev pub raised_by : ReceivedState → Option VectorRecord → ReceivedState
raised_by kept None = kept
raised_by kept (Some r) = record { set = raised kept.set (residue (r.ack + 1)); records = kept.records }

-- after the peer acknowledged a number
abbrev pub acked : ReceivedState → ℕ → ReceivedState
acked kept n = raised_by kept (newest_whole n kept.records)
