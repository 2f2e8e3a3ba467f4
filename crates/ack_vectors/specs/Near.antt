-- How far apart the numbers of records are, so that a search among them can end early (own).
use Rattle.std.specs.Prelude.{◌≡◌, ℕ, ◌^◌, ◌<◌, List, map}
use Rattle.seq_circle.specs.Near.{AreNear}
use Rattle.ack_vectors.specs.declared.received.VectorRecord.{VectorRecord}

-- the numbers of records
abbrev pub record_numbers : List VectorRecord → List ℕ
record_numbers records = map (λ r. r.number) records

-- what always holds of what is kept: the room, and the steps between records
pub record KeptInvariant (records : List VectorRecord) (capacity span : ℕ) : Type 0 where
  pub holds : capacity ≡ 64
  pub near : span < 2 ^ 48 → AreNear span (record_numbers records)
