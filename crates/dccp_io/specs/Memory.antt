-- Sources and sinks in memory, of which chosen calls fail (own).
use Rattle.std.specs.Prelude.{ℕ, ◌+◌, ◌-◌, ◌^◌, Bool, List, length, take, drop, ◌++◌, min, Result, Ok, Err, nat_lt, ◌==◌, ◌&&◌, if◌then◌else◌}
use Rattle.std.specs.List.{list_any}
use Rattle.dccp_io.specs.Counts.{one_more}
use Rattle.dccp_io.specs.declared.streams.Failed.{Failed}

-- the numbers of the calls that fail, counted from 1; how many calls there were, and how many of them failed
pub record Calls : Type 0 where
  pub failing : List ℕ
  pub made : ℕ
  pub faults : ℕ

-- a call with this number fails
abbrev pub is_failing_call : List ℕ → ℕ → Bool
is_failing_call failing number = list_any (λ listed. listed == number) failing

-- the next call fails; calls past the last 64-bit number have none
abbrev pub next_fails : Calls → Bool
next_fails calls = nat_lt calls.made (2 ^ 64 - 1) && is_failing_call calls.failing (calls.made + 1)

-- one call more, which failed or not
abbrev pub counted_call : Calls → Calls
counted_call calls = record {
  failing = calls.failing;
  made = one_more calls.made;
  faults = if next_fails calls then one_more calls.faults else calls.faults;
}

-- a source: the bytes that are left, and how many a call gives at most
pub record MemoryBytes : Type 0 where
  pub left : List ℕ
  pub most : ℕ
  pub calls : Calls

-- how many bytes a call gives if it does not fail
abbrev pub given_count : MemoryBytes → ℕ → ℕ
given_count source room = min source.most (min room (length source.left))

-- what a call of the source answers
abbrev pub read_answer : MemoryBytes → ℕ → Result ℕ Failed
read_answer source room = if next_fails source.calls then Err (record {}) else Ok (given_count source room)

-- the source after it
abbrev pub after_read : MemoryBytes → ℕ → MemoryBytes
after_read source room = record {
  left = if next_fails source.calls then source.left else drop (given_count source room) source.left;
  most = source.most;
  calls = counted_call source.calls;
}

-- a sink: the bytes that it took, how many more it has room for, how many a call takes at most, and how often it took
-- none of a piece that was not empty
pub record MemoryTaken : Type 0 where
  pub taken : List ℕ
  pub room : ℕ
  pub most : ℕ
  pub calls : Calls
  pub empty_takes : ℕ

-- how many bytes a call takes if it does not fail
abbrev pub accepted : MemoryTaken → List ℕ → ℕ
accepted sink piece = min sink.most (min (length piece) sink.room)

-- what a call of the sink answers
abbrev pub write_answer : MemoryTaken → List ℕ → Result ℕ Failed
write_answer sink piece = if next_fails sink.calls then Err (record {}) else Ok (accepted sink piece)

-- the sink after a call that does not fail
abbrev pub after_taking : MemoryTaken → List ℕ → MemoryTaken
after_taking sink piece = record {
  taken = sink.taken ++ take (accepted sink piece) piece;
  room = sink.room - accepted sink piece;
  most = sink.most;
  calls = counted_call sink.calls;
  empty_takes = if accepted sink piece == 0 && nat_lt 0 (length piece) then one_more sink.empty_takes else sink.empty_takes;
}

-- the sink after it
abbrev pub after_write : MemoryTaken → List ℕ → MemoryTaken
after_write sink piece = if next_fails sink.calls then record sink { calls = counted_call sink.calls } else after_taking sink piece
