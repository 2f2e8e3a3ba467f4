-- Worked calls of sources and sinks in memory. The values are by hand: a call gives or takes the least of three numbers, and the calls with the
-- given numbers fail (own).
use Rattle.std.proofs.Common.{◌≡◌, refl, ℕ, zero, suc, true, false, List, [], ◌∷◌, codes, Ok, Err, Result}
use Rattle.dccp_io.specs.declared.streams.Failed.{Failed}
use Rattle.dccp_io.specs.Memory.{Calls, MemoryBytes, MemoryTaken, after_read, after_write, next_fails, read_answer, write_answer}

-- before the first call
abbrev no_call_yet : List ℕ → Calls
no_call_yet failing = record { failing = failing; made = 0; faults = 0 }

-- a source of these bytes that gives at most this many a call
abbrev source : List ℕ → ℕ → List ℕ → MemoryBytes
source left most failing = record { left = left; most = most; calls = no_call_yet failing }

abbrev failed : Result ℕ Failed
failed = Err (record {})

-- the answers of this many reads into a block of that size
abbrev reads : ℕ → ℕ → MemoryBytes → List (Result ℕ Failed)
reads zero room source = []
reads (suc calls) room source = read_answer source room ∷ reads calls room (after_read source room)

-- the bytes that are left after this many reads, and how many of these failed
abbrev left_after : ℕ → ℕ → MemoryBytes → List ℕ × ℕ
left_after zero room source = (source.left, source.calls.faults)
left_after (suc calls) room source = left_after calls room (after_read source room)

-- A call of a source gives what it has, and one that fails takes nothing. Then the least of what a call gives, the block and what is left.
sources_call_by_call :
    (reads 5 4 (source (codes "hello") 2 (2 ∷ [])) ≡ Ok 2 ∷ failed ∷ Ok 2 ∷ Ok 1 ∷ Ok 0 ∷ [])
    × (left_after 1 4 (source (codes "hello") 2 (2 ∷ [])) ≡ (codes "llo", 0))
    × (left_after 2 4 (source (codes "hello") 2 (2 ∷ [])) ≡ (codes "llo", 1))
    × (left_after 3 4 (source (codes "hello") 2 (2 ∷ [])) ≡ (codes "o", 1))
    × (left_after 5 4 (source (codes "hello") 2 (2 ∷ [])) ≡ ([], 1))
    × (reads 3 4 (source (codes "hello") 3 []) ≡ Ok 3 ∷ Ok 2 ∷ Ok 0 ∷ [])
    × (reads 3 2 (source (codes "hello") 3 []) ≡ Ok 2 ∷ Ok 2 ∷ Ok 1 ∷ [])
    × (reads 2 9 (source (codes "hello") 7 []) ≡ Ok 5 ∷ Ok 0 ∷ [])
    × (reads 1 4 (source (codes "hello") 3 (1 ∷ [])) ≡ failed ∷ [])
sources_call_by_call = (refl, refl, refl, refl, refl, refl, refl, refl, refl)

-- The last call that has a number is 2^64 - 1.
the_last_numbered_call :
    (next_fails (record { failing = 18446744073709551615 ∷ []; made = 18446744073709551614; faults = 0 }) ≡ true)
    × (next_fails (record { failing = 18446744073709551616 ∷ []; made = 18446744073709551615; faults = 0 }) ≡ false)
the_last_numbered_call = (refl, refl)

-- a sink with room for this many bytes that takes at most this many a call
abbrev sink : ℕ → ℕ → List ℕ → MemoryTaken
sink most room failing = record { taken = []; room = room; most = most; calls = no_call_yet failing; empty_takes = 0 }

-- the answers to these pieces, one after the other
abbrev writes : List (List ℕ) → MemoryTaken → List (Result ℕ Failed)
writes [] sink = []
writes (piece ∷ pieces) sink = write_answer sink piece ∷ writes pieces (after_write sink piece)

-- what was taken after them, how many calls failed, and how many took nothing of a piece that was not empty
abbrev taken_after : List (List ℕ) → MemoryTaken → List ℕ × ℕ × ℕ
taken_after [] sink = (sink.taken, sink.calls.faults, sink.empty_takes)
taken_after (piece ∷ pieces) sink = taken_after pieces (after_write sink piece)

-- a byte a call, up to the third, and then the rest; the least of the piece, what a call takes, and the room; and a sink that takes nothing
abbrev in_bytes : List (List ℕ)
in_bytes = codes "hello" ∷ codes "ello" ∷ codes "llo" ∷ codes "llo" ∷ codes "lo" ∷ codes "o" ∷ []

abbrev in_pieces : List (List ℕ)
in_pieces = codes "hello" ∷ codes "abc" ∷ codes "hello" ∷ codes "h" ∷ []

sinks_call_by_call :
    (writes in_bytes (sink 1 9 (3 ∷ [])) ≡ Ok 1 ∷ Ok 1 ∷ failed ∷ Ok 1 ∷ Ok 1 ∷ Ok 1 ∷ [])
    × (taken_after (codes "hello" ∷ codes "ello" ∷ codes "llo" ∷ []) (sink 1 9 (3 ∷ [])) ≡ (codes "he", 1, 0))
    × (taken_after in_bytes (sink 1 9 (3 ∷ [])) ≡ (codes "hello", 1, 0))
    × (writes in_pieces (sink 4 9 []) ≡ Ok 4 ∷ Ok 3 ∷ Ok 2 ∷ Ok 0 ∷ [])
    × (taken_after in_pieces (sink 4 9 []) ≡ (codes "hellabche", 0, 1))
    × (writes (codes "hello" ∷ [] ∷ []) (sink 0 9 []) ≡ Ok 0 ∷ Ok 0 ∷ [])
    × (taken_after (codes "hello" ∷ [] ∷ []) (sink 0 9 []) ≡ ([], 0, 1))
sinks_call_by_call = (refl, refl, refl, refl, refl, refl, refl)
