-- Worked inputs of lines, given one after the other. The values are by hand, after the texts of the tool's forms: a line ends in a newline,
-- which the last may lack, and has at most 4,096 bytes (own). The answers do not depend on the pieces in which a source gives its bytes.
use Rattle.std.proofs.Common.{◌≡◌, refl, ℕ, zero, suc, ◌+◌, true, false, List, [], ◌∷◌, ◌++◌, length, drop, map, codes, None, Some}
use Rattle.std.proofs.Math.ListN.{replicate}
use Rattle.dccp_io.specs.declared.lines.Stop.TheVariants as stop
use Rattle.dccp_io.specs.Lines.{Next, LinesState, holds_next, next_in_bytes, text_of}
use Rattle.dccp_io.specs.Lines as next

-- what comes next, and after a line what is there, which is asked for by the number of bytes that the line has
abbrev pub onward : Next → (ℕ → List Next) → List Next
onward (next.Line line) following = next.Line line ∷ following (length line)
onward next.End following = next.End ∷ []
onward (next.Long front) following = next.Long front ∷ []
onward next.Much following = next.Much ∷ []

-- what this many calls return of an input, after this many bytes; an end stays, and so does a line that is too long or too much
abbrev pub told : ℕ → ℕ → List ℕ → List Next
told zero given bytes = []
told (suc calls) given bytes = onward (next_in_bytes given bytes) (λ count. told calls (given + count) (drop count bytes))

-- a line without its newline
abbrev pub lent : Next → Next
lent (next.Line line) = next.Line (text_of line)
lent next.End = next.End
lent (next.Long front) = next.Long front
lent next.Much = next.Much

-- what is lent of an input
abbrev pub texts : ℕ → List ℕ → List Next
texts calls bytes = map lent (told calls 0 bytes)

lines_in_any_pieces :
    -- Empty lines, a carriage return, and no newline at the end; no bytes are no line, and nothing after the newline is none
    (texts 6 (codes "open\n\ndeliver c0" ++ 13 ∷ codes "\nlast") ≡ next.Line (codes "open") ∷ next.Line [] ∷ next.Line (codes "deliver c0" ++ 13 ∷ []) ∷ next.Line (codes "last") ∷ next.End ∷ [])
    × (texts 2 [] ≡ next.End ∷ [])
    × (texts 3 (codes "a\n") ≡ next.Line (codes "a") ∷ next.End ∷ [])
    -- Lines with their newlines
    × (told 4 0 (codes "\none\ntwo") ≡ next.Line (codes "\n") ∷ next.Line (codes "one\n") ∷ next.Line (codes "two") ∷ next.End ∷ [])
    -- Lines of 4,096 bytes and of one more
    × (texts 2 (replicate 4095 97) ≡ next.Line (replicate 4095 97) ∷ next.End ∷ [])
    × (texts 2 (replicate 4095 97 ++ codes "\n") ≡ next.Line (replicate 4095 97) ∷ next.End ∷ [])
    × (texts 3 (replicate 4095 97 ++ codes "\nnext\n") ≡ next.Line (replicate 4095 97) ∷ next.Line (codes "next") ∷ next.End ∷ [])
    × (texts 2 (replicate 4096 97) ≡ next.Line (replicate 4096 97) ∷ next.End ∷ [])
    × (texts 2 (replicate 4096 97 ++ codes "\n") ≡ next.Line (replicate 4096 97) ∷ next.End ∷ [])
    × (texts 3 (replicate 4096 97 ++ codes "\nnext\n") ≡ next.Line (replicate 4096 97) ∷ next.Line (codes "next") ∷ next.End ∷ [])
    × (texts 3 (replicate 4097 97) ≡ next.Long (replicate 4097 97) ∷ [])
    × (texts 3 (replicate 4097 97 ++ codes "\n") ≡ next.Long (replicate 4097 97) ∷ [])
    × (texts 3 (replicate 4097 97 ++ codes "\nnext\n") ≡ next.Long (replicate 4097 97) ∷ [])
    × (texts 3 (replicate 4098 97) ≡ next.Long (replicate 4097 97) ∷ [])
    × (texts 3 (replicate 4098 97 ++ codes "\n") ≡ next.Long (replicate 4097 97) ∷ [])
    × (texts 3 (replicate 4098 97 ++ codes "\nnext\n") ≡ next.Long (replicate 4097 97) ∷ [])
lines_in_any_pieces = (refl, refl, refl, refl, refl, refl, refl, refl, refl, refl, refl, refl, refl, refl, refl, refl)

-- At most 16,777,216 bytes of an input are lines: a line's newline or 4,097th byte, or the end after it, lies within them
most_bytes_of_an_input :
    (next_in_bytes 16777215 (codes "\n") ≡ next.Line (codes "\n"))
    × (next_in_bytes 16777215 (codes "a") ≡ next.Line (codes "a"))
    × (next_in_bytes 16777215 (codes "a\n") ≡ next.Much)
    × (next_in_bytes 16777216 (codes "\n") ≡ next.Much)
    × (next_in_bytes 16777216 [] ≡ next.End)
    × (next_in_bytes 16773119 (replicate 5000 97) ≡ next.Long (replicate 4097 97))
    × (next_in_bytes 16773120 (replicate 5000 97) ≡ next.Much)
most_bytes_of_an_input = (refl, refl, refl, refl, refl, refl, refl)

-- a reader that was given this many bytes, and has read these after them
abbrev with_pending : ℕ → List ℕ → LinesState ℕ
with_pending given pending = record { source = 0; pending = pending; line = []; given = given; stop = None }

-- A line is held once its newline or its 4,097th byte was read, and no read follows where the reader stopped. First a source gives seven bytes a
-- call of two lines and the beginning of a third, then one a call, and then all at once: a line, and one of 4,097 bytes or of 4,096.
a_reader_tells_when_it_holds_a_line :
    (holds_next (with_pending 0 []) ≡ false)
    × (holds_next (with_pending 3 (codes "cd\ne")) ≡ true)
    × (holds_next (with_pending 6 (codes "e")) ≡ false)
    × (holds_next (with_pending 7 []) ≡ false)
    × (holds_next (with_pending 3 []) ≡ false)
    × (holds_next (with_pending 2 (replicate 4097 97)) ≡ true)
    × (holds_next (record (with_pending 2 (replicate 4097 97)) { stop = Some stop.TooLong }) ≡ true)
    × (holds_next (with_pending 2 (replicate 4096 97)) ≡ false)
    × (holds_next (record (with_pending 2 []) { stop = Some stop.Failed }) ≡ true)
    -- Where two bytes of the most that an input may have are left, a third makes the line too much.
    × (holds_next (with_pending 16777214 (codes "abc")) ≡ true)
    × (holds_next (with_pending 16777214 (codes "ab")) ≡ false)
a_reader_tells_when_it_holds_a_line = (refl, refl, refl, refl, refl, refl, refl, refl, refl, refl, refl)
