-- What follows a piece of a text, if anything does.
use Rattle.std.specs.Prelude.{ℕ, ◌+◌, List, [], length, Option, Some, None}
use Rattle.std.specs.Borrow.{Bor}
use Rattle.tool_text.specs.Words.{parted_by}

-- the pieces of what follows, separated by this byte; none if nothing follows
abbrev pub pieces_left : ℕ → Option (Bor (List ℕ)) → List (List ℕ)
pieces_left mark None = []
pieces_left mark (Some rest) = parted_by mark rest.now

-- the bytes that are left, with the separator before them
abbrev pub rest_length : Option (Bor (List ℕ)) → ℕ
rest_length None = 0
rest_length (Some rest) = length rest.now + 1
