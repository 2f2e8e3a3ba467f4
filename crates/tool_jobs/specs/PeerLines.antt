-- What happens to peers by the lines of an input, line by line, as laws say it (own).
use Rattle.std.specs.Prelude.{ℕ, ◌+◌, ◌++◌, List, [], ◌∷◌, length, Option, Some, None, Result, Ok, Err}
use Rattle.dccp_io.specs.Lines.{Next, End, Line, Long, Much, lines_of, next_in_lines, text_of}
use Rattle.dccp_listener.specs.Chain.{Deed}
use Rattle.dccp_listener.specs.declared.peer.Peer.{Peer}
use Rattle.tool_text.specs.declared.words.faults.LineFault.{LineFault}
use Rattle.tool_jobs.specs.Calls.{read_call}
use Rattle.tool_jobs.specs.Listen.{deed_of}
use Rattle.tool_jobs.specs.Telling.{Exchange}
use Rattle.tool_jobs.specs.declared.listen.calls.PeerCall.{PeerCall}

-- what happens to a peer by the line with this number, if it says anything
abbrev pub said_by_line : ℕ → Result (Option (Peer × PeerCall)) LineFault → List (ℕ × Peer × Deed)
said_by_line number (Ok (Some said)) = (number, said.0, deed_of said.0 said.1) ∷ []
said_by_line number (Ok None) = []
said_by_line number (Err fault) = []

-- the same by what comes next in an input, where a line may be too long or too much
abbrev pub said_next : ℕ → Next → List (ℕ × Peer × Deed)
said_next number End = []
said_next number (Line line) = said_by_line number (read_call (text_of line))
said_next number (Long front) = []
said_next number Much = []

-- The same by lines, of which the first has this number, after this many bytes of their input.
abbrev pub said_by_lines : ℕ → ℕ → List (List ℕ) → List (ℕ × Peer × Deed)
said_by_lines number given [] = []
said_by_lines number given (line ∷ lines) =
    said_next number (next_in_lines given (line ∷ lines)) ++ said_by_lines (number + 1) (given + length line) lines

-- the number of an exchange's line, its peer, and what happens
abbrev pub exchange_said : Exchange → ℕ × Peer × Deed
exchange_said x = (x.number, x.peer, x.deed)
