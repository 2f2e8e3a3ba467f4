-- What the first line of a schedule that says something sets for Ack Vectors (own).
use Rattle.std.specs.Prelude.{◌≡◌, ℕ, ◌+◌, List, [], ◌∷◌, length, Result, Ok, Err}
use Rattle.ack_vectors.specs.declared.room.Vectors.{Vectors}
use Rattle.ack_vectors.specs.declared.room.Vectors.TheVariants.{One}
use Rattle.dccp_io.specs.Lines.{Next, End, Line, Long, Much, next_in_lines, text_of}
use Rattle.schedule_text.specs.Reading.{read_line}
use Rattle.schedule_text.specs.declared.line.Line as words
use Rattle.schedule_text.specs.declared.line.Line.TheVariants as line
use Rattle.tool_jobs.specs.Transcript.{vectors_of}
use Rattle.tool_jobs.specs.declared.run.play.Play.{Play}
use Rattle.tool_text.specs.declared.words.faults.LineFault.{LineFault}

-- The ends' Ack Vectors by a line: one that says nothing leaves that to the lines after it, and one with a fault stops
-- the schedule.
abbrev pub vectors_by : Result words.Line LineFault → Vectors → Vectors
vectors_by (Err fault) later = One
vectors_by (Ok line.Nothing) later = later
vectors_by (Ok (line.Version version)) later = vectors_of version
vectors_by (Ok line.Plain) later = One
vectors_by (Ok (line.Iss side number)) later = One
vectors_by (Ok (line.Set side place feature values)) later = One
vectors_by (Ok (line.Offer side place feature mandatory)) later = One
vectors_by (Ok (line.Event event)) later = One

-- the same by what comes next in an input, where a line may be too long or too much
abbrev pub vectors_next : Next → Vectors → Vectors
vectors_next End later = later
vectors_next (Line line) later = vectors_by (read_line (text_of line)) later
vectors_next (Long front) later = One
vectors_next Much later = One

-- The same by lines, after this many bytes of their input: two options exactly if the first line that says something is `version 2`.
abbrev pub vectors_said : ℕ → List (List ℕ) → Vectors
vectors_said given [] = One
vectors_said given (line ∷ lines) = vectors_next (next_in_lines given (line ∷ lines)) (vectors_said (given + length line) lines)

-- Both ends have Ack Vectors of this many options.
pub record HaveVectors (vectors : Vectors) (play : Play) : Type 0 where
  pub client : play.client.vectors ≡ vectors
  pub server : play.server.vectors ≡ vectors
