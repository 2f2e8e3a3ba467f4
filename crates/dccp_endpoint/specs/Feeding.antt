-- An end that is handed a list of frames (own): what becomes of it, and how many it takes.
use Rattle.std.specs.Prelude.{ℕ, ◌+◌, List, [], ◌∷◌, fold}
use Rattle.congestion_trait.specs.Control.{Control}
use Rattle.dccp_endpoint.specs.Controlled.{End, EndStep, with_control}
use Rattle.dccp_endpoint.specs.Receiving.{receives}
use Rattle.dccp_states.specs.declared.outcome.Outcome.{Outcome}
use Rattle.dccp_states.specs.declared.outcome.Outcome.TheVariants.{Took, Dropped, Synced, WasReset, SentReset}

-- the step of receiving (RFC 4340, section 8.5), with what it makes of the congestion control
abbrev pub receiving : {C : Type 0} → Control C → End C → List ℕ → EndStep C Outcome
receiving control e bytes = with_control control e.congestion (receives e.state bytes)

-- the end after one frame
abbrev pub after_frame : {C : Type 0} → Control C → End C → List ℕ → End C
after_frame control e bytes = (receiving control e bytes).after

-- the end after all frames: the step folded over them
abbrev pub fed : {C : Type 0} → Control C → End C → List (List ℕ) → End C
fed control e frames = fold (after_frame control) e frames

-- a frame counts as 1 if it was taken
abbrev pub count_of_outcome : Outcome → ℕ
count_of_outcome (Took delivered) = 1
count_of_outcome (Dropped why) = 0
count_of_outcome (Synced number) = 0
count_of_outcome (WasReset code) = 0
count_of_outcome (SentReset code detail) = 0

-- how many of the frames are taken, each by the end that those before it leave
abbrev pub count_of_taken : {C : Type 0} → Control C → End C → List (List ℕ) → ℕ
count_of_taken control e [] = 0
count_of_taken control e (bytes ∷ frames) = count_of_outcome (receiving control e bytes).answer + count_of_taken control (after_frame control e bytes) frames
