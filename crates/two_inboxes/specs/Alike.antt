-- A frame that an inbox has lengthened is taken as its end's own frame (own).
use Rattle.std.specs.Prelude.{◌≡◌, Some, None}
use Rattle.data_dropped.specs.Inbox.{InboxState}
use Rattle.data_dropped.specs.Telling.{TellsItsDrops}
use Rattle.dccp_endpoint.specs.End.{EndState}
use Rattle.dccp_endpoint.specs.Receiving.{receives}
use Rattle.dccp_endpoint.specs.Steps.{Step}
use Rattle.dccp_packets.specs.Outgoing.{Outgoing}
use Rattle.dccp_states.specs.declared.outcome.Outcome.{Outcome}
use Rattle.dccp_states.specs.declared.outcome.Outcome.TheVariants.{Took, Dropped, Synced, WasReset, SentReset}

-- an outcome without the place of the data that it delivers
abbrev pub without_place : Outcome → Outcome
without_place (Took None) = Took None
without_place (Took (Some place)) = Took (Some (0, 0))
without_place (Dropped why) = Dropped why
without_place (Synced number) = Synced number
without_place (WasReset code) = WasReset code
without_place (SentReset code detail) = SentReset code detail

-- Two steps leave the same end, send the same frame, and call congestion control alike; their outcomes are the same, except
-- for the place where the data lie.
pub record IsSameStep (one other : Step Outcome) : Type 0 where
  pub same_end : one.after ≡ other.after
  pub same_frame : one.frame ≡ other.frame
  pub same_calls : one.calls ≡ other.calls
  pub same_outcome : without_place one.answer ≡ without_place other.answer

-- An end to which the frame is addressed takes it as it would take the end's own frame, which it replaces.
abbrev pub LongerFramesAreTakenAlike : Type 0
LongerFramesAreTakenAlike =
    (e : EndState) (held : InboxState) (own frame : Outgoing) → TellsItsDrops e.config.pseudo_in held own frame
    → IsSameStep (receives e frame.bytes) (receives e own.bytes)
