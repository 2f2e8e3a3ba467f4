use Rattle.std.proofs.Common.{◌≡◌, ap, inl, inr, true}
use Rattle.dccp_endpoint.specs.End.{is_live}
use Rattle.dccp_states.specs.declared.phase.Phase.{Phase}
use Rattle.dccp_states.specs.declared.phase.Phase.TheVariants as phases
use Rattle.two_ends.specs.World.{half_of}
use Rattle.two_ends.proofs.facts.the_newest_acknowledgement_was_processed.Goals as goal

not-closed : (phase : Phase) → is_live phase ≡ true → phase ≡ phases.Closed → ⊥
not-closed phase live closed = (let dead = ap is_live closed in cc (dead, live))

pub returns-clause-processed : goal.returns-clause-processed
returns-clause-processed c = λ w facts side index frame packet stands some there read acking same.
    facts.newest side index frame packet stands (inr some) there read acking same

pub returns-clause-live : goal.returns-clause-live
returns-clause-live c = λ w facts side index frame packet live there read acking same.
    facts.newest side index frame packet (not-closed (half_of w side).end.phase live) (inl live) there read acking same
