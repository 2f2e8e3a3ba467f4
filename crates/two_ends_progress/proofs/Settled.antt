-- What a world is in which all negotiations have ended, in plain words.
use Rattle.std.proofs.Common.{◌≡◌, ◌⊎◌, inl, inr}
use Rattle.dccp_states.specs.declared.phase.Phase.{Phase}
use Rattle.dccp_states.specs.declared.phase.Phase.TheVariants as phases
use Rattle.two_ends.specs.World.{WorldState, half_of}
use Rattle.world_events.specs.declared.event.Side.{Side}
use Rattle.world_events.specs.declared.event.Side.TheVariants.{Client, Server}
use Rattle.two_ends_progress.specs.Leading.{AreOpen}
use Rattle.two_ends_progress.specs.Opening.{HasEnded}
use Rattle.two_ends_progress.specs.Settled.{HaveAgreed}

-- What has reached the goal: an end is over, or both are OPEN.
pub ends-or-opens : (w : WorldState) → HasEnded w ⊎ HaveAgreed w
    → ((side : Side) × (((half_of w side).end.phase ≡ phases.Closed) ⊎ ((half_of w side).end.phase ≡ phases.TimeWait)))
    ⊎ ((side : Side) → (half_of w side).end.phase ≡ phases.Open)
ends-or-opens w (inl (inl over)) = inl (Client, over)
ends-or-opens w (inl (inr over)) = inl (Server, over)
ends-or-opens w (inr agreed) = inr agreed.are_open

not-over : (p : Phase) → p ≡ phases.Open → (p ≡ phases.Closed) ⊎ (p ≡ phases.TimeWait) → ⊥
not-over p is (inl closed) = cc (is, closed)
not-over p is (inr waits) = cc (is, waits)

-- Where both are OPEN, no end is over.
pub settled-there : (w : WorldState) → HasEnded w ⊎ HaveAgreed w → AreOpen w → HaveAgreed w
settled-there w (inl (inl over)) opened = absurd (not-over w.client.end.phase (opened Client) over)
settled-there w (inl (inr over)) opened = absurd (not-over w.server.end.phase (opened Server) over)
settled-there w (inr agreed) opened = agreed
