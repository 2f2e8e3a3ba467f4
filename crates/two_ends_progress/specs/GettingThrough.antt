-- Data that a sender's owner hands over reach the other end (RFC 4340, section 8.5, step 16; own).
use Rattle.std.specs.Prelude.{◌≡◌, ℕ, ◌+◌, ◌^◌, ◌<◌, true, List, length, drop, slice_get, Some, Ok}
use Rattle.congestion_trait.specs.Control.{Control}
use Rattle.dccp_endpoint.specs.Calling.{lacks_vectors}
use Rattle.two_ends.specs.Controlled.{ControlledWorld, ControlledStep, happens_to}
use Rattle.two_ends.specs.Delivered.{place_delivered}
use Rattle.two_ends.specs.World.{WorldState, half_of}
use Rattle.two_ends.specs.declared.frames.SentFrame.{SentFrame}
use Rattle.world_events.specs.declared.event.Event.TheVariants as event
use Rattle.dccp_states.specs.declared.seen.Seen.TheVariants as seen
use Rattle.world_events.specs.declared.event.Side.{Side}
use Rattle.two_ends_progress.specs.Settled.{HaveAgreed}

-- Each side has sent so few frames that even after this many more its short numbers are unambiguous (RFC 4340, section 7.6).
abbrev pub AreFew : ℕ → WorldState → Type 0
AreFew more w = (side : Side) → length (half_of w side).frames + more < 2 ^ 23

-- A side's `send` takes these data, and the delivery of the frame that carries them hands over exactly these.
pub record GetsThrough {C : Type 0} (control : Control C) (w : ControlledWorld C) (from : Side) (payload : List ℕ) : Type 0 where
  pub sent : ControlledStep C
  pub takes_place : happens_to control w (event.Send from payload) ≡ Ok sent
  pub is_taken : sent.seen ≡ seen.Called (Ok tt)
  -- the frame that it adds to the side's list
  pub frame : SentFrame
  pub is_added : slice_get (half_of sent.after.world from).frames (length (half_of w.world from).frames) ≡ Some frame
  pub handed : ControlledStep C
  pub arrives : happens_to control sent.after (event.Deliver from (length (half_of w.world from).frames)) ≡ Ok handed
  -- the data lie in it from the first place up to the second, its end
  pub place : ℕ × ℕ
  pub is_delivered : place_delivered handed.seen ≡ Some place
  pub up_to_the_end : place.1 ≡ length frame.bytes
  pub are_the_data : drop place.0 frame.bytes ≡ payload

-- Both ends have agreed that the peer sends a side no Ack Vectors, though the side's CCID needs them (RFC 4341, section 4).
abbrev pub LacksReports : WorldState → Side → Type 0
LacksReports w side = HaveAgreed w × (lacks_vectors (half_of w side).end.rows ≡ true)
