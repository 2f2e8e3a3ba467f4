-- The bytes of a frame spell the numbers that are kept of it.
use Rattle.std.proofs.Common.{◌≡◌, inl, inr, ap, sym, ◌∙◌, subst, ℕ, ◌+◌, zero, suc, List, [], ◌∷◌, Some, slice_get}
use Rattle.std.proofs.lemmas.Option.{same_Some}
use Rattle.dccp_packets.specs.Grammar.{Parts, is_long}
use Rattle.dccp_packets.specs.Kinds.{ack_of, value_of}
use Rattle.dccp_states.specs.declared.phase.Role.{Role}
use Rattle.world_events.specs.declared.event.Side.{Side}
use Rattle.two_ends.specs.declared.frames.SentFrame.{SentFrame}
use Rattle.std.specs.Result.{result_ok}
use Rattle.dccp_endpoint.specs.Spelled.{ack_in_width, in_width}
use Rattle.two_ends.specs.Frames.{SpellsItsNumbers, packet_of}
use Rattle.two_ends.specs.Numbered.{AreNumbered, Facts}
use Rattle.two_ends.specs.World.{WorldState, half_of}

spelled : (role : Role) (iss before count : ℕ) (frames : List SentFrame) (index : ℕ) (frame : SentFrame) → AreNumbered role iss before frames count
    → slice_get frames index ≡ Some frame → SpellsItsNumbers frame
spelled role iss before count [] index frame are there = cc there
spelled role iss before count (first ∷ rest) zero frame (inl numbered) there = subst SpellsItsNumbers (same_Some first frame there) numbered.0.spells
spelled role iss before count (first ∷ rest) zero frame (inr reset) there = subst SpellsItsNumbers (same_Some first frame there) reset.0.spells
spelled role iss before count (first ∷ rest) (suc index) frame (inl numbered) there = spelled role iss (before + 1) count rest index frame numbered.1 there
spelled role iss before count (first ∷ rest) (suc index) frame (inr reset) there = spelled role iss before count rest index frame reset.1 there

-- each frame of a world in which the facts hold
pub frame-spelled : (w : WorldState) → Facts w → (side : Side) (index : ℕ) (frame : SentFrame) → slice_get (half_of w side).frames index ≡ Some frame
    → SpellsItsNumbers frame
frame-spelled w facts side index frame there = spelled _ _ 0 _ (half_of w side).frames index frame (facts.numbered side).in_order there

module _ (frame : SentFrame) (spells : SpellsItsNumbers frame) (packet : Parts) (read : packet_of frame.bytes ≡ Some packet) where
  same : spells.packet ≡ packet
  same = same_Some spells.packet packet (sym (ap result_ok spells.is_packet) ∙ read)

  pub number-spelled : value_of packet.header.number ≡ in_width (is_long packet.header.number) frame.number
  number-spelled = subst (λ (p : Parts). value_of p.header.number ≡ in_width (is_long p.header.number) frame.number) same spells.number

  pub ack-spelled : ack_of packet.header.kind ≡ ack_in_width (is_long packet.header.number) frame.ack
  ack-spelled = subst (λ (p : Parts). ack_of p.header.kind ≡ ack_in_width (is_long p.header.number) frame.ack) same spells.ack
