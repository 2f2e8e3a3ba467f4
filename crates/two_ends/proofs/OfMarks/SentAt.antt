-- The frame of a logged packet, and what is read in it.
use Rattle.std.proofs.Common.{◌≡◌, ◌≢◌, refl, ap, ◌∙◌, subst, ℕ, zero, suc, ◌+◌, ◌%◌, ◌^◌, Bool, true, false, List, ◌∷◌, Some, slice_get, arith}
use Rattle.std.specs.Prelude.{is_some}
use Rattle.std.proofs.lemmas.Option.{same_Some}
use Rattle.dccp_endpoint.specs.declared.config.Config.{Config}
use Rattle.dccp_endpoint.proofs.InFull.{parts_in}
use Rattle.dccp_endpoint.proofs.OwnFrames.{type-kept}
use Rattle.dccp_packets.proofs.Shortened.{type_in_form}
use Rattle.dccp_packets.specs.Forms.{in_form}
use Rattle.dccp_packets.specs.Grammar.{Parts, packet_type}
use Rattle.dccp_packets.specs.Kinds.{ack_of}
use Rattle.dccp_packets.specs.Widths.{kind_in_widths}
use Rattle.dccp_packets.specs.declared.header.Kind.{Kind}
use Rattle.dccp_packets.specs.declared.header.Kind.TheVariants as kind
use Rattle.dccp_packets.specs.declared.header.PacketType.TheVariants as types
use Rattle.seq_circle.specs.Circle.{residue}
use Rattle.two_ends.specs.Frames.{is_reset, packet_of}
use Rattle.two_ends.specs.declared.frames.SentFrame.{SentFrame}
use Rattle.two_ends.proofs.OfWorlds.Logged.{AreLogged, IsLogged, Logged, NoFrames, Numbered, Unnumbered}
use Rattle.two_ends.proofs.OfWorlds.ReadBack.{is-drafted}

-- the frame of the logged packet at this place
pub record IsSentAt (config : Config) (first : ℕ) (frames : List SentFrame) (place : ℕ) (l : Logged) : Type 0 where
  pub index : ℕ
  pub number : ℕ
  pub frame : SentFrame
  pub is_there : slice_get frames index ≡ Some frame
  pub is_logged : IsLogged config number frame l
  pub is_numbered : number ≡ residue (first + place)

following : (config : Config) (first place : ℕ) (frame : SentFrame) (frames : List SentFrame) (l : Logged) → IsSentAt config (first + 1) frames place l
    → IsSentAt config first (frame ∷ frames) (suc place) l
following config first place frame frames l s =
    record {
      index = suc s.index;
      number = s.number;
      frame = s.frame;
      is_there = s.is_there;
      is_logged = s.is_logged;
      is_numbered = omega (arith, s.is_numbered);
    }

after-other : (config : Config) (first place : ℕ) (frame : SentFrame) (frames : List SentFrame) (l : Logged) → IsSentAt config first frames place l
    → IsSentAt config first (frame ∷ frames) place l
after-other config first place frame frames l s =
    record { index = suc s.index; number = s.number; frame = s.frame; is_there = s.is_there; is_logged = s.is_logged; is_numbered = s.is_numbered }

-- the frame at a place of the log
pub sent-at : (config : Config) {first : ℕ} {frames : List SentFrame} {log : List Logged} (place : ℕ) (l : Logged) → AreLogged config first frames log
    → slice_get log place ≡ Some l → IsSentAt config first frames place l
sent-at config place l NoFrames there = cc there
sent-at config {first} {frames} zero l (Numbered number same here rest) there =
    subst (IsSentAt config first frames 0) (same_Some _ l there)
    (record { index = 0; number = number; frame = _; is_there = refl; is_logged = here; is_numbered = omega (arith, same) })
sent-at config {first} (suc place) l (Numbered number same here rest) there = following config first place _ _ l (sent-at config place l rest there)
sent-at config {first} place l (Unnumbered here rest) there = after-other config first place _ _ l (sent-at config place l rest there)

-- either form has an acknowledgement number, or none
some-kept : (short : Bool) (k : Kind) → is_some (ack_of (kind_in_widths (in_form short k))) ≡ is_some (ack_of (kind_in_widths k))
some-kept false k = refl
some-kept true (kind.Request service) = refl
some-kept true _ = refl

-- what is read in the frame of a logged packet, and the numbers that are kept of it
pub record IsReadIn (number : ℕ) (frame : SentFrame) (l : Logged) : Type 0 where
  pub packet : Parts
  pub is_packet : packet_of frame.bytes ≡ Some packet
  pub type_is : packet_type packet.header.kind ≡ packet_type l.draft.kind
  pub some_is : is_some (ack_of packet.header.kind) ≡ is_some (ack_of (kind_in_widths l.draft.kind))
  pub number_is : frame.number ≡ number % 2 ^ 48
  pub ack_is : frame.ack ≡ ack_of (kind_in_widths l.draft.kind)

-- what is read in it
pub read-in : (config : Config) (number : ℕ) (frame : SentFrame) (l : Logged) → IsLogged config number frame l → IsReadIn number frame l
read-in config number frame l is =
    let read = is-drafted config is.short number l.draft is.sendable is.form in
    record {
      packet = parts_in config is.short number l.draft read.sum;
      is_packet = ap (λ (f : SentFrame). packet_of f.bytes) is.same ∙ read.is_packet;
      type_is = type-kept (in_form is.short l.draft.kind) ∙ type_in_form is.short l.draft.kind;
      some_is = some-kept is.short l.draft.kind;
      number_is = ap (λ (f : SentFrame). f.number) is.same;
      ack_is = ap (λ (f : SentFrame). f.ack) is.same;
    }

-- a packet of another type is no Reset
pub no-reset : (k : Kind) → packet_type k ≢ types.Reset → is_reset k ≡ false
no-reset (kind.Reset ack code detail) other = absurd (other refl)
no-reset kind.Data other = refl
no-reset _ other = refl
