-- The frame of a packet that is a type alone comes at the end for which it is meant, as it was meant.
use Rattle.std.proofs.Common.{map, Ok, ◌≡◌, refl, ap, ◌∙◌, ◌==◌, ◌&&◌, ℕ, ◌^◌, ◌<◌, List, true, false, Option, arith}
use Rattle.std.proofs.lemmas.Bool.{eq-eqb}
use Rattle.std.proofs.Math.Bool.{and-false}
use Rattle.std.specs.Result.{result_ok}
use Rattle.dccp_packets.specs.Forms.{ack_near, may_be_short}
use Rattle.dccp_packets.specs.Grammar.{KindFits, Parts, has_forms, packet_type, padded}
use Rattle.dccp_packets.specs.Kinds.{ack_of}
use Rattle.dccp_packets.specs.Widths.{HasDetail}
use Rattle.dccp_packets.specs.declared.header.Kind.{Kind}
use Rattle.dccp_options.specs.Written.{entries_at, written}
use Rattle.dccp_sum.specs.Checksum.{checked}
use Rattle.dccp_sum.specs.declared.pseudo_header.Pseudo.{Pseudo}
use Rattle.dccp_endpoint.specs.Causes.{Came}
use Rattle.dccp_endpoint.specs.Drafts.{Draft, Fits, IsSendable, alone, frame_of, own_header}
use Rattle.dccp_endpoint.specs.End.{EndState}
use Rattle.dccp_endpoint.specs.Incoming.{Incoming, incoming, is_newest}
use Rattle.dccp_endpoint.specs.Inputs.{Arrives}
use Rattle.dccp_endpoint.specs.Receiving.{takes_short}
use Rattle.dccp_endpoint.specs.declared.config.Config.{Config}
use Rattle.dccp_endpoint.proofs.OwnFrames.{alone-sendable, own_frames_read}
use Rattle.two_ends.specs.Frames.{is_short_packet, packet_of}
use Rattle.two_ends.specs.World.{is_far_frame}
use Rattle.two_ends.specs.declared.frames.SentFrame.{SentFrame}
use Rattle.two_ends_progress.specs.Paired.{IsSentTo}

-- A type whose packets have long numbers alone, with fields that fit.
pub record IsBare (k : Kind) : Type 0 where
  pub is_long : has_forms true k ≡ true
  pub detail : HasDetail k
  pub fits : KindFits k
  pub never_short : may_be_short (packet_type k) ≡ false
  pub acks : (reference : ℕ) → ack_near reference k ≡ ack_of k

-- A draft that any end reads as it was meant, with long numbers.
pub record IsPlain (d : Draft) : Type 0 where
  pub sendable : IsSendable d
  pub fits : KindFits d.kind
  pub acks : (reference : ℕ) → ack_near reference d.kind ≡ ack_of d.kind

pub bare-plain : (k : Kind) → IsBare k → IsPlain (alone k)
bare-plain k bare = record { sendable = alone-sendable k bare.is_long bare.detail; fits = bare.fits; acks = bare.acks }

-- A packet came that is this draft's, under this number.
pub record IsRead (e : EndState) (bytes : List ℕ) (number : ℕ) (d : Draft) : Type 0 where
  pub packet : Incoming
  pub came : Came e (Arrives bytes) packet
  pub type_is : packet.kind ≡ packet_type d.kind
  pub numbered : packet.number ≡ number
  pub acks : packet.ack ≡ ack_of d.kind
  pub listed : packet.options ≡ map Ok (entries_at 0 d.options)
  pub newest_is : packet.newest ≡ is_newest e number
  pub is_long : is_short_packet (packet_of bytes) ≡ false

-- a type alone
abbrev pub IsHere : EndState → List ℕ → ℕ → Kind → Type 0
IsHere e bytes number k = IsRead e bytes number (alone k)

pub both-same : (a b c d : ℕ) → a ≡ b → c ≡ d → ((a == b) && (c == d)) ≡ true
both-same a b c d left right = rw (eq-eqb a b left, eq-eqb c d right) refl

pub draft-read : (from : Config) (e : EndState) (number : ℕ) (d : Draft) → IsSentTo from e.config → Fits from → number < 2 ^ 48 → IsPlain d
    → IsRead e (frame_of from false number d) number d
draft-read from e number d meant fits small plain =
    let bytes : List ℕ = frame_of from false number d in
    let read = own_frames_read from false number d fits small plain.fits plain.sendable (λ short. cc short) in
    let p : Parts =
    record { header = record (own_header from false number d.kind) { checksum = read.sum }; options = padded (written d.options); payload = d.payload } in
    record {
      packet = incoming e bytes p number;
      came =
          record {
            bytes = bytes;
            packet = p;
            number = number;
            is_given = refl;
            is_packet = read.is_packet;
            sum_fits = ap (λ (pseudo : Pseudo). checked pseudo bytes) meant.addresses ∙ read.is_accepted;
            is_ours = both-same from.own_port e.config.peer_port from.peer_port e.config.own_port meant.source meant.target;
            reads = refl;
            same = refl;
          };
      type_is = refl;
      numbered = refl;
      acks = plain.acks e.marks.gss;
      listed = read.are_listed;
      newest_is = refl;
      is_long = ap (λ (r : Option Parts). is_short_packet r) (ap result_ok read.is_packet);
    }

-- no frame with long numbers is far
pub long-near : (e : EndState) (frame : SentFrame) → is_short_packet (packet_of frame.bytes) ≡ false → is_far_frame e frame ≡ false
long-near e frame long = rw long (and-false (takes_short e))
