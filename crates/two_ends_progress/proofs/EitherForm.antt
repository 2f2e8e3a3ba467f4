-- The frame of a draft comes in either form of its numbers, if the end takes short ones and can read them in full.
use Rattle.std.proofs.Common.{map, Ok, ◌≡◌, refl, ap, sym, ◌∙◌, ◌&&◌, ◌||◌, not, ℕ, ◌-◌, ◌%◌, ◌^◌, ◌<◌, Bool, true, false, List, length, Option, arith}
use Rattle.std.proofs.lemmas.Bool.{or_parts}
use Rattle.std.specs.Result.{result_ok}
use Rattle.dccp_packets.specs.Forms.{may_be_short, number_in_form}
use Rattle.dccp_packets.specs.Grammar.{KindFits, Parts, decoded, is_long, packet_type, padded}
use Rattle.dccp_packets.specs.Kinds.{ack_of}
use Rattle.dccp_packets.specs.Widths.{kind_in_widths}
use Rattle.dccp_options.specs.Written.{entries_at, written}
use Rattle.dccp_sum.specs.Checksum.{checked}
use Rattle.dccp_sum.specs.declared.pseudo_header.Pseudo.{Pseudo}
use Rattle.dccp_endpoint.specs.Causes.{Came}
use Rattle.dccp_endpoint.specs.Drafts.{Draft, Fits, IsSendable, ReadsAs, frame_of, own_header}
use Rattle.dccp_endpoint.specs.End.{EndState}
use Rattle.dccp_endpoint.specs.InFull.{HasNearNumbers, IsInFull}
use Rattle.dccp_endpoint.specs.Incoming.{Incoming, incoming}
use Rattle.dccp_endpoint.specs.Inputs.{Arrives}
use Rattle.dccp_endpoint.specs.Receiving.{read_number, short_number, takes_short}
use Rattle.dccp_endpoint.specs.declared.config.Config.{Config}
use Rattle.dccp_endpoint.proofs.InFull.{read-in-full}
use Rattle.dccp_endpoint.proofs.OwnFrames.{own_frames_read}
use Rattle.seq_circle.specs.Circle.{is_ack_far, is_far, residue}
use Rattle.two_ends.specs.Frames.{is_short_packet, packet_of}
use Rattle.two_ends.specs.World.{is_far_frame}
use Rattle.two_ends.specs.declared.frames.SentFrame.{SentFrame}
use Rattle.two_ends_progress.specs.Paired.{IsSentTo}
use Rattle.two_ends_progress.proofs.Arriving.{both-same}

-- A packet came that is this draft's, under this number.
pub record IsReadAs (e : EndState) (bytes : List ℕ) (number : ℕ) (d : Draft) : Type 0 where
  pub packet : Incoming
  pub came : Came e (Arrives bytes) packet
  pub type_is : packet.kind ≡ packet_type d.kind
  pub numbered : packet.number ≡ number
  pub acks : packet.ack ≡ ack_of d.kind
  pub listed : packet.options ≡ map Ok (entries_at 0 d.options)
  pub parts : Parts
  pub is_packet : decoded bytes ≡ Ok parts
  pub payload_is : parts.payload ≡ d.payload
  pub placed : packet.data_place ≡ (length bytes - length d.payload, length bytes)

-- the number of a header that an end reads
reading : (e : EndState) (short : Bool) (number : ℕ) → (short ≡ true → takes_short e ≡ true)
    → (m : ℕ) × (read_number e (number_in_form short number) ≡ Ok m)
reading e false number takes = (number, refl)
reading e true number takes = (_, ap (λ (b : Bool). short_number b (number % 2 ^ 24) e.marks.gsr) (takes refl))

-- a short frame that is not far, at an end that takes it
near-parts : (takes short a b : Bool) → takes ≡ true → short ≡ true → (takes && (short && (a || b))) ≡ false → (a ≡ false) × (b ≡ false)
near-parts true true a b takes short is = or_parts a b is
near-parts false short a b takes is none = cc takes
near-parts true false a b takes short none = cc short

short-form : (short : Bool) (number : ℕ) → short ≡ true → not (is_long (number_in_form short number)) ≡ true
short-form true number is = refl
short-form false number is = cc is

pub either-read : (from : Config) (e : EndState) (number : ℕ) (d : Draft) (short : Bool) (frame : SentFrame) → IsSentTo from e.config → Fits from
    → number < 2 ^ 48 → e.marks.gsr < 2 ^ 48 → e.marks.gss < 2 ^ 48 → IsSendable d → KindFits d.kind → ack_of (kind_in_widths d.kind) ≡ ack_of d.kind
    → (short ≡ true → may_be_short (packet_type d.kind) ≡ true) → (short ≡ true → takes_short e ≡ true)
    → frame.bytes ≡ frame_of from short number d → frame.number ≡ number → frame.ack ≡ ack_of (kind_in_widths d.kind)
    → is_far_frame e frame ≡ false → IsReadAs e frame.bytes number d
either-read from e number d short frame meant fits small gsr_fits gss_fits sendable fields widths may takes same numbered acked near =
    record {
      packet = a;
      came = came;
      type_is = full.type_is;
      numbered = full.number_is ∙ whole;
      acks = full.ack_is ∙ widths;
      listed = read.are_listed;
      parts = p;
      is_packet = is_packet;
      payload_is = refl;
      placed = refl;
    }
  where
    bytes : List ℕ
    bytes = frame.bytes

    read : ReadsAs (own_header from short number d.kind) from.pseudo_out d (frame_of from short number d)
    read = own_frames_read from short number d fits small fields sendable may

    p : Parts
    p = record { header = record (own_header from short number d.kind) { checksum = read.sum }; options = padded (written d.options); payload = d.payload }

    is_packet : decoded bytes ≡ Ok p
    is_packet = ap decoded same ∙ read.is_packet

    at : (m : ℕ) × (read_number e (number_in_form short number) ≡ Ok m)
    at = reading e short number takes

    a : Incoming
    a = incoming e bytes p at.0

    came : Came e (Arrives bytes) a
    came =
        record {
          bytes = bytes;
          packet = p;
          number = at.0;
          is_given = refl;
          is_packet = is_packet;
          sum_fits =
              ap (λ (pseudo : Pseudo). checked pseudo bytes) meant.addresses ∙ ap (checked from.pseudo_out) same ∙ read.is_accepted;
          is_ours = both-same from.own_port e.config.peer_port from.peer_port e.config.own_port meant.source meant.target;
          reads = at.1;
          same = refl;
        }

    whole : residue number ≡ number
    whole = omega (arith, small)

    near-so : short ≡ true → takes_short e ≡ true → HasNearNumbers e (residue number) (ack_of (kind_in_widths d.kind))
    near-so is taken =
        let form : is_short_packet (packet_of bytes) ≡ true = ap (λ (r : Option Parts). is_short_packet r) (ap result_ok is_packet) ∙ short-form short number is in
        let parts = near-parts (takes_short e) (is_short_packet (packet_of bytes)) (is_far frame.number e.marks.gsr) (is_ack_far frame.ack e.marks.gss) taken form near in
        record {
          gsr_fits = gsr_fits;
          gss_fits = gss_fits;
          number_is_near = ap (λ (n : ℕ). is_far n e.marks.gsr) (whole ∙ sym numbered) ∙ parts.0;
          ack_is_near = ap (λ (n : Option ℕ). is_ack_far n e.marks.gss) (sym acked) ∙ parts.1;
        }

    full : IsInFull number d a
    full = read-in-full e (Arrives bytes) a came from short number d sendable may same near-so
