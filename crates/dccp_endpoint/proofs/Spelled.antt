-- The bytes of a frame spell the numbers that are told with it.
use Rattle.std.proofs.Common.{◌≡◌, refl, ap, sym, ◌∙◌, subst, ℕ, ◌%◌, ◌^◌, ◌&&◌, not, Bool, true, false, Option, Some, None, arith}
use Rattle.std.proofs.lemmas.Bool.{and_parts}
use Rattle.std.proofs.lemmas.Option.{same_Some}
use Rattle.std.specs.List.{list_any}
use Rattle.dccp_packets.specs.Forms.{in_form, may_be_short, number_in_form}
use Rattle.dccp_packets.specs.Grammar.{decoded, has_forms, is_long, packet_type, padded}
use Rattle.dccp_packets.specs.Kinds.{ack_of, value_of}
use Rattle.dccp_packets.specs.Outgoing.{Outgoing}
use Rattle.dccp_packets.specs.Widths.{in_widths, kind_in_widths, number_in_width}
use Rattle.dccp_packets.specs.declared.header.Kind.{Kind}
use Rattle.dccp_packets.specs.declared.header.Kind.TheVariants as kind
use Rattle.dccp_packets.specs.declared.header.Number.TheVariants.{Long, Short}
use Rattle.dccp_options.specs.Written.{written}
use Rattle.dccp_endpoint.specs.Causes.{HasFrame, IsSending, Refuses}
use Rattle.dccp_endpoint.specs.Drafts.{Draft, IsSendable, alone, frame_of, own_header, sent_of}
use Rattle.dccp_endpoint.specs.Effects.{Effect, Transmission, Silent, Next, WithoutConnection, end_after, frame_by}
use Rattle.dccp_endpoint.specs.End.{EndState}
use Rattle.dccp_endpoint.specs.Inputs.{Input}
use Rattle.dccp_endpoint.specs.Receiving.{number_without_connection}
use Rattle.dccp_endpoint.specs.ShortForm.{allows_short, goes_short, is_negotiating}
use Rattle.dccp_endpoint.specs.Spelled.{FramesSpellWhatIsTold, IsSpelled, ack_in_width, in_width}
use Rattle.dccp_endpoint.specs.Steps.{next_number}
use Rattle.dccp_endpoint.specs.declared.config.Config.{Config}
use Rattle.dccp_endpoint.proofs.Calling.{every_step_has_an_effect}
use Rattle.dccp_endpoint.proofs.OwnFrames.{own_frames_read_in_widths}

cut-again : (n : ℕ) → n % 2 ^ 24 % 2 ^ 24 ≡ n % 2 ^ 48 % 2 ^ 24
cut-again n = omega arith

pub number-spells : (short : Bool) (number : ℕ) → value_of (number_in_width (number_in_form short number))
    ≡ in_width (is_long (number_in_width (number_in_form short number))) (number % 2 ^ 48)
number-spells true number = cut-again number
number-spells false number = refl

width-kept : (ack : Option ℕ) → ack ≡ ack_in_width true ack
width-kept None = refl
width-kept (Some ack) = refl

-- the acknowledgement number that a packet in the form spells
pub ack-spells : (short : Bool) (number : ℕ) (k : Kind) → has_forms true k ≡ true → (short ≡ true → may_be_short (packet_type k) ≡ true)
    → ack_of (kind_in_widths (in_form short k)) ≡ ack_in_width (is_long (number_in_width (number_in_form short number))) (ack_of (kind_in_widths k))
ack-spells false number k long may = width-kept (ack_of (kind_in_widths k))
ack-spells true number kind.Data long may = refl
ack-spells true number (kind.Ack (Long ack)) long may = ap Some (cut-again ack)
ack-spells true number (kind.Ack (Short ack)) long may = cc long
ack-spells true number (kind.DataAck (Long ack)) long may = ap Some (cut-again ack)
ack-spells true number (kind.DataAck (Short ack)) long may = cc long
ack-spells true number _ long may = cc (may refl)

-- the frame of a draft spells its numbers
abbrev pub draft-spelled : (config : Config) (short : Bool) (number : ℕ) (draft : Draft) (sent : Outgoing) → IsSendable draft
    → (short ≡ true → may_be_short (packet_type draft.kind) ≡ true) → sent.bytes ≡ frame_of config short number draft → sent.number ≡ number % 2 ^ 48
    → sent.ack ≡ ack_of (kind_in_widths draft.kind) → IsSpelled sent
draft-spelled config short number draft sent sendable may same numbered acks =
    let read = own_frames_read_in_widths config short number draft sendable may in
    let long : Bool = is_long (number_in_width (number_in_form short number)) in
    record {
      packet =
          record {
            header = record (in_widths (own_header config short number draft.kind)) { checksum = read.sum };
            options = padded (written draft.options);
            payload = draft.payload;
          };
      is_packet = ap decoded same ∙ read.is_packet;
      number = number-spells short number ∙ ap (in_width long) (sym numbered);
      ack = ack-spells short number draft.kind sendable.is_long may ∙ ap (ack_in_width long) (sym acks);
    }

-- What goes short is of a type that may.
pub goes-may : (e : EndState) (draft : Draft) → goes_short e draft ≡ true → may_be_short (packet_type draft.kind) ≡ true
goes-may e draft short =
    (and_parts (may_be_short (packet_type draft.kind)) (allows_short e && not (list_any is_negotiating draft.options)) short).0

-- the number of a packet of no connection is a number
pub without-kept : (ack : Option ℕ) → number_without_connection ack ≡ number_without_connection ack % 2 ^ 48
without-kept None = refl
without-kept (Some ack) = omega arith

-- so is that of the next packet
pub next-kept : (e : EndState) → next_number e ≡ next_number e % 2 ^ 48
next-kept e = omega arith

-- by what goes out
sending-spelled : (e : EndState) (given : Input) (f : Effect) (s : Transmission) (sent : Outgoing) → IsSending e given f s → HasFrame s
    → frame_by e f s ≡ Some sent → IsSpelled sent
sending-spelled e given f Silent sent sends framed is = cc is
sending-spelled e given f (Next draft) sent sends framed is =
    let short : Bool = goes_short (end_after e f) draft in
    subst IsSpelled (same_Some (sent_of e.config short (next_number e) draft) sent is)
    (draft-spelled e.config short (next_number e) draft _ framed (goes-may (end_after e f) draft) refl (next-kept e) refl)
sending-spelled e given f (WithoutConnection number k) sent (Refuses a code came without unheard turns unmoved) framed is =
    subst IsSpelled (same_Some (sent_of e.config false number (alone k)) sent is)
    (draft-spelled e.config false number (alone k) _ framed (λ short. cc short) refl (without-kept a.ack) refl)

pub told_numbers_are_spelled : FramesSpellWhatIsTold
told_numbers_are_spelled e given sent proper is =
    let has = every_step_has_an_effect e given proper in
    sending-spelled e given has.effect has.effect.sending sent has.because.sends has.because.framed (sym has.frame_is ∙ is)
