-- The frame of a draft is read as the draft.
use Rattle.std.proofs.Common.{◌≡◌, ℕ, ◌+◌, ◌<◌, ◌≤◌, ◌^◌, Bool, true, false, List, [], length, map, Ok, refl, ap, sym, ◌∙◌, subst, arith}
use Rattle.std.proofs.lemmas.List.Elements.{All-nil}
use Rattle.dccp_options.specs.Grammar.{options_of}
use Rattle.dccp_options.specs.Written.{Item, IsWritable, written, entries_at}
use Rattle.dccp_options.proofs.ReadBack.{options_of-written}
use Rattle.dccp_packets.specs.Forms.{in_form, may_be_short}
use Rattle.dccp_packets.specs.Grammar as packets
use Rattle.dccp_packets.specs.Grammar.{KindFits, fixed_length, has_forms, header_length, packet_type, padded}
use Rattle.dccp_packets.specs.Widths.{HasDetail, in_widths, kind_in_widths}
use Rattle.dccp_packets.specs.declared.header.Header.{Header}
use Rattle.dccp_packets.specs.declared.header.Kind.{Kind}
use Rattle.dccp_packets.specs.declared.header.Kind.TheVariants as kind
use Rattle.dccp_packets.specs.declared.header.PacketType.{PacketType}
use Rattle.dccp_packets.proofs.ReadBack.{header-kept}
use Rattle.dccp_packets.proofs.Shortened.{detail_in_form, kind_fits, number_fits, type_in_form}
use Rattle.dccp_endpoint.specs.Drafts.{Draft, Fits, IsSendable, ReadsAs, alone, frame_of, framed, own_header}
use Rattle.dccp_packets.specs.Kinds.{is_data}
use Rattle.dccp_endpoint.specs.declared.config.Config.{Config}
use Rattle.dccp_endpoint.proofs.AnyFrames.{sealed-read}
use Rattle.dccp_endpoint.proofs.Frames.{fixed_part_is_short}
use Rattle.dccp_endpoint.proofs.Short.{is_formed, no_longer}

-- on Data, too, an area with no options is listed as such
listed : (on_data : Bool) (items : List Item) → (on_data ≡ true → items ≡ []) → options_of (padded (written items)) false ≡ map Ok (entries_at 0 items)
    → options_of (padded (written items)) on_data ≡ map Ok (entries_at 0 items)
listed false items none is = is
listed true items none is =
    subst (λ (xs : List Item). options_of (padded (written xs)) true ≡ map Ok (entries_at 0 xs)) (sym (none refl)) refl

-- widths change no type
pub type-kept : (k : Kind) → packet_type (kind_in_widths k) ≡ packet_type k
type-kept kind.Data = refl
type-kept _ = refl

-- a header in either form leaves as much room
has_room : (config : Config) (short : Bool) (number : ℕ) (k : Kind) (area : List ℕ) → fixed_length true (packet_type k) + length (padded area) ≤ 1020
    → header_length (own_header config short number k) + length (padded area) ≤ 1020
has_room config short number k area room =
    let less : header_length (own_header config short number k) ≤ fixed_length true (packet_type k) = no_longer short number k in
    omega (arith, less, room)

-- in the widths of its form
pub own_frames_read_in_widths : (config : Config) (short : Bool) (number : ℕ) (draft : Draft) → IsSendable draft
    → (short ≡ true → may_be_short (packet_type draft.kind) ≡ true)
    → ReadsAs (in_widths (own_header config short number draft.kind)) config.pseudo_out draft (frame_of config short number draft)
unfolding framed
own_frames_read_in_widths config short number draft sendable may =
    let area : List ℕ = written draft.options in
    let read =
    sealed-read config.pseudo_out (own_header config short number draft.kind) area draft.payload refl (detail_in_form short draft.kind sendable.detail)
    (is_formed short number draft.kind sendable.is_long may) (has_room config short number draft.kind area sendable.area) in
    record {
      sum = read.sum;
      is_packet = read.is_packet;
      are_listed =
          ap (λ (t : PacketType). options_of (padded area) (is_data t)) (type-kept (in_form short draft.kind) ∙ type_in_form short draft.kind)
          ∙ listed (is_data (packet_type draft.kind)) draft.options sendable.on_data (options_of-written draft.options _ sendable.items);
      is_accepted = read.is_accepted;
    }

-- and as it is, where all fits
pub own_frames_read : (config : Config) (short : Bool) (number : ℕ) (draft : Draft) → Fits config → number < 2 ^ 48 → KindFits draft.kind → IsSendable draft
    → (short ≡ true → may_be_short (packet_type draft.kind) ≡ true)
    → ReadsAs (own_header config short number draft.kind) config.pseudo_out draft (frame_of config short number draft)
own_frames_read config short number draft fits small fields sendable may =
    let fit : packets.HeaderFits (own_header config short number draft.kind) =
    record {
      from = fits.own_port;
      to = fits.peer_port;
      checksum = omega arith;
      number = number_fits short number small;
      kind = kind_fits short draft.kind fields;
    } in
    subst (λ (h : Header). ReadsAs h config.pseudo_out draft (frame_of config short number draft))
    (header-kept (own_header config short number draft.kind) fit) (own_frames_read_in_widths config short number draft sendable may)

-- a type alone can be sent
pub alone-sendable : (k : Kind) → has_forms true k ≡ true → HasDetail k → IsSendable (alone k)
alone-sendable k is_long detail =
    let short = fixed_part_is_short true (packet_type k) in
    record {
      is_long = is_long;
      detail = detail;
      items = All-nil (λ (item : Item). IsWritable item);
      on_data = λ _. refl;
      area = omega (arith, short);
      data_fits = omega arith;
    }
