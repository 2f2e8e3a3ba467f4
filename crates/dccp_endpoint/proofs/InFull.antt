-- The frame of a draft is read in full, in either form of numbers.
use Rattle.std.proofs.Common.{◌≡◌, ℕ, ◌%◌, ◌^◌, ◌<◌, Bool, true, false, Some, Ok, refl, ap, sym, ◌∙◌}
use Rattle.std.proofs.lemmas.Option.{same_Some}
use Rattle.std.specs.Result.{result_ok}
use Rattle.dccp_options.specs.Written.{written}
use Rattle.seq_circle.proofs.NotFar.{finds-cut}
use Rattle.seq_circle.specs.Circle.{extended, is_ack_far, is_far}
use Rattle.dccp_packets.specs.Forms.{ack_near, in_form, number_in_form}
use Rattle.dccp_packets.specs.Grammar.{Parts, decoded, has_forms, packet_type, padded}
use Rattle.dccp_packets.specs.Kinds.{ack_of}
use Rattle.dccp_packets.specs.Widths.{in_widths, kind_in_widths, number_in_width}
use Rattle.dccp_packets.specs.declared.header.Kind.{Kind}
use Rattle.dccp_packets.specs.declared.header.Kind.TheVariants as kind
use Rattle.dccp_packets.specs.declared.header.Number.TheVariants.{Long, Short}
use Rattle.dccp_packets.proofs.Shortened.{type_in_form}
use Rattle.dccp_endpoint.specs.Drafts.{Draft, own_header}
use Rattle.dccp_endpoint.specs.End.{EndState}
use Rattle.dccp_endpoint.specs.InFull.{FramesAreReadInFull}
use Rattle.dccp_endpoint.specs.Incoming.{Incoming}
use Rattle.dccp_endpoint.specs.Receiving.{read_number, short_number, takes_short}
use Rattle.dccp_endpoint.specs.declared.config.Config.{Config}
use Rattle.dccp_endpoint.proofs.OwnFrames.{own_frames_read_in_widths, type-kept}

-- a short number that is read is taken
is-taken : (taken : Bool) (n gsr read : ℕ) → short_number taken n gsr ≡ Ok read → taken ≡ true
is-taken true n gsr read reads = refl
is-taken false n gsr read reads = cc reads

found : (taken : Bool) (number gsr read : ℕ) → short_number taken (number % 2 ^ 24 % 2 ^ 24) gsr ≡ Ok read → (taken ≡ true → gsr < 2 ^ 48)
    → (taken ≡ true → is_far (number % 2 ^ 48) gsr ≡ false) → read ≡ number % 2 ^ 48
found true number gsr read reads within near =
    sym (same_Some (extended (number % 2 ^ 24 % 2 ^ 24) gsr) read (ap result_ok reads)) ∙ finds-cut number gsr (within refl) (near refl)
found false number gsr read reads within near = cc reads

-- a number in the form, once it is read
pub number-full : (e : EndState) (short : Bool) (number read : ℕ) → read_number e (number_in_width (number_in_form short number)) ≡ Ok read
    → (short ≡ true → takes_short e ≡ true → e.marks.gsr < 2 ^ 48)
    → (short ≡ true → takes_short e ≡ true → is_far (number % 2 ^ 48) e.marks.gsr ≡ false) → read ≡ number % 2 ^ 48
number-full e true number read reads within near = found (takes_short e) number e.marks.gsr read reads (within refl) (near refl)
number-full e false number read reads within near = sym (same_Some (number % 2 ^ 48) read (ap result_ok reads))

-- an acknowledgement number in the form, once it is read
pub ack-full : (short : Bool) (k : Kind) (gss : ℕ) → has_forms true k ≡ true → (short ≡ true → gss < 2 ^ 48)
    → (short ≡ true → is_ack_far (ack_of (kind_in_widths k)) gss ≡ false) → ack_near gss (kind_in_widths (in_form short k)) ≡ ack_of (kind_in_widths k)
ack-full short (kind.Ack (Short ack)) gss long within near = cc long
ack-full short (kind.DataAck (Short ack)) gss long within near = cc long
ack-full true (kind.Ack (Long ack)) gss long within near = ap Some (finds-cut ack gss (within refl) (near refl))
ack-full true (kind.DataAck (Long ack)) gss long within near = ap Some (finds-cut ack gss (within refl) (near refl))
ack-full false (kind.Ack (Long ack)) gss long within near = refl
ack-full true _ gss long within near = refl
ack-full false _ gss long within near = refl

-- the packet that the frame of a draft is read as
abbrev pub parts_in : Config → Bool → ℕ → Draft → ℕ → Parts
parts_in config short number draft sum =
    record {
      header = record (in_widths (own_header config short number draft.kind)) { checksum = sum };
      options = padded (written draft.options);
      payload = draft.payload;
    }

taken-if : (e : EndState) (short : Bool) (number read : ℕ) → read_number e (number_in_width (number_in_form short number)) ≡ Ok read
    → short ≡ true → takes_short e ≡ true
taken-if e true number read reads is = is-taken (takes_short e) (number % 2 ^ 24 % 2 ^ 24) e.marks.gsr read reads
taken-if e false number read reads is = cc is

-- for every draft
pub read-in-full : FramesAreReadInFull
read-in-full e given a came config short number draft sendable may bytes near =
    let read = own_frames_read_in_widths config short number draft sendable may in
    let packet : came.packet ≡ parts_in config short number draft read.sum =
    same_Some came.packet (parts_in config short number draft read.sum)
    (ap result_ok (sym came.is_packet ∙ (ap decoded bytes ∙ read.is_packet))) in
    let reads : read_number e (number_in_width (number_in_form short number)) ≡ Ok came.number =
    sym (ap (λ (p : Parts). read_number e p.header.number) packet) ∙ came.reads in
    let taken : (short ≡ true → takes_short e ≡ true) = taken-if e short number came.number reads in
    record {
      number_is =
          ap (λ (x : Incoming). x.number) came.same
          ∙ number-full e short number came.number reads (λ is takes. (near is takes).gsr_fits) (λ is takes. (near is takes).number_is_near);
      type_is =
          ap (λ (x : Incoming). x.kind) came.same ∙ ap (λ (p : Parts). packet_type p.header.kind) packet
          ∙ (type-kept (in_form short draft.kind) ∙ type_in_form short draft.kind);
      ack_is =
          ap (λ (x : Incoming). x.ack) came.same ∙ ap (λ (p : Parts). ack_near e.marks.gss p.header.kind) packet
          ∙ ack-full short draft.kind e.marks.gss sendable.is_long (λ is. (near is (taken is)).gss_fits) (λ is. (near is (taken is)).ack_is_near);
    }
