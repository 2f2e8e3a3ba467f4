-- The frames of an end report the drops of its inbox.
use Rattle.std.proofs.Common.{◌≡◌, ℕ, ◌-◌, ◌%◌, ◌^◌, ◌==◌, ◌&&◌, Bool, true, false, IsTrue, List, [], ◌∷◌, ◌++◌, length, map, Option, Some, None, Result, refl, ap, sym, ◌∙◌, subst, append-nil, All}
use Rattle.ack_vectors.specs.declared.room.Vectors.{Vectors}
use Rattle.std.proofs.Math.Nat.{mod-mod}
use Rattle.std.proofs.lemmas.List.Elements.{All-append, All-cons, All-nil}
use Rattle.std.proofs.lemmas.Option.{same_Some}
use Rattle.dccp_options.specs.Grammar.{Entry, options_of}
use Rattle.dccp_options.specs.declared.option.OptFault.{OptFault}
use Rattle.dccp_options.specs.Kinds.{data_dropped}
use Rattle.dccp_options.specs.Written.{Item, written}
use Rattle.dccp_packets.specs.Forms.{in_form, may_be_short, number_in_form}
use Rattle.dccp_packets.specs.Grammar.{Parts, has_forms, is_long, is_valid, packet_type, padded}
use Rattle.dccp_packets.specs.Kinds.{is_data}
use Rattle.dccp_packets.specs.Widths.{in_widths, kind_in_widths, number_in_width}
use Rattle.dccp_packets.specs.declared.header.Header.{Header}
use Rattle.dccp_packets.specs.declared.header.Kind.{Kind}
use Rattle.dccp_packets.specs.declared.header.Kind.TheVariants as kind
use Rattle.dccp_packets.specs.declared.header.Number.{Number}
use Rattle.dccp_packets.specs.declared.header.Number.TheVariants.{Long, Short}
use Rattle.dccp_packets.specs.declared.reading.Malformed.{Malformed}
use Rattle.dccp_packets.specs.Outgoing.{Outgoing}
use Rattle.dccp_packets.proofs.Pieces.{same_reset, same_response}
use Rattle.dccp_sum.specs.declared.pseudo_header.Pseudo.{Pseudo}
use Rattle.run_list.specs.MarkedSet.{MarkedSet}
use Rattle.dccp_endpoint.specs.Causes.{HasEffect, HasFrame, Says, SaysNothing, SaysAll, SaysApart, vector_of}
use Rattle.dccp_endpoint.specs.Drafts.{Draft, IsSendable, ReadsAs, alone, own_header, sent_of}
use Rattle.dccp_endpoint.specs.Effects.{Effect, Transmission, end_after, frame_by, greatest_by, rows_by, told_by}
use Rattle.dccp_endpoint.specs.End.{EndState, IsProper}
use Rattle.dccp_endpoint.specs.Heeding.{DueConfirm}
use Rattle.dccp_endpoint.specs.Inputs.{Input, end_stepped}
use Rattle.dccp_endpoint.specs.Reporting.{is_acking, sends_vectors, vector_item, vector_items}
use Rattle.dccp_endpoint.specs.Steps.{next_number}
use Rattle.dccp_endpoint.specs.ShortForm.{goes_short}
use Rattle.dccp_endpoint.specs.Speaking.{change_item, change_items, change_type, confirm_item, confirm_items, confirm_type}
use Rattle.dccp_endpoint.specs.Turns.{Key}
use Rattle.dccp_endpoint.specs.declared.config.Config.{Config}
use Rattle.dccp_endpoint.proofs.Calling.{every_step_has_an_effect}
use Rattle.dccp_endpoint.proofs.OwnFrames.{own_frames_read_in_widths}
use Rattle.dccp_endpoint.proofs.OwnPackets.{parts-are, vector_parts}
use Rattle.dccp_endpoint.proofs.Short.{is_formed}
use Rattle.dccp_endpoint.proofs.Spelled.{goes-may}
use Rattle.feature_lists.specs.declared.features.Place.{Place}
use Rattle.feature_lists.specs.declared.features.Place.TheVariants.{Here, There}
use Rattle.feature_machine.specs.Negotiating.{row_at}
use Rattle.feature_machine.specs.declared.row.Row.{Row}
use Rattle.data_dropped.specs.Drops.{drop_bytes}
use Rattle.dccp_endpoint.specs.Lengthening.{lengthened, lengthened_if, says_more}
use Rattle.data_dropped.specs.Frames.{acknowledged_by, buffered_ack, buffered_packet, buffered_sent, said}
use Rattle.data_dropped.specs.Inbox.{InboxState}
use Rattle.data_dropped.specs.Reports.{drop_options}
use Rattle.data_dropped.specs.Telling.{IsPassedOver, TellsItsDrops, options_in_packet, told_by_ack, told_if}
use Rattle.data_dropped.proofs.ReportAfter.{IsOther, area-lists, area-tells, after-passed, listed-after, others-tell_nothing}
use Rattle.data_dropped.proofs.Frames.{lengthened-read}

-- an end's own options are of other types
parts-other : (parts : List (List ℕ)) → All IsOther (map vector_item parts)
parts-other [] = All-nil IsOther
parts-other (part ∷ parts) = All-cons IsOther (vector_item part) (map vector_item parts) refl (parts-other parts)

vector-other : (has_vector : Bool) (vectors : Vectors) (set : MarkedSet) (greatest : ℕ) → All IsOther (vector_items has_vector vectors set greatest)
vector-other has_vector vectors set greatest =
    subst (λ (items : List Item). All IsOther items) (sym (parts-are has_vector vectors set greatest))
    (parts-other (vector_parts has_vector vectors set greatest))

confirm-other : (left : Bool) → (confirm_type left == data_dropped) ≡ false
confirm-other true = refl
confirm-other false = refl

confirms-other : (confirms : List DueConfirm) → All IsOther (confirm_items confirms)
confirms-other [] = All-nil IsOther
confirms-other (due ∷ rest) = All-cons IsOther (confirm_item due) (confirm_items rest) (confirm-other due.left) (confirms-other rest)

change-other : (place : Place) → (change_type place == data_dropped) ≡ false
change-other Here = refl
change-other There = refl

changes-other : (rows : List Row) (keys : List Key) → All IsOther (change_items rows keys)
changes-other rows [] = All-nil IsOther
changes-other rows (k ∷ keys) =
    All-cons IsOther (change_item k (row_at rows k.0 k.1)) (change_items rows keys) (change-other k.1) (changes-other rows keys)

own-other : (e : EndState) (f : Effect) (k : Kind) (confirms : List DueConfirm) (keys : List Key)
    → All IsOther (vector_of e f k ++ (confirm_items confirms ++ change_items (rows_by e.rows f) keys))
own-other e f k confirms keys =
    All-append IsOther (vector_of e f k) (confirm_items confirms ++ change_items (rows_by e.rows f) keys)
    (vector-other (is_acking (packet_type k) && sends_vectors (rows_by e.rows f)) e.config.vectors (told_by e.received f).set
    (greatest_by e.marks.gsr f.hearing))
    (All-append IsOther (confirm_items confirms) (change_items (rows_by e.rows f) keys) (confirms-other confirms) (changes-other (rows_by e.rows f) keys))

-- the header of an own frame is valid as it is read
long-kept : (n : Number) → is_long (number_in_width n) ≡ is_long n
long-kept (Long n) = refl
long-kept (Short n) = refl

forms-kept : (long : Bool) (k : Kind) → has_forms long (kind_in_widths k) ≡ has_forms long k
forms-kept long (kind.Ack (Long n)) = refl
forms-kept long (kind.Ack (Short n)) = refl
forms-kept long (kind.DataAck (Long n)) = refl
forms-kept long (kind.DataAck (Short n)) = refl
forms-kept long kind.Data = refl
forms-kept long _ = refl

valid-read : (short : Bool) (number : ℕ) (k : Kind) → has_forms true k ≡ true → (short ≡ true → may_be_short (packet_type k) ≡ true)
    → has_forms (is_long (number_in_width (number_in_form short number))) (kind_in_widths (in_form short k)) ≡ true
valid-read short number k long may =
    ap (λ (b : Bool). has_forms b (kind_in_widths (in_form short k))) (long-kept (number_in_form short number))
    ∙ forms-kept (is_long (number_in_form short number)) (in_form short k) ∙ is_formed short number k long may

-- read once more, its number, type and fields are the same
number-again : (n : Number) → number_in_width (number_in_width n) ≡ number_in_width n
number-again (Long n) = ap Long (mod-mod n (2 ^ 48))
number-again (Short n) = ap Short (mod-mod n (2 ^ 24))

kind-again : (k : Kind) → kind_in_widths (kind_in_widths k) ≡ kind_in_widths k
kind-again (kind.Request service) = ap kind.Request (mod-mod service (2 ^ 32))
kind-again (kind.Response ack service) = same_response (mod-mod ack (2 ^ 48)) (mod-mod service (2 ^ 32))
kind-again kind.Data = refl
kind-again (kind.Ack ack) = ap kind.Ack (number-again ack)
kind-again (kind.DataAck ack) = ap kind.DataAck (number-again ack)
kind-again (kind.CloseReq ack) = ap kind.CloseReq (mod-mod ack (2 ^ 48))
kind-again (kind.Close ack) = ap kind.Close (mod-mod ack (2 ^ 48))
kind-again (kind.Reset ack code detail) = same_reset (mod-mod ack (2 ^ 48)) refl refl
kind-again (kind.Sync ack) = ap kind.Sync (mod-mod ack (2 ^ 48))
kind-again (kind.SyncAck ack) = ap kind.SyncAck (mod-mod ack (2 ^ 48))

acking-no_data : (told : Option ℕ) (ack : ℕ) (k : Kind) → acknowledged_by told k ≡ Some ack → is_data (packet_type (kind_in_widths k)) ≡ false
acking-no_data told ack kind.Data is = absurd cc
acking-no_data told ack _ is = refl

module _ (config : Config) (short : Bool) (number : ℕ) (draft : Draft) (held : InboxState) (sendable : IsSendable draft)
    (may : short ≡ true → may_be_short (packet_type draft.kind) ≡ true) (others : All IsOther draft.options) where
  abbrev header : Header
  header = in_widths (own_header config short number draft.kind)

  abbrev own : Outgoing
  own = sent_of config short number draft

  abbrev parts : ℕ → Parts
  parts sum = record { header = record header { checksum = sum }; options = padded (written draft.options); payload = draft.payload }

  -- it goes out as it is
  stays-telling : (read : ReadsAs header config.pseudo_out draft own.bytes) (told : List (List ℕ))
      → told ≡ told_by_ack held (parts read.sum) (acknowledged_by own.ack header.kind) → told ≡ [] → TellsItsDrops config.pseudo_out held own own
  stays-telling read told is none =
      record {
        before = parts read.sum;
        packet = parts read.sum;
        was_packet = read.is_packet;
        is_packet = read.is_packet;
        was_accepted = read.is_accepted;
        is_accepted = read.is_accepted;
        same_told = refl;
        same_from = refl;
        same_to = refl;
        same_number = refl;
        same_kind = refl;
        same_data = refl;
        more = [];
        following = sym (append-nil (options_in_packet (parts read.sum)));
        are_passed_over = All-nil IsPassedOver;
        tells = ap drop_options read.are_listed ∙ others-tell_nothing 0 draft.options others ∙ sym none ∙ is;
      }

  -- it goes out with more options
  longer-telling : (read : ReadsAs header config.pseudo_out draft own.bytes) (ack : ℕ) → acknowledged_by own.ack header.kind ≡ Some ack
      → says_more (parts read.sum) (said held ack) ≡ true
      → TellsItsDrops config.pseudo_out held own (record own { bytes = lengthened config.pseudo_out (parts read.sum) (said held ack) })
  longer-telling read ack acks says =
      let p : Parts = parts read.sum in
      let valid : IsTrue (is_valid p.header) = valid-read short number draft.kind sendable.is_long may in
      let sealed = lengthened-read config.pseudo_out own.ack ack p (said held ack) acks refl valid says in
      let area : List ℕ = padded (p.options ++ said held ack) in
      let zeros : ℕ = (4 - length (written draft.options) % 4) % 4 in
      record {
        before = p;
        packet = record { header = record (in_widths p.header) { checksum = sealed.sum }; options = area; payload = p.payload };
        was_packet = read.is_packet;
        is_packet = sealed.is_packet;
        was_accepted = read.is_accepted;
        is_accepted = sealed.is_accepted;
        same_told = refl;
        same_from = mod-mod (own_header config short number draft.kind).from (2 ^ 16);
        same_to = mod-mod (own_header config short number draft.kind).to (2 ^ 16);
        same_number = number-again (number_in_form short number);
        same_kind = kind-again (in_form short draft.kind);
        same_data = refl;
        more = listed-after draft.options zeros held ack;
        following = ap (λ (b : Bool). options_of area b) (acking-no_data own.ack ack header.kind acks)
            ∙ area-lists draft.options zeros held ack sendable.items
            ∙ ap (λ (front : List (Result Entry OptFault)). front ++ listed-after draft.options zeros held ack) (sym read.are_listed);
        are_passed_over = after-passed draft.options zeros held ack;
        tells = ap (λ (b : Bool). drop_options (options_of area b)) (acking-no_data own.ack ack header.kind acks)
            ∙ area-tells draft.options zeros held ack sendable.items others
            ∙ sym (ap (λ (b : Bool). told_if b (drop_bytes held.drops ack)) says)
            ∙ sym (ap (told_by_ack held p) acks);
      }

  by-says : (read : ReadsAs header config.pseudo_out draft own.bytes) (ack : ℕ) (says : Bool) → acknowledged_by own.ack header.kind ≡ Some ack
      → says_more (parts read.sum) (said held ack) ≡ says
      → TellsItsDrops config.pseudo_out held own (record own { bytes = lengthened_if says config.pseudo_out (parts read.sum) own.bytes (said held ack) })
  by-says read ack true acks says = longer-telling read ack acks says
  by-says read ack false acks says =
      stays-telling read (told_if false (drop_bytes held.drops ack))
      (sym (ap (λ (b : Bool). told_if b (drop_bytes held.drops ack)) says) ∙ sym (ap (told_by_ack held (parts read.sum)) acks)) refl

  by-ack : (read : ReadsAs header config.pseudo_out draft own.bytes) (ack : Option ℕ) → acknowledged_by own.ack header.kind ≡ ack
      → TellsItsDrops config.pseudo_out held own (record own { bytes = buffered_ack config.pseudo_out held (parts read.sum) own.bytes ack })
  by-ack read None acks = stays-telling read [] (sym (ap (told_by_ack held (parts read.sum)) acks)) refl
  by-ack read (Some ack) acks = by-says read ack (says_more (parts read.sum) (said held ack)) acks refl

  -- the frame of a draft, as it goes out
  pub draft-tells : TellsItsDrops config.pseudo_out held own (buffered_sent config.pseudo_out held own)
  draft-tells =
      let read = own_frames_read_in_widths config short number draft sendable may in
      subst (λ (bytes : List ℕ). TellsItsDrops config.pseudo_out held own (record own { bytes = bytes }))
      (sym (ap (λ (packet : Result Parts Malformed). buffered_packet config.pseudo_out own.ack held own.bytes packet) read.is_packet))
      (by-ack read (acknowledged_by own.ack header.kind) refl)

never : (draft : Draft) → false ≡ true → may_be_short (packet_type draft.kind) ≡ true
never draft is = absurd cc

-- what is sent
sending-tells : (held : InboxState) {e : EndState} {f : Effect} {confirms : List DueConfirm} {keys : List Key} {sending : Transmission}
    → Says e f confirms keys sending → HasFrame sending → (own : Outgoing) → frame_by e f sending ≡ Some own
    → TellsItsDrops e.config.pseudo_out held own (buffered_sent e.config.pseudo_out held own)
sending-tells held (SaysNothing no_confirms no_keys) framed sent is = absurd cc
sending-tells held {e} {f} {confirms} {keys} (SaysAll packet options_are acks) framed sent is =
    subst (λ (own : Outgoing). TellsItsDrops e.config.pseudo_out held own (buffered_sent e.config.pseudo_out held own)) (same_Some _ sent is)
    (draft-tells e.config (goes_short (end_after e f) packet) (next_number e) packet held framed (goes-may (end_after e f) packet)
    (subst (λ (items : List Item). All IsOther items) (sym options_are) (own-other e f packet.kind confirms keys)))
sending-tells held {e} (SaysApart number packet no_confirms no_keys) framed sent is =
    subst (λ (own : Outgoing). TellsItsDrops e.config.pseudo_out held own (buffered_sent e.config.pseudo_out held own)) (same_Some _ sent is)
    (draft-tells e.config false number (alone packet) held framed (never (alone packet)) (All-nil IsOther))

-- The frame of a step, by the effect that the step has.
pub step-tells : (e : EndState) (given : Input) (own : Outgoing) (held : InboxState) → IsProper e → (end_stepped e given).frame ≡ Some own
    → TellsItsDrops (end_stepped e given).after.config.pseudo_out held own (buffered_sent (end_stepped e given).after.config.pseudo_out held own)
step-tells e given own held proper is =
    let step : HasEffect e given (end_stepped e given).after (end_stepped e given).frame (end_stepped e given).calls =
    every_step_has_an_effect e given proper in
    let same : (end_stepped e given).after.config.pseudo_out ≡ e.config.pseudo_out = ap (λ (x : EndState). x.config.pseudo_out) step.after_is in
    subst (λ (pseudo : Pseudo). TellsItsDrops pseudo held own (buffered_sent pseudo held own)) (sym same)
    (sending-tells held step.because.says step.because.framed own (sym step.frame_is ∙ is))
