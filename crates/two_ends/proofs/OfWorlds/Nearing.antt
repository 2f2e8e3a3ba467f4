-- While each side has sent fewer than 2^23 frames, none is far where it arrives.
use Rattle.std.proofs.Common.{◌≡◌, ◌≢◌, inl, inr, refl, ap, sym, ◌∙◌, ℕ, suc, ◌+◌, ◌-◌, ◌%◌, ◌^◌, ◌<◌, ◌≤◌, ◌==◌, ◌&&◌, ◌||◌, nat_le, Bool, true, false, if◌then◌else◌, List, [], Option, Some, None, Result, Ok, Err, slice_get, length, arith}
use Rattle.std.proofs.lemmas.Bool.{and_parts, leb-false, leb-true}
use Rattle.std.proofs.lemmas.Option.{slice_get_within}
use Rattle.congestion_trait.specs.Control.{Control}
use Rattle.dccp_endpoint.specs.Causes.{EveryStepHasOneEffect}
use Rattle.dccp_endpoint.specs.Drafts.{Fits}
use Rattle.dccp_endpoint.specs.End.{EndState, is_live, value_in}
use Rattle.dccp_endpoint.specs.Inputs.{Input}
use Rattle.dccp_endpoint.specs.Receiving.{takes_short}
use Rattle.dccp_endpoint.specs.Reporting.{is_acking}
use Rattle.dccp_endpoint.specs.declared.config.Config.{Config}
use Rattle.dccp_packets.specs.Forms.{may_be_short}
use Rattle.dccp_packets.specs.Grammar.{packet_type}
use Rattle.dccp_packets.specs.Kinds.{ack_of}
use Rattle.dccp_packets.specs.Widths.{kind_in_widths}
use Rattle.feature_lists.specs.declared.features.Feature.TheVariants.{ShortSeqnos}
use Rattle.feature_lists.specs.declared.features.Place.TheVariants.{There}
use Rattle.two_ends.specs.MarkView.{frame_at}
use Rattle.seq_circle.proofs.NotFar.{few-above, few-below}
use Rattle.seq_circle.specs.Circle.{is_ack_far, is_far, residue}
use Rattle.seq_circle.specs.Counts.{number_of}
use Rattle.world_events.specs.Actors.{actor, other}
use Rattle.world_events.specs.declared.event.Event.{Event}
use Rattle.world_events.specs.declared.event.Side.{Side}
use Rattle.world_events.specs.declared.event.Side.TheVariants.{Client, Server}
use Rattle.world_events.specs.declared.event.WorldFault.{WorldFault}
use Rattle.world_events.specs.declared.event.WorldFault.TheVariants as fault
use Rattle.two_ends.specs.Controlled.{ControlledWorld, begins_with, congestion_of, controls, happens_to, plays, said_by}
use Rattle.two_ends.specs.Frames.{is_short_packet, packet_of}
use Rattle.two_ends.specs.Numbered.{IsNumberOf}
use Rattle.two_ends.specs.World.{Calls, Delivers, Happening, WorldState, WorldStep, delivers_frame, half_of, half_steps, happening_of, happens, is_far_frame, is_full, in_world, takes_place, unless_far}
use Rattle.two_ends.specs.declared.frames.SentFrame.{SentFrame}
use Rattle.two_ends.proofs.OfWorlds.Acting.{IsHeld, Party, config_of, end_of, party_of}
use Rattle.two_ends.proofs.OfWorlds.Hearing.{IsHearingPeer}
use Rattle.two_ends.proofs.OfWorlds.Keeping.{SideInvariant, run-kept}
use Rattle.two_ends.proofs.OfWorlds.Logged.{AtPlace, Found, Logged, Nowhere, found, logged-few}
use Rattle.two_ends.proofs.OfMarks.Marking.{IsMarking}
use Rattle.two_ends.proofs.OfWorlds.Numbering.{IsOrdered, others-near}
use Rattle.two_ends.proofs.OfFeatures.Preferring.{plays-held}
use Rattle.two_ends.proofs.OfWorlds.ReadBack.{ack-kept, logged-form, unlogged-form}
use Rattle.two_ends.proofs.OfMarks.Vectors.{IsFrame, frame-of, frames-length}

-- the numbers of two of a side's first 2^23 packets
places-near : (iss a b x y : ℕ) → a < 2 ^ 23 → b < 2 ^ 23 → x ≡ residue (iss + a) → y ≡ residue (iss + b) → is_far x y ≡ false
places-near iss a b x y few others is_x is_y = by (nat_le a b) refl where
  by : (ordered : Bool) → nat_le a b ≡ ordered → is_far x y ≡ false
  by true ordered =
      let below = leb-true a b ordered in
      few-below x y (omega (arith, below, few, others, is_x, is_y))
  by false ordered =
      let above = leb-false a b ordered in
      few-above x y (omega (arith, above, few, others, is_x, is_y))

heard-place : (iss place : ℕ) → (number gsr : ℕ) → place < 2 ^ 23 → number ≡ residue (iss + place) → (count : ℕ) → count < 2 ^ 23
    → IsNumberOf iss count gsr → is_far number gsr ≡ false
heard-place iss place number gsr few same count most heard =
    places-near iss place heard.place number gsr few (omega (arith, heard.was_sent, most)) same heard.same

and-none : (b : Bool) → (b && false) ≡ false
and-none true = refl
and-none false = refl

module _ (x y : Party) (own : IsOrdered x) (others : IsOrdered y) (hears : IsHearingPeer x y) (m : IsMarking x y)
    (few : length x.half.frames < 2 ^ 23) (most : length y.half.frames < 2 ^ 23) where
  abbrev e : EndState
  e = end_of x

  own-few : length x.log < 2 ^ 23
  own-few = omega (arith, logged-few (config_of x) own.logged, few)

  others-few : length y.log < 2 ^ 23
  others-few = omega (arith, logged-few (config_of y) others.logged, most)

  -- what an Ack or a DataAck acknowledges is a number of the other side's
  acked-near : (k n : ℕ) → 1 ≤ k → k ≤ length x.log → n ≡ number_of (config_of x).iss k → is_far n e.marks.gss ≡ false
  acked-near k n some sent is =
      places-near (config_of x).iss (k - 1) (length x.log - 1) n e.marks.gss (omega (arith, sent, own-few)) (omega (arith, own-few)) is
      (own.greatest ∙ omega (arith, some, sent))

  ack-near : (place : ℕ) (l : Logged) → slice_get y.log place ≡ Some l → may_be_short (packet_type l.draft.kind) ≡ true
      → is_ack_far (ack_of (kind_in_widths l.draft.kind)) e.marks.gss ≡ false
  ack-near place l there may = by (is_acking (packet_type l.draft.kind)) refl where
    by : (acking : Bool) → is_acking (packet_type l.draft.kind) ≡ acking → is_ack_far (ack_of (kind_in_widths l.draft.kind)) e.marks.gss ≡ false
    by true acking =
        let ours : IsFrame (config_of x).iss (config_of y).vectors l (frame_at m.peer.frames (suc place)) = frame-of place l m.there.frames there in
        let is_ack : (frame_at m.peer.frames (suc place)).is_ack ≡ true = ours.acks ∙ acking in
        let k : ℕ = (frame_at m.peer.frames (suc place)).acknowledged in
        let sent : k ≤ length x.log =
        omega (arith, m.kept.there.heeded.acknowledged_taken (suc place) is_ack, m.kept.there.sound.greatest_sent, frames-length m.here.frames) in
        ap (λ (ack : Option ℕ). is_ack_far ack e.marks.gss)
        (ack-kept l.draft.kind (number_of (config_of x).iss k) ours.long (ours.acknowledges is_ack) (omega arith))
        ∙ acked-near k (number_of (config_of x).iss k) (ours.some is_ack) sent refl
    by false acking = others-near l.draft.kind e.marks.gss acking may

  number-near : (place number : ℕ) → place < length y.log → number ≡ residue ((config_of y).iss + place) → takes_short e ≡ true
      → is_far number e.marks.gsr ≡ false
  number-near place number below same takes = by hears where
    live : is_live e.phase ≡ true
    live = (and_parts (is_live e.phase) (value_in e.rows ShortSeqnos There == 1) takes).0

    by : IsHearingPeer x y → is_far number e.marks.gsr ≡ false
    by (inl unset) = (let dead = unset.not_live in cc (dead, live))
    by (inr h) =
        heard-place (config_of y).iss place number e.marks.gsr (omega (arith, below, others-few)) same (length y.log) others-few h.greatest

  near-found : (frame : SentFrame) → Found (config_of y) (config_of y).iss y.log frame → is_far_frame e frame ≡ false
  near-found frame (Nowhere is) =
      ap (λ (short : Bool). takes_short e && (short && (is_far frame.number e.marks.gsr || is_ack_far frame.ack e.marks.gss)))
      (unlogged-form (config_of y) frame is)
      ∙ and-none (takes_short e)
  near-found frame (AtPlace place number l there numbered is) = by (takes_short e) (is_short_packet (packet_of frame.bytes)) refl refl where
    number-is : frame.number ≡ residue ((config_of y).iss + place)
    number-is =
        let kept : frame.number ≡ number % 2 ^ 48 = ap (λ (f : SentFrame). f.number) is.same in
        omega (arith, kept, numbered)

    by : (takes short : Bool) → takes_short e ≡ takes → is_short_packet (packet_of frame.bytes) ≡ short
        → (takes && (short && (is_far frame.number e.marks.gsr || is_ack_far frame.ack e.marks.gss))) ≡ false
    by false short takes form = refl
    by true false takes form = refl
    by true true takes form =
        let may : may_be_short (packet_type l.draft.kind) ≡ true = is.form (sym (logged-form (config_of y) number frame l is) ∙ form) in
        let first : is_far frame.number e.marks.gsr ≡ false =
        number-near place frame.number (slice_get_within y.log place l there) number-is takes in
        let second : is_ack_far frame.ack e.marks.gss ≡ false =
        ap (λ (ack : Option ℕ). is_ack_far ack e.marks.gss) (ap (λ (f : SentFrame). f.ack) is.same) ∙ ack-near place l there may in
        ap (λ (far : Bool). far || is_ack_far frame.ack e.marks.gss) first ∙ second

  is-near : (index : ℕ) (frame : SentFrame) → slice_get y.half.frames index ≡ Some frame → is_far_frame e frame ≡ false
  is-near index frame there = near-found frame (found (config_of y) index frame others.logged there)

-- the refusals of a delivery that is not far, and of a call
not-far : (w : WorldState) (side : Side) (frame : SentFrame) (full far : Bool) → far ≡ false
    → (if full then Err fault.Full else in_world w side (unless_far (half_of w side) frame far)) ≢ Err fault.FarShort
not-far w side frame true far near is = cc is
not-far w side frame false true near is = cc near
not-far w side frame false false near is = cc is

module _ (w : WorldState) (h : IsHeld SideInvariant w) (clients : length w.client.frames < 2 ^ 23) (servers : length w.server.frames < 2 ^ 23) where
  arrival-near : (from : Side) (index : ℕ) (frame : SentFrame) → slice_get (half_of w from).frames index ≡ Some frame
      → is_far_frame (half_of w (other from)).end frame ≡ false
  arrival-near Client index frame there =
      is-near (party_of w h.logs Server) (party_of w h.logs Client) h.holds.1.ordered h.holds.0.ordered h.holds.1.hears h.holds.1.marks servers clients index
      frame there
  arrival-near Server index frame there =
      is-near (party_of w h.logs Client) (party_of w h.logs Server) h.holds.0.ordered h.holds.1.ordered h.holds.0.hears h.holds.0.marks clients servers index
      frame there

  delivery-near : (from : Side) (index : ℕ) (frame : Option SentFrame) → slice_get (half_of w from).frames index ≡ frame
      → delivers_frame w from frame ≢ Err fault.FarShort
  delivery-near from index None there is = cc is
  delivery-near from index (Some frame) there is =
      not-far w (other from) frame (is_full (half_of w (other from))) (is_far_frame (half_of w (other from)).end frame)
      (arrival-near from index frame there) is

  call-near : (side : Side) (given : Input) (full : Bool)
      → (if full then Err fault.Full else in_world w side (Ok (half_steps (half_of w side) None given))) ≢ Err fault.FarShort
  call-near side given true is = cc is
  call-near side given false is = cc is

  happening-near : (what : Happening) → takes_place w what ≢ Err fault.FarShort
  happening-near (Calls side given) is = call-near side given (is_full (half_of w side)) is
  happening-near (Delivers from index) is = delivery-near from index (slice_get (half_of w from).frames index) refl is

module _ {C : Type 0} (control : Control C) where
  controls-same : (w : ControlledWorld C) (side : Side) (r : Result WorldStep WorldFault) → r ≢ Err fault.FarShort
      → controls control w side r ≢ Err fault.FarShort
  controls-same w side (Ok step) near is = cc is
  controls-same w side (Err why) near is =
      let same : why ≡ fault.FarShort = cc is in
      near (ap Err same)

  pub held-near : (w : ControlledWorld C) → IsHeld SideInvariant w.world → length w.world.client.frames < 2 ^ 23 → length w.world.server.frames < 2 ^ 23
      → (event : Event) → happens_to control w event ≢ Err fault.FarShort
  held-near w held clients servers event =
      let said = said_by control (congestion_of w (actor event)) in
      controls-same w (actor event) (happens w.world event said) (happening-near w.world held clients servers (happening_of event said))

module _ {C : Type 0} (control : Control C) (effects : EveryStepHasOneEffect) where
  pub plays-near : (client server : Config) (for_client for_server : C) (events : List Event) → Fits client → Fits server
      → length (plays control (begins_with control client server for_client for_server) events).world.client.frames < 2 ^ 23
      → length (plays control (begins_with control client server for_client for_server) events).world.server.frames < 2 ^ 23 → (event : Event)
      → happens_to control (plays control (begins_with control client server for_client for_server) events) event ≢ Err fault.FarShort
  plays-near client server for_client for_server events client_fits server_fits clients servers event =
      let start : ControlledWorld C = begins_with control client server for_client for_server in
      held-near control (plays control start events)
      (plays-held control effects start (run-kept effects client server [] client_fits server_fits) events) clients servers event
