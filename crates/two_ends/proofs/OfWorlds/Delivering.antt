-- What a step delivers are the data of the frame that arrives, which it processes by that; so none is delivered twice.
use Rattle.std.proofs.Common.{◌≡◌, ◌⊎◌, refl, ap, sym, ◌∙◌, subst, ℕ, zero, suc, ◌+◌, ◌-◌, ◌^◌, ◌<◌, ◌≤◌, nat_lt, not, Bool, true, false, List, [], ◌∷◌, ◌++◌, Option, Some, None, Result, Ok, Err, slice_get, length, length-append, drop, if◌then◌else◌, arith, inl, inr}
use Rattle.std.proofs.lemmas.Bool.{and_parts}
use Rattle.std.proofs.lemmas.List.{append_assoc, drop_at, get_or_append_left, get_or_push}
use Rattle.std.proofs.lemmas.List.Elements.{Contains-append_left, Contains-push}
use Rattle.std.proofs.lemmas.Option.{same_Some}
use Rattle.std.specs.List.{Contains}
use Rattle.std.specs.Prelude.{slice_index}
use Rattle.std.specs.Result.{result_ok}
use Rattle.ack_vectors.specs.Kept.{ReceivedState as KeptNumbers}
use Rattle.congestion_trait.specs.Control.{Control}
use Rattle.dccp_endpoint.proofs.Deriving.{Told}
use Rattle.dccp_endpoint.proofs.Phases.{accept-so, answer-so, check-live}
use Rattle.dccp_endpoint.proofs.Walking.{told_of_step}
use Rattle.dccp_endpoint.specs.Calling.{aborts, closes, opens, prefers, sends_payload}
use Rattle.dccp_endpoint.specs.Early.{sends_early}
use Rattle.dccp_endpoint.specs.Causes.{AreTurns, Came, EveryStepHasOneEffect}
use Rattle.dccp_endpoint.specs.Effects.{Effect, Heard, Taken, count_by}
use Rattle.dccp_endpoint.specs.End.{EndState, marked_of}
use Rattle.dccp_endpoint.specs.Incoming.{Incoming}
use Rattle.dccp_endpoint.specs.Inputs.{EndAnswer, Arrives, Input, end_stepped}
use Rattle.dccp_endpoint.specs.Inputs as input
use Rattle.dccp_endpoint.specs.Outcomes.{HasCause, HasForm, IsTaken, IsValid, OpensConnection, ResponseToRequest, PacketInWindow, hears_first}
use Rattle.dccp_endpoint.specs.Receiving.{receives}
use Rattle.dccp_endpoint.specs.Reporting.{carries_data, delivered_if, is_new, one_more_taken}
use Rattle.dccp_endpoint.specs.Steps.{Step}
use Rattle.dccp_packets.proofs.TableLemmas.{read_table}
use Rattle.dccp_packets.specs.Grammar.{Parts, decoded, packet_type}
use Rattle.dccp_packets.specs.declared.header.PacketType.{PacketType}
use Rattle.dccp_packets.specs.declared.header.PacketType.TheVariants as types
use Rattle.dccp_states.specs.declared.outcome.Outcome.{Outcome}
use Rattle.dccp_states.specs.declared.outcome.Outcome.TheVariants.{Took}
use Rattle.run_list.specs.MarkedSet.{answer_to}
use Rattle.world_events.specs.Actors.{actor, other}
use Rattle.world_events.specs.declared.event.Event.{Event}
use Rattle.world_events.specs.declared.event.Event.TheVariants as event
use Rattle.dccp_states.specs.declared.seen.Refusal.{Refusal}
use Rattle.dccp_states.specs.declared.seen.Seen.{Seen}
use Rattle.world_events.specs.declared.event.Side.{Side}
use Rattle.world_events.specs.declared.event.Side.TheVariants.{Client, Server}
use Rattle.world_events.specs.declared.event.WorldFault.{WorldFault}
use Rattle.world_events.specs.declared.event.WorldFault.TheVariants as fault
use Rattle.two_ends.specs.declared.frames.SentFrame.{SentFrame}
use Rattle.two_ends.specs.Controlled.{ControlledWorld, ControlledStep, congestion_of, controlled, controlled_after, controls, happens_to, said_by}
use Rattle.two_ends.specs.Delivered.{DeliversFrame, DeliversIn, DeliversItsData, IsDeliveredOnce, delivered_by, frame_delivered, frames_delivered, named_if, place_delivered}
use Rattle.two_ends.specs.Reported.{IsOnce}
use Rattle.two_ends.specs.Frames.{packet_of}
use Rattle.two_ends.specs.World.{Half, HalfStep, Said, WorldState, WorldStep, delivers_frame, half_of, half_steps, happens, is_far_frame, is_full, newly_processed, number_if, in_world, unless_far, unless_full, with_half, world_after}
use Rattle.dccp_endpoint.specs.UserCalls.{seen_of, seen_of_call}
use Rattle.two_ends.proofs.OfWorlds.Acting.{IsHeld, Refused, Steps, Takes, event-taken}
use Rattle.two_ends.proofs.OfWorlds.Keeping.{SideInvariant, held-once, kept-proper, marked-few, step-kept}
use Rattle.two_ends.proofs.OfWorlds.Reaching.{world-after}
use Rattle.two_ends.proofs.OfMarks.Shown.{or-any}

-- where a payload lies in the bytes of its packet
pub payload-lies : (bytes : List ℕ) (p : Parts) → decoded bytes ≡ Ok p
    → (length p.payload ≤ length bytes) × (drop (length bytes - length p.payload) bytes ≡ p.payload)
payload-lies bytes p read =
    let is = read_table p.header p.options p.payload bytes read in
    let all : bytes ≡ (is.fixed ++ p.options) ++ p.payload = is.parts ∙ sym (append_assoc is.fixed p.options p.payload) in
    let size : length bytes ≡ length (is.fixed ++ p.options) + length p.payload =
    ap length all ∙ length-append (is.fixed ++ p.options) p.payload in (
      omega (arith, size),
      ap (λ (bs : List ℕ). drop (length bytes - length p.payload) bs) all
          ∙ drop_at (is.fixed ++ p.options) p.payload (length bytes - length p.payload) (omega (arith, size)),
    )

delivered-so : (b : Bool) (at place : ℕ × ℕ) → Some place ≡ delivered_if b at → (b ≡ true) × (place ≡ at)
delivered-so true at place is = (refl, same_Some place at is)
delivered-so false at place is = cc is

no-data : (t : PacketType) → (t ≡ types.Request) ⊎ (t ≡ types.Response) → carries_data t ≡ true → ⊥
no-data t which loaded =
    elim which [
      | inl is ↦ let none : carries_data types.Request ≡ true = ap carries_data (sym is) ∙ loaded in cc none
      | inr is ↦ let none : carries_data types.Response ≡ true = ap carries_data (sym is) ∙ loaded in cc none
    ]

-- A packet with data is a later one.
in-window : (e : EndState) (a : Incoming) (entered : EndState) → IsValid e a entered → carries_data a.kind ≡ true
    → (entered.received ≡ e.received) × (hears_first e ≡ false)
in-window e a entered (OpensConnection is ours same) loaded =
    absurd (no-data a.kind (inl (accept-so e.phase a.kind is).1) loaded)
in-window e a entered (ResponseToRequest is no_reset fits same) loaded =
    absurd (no-data a.kind (inr ((answer-so e.phase a.kind is).1 no_reset)) loaded)
in-window e a entered (PacketInWindow is no_reset fits same) loaded =
    (ap (λ (x : EndState). x.received) same, ap not (check-live e.phase a.kind is))

rose : (n : ℕ) → n ≤ 2 ^ 47 → nat_lt n (one_more_taken n true) ≡ true
rose n few = grind arith

-- What was taken, and that it was heard.
record IsTakenAt (e : EndState) (bytes : List ℕ) (f : Effect) (place : ℕ × ℕ) : Type 0 where
  delivered : Option (ℕ × ℕ)
  taken : IsTaken e bytes delivered
  is_place : Some place ≡ delivered
  heard : f.hearing ≡ Heard (hears_first e) taken.packet.number Taken

taken-at : (e : EndState) (bytes : List ℕ) (o : Outcome) (cause : HasCause e bytes o) (f : Effect) (turns : AreTurns e (Arrives bytes) f.hearing f.turns)
    → HasForm e bytes o cause f turns → (place : ℕ × ℕ) → o ≡ Took (Some place) → IsTakenAt e bytes f place
taken-at e bytes (Took delivered) cause f turns form place is =
    record { delivered = delivered; taken = cause; is_place = (let same : delivered ≡ Some place = cc is in sym same); heard = form.heard }
taken-at e bytes _ cause f turns form place is = cc is

-- Data that an end delivers.
record IsDelivering (half : Half) (bytes : List ℕ) (place : ℕ × ℕ) : Type 0 where
  packet : Parts
  is_packet : packet_of bytes ≡ Some packet
  has_data : carries_data (packet_type packet.header.kind) ≡ true
  begins : place.0 ≤ place.1
  ends : place.1 ≡ length bytes
  are_its_data : drop place.0 bytes ≡ packet.payload
  newly : (number : ℕ) → newly_processed half.end (Some number) (receives half.end bytes).after ≡ number ∷ []

module _ (w : WorldState) (h : IsHeld SideInvariant w) (side : Side) (bytes : List ℕ) (place : ℕ × ℕ)
    (took : (receives (half_of w side).end bytes).answer ≡ Took (Some place)) where
  abbrev e : EndState
  e = (half_of w side).end

  abbrev step : Step Outcome
  step = receives e bytes

  told : Told e bytes step
  told = told_of_step e bytes step (kept-proper w h side) refl

  abbrev f : Effect
  f = told.effect.effect

  was : IsTakenAt e bytes f place
  was = taken-at e bytes step.answer told.effect.cause f told.effect.because.turns told.effect.form place took

  abbrev taken : IsTaken e bytes was.delivered
  taken = was.taken

  abbrev a : Incoming
  a = taken.packet

  came : Came e (Arrives bytes) a
  came = taken.admitted.valid.came

  abbrev p : Parts
  p = came.packet

  same-bytes : bytes ≡ came.bytes
  same-bytes = let given : Input.Arrives bytes ≡ Arrives came.bytes = came.is_given in cc given

  is-decoded : decoded bytes ≡ Ok p
  is-decoded = ap decoded same-bytes ∙ came.is_packet

  kind-is : a.kind ≡ packet_type p.header.kind
  kind-is = ap (λ (x : Incoming). x.kind) came.same

  whole : (carries_data a.kind ≡ true) × ((is_new (answer_to taken.entered.received.set a.number) ≡ true) × (place ≡ a.data_place))
  whole =
      let so = delivered-so _ a.data_place place (was.is_place ∙ taken.delivery) in
      let parts = and_parts (carries_data a.kind) _ so.0 in
      (parts.0, ((and_parts _ _ parts.1).1, so.1))

  lies : (length p.payload ≤ length bytes) × (drop (length bytes - length p.payload) bytes ≡ p.payload)
  lies = payload-lies bytes p is-decoded

  place-is : place ≡ (length bytes - length p.payload, length bytes)
  place-is = whole.1.1 ∙ ap (λ (x : Incoming). x.data_place) came.same
      ∙ ap (λ (bs : List ℕ). (length bs - length p.payload, length bs)) (sym same-bytes)

  window : (taken.entered.received ≡ e.received) × (hears_first e ≡ false)
  window = in-window e a taken.entered taken.admitted.valid.is_valid whole.0

  marked-is : marked_of step.after ≡ one_more_taken e.marked true
  marked-is =
      ap marked_of told.effect.after_is
      ∙ ap (count_by e.marked e.received) was.heard
      ∙ ap (λ (first : Bool). count_by e.marked e.received (Heard first a.number Taken)) window.1
      ∙ ap (λ (k : KeptNumbers). one_more_taken e.marked (is_new (answer_to k.set a.number))) (sym window.0)
      ∙ ap (one_more_taken e.marked) whole.1.0

  newly-is : (number : ℕ) → newly_processed e (Some number) step.after ≡ number ∷ []
  newly-is number =
      ap (λ (n : ℕ). number_if (nat_lt e.marked n) (Some number)) marked-is
      ∙ ap (λ (b : Bool). number_if b (Some number)) (rose e.marked (marked-few w h side))

  delivering : IsDelivering (half_of w side) bytes place
  delivering =
      record {
        packet = p;
        is_packet = ap result_ok is-decoded;
        has_data = ap carries_data (sym kind-is) ∙ whole.0;
        begins = subst (λ (lies_at : ℕ × ℕ). lies_at.0 ≤ lies_at.1) (sym place-is) (omega (arith, lies.0));
        ends = ap (λ (lies_at : ℕ × ℕ). lies_at.1) place-is;
        are_its_data = ap (λ (lies_at : ℕ × ℕ). drop lies_at.0 bytes) place-is ∙ lies.1;
        newly = newly-is;
      }

-- no call delivers anything
call-none : {Fault : Type 0} (named : Fault → Refusal) (r : Result (Unit {0}) Fault) → place_delivered (seen_of_call named r) ≡ None
call-none named (Ok _) = refl
call-none named (Err fault) = refl

abbrev IsAsked : Input → Type 0
IsAsked (Arrives bytes) = ⊥
IsAsked _ = Unit {0}

silent-call : (x : EndState) (given : Input) → IsAsked given → place_delivered (seen_of (end_stepped x given).answer) ≡ None
silent-call x (Arrives bytes) is = absurd is
silent-call x input.Opens is = call-none _ (opens x).answer
silent-call x input.Closes is = call-none _ (closes x).answer
silent-call x input.Aborts is = call-none _ (aborts x).answer
silent-call x (input.Fires timer in_flight) is = refl
silent-call x (input.Prefers k values) is = call-none _ (prefers x k values).answer
silent-call x (input.Sends payload may_send) is = call-none _ (sends_payload x payload may_send).answer
silent-call x (input.SendsEarly payload may_send) is = call-none _ (sends_early x payload may_send).answer

answer-took : (o : Outcome) (place : ℕ × ℕ) → place_delivered (seen_of (input.Received o)) ≡ Some place → o ≡ Took (Some place)
answer-took (Took delivered) place is = ap Took is
answer-took _ place is = cc is

-- what a step that takes place leaves
unless-by : (w : WorldState) (side : Side) (step : HalfStep) (full : Bool) (after : WorldStep)
    → (if full then Err fault.Full else Ok (record { world = with_half w side step.half; calls = step.calls; seen = step.seen })) ≡ Ok after
    → (after.world ≡ with_half w side step.half) × (after.seen ≡ step.seen)
unless-by w side step true after same = cc same
unless-by w side step false after same =
    let is : record { world = with_half w side step.half; calls = step.calls; seen = step.seen } ≡ after = cc same in
    (sym (ap (λ (s : WorldStep). s.world) is), sym (ap (λ (s : WorldStep). s.seen) is))

no-delivery : (w : WorldState) (side : Side) (given : Input) → IsAsked given → (after : WorldStep)
    → unless_full w side (Ok (half_steps (half_of w side) None given)) ≡ Ok after → (place : ℕ × ℕ) → place_delivered after.seen ≡ Some place → ⊥
no-delivery w side given is after same place some =
    let so = unless-by w side (half_steps (half_of w side) None given) (is_full (half_of w side)) after same in
    let none : place_delivered after.seen ≡ None = ap place_delivered so.1 ∙ silent-call (half_of w side).end given is in
    cc (none, some)

-- a frame that arrives is not far
arrives-by : (w : WorldState) (side : Side) (frame : SentFrame) (full far : Bool) (after : WorldStep)
    → (if full then Err fault.Full else in_world w side (unless_far (half_of w side) frame far)) ≡ Ok after
    → (after.world ≡ with_half w side (half_steps (half_of w side) (Some frame.number) (Arrives frame.bytes)).half)
    × (after.seen ≡ (half_steps (half_of w side) (Some frame.number) (Arrives frame.bytes)).seen)
arrives-by w side frame true far after same = cc same
arrives-by w side frame false true after same = cc same
arrives-by w side frame false false after same =
    unless-by w side (half_steps (half_of w side) (Some frame.number) (Arrives frame.bytes)) false after same

-- a side has the state that it takes
pub half-with : (w : WorldState) (side : Side) (half : Half) → half_of (with_half w side half) side ≡ half
half-with w Client half = refl
half-with w Server half = refl

arrived : (w : WorldState) → IsHeld SideInvariant w → (from : Side) (index : ℕ) (frame : Option SentFrame)
    → slice_get (half_of w from).frames index ≡ frame → (after : WorldStep) → delivers_frame w from frame ≡ Ok after
    → (place : ℕ × ℕ) → place_delivered after.seen ≡ Some place → DeliversFrame w after.world from index place
arrived w h from index None there after same place is = cc same
arrived w h from index (Some frame) there after same place is =
    let half : Half = half_of w (other from) in
    let so = arrives-by w (other from) frame (is_full half) (is_far_frame half.end frame) after same in
    let took : (receives half.end frame.bytes).answer ≡ Took (Some place) = answer-took _ place (sym (ap place_delivered so.1) ∙ is) in
    let d = delivering w h (other from) frame.bytes place took in
    record {
      frame = frame;
      packet = d.packet;
      is_there = there;
      is_packet = d.is_packet;
      has_data = d.has_data;
      begins = d.begins;
      ends = d.ends;
      are_its_data = d.are_its_data;
      is_processed =
          ap (λ (v : WorldState). (half_of v (other from)).processed) so.0
          ∙ ap (λ (x : Half). x.processed) (half-with w (other from) (half_steps half (Some frame.number) (Arrives frame.bytes)).half)
          ∙ ap (λ (ns : List ℕ). half.processed ++ ns) (d.newly frame.number);
    }

step-delivers : (w : WorldState) → IsHeld SideInvariant w → (e : Event) (said : Said) (after : WorldStep) → happens w e said ≡ Ok after
    → (place : ℕ × ℕ) → place_delivered after.seen ≡ Some place → DeliversIn w e after.world place
step-delivers w h (event.Deliver from index) said after same place is = arrived w h from index _ refl after same place is
step-delivers w h event.Open said after same place is = no-delivery w Client input.Opens tt after same place is
step-delivers w h (event.Send side payload) said after same place is = no-delivery w side (input.Sends payload said.may_send) tt after same place is
step-delivers w h (event.SendEarly side payload) said after same place is = no-delivery w side (input.SendsEarly payload said.may_send) tt after same place is
step-delivers w h (event.Prefer side feature seen_at values) said after same place is =
    no-delivery w side (input.Prefers (feature, seen_at) values) tt after same place is
step-delivers w h (event.Timer side timer) said after same place is = no-delivery w side (input.Fires timer said.in_flight) tt after same place is
step-delivers w h (event.Close side) said after same place is = no-delivery w side input.Closes tt after same place is
step-delivers w h (event.Abort side) said after same place is = no-delivery w side input.Aborts tt after same place is

-- a frame whose data were delivered: its number is among those that were processed
record IsPast (w : WorldState) (named : Side × ℕ) : Type 0 where
  frame : SentFrame
  is_there : slice_get (half_of w named.0).frames named.1 ≡ Some frame
  is_processed : Contains (half_of w (other named.0)).processed frame.number

get-more : {A : Type 0} (xs more : List A) (i : ℕ) (x : A) → slice_get xs i ≡ Some x → slice_get (xs ++ more) i ≡ Some x
get-more [] more i x there = cc there
get-more (y ∷ ys) more zero x there = there
get-more (y ∷ ys) more (suc i) x there = get-more ys more i x there

-- frames and processed numbers stay
frame-after : (w : WorldState) (side : Side) (r : Result WorldStep WorldFault) → Takes w side r → (from : Side) (index : ℕ) (frame : SentFrame)
    → slice_get (half_of w from).frames index ≡ Some frame → slice_get (half_of (world_after w r) from).frames index ≡ Some frame
frame-after w side _ (Refused why) from index frame there = there
frame-after w Client _ (Steps arrived given room of) Client index frame there = get-more w.client.frames _ index frame there
frame-after w Client _ (Steps arrived given room of) Server index frame there = there
frame-after w Server _ (Steps arrived given room of) Client index frame there = there
frame-after w Server _ (Steps arrived given room of) Server index frame there = get-more w.server.frames _ index frame there

processed-after : (w : WorldState) (side : Side) (r : Result WorldStep WorldFault) → Takes w side r → (at : Side) (n : ℕ)
    → Contains (half_of w at).processed n → Contains (half_of (world_after w r) at).processed n
processed-after w side _ (Refused why) at n has_it = has_it
processed-after w Client _ (Steps arrived given room of) Client n has_it = Contains-append_left w.client.processed _ n has_it
processed-after w Client _ (Steps arrived given room of) Server n has_it = has_it
processed-after w Server _ (Steps arrived given room of) Client n has_it = has_it
processed-after w Server _ (Steps arrived given room of) Server n has_it = Contains-append_left w.server.processed _ n has_it

past-after : (w : WorldState) (side : Side) (r : Result WorldStep WorldFault) → Takes w side r → (named : Side × ℕ) → IsPast w named
    → IsPast (world_after w r) named
past-after w side r takes named p =
    record {
      frame = p.frame;
      is_there = frame-after w side r takes named.0 named.1 p.frame p.is_there;
      is_processed = processed-after w side r takes (other named.0) p.frame.number p.is_processed;
    }

-- a number that is processed again is there twice
twice : (ns : List ℕ) (n : ℕ) → Contains ns n
    → ((i j : ℕ) → i < length (ns ++ n ∷ []) → j < length (ns ++ n ∷ []) → slice_index (ns ++ n ∷ []) i ≡ slice_index (ns ++ n ∷ []) j → i ≡ j)
    → ⊥
twice ns n has_it distinct =
    let size = length-append ns (n ∷ []) in
    let one : slice_index (ns ++ n ∷ []) has_it.0 ≡ n =
    get_or_append_left ns (n ∷ []) 0 has_it.0 has_it.1 ∙ or-any ns has_it.0 0 n has_it.1 ∙ has_it.2 in
    let same = distinct has_it.0 (length ns) (omega (arith, size, has_it.1)) (omega (arith, size)) (one ∙ sym (get_or_push ns n 0 (length ns) refl)) in
    omega (arith, same, has_it.1)

module _ (w new : WorldState) (from : Side) (index : ℕ) (place : ℕ × ℕ) (d : DeliversFrame w new from index place) where
  not-again : IsOnce new (other from) → IsPast w (from, index) → ⊥
  not-again once p =
      let frame : p.frame ≡ d.frame = same_Some p.frame d.frame (sym p.is_there ∙ d.is_there) in
      twice (half_of w (other from)).processed d.frame.number
      (subst (λ (f : SentFrame). Contains (half_of w (other from)).processed f.number) frame p.is_processed)
      (subst (λ (ns : List ℕ). (i j : ℕ) → i < length ns → j < length ns → slice_index ns i ≡ slice_index ns j → i ≡ j) d.is_processed once.distinct)

  now-past : slice_get (half_of new from).frames index ≡ Some d.frame → IsPast new (from, index)
  now-past there =
      record {
        frame = d.frame;
        is_there = there;
        is_processed =
            subst (λ (ns : List ℕ). Contains ns d.frame.number) (sym d.is_processed)
            (Contains-push (half_of w (other from)).processed d.frame.number);
      }

-- the place of a member of two lists in a row
data StandsAt {A : Type 0} (xs ys : List A) (i : ℕ) (x : A) : Type 0 where
  InFront : slice_get xs i ≡ Some x → StandsAt xs ys i x
  Following : (j : ℕ) → i ≡ length xs + j → slice_get ys j ≡ Some x → StandsAt xs ys i x

one-after : {A : Type 0} (first : A) (xs ys : List A) (i : ℕ) (x : A) → StandsAt xs ys i x → StandsAt (first ∷ xs) ys (suc i) x
one-after first xs ys i x (InFront there) = InFront there
one-after first xs ys i x (Following j same there) = Following j (omega (arith, same)) there

stands-at : {A : Type 0} (xs ys : List A) (i : ℕ) (x : A) → slice_get (xs ++ ys) i ≡ Some x → StandsAt xs ys i x
stands-at [] ys i x there = Following i (omega arith) there
stands-at (first ∷ xs) ys zero x there = InFront there
stands-at (first ∷ xs) ys (suc i) x there = one-after first xs ys i x (stands-at xs ys i x there)

named-one : (from : Side) (index : ℕ) (place : ℕ × ℕ) (i : ℕ) (named : Side × ℕ) → slice_get (named_if from index (Some place)) i ≡ Some named
    → (i ≡ 0) × ((from, index) ≡ named)
named-one from index place zero named there = (refl, same_Some (from, index) named there)
named-one from index place (suc i) named there = cc there

module _ {C : Type 0} (control : Control C) where
  controlled-world : (w : ControlledWorld C) (side : Side) (step : WorldStep) → (controlled control w side step).world ≡ step.world
  controlled-world w Client taking = refl
  controlled-world w Server taking = refl

  controls-by : (w : ControlledWorld C) → IsHeld SideInvariant w.world → (e : Event) (said : Said) (r : Result WorldStep WorldFault)
      → happens w.world e said ≡ r → (new : ControlledWorld C) (seen : Seen)
      → controls control w (actor e) r ≡ Ok (record { after = new; seen = seen }) → DeliversItsData w.world e new.world seen
  controls-by w h e said (Err why) is new seen same = cc same
  controls-by w h e said (Ok step) is new seen same = λ place delivered.
      let stepped : record { after = controlled control w (actor e) step; seen = step.seen } ≡ record { after = new; seen = seen } = cc same in
      let world : step.world ≡ new.world = sym (controlled-world w (actor e) step) ∙ ap (λ (s : ControlledStep C). s.after.world) stepped in
      subst (λ (v : WorldState). DeliversIn w.world e v place) world
      (step-delivers w.world h e said step is place (ap (λ (s : ControlledStep C). place_delivered s.seen) stepped ∙ delivered))

  -- What a step delivers are the data of the frame that arrives.
  pub delivers-so : (w : ControlledWorld C) → IsHeld SideInvariant w.world → (e : Event) (new : ControlledWorld C) (seen : Seen)
      → happens_to control w e ≡ Ok (record { after = new; seen = seen }) → DeliversItsData w.world e new.world seen
  delivers-so w h e new seen same = controls-by w h e (said_by control (congestion_of w (actor e))) _ refl new seen same

  -- The frame whose data an event delivers.
  record DeliveredNow (w : ControlledWorld C) (e : Event) (i : ℕ) (named : Side × ℕ) : Type 0 where
    alone : i ≡ 0
    place : ℕ × ℕ
    delivers : DeliversFrame w.world (controlled_after w (happens_to control w e)).world named.0 named.1 place

  delivered-now : (w : ControlledWorld C) → IsHeld SideInvariant w.world → (e : Event) (i : ℕ) (named : Side × ℕ)
      → slice_get (delivered_by e (happens_to control w e)) i ≡ Some named → DeliveredNow w e i named
  delivered-now w h e i named there = by (happens_to control w e) refl there where
    now : (r : Result (ControlledStep C) WorldFault) (step : ControlledStep C) → happens_to control w e ≡ r → r ≡ Ok step → (f : Event) → e ≡ f
        → (p : Option (ℕ × ℕ)) → place_delivered step.seen ≡ p → slice_get (frame_delivered f step.seen) i ≡ Some named → DeliveredNow w e i named
    now r step same is (event.Deliver from index) at None none there =
        let silent : slice_get (named_if from index None) i ≡ Some named = ap (λ (o : Option (ℕ × ℕ)). slice_get (named_if from index o) i) (sym none)
        ∙ there in
        cc silent
    now r step same is (event.Deliver from index) at (Some place) some there =
        let one = named-one from index place i named (ap (λ (o : Option (ℕ × ℕ)). slice_get (named_if from index o) i) (sym some) ∙ there) in
        let d = delivers-so w h e step.after step.seen (same ∙ is) place some in
        let its : DeliversFrame w.world step.after.world from index place = subst (λ (x : Event). DeliversIn w.world x step.after.world place) at d in
        record {
          alone = one.0;
          place = place;
          delivers =
              subst (λ (v : ControlledWorld C). DeliversFrame w.world v.world named.0 named.1 place) (sym (ap (controlled_after w) (same ∙ is)))
              (subst (λ (n : Side × ℕ). DeliversFrame w.world step.after.world n.0 n.1 place) one.1 its);
        }
    now r step same is _ at p place_is there = cc there

    by : (r : Result (ControlledStep C) WorldFault) → happens_to control w e ≡ r → slice_get (delivered_by e r) i ≡ Some named → DeliveredNow w e i named
    by (Err why) same there = cc there
    by (Ok step) same there = now (Ok step) step same refl e refl (place_delivered step.seen) refl there

  module _ (effects : EveryStepHasOneEffect) where
    module _ (w : ControlledWorld C) (h : IsHeld SideInvariant w.world) (e : Event) where
      abbrev r : Result WorldStep WorldFault
      r = happens w.world e (said_by control (congestion_of w (actor e)))

      abbrev next : ControlledWorld C
      next = controlled_after w (happens_to control w e)

      next-world : next.world ≡ world_after w.world r
      next-world = world-after control w (actor e) r

      next-takes : Takes w.world (actor e) r
      next-takes = event-taken w.world e (said_by control (congestion_of w (actor e)))

      next-held : IsHeld SideInvariant next.world
      next-held = subst (IsHeld SideInvariant) (sym next-world) (step-kept effects w.world (actor e) r next-takes h)

      next-past : (named : Side × ℕ) → IsPast w.world named → IsPast next.world named
      next-past named p = subst (λ (v : WorldState). IsPast v named) (sym next-world) (past-after w.world (actor e) r next-takes named p)

      past-by : (i : ℕ) (named : Side × ℕ) → DeliveredNow w e i named → IsPast next.world named
      past-by i named d =
          now-past w.world next.world named.0 named.1 d.place d.delivers
          (subst (λ (v : WorldState). slice_get (half_of v named.0).frames named.1 ≡ Some d.delivers.frame) (sym next-world)
          (frame-after w.world (actor e) r next-takes named.0 named.1 d.delivers.frame d.delivers.is_there))

      never-now : (i : ℕ) (named : Side × ℕ) → DeliveredNow w e i named → IsPast w.world named → ⊥
      never-now i named d p =
          not-again w.world next.world named.0 named.1 d.place d.delivers (held-once next.world next-held (other named.0)) p

    once-more : (w : ControlledWorld C) (h : IsHeld SideInvariant w.world) (e : Event) (later : List (Side × ℕ)) (i : ℕ) (named : Side × ℕ)
        → ((j : ℕ) → slice_get later j ≡ Some named → ⊥) → IsPast w.world named → StandsAt (delivered_by e (happens_to control w e)) later i named → ⊥
    once-more w h e later i named never p (InFront now) = never-now w h e i named (delivered-now w h e i named now) p
    once-more w h e later i named never p (Following j same there) = never j there

    never-again : (w : ControlledWorld C) (events : List Event) → IsHeld SideInvariant w.world → (i : ℕ) (named : Side × ℕ)
        → slice_get (frames_delivered control w events) i ≡ Some named → IsPast w.world named → ⊥
    never-again w [] h i named there p = cc there
    never-again w (e ∷ events) h i named there p =
        once-more w h e (frames_delivered control (next w h e) events) i named
        (λ j later. never-again (next w h e) events (next-held w h e) j named later (next-past w h e named p)) p
        (stands-at (delivered_by e (happens_to control w e)) (frames_delivered control (next w h e) events) i named there)

    module _ (w : ControlledWorld C) (h : IsHeld SideInvariant w.world) (e : Event) (events : List Event) where
      abbrev now : List (Side × ℕ)
      now = delivered_by e (happens_to control w e)

      abbrev rest : List (Side × ℕ)
      rest = frames_delivered control (next w h e) events

      never-rest : (i j : ℕ) (named : Side × ℕ) → slice_get now i ≡ Some named → slice_get rest j ≡ Some named → ⊥
      never-rest i j named first second =
          never-again (next w h e) events (next-held w h e) j named second (past-by w h e i named (delivered-now w h e i named first))

      at-one : (i j : ℕ) (named : Side × ℕ)
          → ((m n : ℕ) → slice_get rest m ≡ Some named → slice_get rest n ≡ Some named → m ≡ n)
          → StandsAt now rest i named → StandsAt now rest j named → i ≡ j
      at-one i j named same (InFront first) (InFront second) =
          (delivered-now w h e i named first).alone ∙ sym (delivered-now w h e j named second).alone
      at-one i j named same (InFront first) (Following n is second) = absurd (never-rest i n named first second)
      at-one i j named same (Following m is first) (InFront second) = absurd (never-rest j m named second first)
      at-one i j named same (Following m is first) (Following n other_is second) =
          let ends = same m n first second in
          omega (arith, is, other_is, ends)

    -- No frame's data are delivered twice.
    pub delivered-once : (w : ControlledWorld C) (events : List Event) → IsHeld SideInvariant w.world → IsDeliveredOnce control w events
    delivered-once w [] h i j named one other = cc one
    delivered-once w (e ∷ events) h i j named one other =
        at-one w h e events i j named (λ m n first second. delivered-once (next w h e) events (next-held w h e) m n named first second)
        (stands-at (delivered_by e (happens_to control w e)) (frames_delivered control (next w h e) events) i named one)
        (stands-at (delivered_by e (happens_to control w e)) (frames_delivered control (next w h e) events) j named other)

-- data are carried by packets of two types
carriers : (kind : PacketType) → carries_data kind ≡ true → (kind ≡ types.Data) ⊎ (kind ≡ types.DataAck)
carriers types.Data is = inl refl
carriers types.DataAck is = inr refl
carriers _ is = cc is

-- the frame of data that are delivered
abbrev DataOf : WorldState → Event → WorldState → ℕ × ℕ → Type 0
DataOf old e new place =
    (from : Side) × (index : ℕ) × (frame : SentFrame) × (packet : Parts) × (e ≡ event.Deliver from index)
    × (slice_get (half_of old from).frames index ≡ Some frame) × (packet_of frame.bytes ≡ Some packet)
    × ((packet_type packet.header.kind ≡ types.Data) ⊎ (packet_type packet.header.kind ≡ types.DataAck))
    × (place.0 ≤ place.1) × (place.1 ≡ length frame.bytes) × (drop place.0 frame.bytes ≡ packet.payload)
    × ((half_of new (other from)).processed ≡ (half_of old (other from)).processed ++ frame.number ∷ [])

pub data-of : (old new : WorldState) (e : Event) (place : ℕ × ℕ) → DeliversIn old e new place → DataOf old e new place
data-of old new (event.Deliver from index) place d = (
  from,
  index,
  d.frame,
  d.packet,
  refl,
  d.is_there,
  d.is_packet,
  carriers (packet_type d.packet.header.kind) d.has_data,
  d.begins,
  d.ends,
  d.are_its_data,
  d.is_processed,
)
data-of old new _ place d = absurd d
