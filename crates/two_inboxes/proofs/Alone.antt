-- Two ends with inboxes are where two ends alone are.
use Rattle.std.proofs.Common.{◌≡◌, refl, sym, ap, ◌∙◌, subst, ℕ, ◌&&◌, ◌||◌, not, Bool, true, false, if◌then◌else◌, List, [], ◌∷◌, ◌++◌, length, map, drop, slice_get, zero, suc, Option, Some, None, Result, Ok, Err}
use Rattle.std.specs.Result.{result_ok}
use Rattle.congestion_trait.specs.Calls.{Call}
use Rattle.congestion_trait.specs.Control.{Control}
use Rattle.data_dropped.specs.Inbox.{InboxState}
use Rattle.data_dropped.specs.Telling.{TellsItsDrops}
use Rattle.data_dropped.proofs.OwnFrames.{step-tells}
use Rattle.dccp_endpoint.specs.Causes.{EveryStepHasOneEffect}
use Rattle.dccp_endpoint.specs.Controlled.{after_calls}
use Rattle.dccp_endpoint.specs.Drafts.{Fits}
use Rattle.dccp_endpoint.specs.End.{EndState, IsProper, floor_of}
use Rattle.dccp_endpoint.specs.Inputs.{Arrives, Input, end_stepped}
use Rattle.dccp_endpoint.specs.Receiving.{receives, takes_short}
use Rattle.seq_circle.specs.Circle.{is_ack_far, is_far}
use Rattle.dccp_packets.specs.declared.reading.Malformed.{Malformed}
use Rattle.dccp_endpoint.specs.declared.config.Config.{Config}
use Rattle.dccp_packets.specs.Grammar.{Parts, is_long}
use Rattle.dccp_packets.specs.Outgoing.{Outgoing}
use Rattle.dccp_packets.specs.declared.header.Number.{Number}
use Rattle.dccp_states.specs.declared.outcome.Outcome.{Outcome}
use Rattle.dccp_states.specs.declared.seen.Seen.{Seen}
use Rattle.dccp_states.specs.declared.seen.Seen.TheVariants as seen
use Rattle.dccp_sum.specs.declared.pseudo_header.Pseudo.{Pseudo}
use Rattle.two_ends.specs.Controlled.{ControlledWorld, congestion_of, controlled, controlled_after, controls, happens_to, plays, said_by}
use Rattle.two_ends.specs.Frames.{is_short_packet, packet_of}
use Rattle.two_ends.specs.World.{Half, Said, WorldState, WorldStep, as_sent, delivers_frame, half_of, half_steps, half_with, happens, in_world, is_far_frame, is_full, newly_processed, unless_far, with_half, world_after}
use Rattle.two_ends.specs.declared.frames.SentFrame.{SentFrame}
use Rattle.two_ends.proofs.OfWorlds.Acting.{IsHeld, Refused, Steps, Takes, event-taken}
use Rattle.two_ends.proofs.OfWorlds.Keeping.{SideInvariant, kept-proper, run-kept, step-kept}
use Rattle.world_events.specs.Actors.{actor, other}
use Rattle.world_events.specs.declared.event.Event.{Event}
use Rattle.world_events.specs.declared.event.Event.TheVariants as event
use Rattle.world_events.specs.declared.event.Side.{Side}
use Rattle.world_events.specs.declared.event.Side.TheVariants.{Client, Server}
use Rattle.world_events.specs.declared.event.WorldFault.{WorldFault}
use Rattle.world_events.specs.declared.event.WorldFault.TheVariants as fault
use Rattle.two_inboxes.specs.Alike.{IsSameStep, without_place}
use Rattle.two_inboxes.specs.Inboxes.{AreAddressed, Ends, Happens, InboxEvent, InboxPair, InboxSide, Reads, RunAsAlone, as_it_went, begins_with_inboxes, inbox_goes_on, happens_with, inbox_at, inbox_plays, inbox_steps, inbox_stepped, of_ends, said_frame, went_out_at, with_inbox_at}
use Rattle.two_inboxes.proofs.Alike.{longer_taken_alike}

-- what is told of a frame that is kept
abbrev pub outgoing_of : SentFrame → Outgoing
outgoing_of frame = record { bytes = frame.bytes; number = frame.number; ack = frame.ack }

-- The frame went out with these bytes: what some inbox had to say follows its options.
pub record IsSaid (pseudo : Pseudo) (frame : SentFrame) (bytes : List ℕ) : Type 0 where
  pub held : InboxState
  pub tells : TellsItsDrops pseudo held (outgoing_of frame) (record (outgoing_of frame) { bytes = bytes })

-- each frame and its bytes, in order
abbrev pub AreEach : (SentFrame → List ℕ → Type 0) → List SentFrame → List (List ℕ) → Type 0
AreEach Is [] [] = Unit {0}
AreEach Is [] (b ∷ bs) = ⊥
AreEach Is (f ∷ fs) [] = ⊥
AreEach Is (f ∷ fs) (b ∷ bs) = Is f b × AreEach Is fs bs

-- the bytes of a frame that was sent
pub record EachAt (Is : SentFrame → List ℕ → Type 0) (bs : List (List ℕ)) (i : ℕ) (frame : SentFrame) : Type 0 where
  pub bytes : List ℕ
  pub is_there : slice_get bs i ≡ Some bytes
  pub is_so : Is frame bytes

pub each-at : (Is : SentFrame → List ℕ → Type 0) (fs : List SentFrame) (bs : List (List ℕ)) → AreEach Is fs bs → (i : ℕ) (frame : SentFrame)
    → slice_get fs i ≡ Some frame → EachAt Is bs i frame
each-at Is [] bs all i frame there = cc there
each-at Is (f ∷ fs) [] all i frame there = absurd all
each-at Is (f ∷ fs) (b ∷ bs) all zero frame there =
    let same : f ≡ frame = cc there in
    record { bytes = b; is_there = refl; is_so = subst (λ (g : SentFrame). Is g b) same all.0 }
each-at Is (f ∷ fs) (b ∷ bs) all (suc i) frame there =
    let rest = each-at Is fs bs all.1 i frame there in
    record { bytes = rest.bytes; is_there = rest.is_there; is_so = rest.is_so }

pub each-append : (Is : SentFrame → List ℕ → Type 0) (fs gs : List SentFrame) (bs cs : List (List ℕ)) → AreEach Is fs bs → AreEach Is gs cs
    → AreEach Is (fs ++ gs) (bs ++ cs)
each-append Is [] gs [] cs first more = more
each-append Is [] gs (b ∷ bs) cs first more = absurd first
each-append Is (f ∷ fs) gs [] cs first more = absurd first
each-append Is (f ∷ fs) gs (b ∷ bs) cs first more = (first.0, each-append Is fs gs bs cs first.1 more)

pub each-map : (Is Was : SentFrame → List ℕ → Type 0) → ((f : SentFrame) (b : List ℕ) → Was f b → Is f b) → (fs : List SentFrame) (bs : List (List ℕ))
    → AreEach Was fs bs → AreEach Is fs bs
each-map Is Was so [] [] all = tt
each-map Is Was so [] (b ∷ bs) all = absurd all
each-map Is Was so (f ∷ fs) [] all = absurd all
each-map Is Was so (f ∷ fs) (b ∷ bs) all = (so f b all.0, each-map Is Was so fs bs all.1)

abbrev pub AreSaid : Pseudo → List SentFrame → List (List ℕ) → Type 0
AreSaid pseudo fs bs = AreEach (IsSaid pseudo) fs bs

pub drop-front : {X : Type 0} (xs ys : List X) → drop (length xs) (xs ++ ys) ≡ ys
drop-front [] ys = refl
drop-front (x ∷ xs) ys = drop-front xs ys

-- what was seen, without the place of data
abbrev pub seen_anywhere : Seen → Seen
seen_anywhere (seen.Received outcome) = seen.Received (without_place outcome)
seen_anywhere (seen.Called result) = seen.Called result
seen_anywhere (seen.Fired applies) = seen.Fired applies

-- two results say the same of the ends
pub record IsSameEvent (one two : WorldStep) : Type 0 where
  pub world : one.world ≡ two.world
  pub calls : one.calls ≡ two.calls
  pub seen : seen_anywhere one.seen ≡ seen_anywhere two.seen

abbrev pub SameEnds : Result WorldStep WorldFault → Result WorldStep WorldFault → Type 0
SameEnds (Ok one) (Ok two) = IsSameEvent one two
SameEnds (Ok one) (Err why) = ⊥
SameEnds (Err why) (Ok two) = ⊥
SameEnds (Err one) (Err two) = Unit {0}

same-ends : (r : Result WorldStep WorldFault) → SameEnds r r
same-ends (Ok step) = record { world = refl; calls = refl; seen = refl }
same-ends (Err why) = tt

module _ (w : WorldState) (side : Side) (frame : SentFrame) (bytes : List ℕ)
    (said : IsSaid (half_of w side).end.config.pseudo_in frame bytes) where
  abbrev half : Half
  half = half_of w side

  abbrev e : EndState
  e = half.end

  abbrev longer : SentFrame
  longer = record frame { bytes = bytes }

  short-same : is_short_packet (packet_of bytes) ≡ is_short_packet (packet_of frame.bytes)
  short-same =
      ap (λ (r : Result Parts Malformed). is_short_packet (result_ok r)) said.tells.is_packet
      ∙ ap (λ (n : Number). not (is_long n)) said.tells.same_number
      ∙ sym (ap (λ (r : Result Parts Malformed). is_short_packet (result_ok r)) said.tells.was_packet)

  far-same : is_far_frame e longer ≡ is_far_frame e frame
  far-same =
      ap (λ (short : Bool). takes_short e && (short && (is_far frame.number e.marks.gsr || is_ack_far frame.ack e.marks.gss))) short-same

  alike : IsSameStep (receives e bytes) (receives e frame.bytes)
  alike = longer_taken_alike e said.held (outgoing_of frame) (record (outgoing_of frame) { bytes = bytes }) said.tells

  half-same : (half_steps half (Some frame.number) (Arrives bytes)).half ≡ (half_steps half (Some frame.number) (Arrives frame.bytes)).half
  half-same =
      ap (λ (x : EndState). half_with half.frames x (half.processed ++ newly_processed e (Some frame.number) x) (receives e bytes).frame) alike.same_end
      ∙ ap
      (λ (out : Option Outgoing).
      half_with half.frames (receives e frame.bytes).after (half.processed ++ newly_processed e (Some frame.number) (receives e frame.bytes).after) out)
      alike.same_frame

  arrives-same : (full far : Bool)
      → SameEnds (if full then Err fault.Full else in_world w side (unless_far half longer far))
      (if full then Err fault.Full else in_world w side (unless_far half frame far))
  arrives-same true far = tt
  arrives-same false true = tt
  arrives-same false false =
      record { world = ap (with_half w side) half-same; calls = alike.same_calls; seen = ap (λ (o : Outcome). seen.Received o) alike.same_outcome }

-- What a step adds to the frames of its side goes out as said.
module _ (effects : EveryStepHasOneEffect) (half : Half) (proper : IsProper half.end) (arrived : Option ℕ) (given : Input) (held : InboxState) where
  abbrev after : Half
  after = (half_steps half arrived given).half

  config-same : after.end.config ≡ half.end.config
  config-same = ap (λ (e : EndState). e.config) (effects half.end given proper).after_is

  new-said : (processed floor : ℕ) (out : Option Outgoing) → (end_stepped half.end given).frame ≡ out
      → AreSaid after.end.config.pseudo_out (as_sent processed floor out) (map (said_frame after.end.config.pseudo_out held) (as_sent processed floor out))
  new-said processed floor None is = tt
  new-said processed floor (Some own) is = (record { held = held; tells = step-tells half.end given own held proper is }, tt)

  pub all-said : (said : List (List ℕ)) → AreSaid half.end.config.pseudo_out half.frames said
      → AreSaid after.end.config.pseudo_out after.frames
      (said ++ map (said_frame after.end.config.pseudo_out held) (drop (length half.frames) after.frames))
  all-said said before =
      let new : List SentFrame = as_sent (length after.processed) (floor_of after.end) (end_stepped half.end given).frame in
      let pseudo : Pseudo = after.end.config.pseudo_out in
      let old : AreSaid pseudo half.frames said = subst (λ (c : Config). AreSaid c.pseudo_out half.frames said) (sym config-same) before in
      subst (λ (fs : List SentFrame). AreSaid pseudo after.frames (said ++ map (said_frame pseudo held) fs)) (sym (drop-front half.frames new))
      (each-append (IsSaid pseudo) half.frames new said (map (said_frame pseudo held) new) old
      (new-said (length after.processed) (floor_of after.end) (end_stepped half.end given).frame refl))

-- What holds of two ends whose frames went out with what their inboxes had to say.
pub record IsLike (w : WorldState) (client server : List (List ℕ)) : Type 0 where
  pub kept : IsHeld SideInvariant w
  pub there : w.server.end.config.pseudo_in ≡ w.client.end.config.pseudo_out
  pub back : w.client.end.config.pseudo_in ≡ w.server.end.config.pseudo_out
  pub client_said : AreSaid w.client.end.config.pseudo_out w.client.frames client
  pub server_said : AreSaid w.server.end.config.pseudo_out w.server.frames server

module _ {C : Type 0} (control : Control C) (effects : EveryStepHasOneEffect) where
  abbrev pub IsPairLike : InboxPair C → Type 0
  IsPairLike w = IsLike w.ends.world w.client.said w.server.said

  -- the frames of a side, as the other side takes them
  said-there : (w : InboxPair C) → IsPairLike w → (from : Side)
      → AreSaid (half_of w.ends.world (other from)).end.config.pseudo_in (half_of w.ends.world from).frames (inbox_at w from).said
  said-there w like Client = subst (λ (p : Pseudo). AreSaid p w.ends.world.client.frames w.client.said) (sym like.there) like.client_said
  said-there w like Server = subst (λ (p : Pseudo). AreSaid p w.ends.world.server.frames w.server.said) (sym like.back) like.server_said

  deliver-same : (w : InboxPair C) → IsPairLike w → (from : Side) (index : ℕ)
      → SameEnds (delivers_frame w.ends.world from (went_out_at w from index))
      (delivers_frame w.ends.world from (slice_get (half_of w.ends.world from).frames index))
  deliver-same w like from index = by (slice_get (half_of w.ends.world from).frames index) refl where
    by : (o : Option SentFrame) → slice_get (half_of w.ends.world from).frames index ≡ o
        → SameEnds (delivers_frame w.ends.world from (as_it_went o (slice_get (inbox_at w from).said index))) (delivers_frame w.ends.world from o)
    by None there = tt
    by (Some frame) there =
        let to : Side = other from in
        let world : WorldState = w.ends.world in
        let half : Half = half_of world to in
        let at = each-at (IsSaid half.end.config.pseudo_in) (half_of world from).frames (inbox_at w from).said (said-there w like from) index frame there in
        let longer : SentFrame = record frame { bytes = at.bytes } in
        subst (λ (b : Option (List ℕ)). SameEnds (delivers_frame world from (as_it_went (Some frame) b)) (delivers_frame world from (Some frame)))
        (sym at.is_there)
        (subst
        (λ (far : Bool).
        SameEnds (if is_full half then Err fault.Full else in_world world to (unless_far half longer far)) (delivers_frame world from (Some frame)))
        (sym (far-same world to frame at.bytes at.is_so))
        (arrives-same world to frame at.bytes at.is_so (is_full half) (is_far_frame half.end frame)))

  pub happens-same : (w : InboxPair C) → IsPairLike w → (e : Event) (said : Said) → SameEnds (happens_with w e said) (happens w.ends.world e said)
  happens-same w like (event.Deliver from index) said = deliver-same w like from index
  happens-same w like event.Open said = same-ends (happens w.ends.world event.Open said)
  happens-same w like (event.Send side payload) said = same-ends (happens w.ends.world (event.Send side payload) said)
  happens-same w like (event.SendEarly side payload) said = same-ends (happens w.ends.world (event.SendEarly side payload) said)
  happens-same w like (event.Prefer side feature place values) said = same-ends (happens w.ends.world (event.Prefer side feature place values) said)
  happens-same w like (event.Timer side timer) said = same-ends (happens w.ends.world (event.Timer side timer) said)
  happens-same w like (event.Close side) said = same-ends (happens w.ends.world (event.Close side) said)
  happens-same w like (event.Abort side) said = same-ends (happens w.ends.world (event.Abort side) said)

  with-ends : (w : InboxPair C) (side : Side) (x : InboxSide) → (with_inbox_at w side x).ends ≡ w.ends
  with-ends w Client x = refl
  with-ends w Server x = refl

  controlled-same : (w : ControlledWorld C) (side : Side) (one two : WorldStep) → one.world ≡ two.world → one.calls ≡ two.calls
      → controlled control w side one ≡ controlled control w side two
  controlled-same w Client one two world calls =
      ap (λ (v : WorldState). record w { world = v; for_client = after_calls control w.for_client one.calls }) world
      ∙ ap (λ (c : List Call). record w { world = two.world; for_client = after_calls control w.for_client c }) calls
  controlled-same w Server one two world calls =
      ap (λ (v : WorldState). record w { world = v; for_server = after_calls control w.for_server one.calls }) world
      ∙ ap (λ (c : List Call). record w { world = two.world; for_server = after_calls control w.for_server c }) calls

  -- the ends after an event are those that two ends alone leave
  pub ends-same : (w : InboxPair C) (e : Event) (one two : Result WorldStep WorldFault) → SameEnds one two
      → (inbox_goes_on control w e one).ends ≡ controlled_after w.ends (controls control w.ends (actor e) two)
  ends-same w e (Ok one) (Ok two) same =
      with-ends (record w { ends = controlled control w.ends (actor e) one }) (actor e) (inbox_stepped w e one)
      ∙ controlled-same w.ends (actor e) one two same.world same.calls
  ends-same w e (Ok one) (Err why) same = absurd same
  ends-same w e (Err why) (Ok two) same = absurd same
  ends-same w e (Err one) (Err two) same = refl

  -- a step of a side
  like-stepped : (w : InboxPair C) → IsPairLike w → (side : Side) (arrived : Option ℕ) (given : Input) (step : WorldStep) (x : InboxSide) (held : InboxState)
      → IsHeld SideInvariant step.world
      → step.world ≡ with_half w.ends.world side (half_steps (half_of w.ends.world side) arrived given).half
      → x.said ≡ (inbox_at w side).said
      ++ map (said_frame (half_of step.world side).end.config.pseudo_out held) (drop (length (half_of w.ends.world side).frames) (half_of step.world side).frames)
      → IsPairLike (with_inbox_at (record w { ends = controlled control w.ends side step }) side x)
  like-stepped w like Client arrived given step x held kept world said =
      let half : Half = w.ends.world.client in
      let proper = kept-proper w.ends.world like.kept Client in
      let config = config-same effects half proper arrived given held in
      let Said : WorldState → List (List ℕ) = λ (v : WorldState).
      w.client.said ++ map (said_frame v.client.end.config.pseudo_out held) (drop (length half.frames) v.client.frames)
      in
      subst (λ (bs : List (List ℕ)). IsLike step.world bs w.server.said) (sym said)
      (subst (λ (v : WorldState). IsHeld SideInvariant v → IsLike v (Said v) w.server.said) (sym world)
      (λ held_so. record {
        kept = held_so;
        there = like.there ∙ sym (ap (λ (c : Config). c.pseudo_out) config);
        back = ap (λ (c : Config). c.pseudo_in) config ∙ like.back;
        client_said = all-said effects half proper arrived given held w.client.said like.client_said;
        server_said = like.server_said;
      }) kept)
  like-stepped w like Server arrived given step x held kept world said =
      let half : Half = w.ends.world.server in
      let proper = kept-proper w.ends.world like.kept Server in
      let config = config-same effects half proper arrived given held in
      let Said : WorldState → List (List ℕ) = λ (v : WorldState).
      w.server.said ++ map (said_frame v.server.end.config.pseudo_out held) (drop (length half.frames) v.server.frames)
      in
      subst (λ (bs : List (List ℕ)). IsLike step.world w.client.said bs) (sym said)
      (subst (λ (v : WorldState). IsHeld SideInvariant v → IsLike v w.client.said (Said v)) (sym world)
      (λ held_so. record {
        kept = held_so;
        there = ap (λ (c : Config). c.pseudo_in) config ∙ like.there;
        back = like.back ∙ sym (ap (λ (c : Config). c.pseudo_out) config);
        client_said = like.client_said;
        server_said = all-said effects half proper arrived given held w.server.said like.server_said;
      }) kept)

  -- an event
  like-on : (w : InboxPair C) → IsPairLike w → (e : Event) (one two : Result WorldStep WorldFault) → SameEnds one two → Takes w.ends.world (actor e) two
      → IsHeld SideInvariant (world_after w.ends.world two) → IsPairLike (inbox_goes_on control w e one)
  like-on w like e (Err why) two same takes kept = like
  like-on w like e (Ok one) _ same (Refused why) kept = absurd same
  like-on w like e (Ok one) _ same (Steps arrived given room from) kept =
      like-stepped w like (actor e) arrived given one (inbox_stepped w e one) (inbox_stepped w e one).past.held
      (subst (IsHeld SideInvariant) (sym same.world) kept) same.world refl

  pub like-after : (w : InboxPair C) → IsPairLike w → (e : Event) → IsPairLike (inbox_steps control w (Happens e))
  like-after w like e =
      let said : Said = said_by control (congestion_of w.ends (actor e)) in
      let takes = event-taken w.ends.world e said in
      like-on w like e (happens_with w e said) (happens w.ends.world e said) (happens-same w like e said) takes
      (step-kept effects w.ends.world (actor e) (happens w.ends.world e said) takes like.kept)

  pub ends-after : (w : InboxPair C) → IsPairLike w → (e : Event)
      → (inbox_steps control w (Happens e)).ends ≡ controlled_after w.ends (happens_to control w.ends e)
  ends-after w like e =
      let said : Said = said_by control (congestion_of w.ends (actor e)) in
      ends-same w e (happens_with w e said) (happens w.ends.world e said) (happens-same w like e said)

  runs-alone : (w : InboxPair C) → IsPairLike w → (events : List InboxEvent) → (inbox_plays control w events).ends ≡ plays control w.ends (of_ends events)
  runs-alone w like [] = refl
  runs-alone w like (Happens e ∷ events) =
      runs-alone (inbox_steps control w (Happens e)) (like-after w like e) events
      ∙ ap (λ (v : ControlledWorld C). plays control v (of_ends events)) (ends-after w like e)
  runs-alone w like (Reads Client ∷ events) = runs-alone (inbox_steps control w (Reads Client)) like events
  runs-alone w like (Reads Server ∷ events) = runs-alone (inbox_steps control w (Reads Server)) like events
  runs-alone w like (Ends Client ∷ events) = runs-alone (inbox_steps control w (Ends Client)) like events
  runs-alone w like (Ends Server ∷ events) = runs-alone (inbox_steps control w (Ends Server)) like events

  pub like-at-start : (client server : Config) (for_client for_server : C) (client_most server_most : ℕ) → Fits client → Fits server → AreAddressed client server
      → IsPairLike (begins_with_inboxes control client server for_client for_server client_most server_most)
  like-at-start client server for_client for_server client_most server_most client_fits server_fits paired =
      record {
        kept = run-kept effects client server [] client_fits server_fits;
        there = paired.0;
        back = paired.1;
        client_said = tt;
        server_said = tt;
      }

  pub run_as_alone : RunAsAlone control
  run_as_alone client server for_client for_server client_most server_most events client_fits server_fits paired =
      runs-alone (begins_with_inboxes control client server for_client for_server client_most server_most)
      (like-at-start client server for_client for_server client_most server_most client_fits server_fits paired) events
