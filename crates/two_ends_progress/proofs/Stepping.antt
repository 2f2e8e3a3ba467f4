-- One event of a world that schedules reach: who acts, what is kept, and what is then known of the numbers.
use Rattle.std.proofs.Common.{◌≡◌, inl, inr, refl, ap, sym, ◌∙◌, subst, ℕ, ◌+◌, ◌-◌, ◌^◌, ◌<◌, ◌≤◌, true, false, List, [], ◌∷◌, ◌++◌, Option, Some, None, slice_get, length, length-append, arith}
use Rattle.congestion_trait.specs.Control.{Control}
use Rattle.dccp_packets.specs.Grammar.{packet_type}
use Rattle.dccp_packets.specs.Kinds.{ack_of}
use Rattle.dccp_packets.specs.Outgoing.{Outgoing}
use Rattle.dccp_packets.specs.declared.header.Kind.{Kind}
use Rattle.dccp_states.specs.declared.calls.Timer.{Timer}
use Rattle.dccp_states.specs.declared.phase.Phase.{Phase}
use Rattle.dccp_endpoint.specs.Calling.{closes, fires, opens}
use Rattle.dccp_endpoint.specs.Causes.{EveryStepHasOneEffect, verdict_of}
use Rattle.dccp_endpoint.specs.Controlled.{has_in_flight}
use Rattle.dccp_endpoint.specs.Drafts.{Draft, Fits, alone, frame_of, sent_of}
use Rattle.dccp_endpoint.specs.End.{EndState, IsProper, floor_of, is_begun, is_live}
use Rattle.dccp_endpoint.specs.Inputs as input
use Rattle.dccp_endpoint.specs.Inputs.{Input}
use Rattle.dccp_endpoint.specs.Receiving.{receives}
use Rattle.dccp_endpoint.specs.Steps.{Step, next_number}
use Rattle.dccp_endpoint.specs.declared.config.Config.{Config}
use Rattle.two_ends.specs.Controlled.{ControlledWorld, congestion_of, said_by}
use Rattle.two_ends.specs.Numbered.{Hears}
use Rattle.two_ends.specs.World.{Calls, Half, Said, WorldState, as_sent, half_of, half_steps, happens, is_far_frame, is_full, moved, takes_place, with_half, world_after}
use Rattle.two_ends.specs.declared.frames.SentFrame.{SentFrame}
use Rattle.two_ends.proofs.OfWorlds.Acting.{IsHeld, event-taken, party_of}
use Rattle.two_ends.proofs.OfWorlds.Keeping.{HasRoles, SideInvariant, step-kept}
use Rattle.two_ends.proofs.OfWorlds.Numbering.{few-logged, sent-few}
use Rattle.two_ends.proofs.OfWorlds.Reaching.{world-after}
use Rattle.validity_windows.specs.Verdict.{verdict}
use Rattle.validity_windows.specs.declared.verdict.Verdict.{Verdict}
use Rattle.world_events.specs.Actors.{actor, other}
use Rattle.world_events.specs.declared.event.Event.{Event}
use Rattle.world_events.specs.declared.event.Event.TheVariants as event
use Rattle.world_events.specs.declared.event.Side.{Side}
use Rattle.world_events.specs.declared.event.Side.TheVariants.{Client, Server}
use Rattle.two_ends_progress.specs.Leading.{HaveRoomFor}
use Rattle.two_ends_progress.specs.Paired.{IsSentTo}
use Rattle.two_ends_progress.proofs.Arriving.{IsBare, IsHere, IsPlain, IsRead, bare-plain, draft-read, long-near}
use Rattle.two_ends_progress.proofs.Leading.{next}
use Rattle.two_ends_progress.proofs.Numbers.{AreHeard, AreInOrder}
use Rattle.two_ends_progress.proofs.Receiving.{Moves, Says}

-- The two sides, of which the first one acts.
pub data AreTwo : Side → Side → Type 0 where
  ClientFirst : AreTwo Client Server
  ServerFirst : AreTwo Server Client

pub turned : {x y : Side} → AreTwo x y → AreTwo y x
turned ClientFirst = ServerFirst
turned ServerFirst = ClientFirst

-- The first side takes another state, and the second is as it was.
pub record Acts (w v : WorldState) (x y : Side) (half : Half) : Type 0 where
  pub acting : half_of v x ≡ half
  pub resting : half_of v y ≡ half_of w y

pub acts-with : (w v : WorldState) {x y : Side} (half : Half) → AreTwo x y → v ≡ with_half w x half → Acts w v x y half
acts-with w v half ClientFirst same = record { acting = ap (λ (u : WorldState). u.client) same; resting = ap (λ (u : WorldState). u.server) same }
acts-with w v half ServerFirst same = record { acting = ap (λ (u : WorldState). u.server) same; resting = ap (λ (u : WorldState). u.client) same }

-- What holds of each world on the way.
pub record IsUnderWay (more : ℕ) (w : WorldState) : Type 0 where
  pub held : IsHeld SideInvariant w
  pub roles : HasRoles w
  pub there : IsSentTo w.client.end.config w.server.end.config
  pub back : IsSentTo w.server.end.config w.client.end.config
  pub room : HaveRoomFor more w

pub fewer-under-way : (fewer more : ℕ) (w : WorldState) → fewer ≤ more → IsUnderWay more w → IsUnderWay fewer w
fewer-under-way fewer more w less s =
    record { held = s.held; roles = s.roles; there = s.there; back = s.back; room = λ side. omega (arith, s.room side, less) }

-- what the second side sends is meant for the first
pub meant-of : (more : ℕ) (w : WorldState) {x y : Side} → AreTwo x y → IsUnderWay more w → IsSentTo (half_of w y).end.config (half_of w x).end.config
meant-of more w ClientFirst u = u.back
meant-of more w ServerFirst u = u.there

-- A side has sent this draft under this number, with long numbers.
pub record IsOut (half : Half) (number : ℕ) (d : Draft) : Type 0 where
  pub index : ℕ
  pub frame : SentFrame
  pub is_there : slice_get half.frames index ≡ Some frame
  pub same : frame.bytes ≡ frame_of half.end.config false number d

-- a type alone
abbrev pub IsSent : Half → ℕ → Kind → Type 0
IsSent half number k = IsOut half number (alone k)

pub at-end : {X : Type 0} (xs : List X) (x : X) → slice_get (xs ++ x ∷ []) (length xs) ≡ Some x
at-end [] x = refl
at-end (y ∷ ys) x = at-end ys x

pub out-so : {A : Type 0} (half : Half) (arrived : Option ℕ) (s : Step A) (number : ℕ) (d : Draft)
    → s.frame ≡ Some (sent_of s.after.config false number d) → IsOut (moved half arrived s) number d
out-so half arrived s number d is =
    record {
      index = length half.frames;
      frame = _;
      is_there =
          ap (λ (frame : Option Outgoing).
          slice_get (half.frames ++ as_sent (length (moved half arrived s).processed) (floor_of s.after) frame) (length half.frames)) is
          ∙ at-end half.frames _;
      same = refl;
    }

pub sent-so : {A : Type 0} (half : Half) (arrived : Option ℕ) (s : Step A) (number : ℕ) (k : Kind)
    → s.frame ≡ Some (sent_of s.after.config false number (alone k)) → IsSent (moved half arrived s) number k
sent-so half arrived s number k is = out-so half arrived s number (alone k) is

-- A side has room for a frame.
pub room-so : (half : Half) (more : ℕ) → length half.frames + more < 2 ^ 47 - 1 → is_full half ≡ false
room-so half more room = grind (arith, room)

delivered-so : (w : WorldState) (from : Side) (index : ℕ) (frame : SentFrame) (said : Said) → slice_get (half_of w from).frames index ≡ Some frame
    → is_full (half_of w (other from)) ≡ false → is_far_frame (half_of w (other from)).end frame ≡ false
    → world_after w (happens w (event.Deliver from index) said)
    ≡ with_half w (other from) (moved (half_of w (other from)) (Some frame.number) (receives (half_of w (other from)).end frame.bytes))
delivered-so w from index frame said there room near = rw (there, room, near) refl

pub called-so : (w : WorldState) (side : Side) (given : Input) → is_full (half_of w side) ≡ false
    → world_after w (takes_place w (Calls side given)) ≡ with_half w side (half_steps (half_of w side) None given).half
called-so w side given room = rw room refl

-- What is known of a world after an event at which a side has moved.
pub record IsAfter (more : ℕ) (w v : WorldState) (x y : Side) (to : Phase) (gsr gar : ℕ) : Type 0 where
  pub under_way : IsUnderWay more v
  pub phase : (half_of v x).end.phase ≡ to
  pub gsr_is : (half_of v x).end.marks.gsr ≡ gsr
  pub gar_is : (half_of v x).end.marks.gar ≡ gar
  pub rows_are : (half_of v x).end.rows ≡ (half_of w x).end.rows
  pub rests : half_of v y ≡ half_of w y

-- and has sent a type alone
pub record HasSaid (more : ℕ) (w v : WorldState) (x y : Side) (to : Phase) (gsr gar : ℕ) (k : Kind) : Type 0 where
  pub is_after : IsAfter more w v x y to gsr gar
  pub gss_is : (half_of v x).end.marks.gss ≡ next_number (half_of w x).end
  pub sent : IsSent (half_of v x) (half_of v x).end.marks.gss k

configs-so : {A : Type 0} (w v : WorldState) {x y : Side} (two : AreTwo x y) (arrived : Option ℕ) (s : Step A)
    → Acts w v x y (moved (half_of w x) arrived s)
    → s.after.config ≡ (half_of w x).end.config → (each : Side) → (half_of v each).end.config ≡ (half_of w each).end.config
configs-so w v ClientFirst arrived s acts same Client = ap (λ (h : Half). h.end.config) acts.acting ∙ same
configs-so w v ClientFirst arrived s acts same Server = ap (λ (h : Half). h.end.config) acts.resting
configs-so w v ServerFirst arrived s acts same Client = ap (λ (h : Half). h.end.config) acts.resting
configs-so w v ServerFirst arrived s acts same Server = ap (λ (h : Half). h.end.config) acts.acting ∙ same

pub longer-so : {A : Type 0} (half : Half) (arrived : Option ℕ) (s : Step A) → length (moved half arrived s).frames ≤ length half.frames + 1
longer-so half arrived s =
    let one = sent-few (length (moved half arrived s).processed) (floor_of s.after) s.frame in
    omega (
      arith,
      one,
      length-append half.frames (as_sent (length (moved half arrived s).processed) (floor_of s.after) s.frame),
    )

acting-longer : {A : Type 0} (old new : Half) (arrived : Option ℕ) (s : Step A) → new ≡ moved old arrived s → length new.frames ≤ length old.frames + 1
acting-longer old new arrived s same = subst (λ (h : Half). length h.frames ≤ length old.frames + 1) (sym same) (longer-so old arrived s)

resting-longer : (old new : Half) → new ≡ old → length new.frames ≤ length old.frames + 1
resting-longer old new same = subst (λ (h : Half). length h.frames ≤ length old.frames + 1) (sym same) (omega arith)

frames-so : {A : Type 0} (w v : WorldState) {x y : Side} (two : AreTwo x y) (arrived : Option ℕ) (s : Step A)
    → Acts w v x y (moved (half_of w x) arrived s) → (each : Side) → length (half_of v each).frames ≤ length (half_of w each).frames + 1
frames-so w v ClientFirst arrived s acts Client = acting-longer w.client v.client arrived s acts.acting
frames-so w v ClientFirst arrived s acts Server = resting-longer w.server v.server acts.resting
frames-so w v ServerFirst arrived s acts Client = resting-longer w.client v.client acts.resting
frames-so w v ServerFirst arrived s acts Server = acting-longer w.server v.server arrived s acts.acting

pub same-meant : (a b c d : Config) → c ≡ a → d ≡ b → IsSentTo a b → IsSentTo c d
same-meant a b c d from to meant = subst (λ (k : Config). IsSentTo k d) (sym from) (subst (λ (k : Config). IsSentTo a k) (sym to) meant)

-- as it is seen from the first side
pub held-two : (w : WorldState) (h : IsHeld SideInvariant w) {x y : Side} → AreTwo x y
    → SideInvariant (party_of w h.logs x) (party_of w h.logs y) × SideInvariant (party_of w h.logs y) (party_of w h.logs x)
held-two w h ClientFirst = h.holds
held-two w h ServerFirst = (h.holds.1, h.holds.0)

module _ (more : ℕ) (w : WorldState) (u : IsUnderWay more w) {x y : Side} (two : AreTwo x y) where
  abbrev mine : SideInvariant (party_of w u.held.logs x) (party_of w u.held.logs y)
  mine = (held-two w u.held two).0

  abbrev others : SideInvariant (party_of w u.held.logs y) (party_of w u.held.logs x)
  others = (held-two w u.held two).1

  pub fits-of : Fits (half_of w x).end.config
  fits-of = mine.ordered.fits

  pub proper-of : IsProper (half_of w x).end
  proper-of = mine.ordered.proper

  pub gsr-small : (half_of w x).end.marks.gsr < 2 ^ 48
  gsr-small = mine.ordered.numbers.gsr

  pub gss-small : (half_of w x).end.marks.gss < 2 ^ 48
  gss-small = mine.ordered.numbers.gss

  -- ISR and GSR are numbers that the other side has sent.
  pub heard-so : is_live (half_of w x).end.phase ≡ true → AreHeard (half_of w x).end.marks (half_of w y).end.marks.gss
  heard-so live = by mine.hears where
    iss : ℕ
    iss = (half_of w y).end.config.iss

    count : ℕ
    count = length (u.held.logs y)

    by : Hears iss count (half_of w x).end → AreHeard (half_of w x).end.marks (half_of w y).end.marks.gss
    by (inl unset) = absurd (let dead : is_live (half_of w x).end.phase ≡ false = unset.not_live in cc (live, dead))
    by (inr h) =
        record {
          first = iss;
          begin = h.first.place;
          greatest = h.greatest.place;
          end = count - 1;
          isr_is = h.first.same;
          gsr_is = h.greatest.same;
          last_is = omega (arith, others.ordered.greatest, h.greatest.was_sent);
          begins = h.in_order;
          ends = omega (arith, h.greatest.was_sent);
          few = omega (arith, few-logged (party_of w u.held.logs y) others.ordered, h.greatest.was_sent);
          widths = mine.ordered.proper.widths;
        }

  -- GAR is a number of the own ones, and none is after GSS.
  abbrev pub own-in-order : is_begun (half_of w x).end.phase ≡ true → AreInOrder (half_of w x).end.marks.gar (half_of w x).end.marks.gss
  own-in-order begun =
      let some = mine.acknowledged.begun begun in
      record {
        first = (half_of w x).end.config.iss;
        early = mine.acknowledged.gar.place;
        late = length (u.held.logs x) - 1;
        low_is = mine.acknowledged.gar.same;
        high_is = omega (arith, mine.ordered.greatest, some);
        in_order = omega (arith, mine.acknowledged.gar.was_sent, some);
        few = omega (arith, few-logged (party_of w u.held.logs x) mine.ordered);
      }

module _ {C : Type 0} (control : Control C) (effects : EveryStepHasOneEffect) where
  -- what a congestion control says
  abbrev said : ControlledWorld C → Event → Said
  said w e = said_by control (congestion_of w (actor e))

  pub after-so : (w : ControlledWorld C) (e : Event) → (next control w e).world ≡ world_after w.world (happens w.world e (said w e))
  after-so w e = world-after control w (actor e) (happens w.world e (said w e))

  held-next : (w : ControlledWorld C) (e : Event) → IsHeld SideInvariant w.world → IsHeld SideInvariant (next control w e).world
  held-next w e h =
      subst (IsHeld SideInvariant) (sym (after-so w e))
      (step-kept effects w.world (actor e) (happens w.world e (said w e)) (event-taken w.world e (said w e)) h)

  pub arrives : (w : ControlledWorld C) {x y : Side} (two : AreTwo x y) (index : ℕ) (frame : SentFrame) → slice_get (half_of w.world y).frames index ≡ Some frame
      → is_full (half_of w.world x) ≡ false → is_far_frame (half_of w.world x).end frame ≡ false
      → Acts w.world (next control w (event.Deliver y index)).world x y
      (moved (half_of w.world x) (Some frame.number) (receives (half_of w.world x).end frame.bytes))
  arrives w ClientFirst index frame there room near =
      acts-with w.world _ _ ClientFirst (after-so w (event.Deliver Server index) ∙ delivered-so w.world Server index frame (said w (event.Deliver Server index)) there room near)
  arrives w ServerFirst index frame there room near =
      acts-with w.world _ _ ServerFirst (after-so w (event.Deliver Client index) ∙ delivered-so w.world Client index frame (said w (event.Deliver Client index)) there room near)

  pub open-acts : (w : ControlledWorld C) → is_full w.world.client ≡ false
      → Acts w.world (next control w event.Open).world Client Server (moved w.world.client None (opens w.world.client.end))
  open-acts w room = acts-with w.world _ _ ClientFirst (after-so w event.Open ∙ called-so w.world Client input.Opens room)

  pub close-acts : (w : ControlledWorld C) {x y : Side} (two : AreTwo x y) (more : ℕ) → IsUnderWay more w.world
      → Acts w.world (next control w (event.Close x)).world x y (moved (half_of w.world x) None (closes (half_of w.world x).end))
  close-acts w {x} two more s =
      acts-with w.world _ _ two
      (after-so w (event.Close x) ∙ called-so w.world x input.Closes (room-so (half_of w.world x) more (s.room x)))

  pub timer-acts : (w : ControlledWorld C) {x y : Side} (two : AreTwo x y) (timer : Timer) (more : ℕ) → IsUnderWay more w.world
      → Acts w.world (next control w (event.Timer x timer)).world x y
      (moved (half_of w.world x) None (fires (half_of w.world x).end timer (has_in_flight control (congestion_of w x))))
  timer-acts w {x} two timer more s =
      acts-with w.world _ _ two
      (after-so w (event.Timer x timer)
      ∙ called-so w.world x (input.Fires timer (has_in_flight control (congestion_of w x))) (room-so (half_of w.world x) more (s.room x)))

  pub under-way-next : {A : Type 0} (more : ℕ) (w : ControlledWorld C) (e : Event) {x y : Side} (two : AreTwo x y) (arrived : Option ℕ) (s : Step A)
      → Acts w.world (next control w e).world x y (moved (half_of w.world x) arrived s) → s.after.config ≡ (half_of w.world x).end.config
      → IsUnderWay (more + 1) w.world → IsUnderWay more (next control w e).world
  under-way-next more w e two arrived s acts same u =
      let v : WorldState = (next control w e).world in
      let configs = configs-so w.world v two arrived s acts same in
      record {
        held = held-next w e u.held;
        roles =
            record {
              is_client = ap (λ (c : Config). c.role) (configs Client) ∙ u.roles.is_client;
              is_server = ap (λ (c : Config). c.role) (configs Server) ∙ u.roles.is_server;
            };
        there = same-meant w.world.client.end.config w.world.server.end.config v.client.end.config v.server.end.config (configs Client) (configs Server) u.there;
        back = same-meant w.world.server.end.config w.world.client.end.config v.server.end.config v.client.end.config (configs Server) (configs Client) u.back;
        room = λ each. omega (arith, u.room each, frames-so w.world v two arrived s acts each);
      }

  pub after-moves : {A : Type 0} (more : ℕ) (w : ControlledWorld C) (e : Event) {x y : Side} (two : AreTwo x y) (arrived : Option ℕ) (s : Step A)
      (to : Phase) (gsr gar : ℕ)
      → Acts w.world (next control w e).world x y (moved (half_of w.world x) arrived s) → Moves (half_of w.world x).end s to gsr gar
      → IsUnderWay (more + 1) w.world → IsAfter more w.world (next control w e).world x y to gsr gar
  after-moves more w e two arrived s to gsr gar acts moves u =
      record {
        under_way = under-way-next more w e two arrived s acts moves.config u;
        phase = ap (λ (h : Half). h.end.phase) acts.acting ∙ moves.phase;
        gsr_is = ap (λ (h : Half). h.end.marks.gsr) acts.acting ∙ moves.gsr_is;
        gar_is = ap (λ (h : Half). h.end.marks.gar) acts.acting ∙ moves.gar_is;
        rows_are = ap (λ (h : Half). h.end.rows) acts.acting ∙ moves.rows_are;
        rests = acts.resting;
      }

  pub after-says : {A : Type 0} (more : ℕ) (w : ControlledWorld C) (e : Event) {x y : Side} (two : AreTwo x y) (arrived : Option ℕ) (s : Step A)
      (to : Phase) (gsr gar : ℕ) (k : Kind)
      → Acts w.world (next control w e).world x y (moved (half_of w.world x) arrived s) → Says (half_of w.world x).end s to gsr gar k
      → IsUnderWay (more + 1) w.world → HasSaid more w.world (next control w e).world x y to gsr gar k
  after-says more w e {x} two arrived s to gsr gar k acts says u =
      let half : Half = half_of w.world x in
      let sent : IsSent (moved half arrived s) s.after.marks.gss k =
      sent-so half arrived s s.after.marks.gss k
      (says.frame_is
      ∙ ap (λ (c : Config). Some (sent_of c false (next_number half.end) (alone k))) (sym says.moves.config)
      ∙ ap (λ (n : ℕ). Some (sent_of s.after.config false n (alone k))) (sym says.gss_is)) in
      record {
        is_after = after-moves more w e two arrived s to gsr gar acts says.moves u;
        gss_is = ap (λ (h : Half). h.end.marks.gss) acts.acting ∙ says.gss_is;
        sent = subst (λ (h : Half). IsSent h h.end.marks.gss k) (sym acts.acting) sent;
      }

  -- The frame of a draft can arrive, and this is what comes.
  pub record IsComing (w : ControlledWorld C) (x y : Side) (number : ℕ) (d : Draft) : Type 0 where
    pub index : ℕ
    pub frame : SentFrame
    pub here : IsRead (half_of w.world x).end frame.bytes number d
    pub acts : Acts w.world (next control w (event.Deliver y index)).world x y
        (moved (half_of w.world x) (Some frame.number) (receives (half_of w.world x).end frame.bytes))

  pub coming : (more : ℕ) (w : ControlledWorld C) {x y : Side} (two : AreTwo x y) (number : ℕ) (d : Draft) → IsUnderWay more w.world
      → IsOut (half_of w.world y) number d → number < 2 ^ 48 → IsPlain d → IsComing w x y number d
  coming more w {x} {y} two number d u out small plain =
      let e : EndState = (half_of w.world x).end in
      let here : IsRead e out.frame.bytes number d =
      subst (λ (bytes : List ℕ). IsRead e bytes number d) (sym out.same)
      (draft-read (half_of w.world y).end.config e number d (meant-of more w.world two u) (fits-of more w.world u (turned two)) small plain) in
      record {
        index = out.index;
        frame = out.frame;
        here = here;
        acts = arrives w two out.index out.frame out.is_there (room-so (half_of w.world x) more (u.room x)) (long-near e out.frame here.is_long);
      }

  pub arriving : (more : ℕ) (w : ControlledWorld C) {x y : Side} (two : AreTwo x y) (number : ℕ) (k : Kind) → IsUnderWay more w.world
      → IsSent (half_of w.world y) number k → number < 2 ^ 48 → IsBare k → IsComing w x y number (alone k)
  arriving more w two number k u sent small bare = coming more w two number (alone k) u sent small (bare-plain k bare)

-- The verdict of what came, by its type and its numbers.
pub verdict-read : (e : EndState) (bytes : List ℕ) (number : ℕ) (d : Draft) (here : IsRead e bytes number d) (is : Verdict)
    → verdict e.marks (packet_type d.kind) number (ack_of d.kind) ≡ is → verdict_of e here.packet ≡ is
verdict-read e bytes number d here is same = rw (here.type_is, here.numbered, here.acks) same

pub verdict-so : (e : EndState) (bytes : List ℕ) (number : ℕ) (k : Kind) (here : IsHere e bytes number k) (is : Verdict)
    → verdict e.marks (packet_type k) number (ack_of k) ≡ is → verdict_of e here.packet ≡ is
verdict-so e bytes number k here is same = verdict-read e bytes number (alone k) here is same
