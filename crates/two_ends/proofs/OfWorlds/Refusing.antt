-- Why an event is refused: from what the code finds of a frame and of the side at which it arrives to what `happens_to` says, and from that to
-- the causes.
use Rattle.std.proofs.Common.{◌≡◌, ◌↔◌, refl, ap, sym, ◌∙◌, subst, ℕ, ◌-◌, ◌^◌, ◌<◌, ◌≤◌, Bool, true, false, if◌then◌else◌, List, Option, Some, None, Result, Ok, Err, slice_get, length, arith, ◌⊎◌, inl, inr, IfOk, IfSome}
use Rattle.std.specs.Prelude.{get_or, is_some}
use Rattle.std.proofs.lemmas.Bool.{false≢true, le-leb, leb-true}
use Rattle.std.proofs.lemmas.Option.{slice_get_cases, slice_get_past}
use Rattle.congestion_trait.specs.Control.{Control}
use Rattle.dccp_endpoint.specs.Inputs.{Arrives, Input}
use Rattle.dccp_endpoint.specs.Inputs as input
use Rattle.world_events.specs.Actors.{other}
use Rattle.world_events.specs.declared.event.Event.{Event}
use Rattle.world_events.specs.declared.event.Event.TheVariants as event
use Rattle.dccp_states.specs.declared.seen.Seen.{Seen}
use Rattle.world_events.specs.declared.event.Side.{Side}
use Rattle.world_events.specs.declared.event.Side.TheVariants.{Client}
use Rattle.world_events.specs.declared.event.WorldFault.{WorldFault}
use Rattle.world_events.specs.declared.event.WorldFault.TheVariants as fault
use Rattle.two_ends.specs.declared.frames.SentFrame.{SentFrame}
use Rattle.two_ends.specs.Controlled.{ControlledWorld, ControlledHalf, ControlledStep, congestion_of, controlled_half_steps, controls, happens_to, said_by}
use Rattle.two_ends.specs.World.{ActorIsFull, DeliversFar, Half, LacksFrame, Said, delivers_frame, half_of, half_steps, in_world, is_far_at, is_far_frame, is_full, unless_far}

-- where a list has nothing
past-end : {A : Type 0} (xs : List A) (index : ℕ) → slice_get xs index ≡ None → length xs ≤ index
past-end {A} xs index none = by (slice_get_cases xs index).1 where
  by : ((x : A) × (index < length xs) × (slice_get xs index ≡ Some x) × (get_or xs index x ≡ x)) ⊎ ((length xs ≤ index) × (slice_get xs index ≡ None))
      → length xs ≤ index
  by (inl there) = (let some = there.2 in cc (none, some))
  by (inr past) = past.0

some-from : {A : Type 0} (o : Option A) → (o ≡ None → ⊥) → is_some o ≡ true
some-from None other = absurd (other refl)
some-from (Some x) other = refl

none-not : {A : Type 0} (o : Option A) → is_some o ≡ true → o ≡ None → ⊥
none-not None some is = cc some
none-not (Some x) some is = cc is

roomy : (half : Half) → (2 ^ 47 - 1 ≤ length half.frames → ⊥) → is_full half ≡ false
roomy half room = by (is_full half) refl where
  by : (full : Bool) → is_full half ≡ full → full ≡ false
  by true full = absurd (room (leb-true (2 ^ 47 - 1) (length half.frames) full))
  by false full = refl

-- Each refusal has its cause: the frame lacks; or else the side is full; or else the frame is far.
pub record IsCaused {X : Type 0} (outcome : Result X WorldFault) (Lacks Fills Far : Type 0) : Type 0 where
  pub lacks : (outcome ≡ Err fault.NoSuchFrame) ↔ Lacks
  pub filled : (outcome ≡ Err fault.Full) ↔ ((Lacks → ⊥) × Fills)
  pub far : (outcome ≡ Err fault.FarShort) ↔ ((Lacks → ⊥) × (Fills → ⊥) × Far)

module _ {C : Type 0} (control : Control C) (w : ControlledWorld C) (from : Side) where
  abbrev to : Half
  to = half_of w.world (other from)

  abbrev outcome : Option SentFrame → Result (ControlledStep C) WorldFault
  outcome frame = controls control w (other from) (delivers_frame w.world from frame)

  -- what becomes of a frame that is there
  abbrev arrival : SentFrame → Bool → Bool → Result (ControlledStep C) WorldFault
  arrival frame full far = controls control w (other from) (if full then Err fault.Full else in_world w.world (other from) (unless_far to frame far))

  there-not : (frame : SentFrame) (full far : Bool) → arrival frame full far ≡ Err fault.NoSuchFrame → ⊥
  there-not frame true far is = cc is
  there-not frame false true is = cc is
  there-not frame false false is = cc is

  none-so : (frame : Option SentFrame) → (frame ≡ None) ↔ (outcome frame ≡ Err fault.NoSuchFrame)
  none-so None = (λ is. refl, λ is. refl)
  none-so (Some frame) = (λ is. cc is, λ is. absurd (there-not frame (is_full to) (is_far_frame to.end frame) is))

  full-by : (frame : SentFrame) (full far : Bool) → arrival frame full far ≡ Err fault.Full → full ≡ true
  full-by frame true far is = refl
  full-by frame false true is = cc is
  full-by frame false false is = cc is

  full-so : (frame : Option SentFrame) → ((is_some frame ≡ true) × (is_full to ≡ true)) ↔ (outcome frame ≡ Err fault.Full)
  full-so None = (λ both. (let some = both.0 in cc some), λ is. cc is)
  full-so (Some frame) = (
    λ both. ap (λ (full : Bool). arrival frame full (is_far_frame to.end frame)) both.1,
    λ is. (refl, full-by frame (is_full to) (is_far_frame to.end frame) is),
  )

  far-by : (frame : SentFrame) (full far : Bool) → arrival frame full far ≡ Err fault.FarShort → (full ≡ false) × (far ≡ true)
  far-by frame true far is = cc is
  far-by frame false true is = (refl, refl)
  far-by frame false false is = cc is

  far-so : (frame : Option SentFrame) → ((is_full to ≡ false) × (is_far_at to.end frame ≡ true)) ↔ (outcome frame ≡ Err fault.FarShort)
  far-so None = (λ both. (let far = both.1 in cc far), λ is. cc is)
  far-so (Some frame) = (
    λ both.
        ap (λ (full : Bool). arrival frame full (is_far_frame to.end frame)) both.0 ∙ ap (λ (far : Bool). arrival frame false far) both.1,
    λ is. far-by frame (is_full to) (is_far_frame to.end frame) is,
  )

  module _ (index : ℕ) where
    abbrev frames : List SentFrame
    frames = (half_of w.world from).frames

    abbrev at : Option SentFrame
    at = slice_get frames index

    -- what `step` returns of a delivery that is refused
    module _ (result : Result Seen WorldFault) where
      pub told-none : (result ≡ Err fault.NoSuchFrame) ↔ (at ≡ None)
          → (result ≡ Err fault.NoSuchFrame) ↔ (happens_to control w (event.Deliver from index) ≡ Err fault.NoSuchFrame)
      told-none none = (λ is. (none-so at).0 (none.0 is), λ is. none.1 ((none-so at).1 is))

      pub told-full : (result ≡ Err fault.Full) ↔ ((is_some at ≡ true) × (is_full to ≡ true))
          → (result ≡ Err fault.Full) ↔ (happens_to control w (event.Deliver from index) ≡ Err fault.Full)
      told-full full = (λ is. (full-so at).0 (full.0 is), λ is. full.1 ((full-so at).1 is))

      pub told-far : (result ≡ Err fault.FarShort) ↔ ((is_full to ≡ false) × (is_far_at to.end at ≡ true))
          → (result ≡ Err fault.FarShort) ↔ (happens_to control w (event.Deliver from index) ≡ Err fault.FarShort)
      told-far far = (λ is. (far-so at).0 (far.0 is), λ is. far.1 ((far-so at).1 is))

    far-there : is_far_at to.end at ≡ true → length frames ≤ index → ⊥
    far-there is past =
        let nothing : false ≡ true = subst (λ (o : Option SentFrame). is_far_at to.end o ≡ true) (slice_get_past frames index past) is in
        absurd (false≢true nothing)

    far-roomy : is_full to ≡ false → 2 ^ 47 - 1 ≤ length to.frames → ⊥
    far-roomy room most =
        let filled : is_full to ≡ true = le-leb (2 ^ 47 - 1) (length to.frames) most in
        cc (room, filled)

    delivery-caused : IsCaused (happens_to control w (event.Deliver from index)) (length frames ≤ index) (2 ^ 47 - 1 ≤ length to.frames)
        (is_far_at to.end at ≡ true)
    delivery-caused =
        record {
          lacks = (λ is. past-end frames index ((none-so at).1 is), λ past. (none-so at).0 (slice_get_past frames index past));
          filled = (
            λ is. (λ past. none-not at ((full-so at).1 is).0 (slice_get_past frames index past), leb-true (2 ^ 47 - 1) (length to.frames) ((full-so at).1 is).1),
            λ both. (full-so at).0 (some-from at (λ is. both.0 (past-end frames index is)), le-leb (2 ^ 47 - 1) (length to.frames) both.1),
          );
          far = (
            λ is. (far-there ((far-so at).1 is).1, far-roomy ((far-so at).1 is).0, ((far-so at).1 is).1),
            λ all. (far-so at).0 (roomy to all.1, all.2),
          );
        }

module _ {C : Type 0} (control : Control C) (w : ControlledWorld C) where
  module _ (side : Side) (given : Input) where
    abbrev half : Half
    half = half_of w.world side

    -- what becomes of a call
    abbrev called : Bool → Result (ControlledStep C) WorldFault
    called full = controls control w side (if full then Err fault.Full else in_world w.world side (Ok (half_steps half None given)))

    never-lacks : (full : Bool) → called full ≡ Err fault.NoSuchFrame → ⊥
    never-lacks true is = cc is
    never-lacks false is = cc is

    only-full : (full : Bool) → called full ≡ Err fault.Full → full ≡ true
    only-full true is = refl
    only-full false is = cc is

    never-far : (full : Bool) → called full ≡ Err fault.FarShort → ⊥
    never-far true is = cc is
    never-far false is = cc is

    call-caused : IsCaused (called (is_full half)) ⊥ (2 ^ 47 - 1 ≤ length half.frames) ⊥
    call-caused =
        record {
          lacks = (never-lacks (is_full half), λ none. absurd none);
          filled = (
            λ is. (λ none. none, leb-true (2 ^ 47 - 1) (length half.frames) (only-full (is_full half) is)),
            λ both. ap called (le-leb (2 ^ 47 - 1) (length half.frames) both.1),
          );
          far = (λ is. absurd (never-far (is_full half) is), λ all. absurd all.2);
        }

  abbrev said : Side → Said
  said side = said_by control (congestion_of w side)

  -- each refusal of an event has its cause
  caused : (e : Event) → IsCaused (happens_to control w e) (LacksFrame w.world e) (ActorIsFull w.world e) (DeliversFar w.world e)
  caused event.Open = call-caused Client input.Opens
  caused (event.Deliver from index) = delivery-caused control w from index
  caused (event.Send side payload) = call-caused side (input.Sends payload (said side).may_send)
  caused (event.SendEarly side payload) = call-caused side (input.SendsEarly payload (said side).may_send)
  caused (event.Prefer side feature place values) = call-caused side (input.Prefers (feature, place) values)
  caused (event.Timer side timer) = call-caused side (input.Fires timer (said side).in_flight)
  caused (event.Close side) = call-caused side input.Closes
  caused (event.Abort side) = call-caused side input.Aborts

  -- and so has what `step` returns of it
  pub result-caused : (e : Event) (result : Result Seen WorldFault)
      → ((result ≡ Err fault.NoSuchFrame) ↔ (happens_to control w e ≡ Err fault.NoSuchFrame))
      → ((result ≡ Err fault.Full) ↔ (happens_to control w e ≡ Err fault.Full))
      → ((result ≡ Err fault.FarShort) ↔ (happens_to control w e ≡ Err fault.FarShort))
      → IsCaused result (LacksFrame w.world e) (ActorIsFull w.world e) (DeliversFar w.world e)
  result-caused e result none full far =
      let by : IsCaused (happens_to control w e) (LacksFrame w.world e) (ActorIsFull w.world e) (DeliversFar w.world e) = caused e in
      record {
        lacks = (λ is. by.lacks.0 (none.0 is), λ lacks. none.1 (by.lacks.1 lacks));
        filled = (λ is. by.filled.0 (full.0 is), λ both. full.1 (by.filled.1 both));
        far = (λ is. by.far.0 (far.0 is), λ all. far.1 (by.far.1 all));
      }

-- What the code finds of a frame that it looked up by its index, from what it finds of one that is there.
module _ {C : Type 0} (control : Control C) (old : ControlledHalf C) where
  abbrev Handed : ControlledHalf C → SentFrame → Seen → Type 0
  Handed new frame seen =
      (is_full old.half ≡ false) × (is_far_frame old.half.end frame ≡ false)
      × (record { after = new; seen = seen } ≡ controlled_half_steps control old (Some frame.number) (Arrives frame.bytes))

  pub record IsHanded (new : ControlledHalf C) (found : Option SentFrame) (result : Result Seen WorldFault) : Type 0 where
    pub ok : IfOk result (λ seen. IfSome found (λ frame. Handed new frame seen))
    pub no_such_frame : (result ≡ Err fault.NoSuchFrame) ↔ (found ≡ None)
    pub full : (result ≡ Err fault.Full) ↔ ((is_some found ≡ true) × (is_full old.half ≡ true))
    pub far_short : (result ≡ Err fault.FarShort) ↔ ((is_full old.half ≡ false) × (is_far_at old.half.end found ≡ true))

  -- one that is there
  found-so : (new : ControlledHalf C) (frame : SentFrame) (result : Result Seen WorldFault)
      → IfOk result (Handed new frame) → ((result ≡ Err fault.Full) ↔ (is_full old.half ≡ true))
      → ((result ≡ Err fault.FarShort) ↔ ((is_full old.half ≡ false) × (is_far_frame old.half.end frame ≡ true)))
      → (result ≡ Err fault.NoSuchFrame → ⊥) → IsHanded new (Some frame) result
  found-so new frame result ok full far there =
      record {
        ok = ok;
        no_such_frame = (λ is. absurd (there is), λ none. cc none);
        full = (λ is. (refl, full.0 is), λ both. full.1 both.1);
        far_short = far;
      }

  pub handed-so : (new : ControlledHalf C) (found : Option SentFrame) (frame : SentFrame) (result : Result Seen WorldFault) → found ≡ Some frame
      → IfOk result (Handed new frame) → ((result ≡ Err fault.Full) ↔ (is_full old.half ≡ true))
      → ((result ≡ Err fault.FarShort) ↔ ((is_full old.half ≡ false) × (is_far_frame old.half.end frame ≡ true)))
      → (result ≡ Err fault.NoSuchFrame → ⊥) → IsHanded new found result
  handed-so new found frame result is ok full far there =
      subst (λ (o : Option SentFrame). IsHanded new o result) (sym is) (found-so new frame result ok full far there)

  lacking-so : IsHanded old None (Err fault.NoSuchFrame)
  lacking-so =
      record {
        ok = tt;
        no_such_frame = (λ is. refl, λ none. refl);
        full = (λ is. cc is, λ both. (let some = both.0 in cc some));
        far_short = (λ is. cc is, λ both. (let far = both.1 in cc far));
      }

  -- none
  pub none-handed : (found : Option SentFrame) → found ≡ None → IsHanded old found (Err fault.NoSuchFrame)
  none-handed found is = subst (λ (o : Option SentFrame). IsHanded old o (Err fault.NoSuchFrame)) (sym is) lacking-so
