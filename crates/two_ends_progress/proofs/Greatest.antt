-- Where the greatest number received comes from: a step leaves it, processes the new one, closes the end, or refuses the
-- frame that has it.
use Rattle.std.proofs.Common.{◌≡◌, ◌≢◌, inl, inr, refl, ap, sym, ◌∙◌, subst, ℕ, zero, suc, ◌+◌, ◌-◌, ◌^◌, ◌<◌, ◌≤◌, nat_lt, Bool, true, false, if◌then◌else◌, List, [], ◌∷◌, ◌++◌, Option, Some, None, Result, Ok, Err, slice_get, length, arith}
use Rattle.std.proofs.lemmas.List.{append-nil, append_assoc, length-map}
use Rattle.std.proofs.lemmas.List.Elements.{Contains-append_left, Contains-push}
use Rattle.std.proofs.lemmas.Option.{same_Some, slice_get_within}
use Rattle.std.specs.List.{Contains}
use Rattle.congestion_trait.specs.Control.{Control}
use Rattle.dccp_endpoint.proofs.Deriving.{Told}
use Rattle.dccp_endpoint.proofs.Phases.{check-live}
use Rattle.dccp_endpoint.proofs.Walking.{told_of_step}
use Rattle.dccp_endpoint.specs.Causes.{AreTurns, Came, EveryStepHasOneEffect, IsCaused, IsHearing, Keeps as KeepsHeard, Starts, Raises, entrance_of}
use Rattle.dccp_endpoint.specs.Effects.{Effect, HeardNumber, Unheard, Heard, PacketFate, Refused, Shut, Taken, count_by, end_after, frame_by, greatest_by}
use Rattle.dccp_endpoint.specs.End.{EndState, first_phase, is_live}
use Rattle.dccp_endpoint.specs.Incoming.{Incoming}
use Rattle.dccp_endpoint.specs.Inputs.{Input, Arrives, end_stepped}
use Rattle.dccp_endpoint.specs.Inputs as input
use Rattle.dccp_endpoint.specs.Outcomes.{HasCause, HasForm, OutOfWindow, Unexpected, IsReset, NoConnection, OtherService, NoAnswer, WrongService, Faulted, AnswersClose, effect_of_reset}
use Rattle.dccp_endpoint.specs.Receiving.{receives}
use Rattle.dccp_endpoint.specs.Reporting.{is_new, one_more_taken}
use Rattle.dccp_endpoint.specs.Steps.{Step}
use Rattle.dccp_endpoint.specs.declared.config.Config.{Config}
use Rattle.dccp_packets.specs.declared.header.PacketType.TheVariants as types
use Rattle.dccp_states.specs.declared.entrance.Entrance.TheVariants as entrance
use Rattle.dccp_states.specs.declared.outcome.Outcome.{Outcome}
use Rattle.dccp_states.specs.declared.outcome.Outcome.TheVariants.{Took, Dropped, Synced, WasReset, SentReset}
use Rattle.dccp_states.specs.declared.outcome.Fault.{Fault}
use Rattle.dccp_states.specs.declared.phase.Phase.{Phase}
use Rattle.dccp_states.specs.declared.phase.Phase.TheVariants as phases
use Rattle.dccp_states.specs.declared.phase.Role.{Role}
use Rattle.dccp_states.specs.declared.phase.Role.TheVariants as role
use Rattle.dccp_states.specs.declared.seen.Seen.TheVariants as seen
use Rattle.run_list.specs.MarkedSet.{answer_to, empty_from}
use Rattle.run_list.specs.declared.answers.Marked.{Marked}
use Rattle.run_list.specs.declared.answers.Marked.TheVariants.{New}
use Rattle.seq_circle.specs.Circle.{is_before}
use Rattle.seq_circle.specs.Counts.{IsNumber, count_of, number_of}
use Rattle.two_ends.proofs.OfWorlds.Acting.{Act, IsHeld, config_of, end_of, half_after, held_by, moved-after, not-full, party_of, processed_by}
use Rattle.two_ends.proofs.OfFeatures.FeatureOrder.{before_counts}
use Rattle.two_ends.proofs.OfWorlds.HeardTo.{is-number, opened-none}
use Rattle.two_ends.proofs.OfWorlds.Keeping.{SideInvariant, run-kept}
use Rattle.two_ends.proofs.OfMarks.MarkSets.{begun_shut_are, counts_are_new}
use Rattle.two_ends.proofs.OfMarks.Marking.{IsMarking}
use Rattle.two_ends.proofs.OfWorlds.Numbering.{came-arrived, came-logged, few-logged}
use Rattle.two_ends.proofs.OfWorlds.ReadBack.{IsFromLog, IsFromPeer}
use Rattle.two_ends.proofs.OfWorlds.Reaching.{occurring, plays-run, world-after}
use Rattle.two_ends.proofs.OfMarks.Shown.{few-processed, next-number}
use Rattle.two_ends.proofs.OfMarks.Vectors.{frames-length}
use Rattle.two_ends.specs.Controlled.{ControlledWorld, begins_with, congestion_of, controlled, controlled_after, controls, happens_to, plays, said_by}
use Rattle.two_ends.specs.MarkMoves.{begun_shut}
use Rattle.two_ends.specs.MarkView.{MarkSide}
use Rattle.two_ends.specs.Reached.{IsBeginning}
use Rattle.two_ends.specs.Remembered.{HasHeardFirst}
use Rattle.two_ends.specs.World.{Half, Said, WorldState, WorldStep, arrives_at, delivers_frame, half_at_start, half_of, half_steps, half_with, happens, in_world, is_far_frame, is_full, moved, newly_processed, number_if, unless_far, unless_full, with_half, world_after}
use Rattle.two_ends.specs.declared.frames.SentFrame.{SentFrame}
use Rattle.two_ends_progress.specs.Greatest.{GreatestIsMet, IsGreatestMet, IsOutOfPlace, WasRefused}
use Rattle.world_events.specs.Actors.{actor, other}
use Rattle.world_events.specs.declared.event.Event.{Event}
use Rattle.world_events.specs.declared.event.Event.TheVariants as event
use Rattle.world_events.specs.declared.event.Side.{Side}
use Rattle.world_events.specs.declared.event.Side.TheVariants.{Client, Server}
use Rattle.world_events.specs.declared.event.WorldFault.{WorldFault}
use Rattle.world_events.specs.declared.event.WorldFault.TheVariants as fault

count-same : (n : ℕ) → nat_lt n n ≡ false
count-same n = grind arith

count-above : (n : ℕ) → nat_lt n (n + 1) ≡ true
count-above n = grind arith

count-rose : (n : ℕ) → n ≤ 2 ^ 47 → one_more_taken n true ≡ n + 1
count-rose n few = omega (arith, few)

-- What a step of a side makes of its greatest number: it stays, the new one is processed, the end closes, or the frame
-- that has it is refused.
data Meets (act : Act) : Type 0 where
  Stays : (end_after (end_of act.side) act.effect).marks.gsr ≡ (end_of act.side).marks.gsr
      → (act.effect.phase ≢ phases.Closed → HasHeardFirst (half_after act.side.half act.arrived act.effect)
      → ((end_of act.side).phase ≢ phases.Closed) × HasHeardFirst act.side.half) → Meets act
  Processes : Contains (processed_by act.side.half act.arrived act.effect) (end_after (end_of act.side) act.effect).marks.gsr → Meets act
  Closes : act.effect.phase ≡ phases.Closed → Meets act
  Refuses : (number : ℕ) → act.effect.hearing ≡ Heard false number Refused → (end_after (end_of act.side) act.effect).marks.gsr ≡ number → Meets act

module _ (act : Act) (own : SideInvariant act.side act.peer) (peers : SideInvariant act.peer act.side) where
  abbrev e : EndState
  e = end_of act.side

  abbrev f : Effect
  f = act.effect

  abbrev m : IsMarking act.side act.peer
  m = own.marks

  abbrev view : MarkSide
  view = m.view

  abbrev iss : ℕ
  iss = (config_of act.peer).iss

  fits : iss < 2 ^ 48
  fits = peers.ordered.fits.iss

  few : length act.peer.log < 2 ^ 47
  few = few-logged act.peer peers.ordered

  marked-few : e.marked ≤ 2 ^ 47
  marked-few =
      let most = few-processed view m.peer.frames m.kept.here.sound m.kept.here.listed in
      omega (arith, m.here.marked, ap length m.here.processed, length-map view.processed (number_of iss), most, frames-length m.there.frames, few)

  -- who received a first number has a greatest count
  some-greatest : HasHeardFirst act.side.half → 1 ≤ view.greatest
  some-greatest (inl live) = m.here.heard.lives live
  some-greatest (inr some) = by view.first refl where
    by : (first : ℕ) → view.first ≡ first → 1 ≤ view.greatest
    by zero none =
        absurd (omega (arith, some, ap length m.here.processed, length-map view.processed (number_of iss), m.kept.here.sound.unheard_processed none))
    by (suc first) is = omega (arith, is, m.kept.here.sound.first_taken)

  newly-none : count_by e.marked e.received f.hearing ≡ e.marked → newly_processed e act.arrived (end_after e f) ≡ []
  newly-none same =
      ap (λ (n : ℕ). number_if (nat_lt e.marked n) act.arrived) same
      ∙ ap (λ (b : Bool). number_if b act.arrived) (count-same e.marked)

  -- a packet that is taken for the first time is processed
  processes : (a : Incoming) → Came e act.given a → count_by e.marked e.received f.hearing ≡ e.marked + 1 → (end_after e f).marks.gsr ≡ a.number → Meets act
  processes a came rose greatest =
      let newly : newly_processed e act.arrived (end_after e f) ≡ a.number ∷ [] =
      ap (λ (n : ℕ). number_if (nat_lt e.marked n) act.arrived) rose
      ∙ ap (λ (b : Bool). number_if b act.arrived) (count-above e.marked)
      ∙ ap (number_if true) (came-arrived act peers.ordered a came) in
      Processes (subst (λ (ns : List ℕ). Contains (act.side.half.processed ++ ns) (end_after e f).marks.gsr) (sym newly)
      (subst (Contains (act.side.half.processed ++ a.number ∷ [])) (sym greatest) (Contains-push act.side.half.processed a.number)))

  -- nothing is heard
  stays-unheard : Unheard ≡ f.hearing → (is_live f.phase ≡ true → is_live e.phase ≡ true) → Meets act
  stays-unheard is live = Stays (ap (greatest_by e.marks.gsr) (sym is)) (λ stands heard. (stood stands (before heard), before heard))
    where
      same : processed_by act.side.half act.arrived f ≡ act.side.half.processed
      same =
          ap (λ (ns : List ℕ). act.side.half.processed ++ ns) (newly-none (ap (count_by e.marked e.received) (sym is)))
          ∙ append-nil act.side.half.processed

      before : HasHeardFirst (half_after act.side.half act.arrived f) → HasHeardFirst act.side.half
      before (inl now) = inl (live now)
      before (inr some) = inr (subst (λ (ns : List ℕ). 1 ≤ length ns) same some)

      stood : f.phase ≢ phases.Closed → HasHeardFirst act.side.half → e.phase ≢ phases.Closed
      stood stands heard closed =
          elim (act.because.moves.shut closed) [
            | inl now ↦ stands now
            | inr opens ↦ (
                let none = (opened-none act peers.ordered view.greatest m.here.heard opens).1 in
                omega (arith, none, some-greatest heard)
                )
          ]

  -- the first number begins the set, and its mark is New
  empty-new : (a : Incoming) (from : IsFromLog iss act.peer.log a) → answer_to (empty_from a.number) a.number ≡ New
  empty-new a from =
      let inside : from.place < length act.peer.log = slice_get_within act.peer.log from.place from.logged from.is_there in
      let count : ℕ = suc from.place in
      subst (λ (n : ℕ). answer_to (empty_from n) n ≡ New) (sym (from.read.number ∙ next-number iss from.place))
      (counts_are_new iss (empty_from (number_of iss count)) (begun_shut view count)
      (begun_shut_are iss view count fits (omega arith) (omega (arith, inside, few))) count (omega arith) (omega (arith, inside, few))
      (omega arith, refl))

  -- so is the mark of a number after the greatest
  greater-new : (a : Incoming) (from : IsFromLog iss act.peer.log a) → is_live e.phase ≡ true → is_before e.marks.gsr a.number ≡ true
      → answer_to e.received.set a.number ≡ New
  greater-new a from live after =
      subst (λ (n : ℕ). answer_to e.received.set n ≡ New) (sym (from.read.number ∙ next-number iss from.place))
      (counts_are_new iss e.received.set view (m.here.set first) count (omega arith) (omega (arith, inside, few))
      (omega (arith, above, m.kept.here.sound.floor_below), unmarked (view.marked count) refl))
    where
      count : ℕ
      count = suc from.place

      inside : from.place < length act.peer.log
      inside = slice_get_within act.peer.log from.place from.logged from.is_there

      some : 1 ≤ view.greatest
      some = m.here.heard.lives live

      first : 1 ≤ view.first
      first = by view.first refl where
        by : (first : ℕ) → view.first ≡ first → 1 ≤ view.first
        by zero none = absurd (omega (arith, some, m.kept.here.sound.unheard_greatest none))
        by (suc first) is = omega (arith, is)

      held : IsNumber iss e.marks.gsr × (count_of iss e.marks.gsr ≡ (view.greatest - 1) + 1)
      held = is-number iss (view.greatest - 1) e.marks.gsr fits (omega (arith, m.here.heard.within, some, few)) (m.here.heard.tied some)

      its : IsNumber iss a.number × (count_of iss a.number ≡ from.place + 1)
      its = is-number iss from.place a.number fits (omega (arith, inside, few)) from.read.number

      above : view.greatest < count
      above = let counts = before_counts iss e.marks.gsr a.number held.0 its.0 after in omega (arith, counts, its.1, held.1, some)

      unmarked : (b : Bool) → view.marked count ≡ b → view.marked count ≡ false
      unmarked false is = is
      unmarked true is =
          absurd (omega (arith, above, m.kept.here.sound.processed_taken count (m.kept.here.sound.marks_processed count is)))

  by-order : (a : Incoming) (how : PacketFate) → Came e act.given a → a.kind ≢ types.Reset → entrance_of e a ≡ entrance.Check
      → Heard false a.number how ≡ f.hearing → (how ≡ Shut → f.phase ≡ phases.Closed) → (after : Bool) → is_before e.marks.gsr a.number ≡ after → Meets act
  by-order a how came other checked is shuts false order =
      let live = check-live e.phase a.kind checked in
      Stays (ap (greatest_by e.marks.gsr) (sym is) ∙ ap (λ (b : Bool). if b then a.number else e.marks.gsr) order)
      (λ stands heard. ((λ closed. (let dead = ap is_live closed in cc (live, dead))), inl live))
  by-order a Taken came other checked is shuts true order =
      let live = check-live e.phase a.kind checked in
      let new = greater-new a (came-logged act peers.ordered a came other) live order in
      processes a came
      (ap (count_by e.marked e.received) (sym is) ∙ ap (λ (k : Marked). one_more_taken e.marked (is_new k)) new ∙ count-rose e.marked marked-few)
      (ap (greatest_by e.marks.gsr) (sym is) ∙ ap (λ (b : Bool). if b then a.number else e.marks.gsr) order)
  by-order a Shut came other checked is shuts true order = Closes (shuts refl)
  by-order a Refused came other checked is shuts true order =
      Refuses a.number (sym is) (ap (greatest_by e.marks.gsr) (sym is) ∙ ap (λ (b : Bool). if b then a.number else e.marks.gsr) order)

  meets-by : (hearing : HeardNumber) → IsHearing e act.given f.phase hearing → hearing ≡ f.hearing → Meets act
  meets-by _ (KeepsHeard live) is = stays-unheard is live
  meets-by _ (Starts a Taken came other entered taken passes) is =
      processes a came
      (ap (count_by e.marked e.received) (sym is)
      ∙ ap (λ (k : Marked). one_more_taken e.marked (is_new k)) (empty-new a (came-logged act peers.ordered a came other)) ∙ count-rose e.marked marked-few)
      (ap (greatest_by e.marks.gsr) (sym is))
  meets-by _ (Starts a Shut came other entered taken passes) is = Closes passes
  meets-by _ (Starts a Refused came other entered taken passes) is = absurd (taken refl)
  meets-by _ (Raises a Taken came other checked valid passes) is =
      by-order a Taken came other checked is (λ same. cc same) (is_before e.marks.gsr a.number) refl
  meets-by _ (Raises a Shut came other checked valid passes) is =
      by-order a Shut came other checked is (λ same. passes) (is_before e.marks.gsr a.number) refl
  meets-by _ (Raises a Refused came other checked valid passes) is =
      by-order a Refused came other checked is (λ same. cc same) (is_before e.marks.gsr a.number) refl

  -- what was known of the greatest number before the step is known after it
  pub met-by : (early now : ℕ → Type 0) → ((n : ℕ) → early n → now n) → ((number : ℕ) → f.hearing ≡ Heard false number Refused → now number)
      → IsGreatestMet act.side.half early → IsGreatestMet (half_after act.side.half act.arrived f) now
  met-by early now more refused before = by (meets-by f.hearing act.because.hears refl) where
    by : Meets act → IsGreatestMet (half_after act.side.half act.arrived f) now
    by (Stays same stood) = λ stands heard.
        let was = stood stands heard in
        elim (before was.0 was.1) [
          | inl has ↦ inl (
              subst (Contains (processed_by act.side.half act.arrived f)) (sym same) (Contains-append_left act.side.half.processed _ e.marks.gsr has))
          | inr not ↦ inr (subst now (sym same) (more e.marks.gsr not))
        ]
    by (Processes has) = λ stands heard. inl has
    by (Closes shut) = λ stands heard. absurd (stands shut)
    by (Refuses number heard same) = λ stands first. inr (subst now (sym same) (refused number heard))

-- A frame that was refused is out of place, and a Sync of its number answers it.
record IsSyncedFor (e : EndState) (bytes : List ℕ) (number : ℕ) (o : Outcome) : Type 0 where
  out_of_place : IsOutOfPlace e bytes number
  answered : o ≡ Synced number

refused-by : (e : EndState) (bytes : List ℕ) (o : Outcome) (cause : HasCause e bytes o) (f : Effect) (turns : AreTurns e (Arrives bytes) f.hearing f.turns)
    → HasForm e bytes o cause f turns → (number : ℕ) → f.hearing ≡ Heard false number Refused → IsSyncedFor e bytes number o
refused-by e bytes (Dropped why) cause f turns form number heard =
    let none : Unheard ≡ Heard false number Refused = sym (ap (λ (x : Effect). x.hearing) form) ∙ heard in cc none
refused-by e bytes (WasReset code) cause f turns form number heard =
    let none : Unheard ≡ Heard false number Refused = sym (ap (λ (x : Effect). x.hearing) form) ∙ heard in cc none
refused-by e bytes (Took delivered) cause f turns form number heard = let none = sym form.heard ∙ heard in cc none
refused-by e bytes (Synced told) (OutOfWindow a came check bad) f turns form number heard =
    let none : Unheard ≡ Heard false number Refused = sym (ap (λ (x : Effect). x.hearing) form) ∙ heard in cc none
refused-by e bytes (Synced told) (Unexpected a entered valid out same) f turns form number heard =
    let one = sym (ap (λ (x : Effect). x.hearing) form) ∙ heard in
    let is : a.number ≡ number = cc one in
    record {
      out_of_place = record { packet = a; entered = entered; valid = valid; unexpected = out; has_number = sym is };
      answered = ap Synced (same ∙ is);
    }
refused-by e bytes (SentReset code detail) cause f turns form number heard = by cause.fault cause.why form where
  by : (fault : Fault) (why : IsReset e bytes fault) → f ≡ effect_of_reset e bytes fault why → IsSyncedFor e bytes number (SentReset code detail)
  by _ (WrongService a entered valid expected not) same = (let none = sym (ap (λ (x : Effect). x.hearing) same) ∙ heard in cc none)
  by _ (Faulted a entered first admitted is) same = (let none = sym (ap (λ (x : Effect). x.hearing) same) ∙ heard in cc none)
  by _ (AnswersClose a entered h to admitted is row) same = (let none = sym (ap (λ (x : Effect). x.hearing) same) ∙ heard in cc none)
  by _ _ same = (let none : Unheard ≡ Heard false number Refused = sym (ap (λ (x : Effect). x.hearing) same) ∙ heard in cc none)

-- the half after a step is that of its effect
-- a call delivers nothing
abbrev IsAsked : Input → Type 0
IsAsked (Arrives bytes) = ⊥
IsAsked _ = Unit {0}

asked-given : (e : EndState) (frames : List SentFrame) (given : Input) → IsAsked given → IsFromPeer e frames None given
asked-given e frames (Arrives bytes) is = absurd is
asked-given e frames _ is = tt

-- at a call nothing is heard
asked-deaf : (e : EndState) (given : Input) (phase : Phase) (hearing : HeardNumber) (number : ℕ) → IsAsked given → IsHearing e given phase hearing
    → hearing ≡ Heard false number Refused → ⊥
asked-deaf e given phase _ number asked (KeepsHeard live) is = cc is
asked-deaf e given phase _ number asked (Starts a _ came other entered taken passes) is = subst IsAsked came.is_given asked
asked-deaf e given phase _ number asked (Raises a _ came other checked valid passes) is = subst IsAsked came.is_given asked

-- what is heard has the number of the frame that arrives
numbered-so : (act : Act) → SideInvariant act.peer act.side → (hearing : HeardNumber) → IsHearing (end_of act.side) act.given act.effect.phase hearing
    → (number : ℕ) → hearing ≡ Heard false number Refused → act.arrived ≡ Some number
numbered-so act peers _ (KeepsHeard live) number is = cc is
numbered-so act peers _ (Starts a _ came other entered taken passes) number is =
    let same : a.number ≡ number = cc is in came-arrived act peers.ordered a came ∙ ap Some same
numbered-so act peers _ (Raises a _ came other checked valid passes) number is =
    let same : a.number ≡ number = cc is in came-arrived act peers.ordered a came ∙ ap Some same

-- a step of a side of the world
abbrev act-of : (w : WorldState) (h : IsHeld SideInvariant w) (side : Side) (arrived : Option ℕ) (given : Input) (f : Effect)
    → IsCaused (half_of w side).end given f → is_full (half_of w side) ≡ false
    → IsFromPeer (half_of w side).end (half_of w (other side)).frames arrived given → Act
act-of w h side arrived given f because room from =
    record {
      side = party_of w h.logs side;
      peer = party_of w h.logs (other side);
      arrived = arrived;
      given = given;
      effect = f;
      room = not-full (half_of w side) room;
      from_peer = from;
      numbers = (held_by SideInvariant w h side).0.ordered.numbers;
      because = because;
    }

-- a frame of the other side that arrives at a side, if it is there
abbrev arrives-side : (w : WorldState) → Side → Option SentFrame → Result WorldStep WorldFault
arrives-side w side None = Err fault.NoSuchFrame
arrives-side w side (Some frame) = unless_full w side (arrives_at (half_of w side) frame)

delivers-side : (w : WorldState) (side : Side) (frame : Option SentFrame) → delivers_frame w (other side) frame ≡ arrives-side w side frame
delivers-side w Client None = refl
delivers-side w Server None = refl
delivers-side w Client (Some frame) = refl
delivers-side w Server (Some frame) = refl

-- a schedule with one event more
plays-snoc : {C : Type 0} (control : Control C) (w : ControlledWorld C) (events : List Event) (event : Event)
    → plays control w (events ++ event ∷ []) ≡ controlled_after (plays control w events) (happens_to control (plays control w events) event)
plays-snoc control w [] event = refl
plays-snoc control w (now ∷ later) event = plays-snoc control (controlled_after w (happens_to control w now)) later event

module _ {C : Type 0} (control : Control C) (start : ControlledWorld C) (effects : EveryStepHasOneEffect) (early : List Event)
    (h : IsHeld SideInvariant (plays control start early).world) where
  abbrev at : ControlledWorld C
  at = plays control start early

  abbrev w : WorldState
  w = at.world

  abbrev Early : Side → ℕ → Type 0
  Early side = WasRefused control start early side

  abbrev Now : Event → Side → ℕ → Type 0
  Now e side = WasRefused control start (early ++ e ∷ []) side

  -- what was refused early was refused
  more : (e : Event) (side : Side) (n : ℕ) → Early side n → Now e side n
  more e side n was =
      record {
        early = was.early;
        index = was.index;
        later = was.later ++ e ∷ [];
        is_among =
            ap (λ (events : List Event). events ++ e ∷ []) was.is_among
            ∙ append_assoc was.early (event.Deliver (other side) was.index ∷ was.later) (e ∷ []);
        frame = was.frame;
        is_there = was.is_there;
        is_numbered = was.is_numbered;
        out_of_place = was.out_of_place;
        after = was.after;
        answered = was.answered;
      }

  -- The result of an event: nothing, or a step of a side, after which its greatest number is known if it was before.
  data Leaves (e : Event) (r : Result WorldStep WorldFault) : Type 0 where
    Unmoved : world_after w r ≡ w → Leaves e r
    Moves : (side : Side) (half : Half) → world_after w r ≡ with_half w side half
        → (IsGreatestMet (half_of w side) (Early side) → IsGreatestMet half (Now e side)) → Leaves e r

  -- a call
  asked-leaves : (e : Event) (side : Side) (given : Input) → IsAsked given → Leaves e (unless_full w side (Ok (half_steps (half_of w side) None given)))
  asked-leaves e side given asked = by (is_full (half_of w side)) refl where
    by : (full : Bool) → is_full (half_of w side) ≡ full
        → Leaves e (if full then Err fault.Full else in_world w side (Ok (half_steps (half_of w side) None given)))
    by true room = Unmoved refl
    by false room =
        let both = held_by SideInvariant w h side in
        let has = effects (half_of w side).end given both.0.ordered.proper in
        let act = act-of w h side None given has.effect has.because room (asked-given (half_of w side).end (half_of w (other side)).frames given asked) in
        Moves side (half_after (half_of w side) None has.effect)
        (ap (with_half w side) (moved-after (half_of w side) None (end_stepped (half_of w side).end given) has.effect has.after_is has.frame_is))
        (met-by act both.0 both.1 (Early side) (Now e side) (more e side)
        (λ number heard. absurd (asked-deaf (half_of w side).end given has.effect.phase has.effect.hearing number asked has.because.hears heard)))

  -- a frame of the other side
  module _ (side : Side) (index : ℕ) where
    abbrev delivery : Event
    delivery = event.Deliver (other side) index

    abbrev half : Half
    half = half_of w side

    module _ (frame : SentFrame) (there : slice_get (half_of w (other side)).frames index ≡ Some frame) (room : is_full half ≡ false)
        (near : is_far_frame half.end frame ≡ false) where
      abbrev step : Step Outcome
      step = receives half.end frame.bytes

      abbrev both : SideInvariant (party_of w h.logs side) (party_of w h.logs (other side)) × SideInvariant (party_of w h.logs (other side)) (party_of w h.logs side)
      both = held_by SideInvariant w h side

      told : Told half.end frame.bytes step
      told = told_of_step half.end frame.bytes step both.0.ordered.proper refl

      abbrev effect : Effect
      effect = told.effect.effect

      abbrev act : Act
      act =
          act-of w h side (Some frame.number) (Arrives frame.bytes) effect told.effect.because room
          (record { index = index; frame = frame; is_there = there; same = refl; numbered = refl; not_far = near })

      abbrev next : WorldStep
      next =
          record {
            world = with_half w side (half_steps half (Some frame.number) (Arrives frame.bytes)).half;
            calls = (half_steps half (Some frame.number) (Arrives frame.bytes)).calls;
            seen = (half_steps half (Some frame.number) (Arrives frame.bytes)).seen;
          }

      happened : delivers_frame w (other side) (slice_get (half_of w (other side)).frames index) ≡ Ok next
      happened =
          ap (delivers_frame w (other side)) there
          ∙ delivers-side w side (Some frame)
          ∙ ap (λ (full : Bool). if full then Err fault.Full else in_world w side (arrives_at half frame)) room
          ∙ ap (λ (far : Bool). in_world w side (unless_far half frame far)) near

      now : (number : ℕ) → effect.hearing ≡ Heard false number Refused → Now delivery side number
      now number heard =
          let refusal = refused-by half.end frame.bytes step.answer told.effect.cause effect told.effect.because.turns told.effect.form number heard in
          record {
            early = early;
            index = index;
            later = [];
            is_among = refl;
            frame = frame;
            is_there = there;
            is_numbered = same_Some frame.number number (numbered-so act both.1 effect.hearing told.effect.because.hears number heard);
            out_of_place = refusal.out_of_place;
            after = controlled control at (actor delivery) next;
            answered =
                ap (controls control at (actor delivery)) happened
                ∙ ap (λ (o : Outcome). Ok (record { after = controlled control at (actor delivery) next; seen = seen.Received o })) refusal.answered;
          }

      frame-leaves : Leaves delivery (Ok next)
      frame-leaves =
          Moves side (half_after half (Some frame.number) effect)
          (ap (with_half w side)
          (moved-after half (Some frame.number) (end_stepped half.end (Arrives frame.bytes)) effect told.effect.after_is told.effect.frame_is))
          (met-by act both.0 both.1 (Early side) (Now delivery side) (more delivery side) now)

    by-room : (frame : SentFrame) → slice_get (half_of w (other side)).frames index ≡ Some frame → (full far : Bool) → is_full half ≡ full
        → is_far_frame half.end frame ≡ far → Leaves delivery (if full then Err fault.Full else in_world w side (unless_far half frame far))
    by-room frame there true far room near = Unmoved refl
    by-room frame there false true room near = Unmoved refl
    by-room frame there false false room near = frame-leaves frame there room near

    by-frame : (frame : Option SentFrame) → slice_get (half_of w (other side)).frames index ≡ frame → Leaves delivery (arrives-side w side frame)
    by-frame None there = Unmoved refl
    by-frame (Some frame) there = by-room frame there (is_full half) (is_far_frame half.end frame) refl refl

    delivery-leaves : Leaves delivery (delivers_frame w (other side) (slice_get (half_of w (other side)).frames index))
    delivery-leaves =
        subst (Leaves delivery) (sym (delivers-side w side (slice_get (half_of w (other side)).frames index)))
        (by-frame (slice_get (half_of w (other side)).frames index) refl)

  leaves : (e : Event) (said : Said) → Leaves e (happens w e said)
  leaves (event.Deliver Client index) said = delivery-leaves Server index
  leaves (event.Deliver Server index) said = delivery-leaves Client index
  leaves event.Open said = asked-leaves event.Open Client input.Opens tt
  leaves (event.Send side payload) said = asked-leaves (event.Send side payload) side (input.Sends payload said.may_send) tt
  leaves (event.SendEarly side payload) said = asked-leaves (event.SendEarly side payload) side (input.SendsEarly payload said.may_send) tt
  leaves (event.Prefer side feature place values) said =
      asked-leaves (event.Prefer side feature place values) side (input.Prefers (feature, place) values) tt
  leaves (event.Timer side timer) said = asked-leaves (event.Timer side timer) side (input.Fires timer said.in_flight) tt
  leaves (event.Close side) said = asked-leaves (event.Close side) side input.Closes tt
  leaves (event.Abort side) said = asked-leaves (event.Abort side) side input.Aborts tt

  module _ (before : (side : Side) → IsGreatestMet (half_of w side) (Early side)) (e : Event) where
    abbrev r : Result WorldStep WorldFault
    r = happens w e (said_by control (congestion_of at (actor e)))

    still : (side : Side) → IsGreatestMet (half_of w side) (Now e side)
    still side = λ stands heard. elim (before side stands heard) [ inl has ↦ inl has | inr was ↦ inr (more e side (half_of w side).end.marks.gsr was) ]

    moved-met : (moves : Side) (half : Half) → (IsGreatestMet (half_of w moves) (Early moves) → IsGreatestMet half (Now e moves)) → (side : Side)
        → IsGreatestMet (half_of (with_half w moves half) side) (Now e side)
    moved-met Client new onward Client = onward (before Client)
    moved-met Client new onward Server = still Server
    moved-met Server new onward Client = still Client
    moved-met Server new onward Server = onward (before Server)

    after-met : Leaves e r → (side : Side) → IsGreatestMet (half_of (world_after w r) side) (Now e side)
    after-met (Unmoved same) side = subst (λ (v : WorldState). IsGreatestMet (half_of v side) (Now e side)) (sym same) (still side)
    after-met (Moves moves half same onward) side =
        subst (λ (v : WorldState). IsGreatestMet (half_of v side) (Now e side)) (sym same) (moved-met moves half onward side)

    -- one event more
    step-met : (side : Side) → GreatestIsMet control start (early ++ e ∷ []) side
    step-met side =
        subst (λ (v : ControlledWorld C). IsGreatestMet (half_of v.world side) (Now e side)) (sym (plays-snoc control start early e))
        (subst (λ (v : WorldState). IsGreatestMet (half_of v side) (Now e side)) (sym (world-after control at (actor e) r))
        (after-met (leaves e (said_by control (congestion_of at (actor e)))) side))

begins-deaf : (config : Config) → HasHeardFirst (half_at_start config) → ⊥
begins-deaf config (inl live) = by config.role live where
  by : (r : Role) → is_live (first_phase r) ≡ true → ⊥
  by role.Client is = cc is
  by role.Server is = cc is
begins-deaf config (inr some) = omega (arith, some)

module _ {C : Type 0} (control : Control C) (start : ControlledWorld C) (effects : EveryStepHasOneEffect) (begins : IsBeginning control start) where
  abbrev beginning : ControlledWorld C
  beginning = begins_with control begins.client begins.server begins.for_client begins.for_server

  held : (events : List Event) → IsHeld SideInvariant (plays control start events).world
  held events =
      subst (λ (s : ControlledWorld C). IsHeld SideInvariant (plays control s events).world) (sym begins.same)
      (subst (IsHeld SideInvariant) (sym (plays-run control beginning events))
      (run-kept effects begins.client begins.server (occurring control beginning events) begins.client_fits begins.server_fits))

  starts-met : (side : Side) → GreatestIsMet control start [] side
  starts-met side = λ stands heard.
      absurd (deaf side (subst (λ (s : ControlledWorld C). HasHeardFirst (half_of s.world side)) begins.same heard))
    where
      deaf : (side : Side) → HasHeardFirst (half_of beginning.world side) → ⊥
      deaf Client heard = begins-deaf begins.client heard
      deaf Server heard = begins-deaf begins.server heard

  goes-on : (early later : List Event) → ((side : Side) → GreatestIsMet control start early side) → (side : Side)
      → GreatestIsMet control start (early ++ later) side
  goes-on early [] known side = subst (λ (events : List Event). GreatestIsMet control start events side) (sym (append-nil early)) (known side)
  goes-on early (e ∷ later) known side =
      subst (λ (events : List Event). GreatestIsMet control start events side) (append_assoc early (e ∷ []) later)
      (goes-on (early ++ e ∷ []) later (step-met control start effects early (held early) known e) side)

  -- after every list of events
  pub greatest-met : (events : List Event) (side : Side) → GreatestIsMet control start events side
  greatest-met events side = goes-on [] events starts-met side
