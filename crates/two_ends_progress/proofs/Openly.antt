-- Two OPEN ends whose rows stay: what an end sends in either form comes at the other.
use Rattle.std.proofs.Common.{◌≡◌, refl, ap, sym, ◌∙◌, ◌==◌, ◌&&◌, ℕ, ◌+◌, ◌^◌, ◌<◌, ◌≤◌, Bool, true, false, List, ◌++◌, length, length-append, Option, Some, Result, Err, slice_get, arith}
use Rattle.congestion_trait.specs.Control.{Control}
use Rattle.dccp_packets.specs.Forms.{may_be_short}
use Rattle.dccp_packets.specs.Grammar.{KindFits, packet_type}
use Rattle.dccp_packets.specs.Kinds.{ack_of}
use Rattle.dccp_packets.specs.Outgoing.{Outgoing}
use Rattle.dccp_packets.specs.Widths.{kind_in_widths}
use Rattle.dccp_states.specs.declared.phase.Phase.{Phase}
use Rattle.dccp_states.specs.declared.phase.Phase.TheVariants as phases
use Rattle.dccp_endpoint.specs.Causes.{EveryStepHasOneEffect}
use Rattle.dccp_endpoint.specs.Drafts.{Draft, IsSendable, frame_of}
use Rattle.dccp_endpoint.specs.End.{EndState, floor_of, held_of, is_live, value_in}
use Rattle.dccp_endpoint.specs.Inputs.{end_stepped}
use Rattle.dccp_endpoint.specs.Receiving.{receives, takes_short}
use Rattle.dccp_endpoint.specs.ShortForm.{goes_short, is_settled_on_one}
use Rattle.dccp_endpoint.specs.Steps.{Step, next_number}
use Rattle.dccp_endpoint.specs.declared.config.Config.{Config}
use Rattle.feature_lists.specs.declared.features.Feature.TheVariants.{ShortSeqnos}
use Rattle.feature_lists.specs.declared.features.Place.TheVariants.{Here, There}
use Rattle.feature_machine.specs.Negotiating.{held_by, row_at}
use Rattle.feature_machine.specs.declared.row.Row.{Row}
use Rattle.two_ends.specs.Controlled.{ControlledWorld, congestion_of, happens_to, said_by}
use Rattle.two_ends.specs.World.{Half, WorldState, WorldStep, as_sent, half_of, happens, is_far_frame, is_full, moved, world_after}
use Rattle.two_ends.specs.declared.frames.SentFrame.{SentFrame}
use Rattle.two_ends.proofs.OfWorlds.Acting.{Refused, Steps, Takes, event-taken}
use Rattle.two_ends.proofs.OfWorlds.Nearing.{held-near}
use Rattle.two_ends.proofs.OfWorlds.Numbering.{sent-few}
use Rattle.two_ends.proofs.OfWorlds.Reaching.{world-after}
use Rattle.world_events.specs.Actors.{actor}
use Rattle.world_events.specs.declared.event.Event.{Event}
use Rattle.world_events.specs.declared.event.Event.TheVariants as event
use Rattle.world_events.specs.declared.event.Side.{Side}
use Rattle.world_events.specs.declared.event.Side.TheVariants.{Client, Server}
use Rattle.world_events.specs.declared.event.WorldFault.{WorldFault}
use Rattle.world_events.specs.declared.event.WorldFault.TheVariants as fault
use Rattle.two_ends_progress.specs.GettingThrough.{AreFew}
use Rattle.two_ends_progress.proofs.EitherForm.{IsReadAs, either-read}
use Rattle.two_ends_progress.proofs.Leading.{next}
use Rattle.two_ends_progress.proofs.Stepping.{Acts, AreTwo, ClientFirst, ServerFirst, turned, IsUnderWay, arrives, at-end, fewer-under-way, fits-of, gsr-small, gss-small, meant-of, room-so, under-way-next, longer-so}
use Rattle.two_ends_progress.proofs.Vectoring.{SaysSo, short-may, short-settled}

-- An event adds at most one frame.
frames-longer : (w : WorldState) (side : Side) (r : Result WorldStep WorldFault) → Takes w side r → (each : Side)
    → length (half_of (world_after w r) each).frames ≤ length (half_of w each).frames + 1
frames-longer w side _ (Refused why) each = omega arith
frames-longer w Client _ (Steps arrived given room from) Client = longer-so w.client arrived (end_stepped w.client.end given)
frames-longer w Client _ (Steps arrived given room from) Server = omega arith
frames-longer w Server _ (Steps arrived given room from) Client = omega arith
frames-longer w Server _ (Steps arrived given room from) Server = longer-so w.server arrived (end_stepped w.server.end given)

-- Both ends are OPEN, with these rows, and few frames were sent.
pub record AreOpenWith (more : ℕ) (w : WorldState) (x y : Side) (own others : List Row) : Type 0 where
  pub under_way : IsUnderWay more w
  pub few : AreFew more w
  pub here : (half_of w x).end.phase ≡ phases.Open
  pub there : (half_of w y).end.phase ≡ phases.Open
  pub own_rows : (half_of w x).end.rows ≡ own
  pub others_rows : (half_of w y).end.rows ≡ others

pub swapped : (more : ℕ) (w : WorldState) (x y : Side) (own others : List Row) → AreOpenWith more w x y own others → AreOpenWith more w y x others own
swapped more w x y own others o =
    record { under_way = o.under_way; few = o.few; here = o.there; there = o.here; own_rows = o.others_rows; others_rows = o.own_rows }

pub fewer-open : (fewer more : ℕ) (w : WorldState) (x y : Side) (own others : List Row) → fewer ≤ more → AreOpenWith more w x y own others
    → AreOpenWith fewer w x y own others
fewer-open fewer more w x y own others less o =
    record {
      under_way = fewer-under-way fewer more w less o.under_way;
      few = λ side. omega (arith, o.few side, less);
      here = o.here;
      there = o.there;
      own_rows = o.own_rows;
      others_rows = o.others_rows;
    }

-- A side has sent this draft under this number, in the form that it chose.
pub record IsOutAs (half : Half) (number : ℕ) (d : Draft) : Type 0 where
  pub short : Bool
  pub index : ℕ
  pub frame : SentFrame
  pub is_there : slice_get half.frames index ≡ Some frame
  pub bytes_are : frame.bytes ≡ frame_of half.end.config short number d
  pub number_is : frame.number ≡ number
  pub ack_is : frame.ack ≡ ack_of (kind_in_widths d.kind)
  pub may : short ≡ true → may_be_short (packet_type d.kind) ≡ true
  pub settled : short ≡ true → is_settled_on_one (held_of half.end ShortSeqnos Here) ≡ true

abbrev pub out-as : {A : Type 0} (half old : Half) (arrived : Option ℕ) (s : Step A) (d : Draft) → half ≡ moved old arrived s → SaysSo old.end s d
    → IsOutAs half half.end.marks.gss d
out-as half old arrived s d same says =
    let e : EndState = old.end in
    let config : half.end.config ≡ e.config = ap (λ (h : Half). h.end.config) same ∙ says.config in
    let gss : half.end.marks.gss ≡ next_number e = ap (λ (h : Half). h.end.marks.gss) same ∙ says.gss_is in
    record {
      short = goes_short e d;
      index = length old.frames;
      frame = _;
      is_there =
          ap (λ (h : Half). slice_get h.frames (length old.frames)) same
          ∙ ap (λ (frame : Option Outgoing).
          slice_get (old.frames ++ as_sent (length (moved old arrived s).processed) (floor_of s.after) frame) (length old.frames)) says.frame_is
          ∙ at-end old.frames _;
      bytes_are =
          ap (λ (c : Config). frame_of c (goes_short e d) (next_number e) d) (sym config)
          ∙ ap (λ (n : ℕ). frame_of half.end.config (goes_short e d) n d) (sym gss);
      number_is = sym gss;
      ack_is = refl;
      may = short-may e d;
      settled =
          λ is.
          ap (λ (rows : List Row). is_settled_on_one (held_by (row_at rows ShortSeqnos Here))) (ap (λ (h : Half). h.end.rows) same ∙ says.rows_are)
          ∙ short-settled e d is;
    }

module _ {C : Type 0} (control : Control C) (effects : EveryStepHasOneEffect) where
  pub few-next : (more : ℕ) (w : ControlledWorld C) (e : Event) → AreFew (more + 1) w.world → AreFew more (next control w e).world
  few-next more w e few side =
      let said = said_by control (congestion_of w (actor e)) in
      let r : Result WorldStep WorldFault = happens w.world e said in
      let same = world-after control w (actor e) r in
      let longer = frames-longer w.world (actor e) r (event-taken w.world e said) side in
      let is : length (half_of (next control w e).world side).frames ≡ length (half_of (world_after w.world r) side).frames =
      ap (λ (v : WorldState). length (half_of v side).frames) same in
      omega (arith, few side, longer, is)

  far-is : (w : ControlledWorld C) {x y : Side} → AreTwo x y → (index : ℕ) (frame : SentFrame) → slice_get (half_of w.world y).frames index ≡ Some frame
      → is_full (half_of w.world x) ≡ false → is_far_frame (half_of w.world x).end frame ≡ true
      → happens_to control w (event.Deliver y index) ≡ Err fault.FarShort
  far-is w ClientFirst index frame there room far = rw (there, room, far) refl
  far-is w ServerFirst index frame there room far = rw (there, room, far) refl

  -- no frame is far where few were sent
  pub near-so : (w : ControlledWorld C) {x y : Side} (two : AreTwo x y) (more : ℕ) → IsUnderWay more w.world → AreFew more w.world → (index : ℕ) (frame : SentFrame)
      → slice_get (half_of w.world y).frames index ≡ Some frame → is_far_frame (half_of w.world x).end frame ≡ false
  near-so w {x} {y} two more u few index frame there = by (is_far_frame (half_of w.world x).end frame) refl where
    clients : length w.world.client.frames < 2 ^ 23
    clients = omega (arith, few Client)

    servers : length w.world.server.frames < 2 ^ 23
    servers = omega (arith, few Server)

    by : (far : Bool) → is_far_frame (half_of w.world x).end frame ≡ far → is_far_frame (half_of w.world x).end frame ≡ false
    by false is = is
    by true is =
        absurd (held-near control w u.held clients servers (event.Deliver y index)
        (far-is w two index frame there (room-so (half_of w.world x) more (u.room x)) is))

  -- The frame of a draft can arrive, and this is what comes.
  pub record IsComingAs (w : ControlledWorld C) (x y : Side) (number : ℕ) (d : Draft) : Type 0 where
    pub index : ℕ
    pub frame : SentFrame
    pub is_there : slice_get (half_of w.world x).frames index ≡ Some frame
    pub near : is_far_frame (half_of w.world y).end frame ≡ false
    pub here : IsReadAs (half_of w.world y).end frame.bytes number d
    pub acts : Acts w.world (next control w (event.Deliver x index)).world y x
        (moved (half_of w.world y) (Some frame.number) (receives (half_of w.world y).end frame.bytes))

  -- An event at which the first side acts, and both stay OPEN with their rows.
  pub stays-open : {A : Type 0} (own others : List Row) (more : ℕ) (w : ControlledWorld C) (e : Event) {x y : Side} (two : AreTwo x y) (arrived : Option ℕ) (s : Step A)
      → Acts w.world (next control w e).world x y (moved (half_of w.world x) arrived s) → s.after.config ≡ (half_of w.world x).end.config
      → s.after.phase ≡ phases.Open → s.after.rows ≡ (half_of w.world x).end.rows → AreOpenWith (more + 1) w.world x y own others
      → AreOpenWith more (next control w e).world x y own others
  stays-open own others more w e two arrived s acts config phase rows o =
      record {
        under_way = under-way-next control effects more w e two arrived s acts config o.under_way;
        few = few-next more w e o.few;
        here = ap (λ (h : Half). h.end.phase) acts.acting ∙ phase;
        there = ap (λ (h : Half). h.end.phase) acts.resting ∙ o.there;
        own_rows = ap (λ (h : Half). h.end.rows) acts.acting ∙ rows ∙ o.own_rows;
        others_rows = ap (λ (h : Half). h.end.rows) acts.resting ∙ o.others_rows;
      }

  -- Rows of which the second side takes the short numbers that the first may send.
  module _ (own others : List Row)
      (alike : is_settled_on_one (held_by (row_at own ShortSeqnos Here)) ≡ true → (value_in others ShortSeqnos There == 1) ≡ true) where
    pub takes-so : (more : ℕ) (w : WorldState) (x y : Side) → AreOpenWith more w x y own others → is_settled_on_one (held_of (half_of w x).end ShortSeqnos Here) ≡ true
        → takes_short (half_of w y).end ≡ true
    takes-so more w x y o settled =
        let is = alike (ap (λ (rows : List Row). is_settled_on_one (held_by (row_at rows ShortSeqnos Here))) (sym o.own_rows) ∙ settled) in
        ap (λ (p : Phase). is_live p && (value_in (half_of w y).end.rows ShortSeqnos There == 1)) o.there
        ∙ ap (λ (rows : List Row). value_in rows ShortSeqnos There == 1) o.others_rows ∙ is

    abbrev pub coming-as : (more : ℕ) (w : ControlledWorld C) {x y : Side} (two : AreTwo x y) (number : ℕ) (d : Draft) → AreOpenWith more w.world x y own others
        → IsOutAs (half_of w.world x) number d → number < 2 ^ 48 → IsSendable d → KindFits d.kind → ack_of (kind_in_widths d.kind) ≡ ack_of d.kind
        → IsComingAs w x y number d
    coming-as more w {x} {y} two number d o out small sendable fields widths =
        let u = o.under_way in
        let near = near-so w (turned two) more u o.few out.index out.frame out.is_there in
        record {
          index = out.index;
          frame = out.frame;
          is_there = out.is_there;
          near = near;
          here =
              either-read (half_of w.world x).end.config (half_of w.world y).end number d out.short out.frame (meant-of more w.world (turned two) u)
              (fits-of more w.world u two) small (gsr-small more w.world u (turned two)) (gss-small more w.world u (turned two)) sendable fields widths out.may
              (λ is. takes-so more w.world x y o (out.settled is)) out.bytes_are out.number_is out.ack_is near;
          acts = arrives control effects w (turned two) out.index out.frame out.is_there (room-so (half_of w.world y) more (u.room y)) near;
        }
