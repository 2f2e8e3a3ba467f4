-- How a step gets its effect: what it made of the end so far is `Ready`, and then it is silent or something goes out.
--
-- An effect takes the widths of the windows from the rows. So steps are told of an end that is written with these widths, `wide`; a
-- proper end is equal to one.
use Rattle.std.proofs.Common.{◌≡◌, ◌⊎◌, inl, inr, refl, ap, sym, ◌∙◌, subst, ℕ, Bool, true, false, not, ◌&&◌, List, [], ◌++◌, Option, Some, None}
use Rattle.std.specs.List.{All}
use Rattle.std.specs.Prelude.{filter}
use Rattle.std.proofs.lemmas.Bool.{false≢true, not-true}
use Rattle.std.proofs.lemmas.List.{append-nil}
use Rattle.std.proofs.lemmas.List.Elements.{All-nil, filter_passes}
use Rattle.congestion_trait.specs.Calls.{Call}
use Rattle.dccp_options.specs.Written.{Item}
use Rattle.dccp_packets.specs.Grammar.{has_forms, packet_type}
use Rattle.dccp_packets.specs.Kinds.{ack_of}
use Rattle.dccp_packets.specs.Widths.{HasDetail}
use Rattle.dccp_packets.specs.declared.header.Kind.{Kind}
use Rattle.dccp_packets.specs.declared.header.Kind.TheVariants as kind
use Rattle.dccp_packets.specs.declared.header.Number.TheVariants.{Long}
use Rattle.dccp_states.specs.declared.phase.Phase.{Phase}
use Rattle.dccp_states.specs.declared.phase.Phase.TheVariants as phase
use Rattle.feature_machine.specs.Negotiating.{due_keys, every_place}
use Rattle.feature_machine.specs.Turns.{Turn, turned}
use Rattle.dccp_endpoint.specs.Causes.{HasEffect, Acknowledges, AcknowledgesHeard, AreHeard, AreTurns, CallsNothing, Deaf, HasFrame, HasNext, IsAcknowledging, IsCalling, IsCaused, IsFirst, IsHearing, IsOffering, IsOpened, IsOpening, IsSending, Keeps, LeavesIt, NotNow, Offering, Others, Plain, Refuses, Rests, Says, SaysAll, SaysApart, SaysNothing, StaysSo, Acks, IsLooking, LooksNowhere, is_waiting, vector_of, is_without_connection}
use Rattle.dccp_endpoint.specs.Drafts.{Draft, IsSendable, alone}
use Rattle.dccp_endpoint.specs.Effects.{Effect, frame_by, HeardNumber, Unheard, Transmission, Silent, Next, effect_of, end_after, greatest_by, heard_by, owed_by, rows_by, told_by}
use Rattle.dccp_endpoint.specs.End.{EndState, IsProper, is_begun, is_connected, is_live, is_phase_of, with_rows, with_widths}
use Rattle.dccp_endpoint.specs.Heeding.{DueConfirm}
use Rattle.dccp_endpoint.specs.Inputs.{Input, Arrives}
use Rattle.dccp_endpoint.specs.Outcomes.{HasCause, HasEffectOf, HasForm}
use Rattle.dccp_endpoint.specs.Reporting.{is_acking, looked_by, sends_vectors, vector_items}
use Rattle.dccp_endpoint.specs.Speaking.{asking, change_items, confirm_items, is_confirmed}
use Rattle.dccp_endpoint.specs.Steps.{Step, next_number}
use Rattle.dccp_endpoint.specs.Turns.{Key, offerings, sendings}
use Rattle.dccp_states.specs.declared.outcome.Outcome.{Outcome}
use Rattle.dccp_endpoint.proofs.OwnFrames.{alone-sendable}
use Rattle.dccp_endpoint.proofs.Room.{IsFront, vector-front}

-- the end with windows as wide as its rows say
abbrev pub wide : EndState → EndState
wide o = with_rows o o.rows

-- a proper end has the windows that its rows say
pub widened : (o : EndState) → IsProper o → o ≡ wide o
widened o proper =
    ap (λ (w : ℕ). record o { marks = record o.marks { own_w = w } }) proper.own_width
    ∙ ap (λ (w : ℕ). record o { marks = record (with_widths o.marks o.rows) { peer_w = w } }) proper.peer_width

-- and stays proper with them
pub wide-proper : (o : EndState) → IsProper o → IsProper (wide o)
wide-proper o proper = subst IsProper (widened o proper) proper

-- what a step made of the end before anything goes out, and why
pub record Ready (e : EndState) (given : Input) (h : HeardNumber) (ack : Option ℕ) (opens : Bool) (ph : Phase) (called : Bool) (looked : Option ℕ) : Type 0 where
  pub hears : IsHearing e given ph h
  pub acks : IsAcknowledging e given ack
  pub its_role : is_phase_of ph e.config.role ≡ true
  pub live : is_live ph ≡ true → (is_live e.phase ≡ true) ⊎ IsFirst h
  pub waits : is_waiting ph ≡ true → ((is_waiting e.phase ≡ true) × (h ≡ Unheard)) ⊎ (called ≡ true)
  pub shut : e.phase ≡ phase.Closed → (ph ≡ phase.Closed) ⊎ (called ≡ true)
  pub opening : IsOpening e ph opens
  pub opened : IsOpened e given called
  pub looks : IsLooking e given h looked

-- nothing, so far
pub rest : {e : EndState} {given : Input} → IsProper e → Ready e given Unheard None false e.phase false None
rest proper =
    record {
      hears = Keeps (λ is. is);
      acks = LeavesIt;
      its_role = proper.phase_fits;
      live = λ is. inl is;
      waits = λ is. inl (is, refl);
      shut = λ is. inl is;
      opening = StaysSo (λ is. is);
      opened = NotNow;
      looks = LooksNowhere;
    }

-- it was brought to a phase without windows
pub left : {e : EndState} {given : Input} {h : HeardNumber} {ack : Option ℕ} {called : Bool} (ph : Phase) → is_live ph ≡ false → is_phase_of ph e.config.role ≡ true
    → (is_waiting ph ≡ true → called ≡ true) → (e.phase ≡ phase.Closed → (ph ≡ phase.Closed) ⊎ (called ≡ true))
    → IsHearing e given ph h → IsAcknowledging e given ack → IsOpened e given called → Ready e given h ack false ph called None
left ph dead its_role waits shut hears acks opened =
    record {
      hears = hears;
      acks = acks;
      its_role = its_role;
      live = λ is. absurd (false≢true (sym dead ∙ is));
      waits = λ is. inr (waits is);
      shut = shut;
      opening = StaysSo (λ is. absurd (false≢true (sym dead ∙ ap is_live is)));
      opened = opened;
      looks = LooksNowhere;
    }

-- No row has a turn.
abbrev pub quiet : {e : EndState} {given : Input} {h : HeardNumber} → AreTurns e given h []
quiet =
    record {
      heard = [];
      confirms = [];
      offered = [];
      preferred = [];
      keys = [];
      in_order = refl;
      hears = Deaf;
      occasion = Plain;
      apart = All-nil (λ (k : Key). is_confirmed [] k ≡ false);
    }

-- The rows hear a packet, and nothing else.
abbrev pub hearing : {e : EndState} {given : Input} {h : HeardNumber} {heard : List Turn} {confirms : List DueConfirm} → AreHeard e given h heard confirms
    → AreTurns e given h heard
hearing {heard = heard} {confirms = confirms} hears =
    record {
      heard = heard;
      confirms = confirms;
      offered = [];
      preferred = [];
      keys = [];
      in_order = sym (append-nil heard);
      hears = hears;
      occasion = Plain;
      apart = All-nil (λ (k : Key). is_confirmed confirms k ≡ false);
    }

-- The rows hear a packet, all offers come up, and the Changes go out of all that ask then and have no Confirm.
abbrev pub offered_keys : EndState → List Turn → List DueConfirm → List Key
offered_keys e heard confirms = asking (turned e.rows (heard ++ offerings (is_confirmed confirms) every_place)) confirms

abbrev pub offered_turns : EndState → List Turn → List DueConfirm → List Turn
offered_turns e heard confirms = heard ++ (offerings (is_confirmed confirms) every_place ++ sendings (next_number e) (offered_keys e heard confirms))

-- the rows that ask have no Confirm
pub asking-apart : (confirms : List DueConfirm) (keys : List Key) → All (λ k. is_confirmed confirms k ≡ false) (filter (λ k. not (is_confirmed confirms k)) keys)
asking-apart confirms keys = λ i d inside. not-true _ (filter_passes (λ k. not (is_confirmed confirms k)) keys i d inside)

abbrev pub offering : {e : EndState} {given : Input} {h : HeardNumber} {heard : List Turn} {confirms : List DueConfirm} → AreHeard e given h heard confirms
    → AreTurns e given h (offered_turns e heard confirms)
offering {e = e} {heard = heard} {confirms = confirms} hears =
    record {
      heard = heard;
      confirms = confirms;
      offered = offerings (is_confirmed confirms) every_place;
      preferred = [];
      keys = offered_keys e heard confirms;
      in_order = refl;
      hears = hears;
      occasion = Offering;
      apart = asking-apart confirms (due_keys (turned e.rows (heard ++ offerings (is_confirmed confirms) every_place)));
    }

-- An effect, part by part, with nothing that is due to the congestion control.
abbrev pub effect_with : List Turn → HeardNumber → Option ℕ → Bool → Phase → Bool → Option ℕ → Bool → ℕ → Transmission → Effect
effect_with turns h ack opens ph called looked owed unacked s =
    record {
      hearing = h;
      acknowledged = ack;
      opening = opens;
      phase = ph;
      opens = called;
      looked_up = looked;
      turns = turns;
      calls = [];
      sending = s;
      owed = owed;
      unacked = unacked;
    }

-- A packet that is no Ack and no DataAck has no Ack Vector.
pub no-vector : (e : EndState) (f : Effect) (k : Kind) → is_acking (packet_type k) ≡ false → [] ≡ vector_of e f k
no-vector e f k other =
    ap (λ (acks : Bool). vector_items (acks && sends_vectors (rows_by e.rows f)) e.config.vectors (told_by e.received f).set
    (greatest_by e.marks.gsr f.hearing)) (sym other)

module _ {e : EndState} {given : Input} {h : HeardNumber} {ack : Option ℕ} {opens : Bool} {ph : Phase} {called : Bool} {looked : Option ℕ}
    (ready : Ready e given h ack opens ph called looked) where
  abbrev pub caused : {turns : List Turn} (owed : Bool) (unacked : ℕ) (at : AreTurns e given h turns) (s : Transmission)
      → (is_begun ph ≡ true → (is_begun e.phase ≡ true) ⊎ HasNext s)
      → Says e (effect_with turns h ack opens ph called looked owed unacked s) at.confirms at.keys s → HasFrame s
      → IsSending e given (effect_with turns h ack opens ph called looked owed unacked s) s → (at.offered ≡ []) ⊎ IsOffering given h s
      → IsCaused e given (effect_with turns h ack opens ph called looked owed unacked s)
  caused owed unacked at s begun says framed sends offers =
      record {
        hears = ready.hears;
        acks = ready.acks;
        moves = record { its_role = ready.its_role; live = ready.live; begun = begun; waits = ready.waits; shut = ready.shut };
        opening = ready.opening;
        opened = ready.opened;
        looks = ready.looks;
        turns = at;
        offers = offers;
        says = says;
        framed = framed;
        sends = sends;
        calls = CallsNothing;
      }

  -- nothing goes out
  abbrev pub silent-caused : {turns : List Turn} (owed : Bool) (unacked : ℕ) (at : AreTurns e given h turns) → at.confirms ≡ [] → at.keys ≡ []
      → at.offered ≡ [] → (is_begun ph ≡ true → is_begun e.phase ≡ true)
      → IsCaused e given (effect_with turns h ack opens ph called looked owed unacked Silent)
  silent-caused owed unacked at none unasked unoffered begun =
      caused owed unacked at Silent (λ is. inl (begun is)) (SaysNothing none unasked) tt Rests (inl unoffered)

  -- a packet goes out that is no Ack and no DataAck
  abbrev pub next-caused : {turns : List Turn} (owed : Bool) (unacked : ℕ) (at : AreTurns e given h turns) (packet : Draft) → IsSendable packet
      → packet.options ≡ confirm_items at.confirms ++ change_items (turned e.rows turns) at.keys
      → (at.confirms ≡ []) ⊎ AcknowledgesHeard h (ack_of packet.kind) → is_acking (packet_type packet.kind) ≡ false
      → Acknowledges e given (greatest_by e.marks.gsr h) (ack_of packet.kind) → is_without_connection e.config.role packet.kind ≡ false
      → (at.offered ≡ []) ⊎ IsOffering given h (Next packet)
      → IsCaused e given (effect_with turns h ack opens ph called looked owed unacked (Next packet))
  next-caused {turns = turns} owed unacked at packet sendable says answers other acknowledges numbered offers =
      caused owed unacked at (Next packet) (λ is. inr tt)
      (SaysAll packet
      (says
      ∙ ap (λ (front : List Item). front ++ (confirm_items at.confirms ++ change_items (turned e.rows turns) at.keys))
      (no-vector e (effect_with turns h ack opens ph called looked owed unacked (Next packet)) packet.kind other))
      answers)
      sendable (Others packet other acknowledges numbered) offers

  -- the Ack Vector of what was received, and the Ack that goes out
  abbrev pub front_of : List Turn → List Item
  front_of turns = vector_items (sends_vectors (turned e.rows turns)) e.config.vectors (looked_by (heard_by e.received h) looked).set
      (greatest_by e.marks.gsr h)

  abbrev pub front-short : (turns : List Turn) → IsFront (front_of turns)
  front-short turns =
      vector-front (sends_vectors (turned e.rows turns)) e.config.vectors (looked_by (heard_by e.received h) looked).set (greatest_by e.marks.gsr h)

  abbrev pub ack_with : List Turn → List Item → Draft
  ack_with turns options = record { kind = kind.Ack (Long (greatest_by e.marks.gsr h)); options = front_of turns ++ options; payload = [] }

  abbrev pub ack-caused : {turns : List Turn} (at : AreTurns e given h turns) (options : List Item) → IsSendable (ack_with turns options)
      → options ≡ confirm_items at.confirms ++ change_items (turned e.rows turns) at.keys
      → (at.confirms ≡ []) ⊎ AcknowledgesHeard h (Some (greatest_by e.marks.gsr h)) → is_connected ph ≡ true → at.offered ≡ []
      → IsCaused e given (effect_with turns h ack opens ph called looked false 0 (Next (ack_with turns options)))
  ack-caused {turns = turns} at options sendable says answers connected unoffered =
      caused false 0 at (Next (ack_with turns options)) (λ is. inr tt)
      (SaysAll (ack_with turns options) (ap (λ (rest : List Item). front_of turns ++ rest) says) answers) sendable
      (Acks (ack_with turns options) refl refl connected refl refl) (inl unoffered)

  -- a DataAck goes out with these data
  abbrev pub data_ack_with : List ℕ → Draft
  data_ack_with payload = record { kind = kind.DataAck (Long (greatest_by e.marks.gsr h)); options = front_of [] ++ []; payload = payload }

  abbrev pub data-ack-caused : (payload : List ℕ) → IsSendable (data_ack_with payload) → is_connected ph ≡ true
      → IsCaused e given (effect_with [] h ack opens ph called looked false 0 (Next (data_ack_with payload)))
  data-ack-caused payload sendable connected =
      caused false 0 quiet (Next (data_ack_with payload)) (λ is. inr tt) (SaysAll (data_ack_with payload) refl (inl refl)) sendable
      (Acks (data_ack_with payload) refl refl connected refl refl) (inl refl)

-- one that says nothing of features, where nothing is looked up
abbrev pub plain-caused : {e : EndState} {given : Input} {h : HeardNumber} {ack : Option ℕ} {opens : Bool} {ph : Phase} {called : Bool}
    → Ready e given h ack opens ph called None → (k : Kind) → has_forms true k ≡ true → HasDetail k → is_acking (packet_type k) ≡ false
    → Acknowledges e given (greatest_by e.marks.gsr h) (ack_of k) → is_without_connection e.config.role k ≡ false
    → IsCaused e given (effect_of e h ack opens ph called (Next (alone k)))
plain-caused {e = e} {h = h} ready k long detail other acknowledges numbered =
    next-caused ready (owed_by e.owed h) e.unacked quiet (alone k) (alone-sendable k long detail) refl (inl refl) other acknowledges numbered
    (inl refl)

-- The effect with these calls due to the congestion control. They decide no other part.
abbrev pub calling : List Call → Effect → Effect
calling calls f = record f { calls = calls }

-- what is said is the same whatever is called
pub says-calling : {e : EndState} {f : Effect} {confirms : List DueConfirm} {keys : List Key} {s : Transmission} (calls : List Call) → Says e f confirms keys s
    → Says e (calling calls f) confirms keys s
says-calling calls (SaysNothing none unasked) = SaysNothing none unasked
says-calling calls (SaysAll packet says answers) = SaysAll packet says answers
says-calling calls (SaysApart number packet none unasked) = SaysApart number packet none unasked

-- so is what is sent
pub sends-calling : {e : EndState} {given : Input} {f : Effect} {s : Transmission} (calls : List Call) → IsSending e given f s
    → IsSending e given (calling calls f) s
sends-calling calls Rests = Rests
sends-calling calls (Acks packet is acks connected owes counts) = Acks packet is acks connected owes counts
sends-calling calls (Others packet other acknowledges numbered) = Others packet other acknowledges numbered
sends-calling calls (Refuses a code came is_code unheard still same) = Refuses a code came is_code unheard still same

abbrev pub calling-caused : {e : EndState} {given : Input} {f : Effect} {calls : List Call} → IsCalling e given f.hearing f.sending calls → IsCaused e given f
    → IsCaused e given (calling calls f)
calling-caused {calls = calls} why because =
    record {
      hears = because.hears;
      acks = because.acks;
      moves = because.moves;
      opening = because.opening;
      opened = because.opened;
      looks = because.looks;
      turns = because.turns;
      offers = because.offers;
      says = says-calling calls because.says;
      framed = because.framed;
      sends = sends-calling calls because.sends;
      calls = why;
    }

-- all that there is to say of a step of `receive`
pub record Told (e : EndState) (bytes : List ℕ) (step : Step Outcome) : Type 0 where
  pub cause : HasCause e bytes step.answer
  pub effect : HasEffectOf e bytes step.answer step.after step.frame step.calls

-- the step of an effect, where it is known why that is so
pub has-by : {e : EndState} {given : Input} {f : Effect} → IsCaused e given f → HasEffect e given (end_after e f) (frame_by e f f.sending) f.calls
has-by {f = f} because = record { effect = f; after_is = refl; frame_is = refl; calls_are = refl; because = because }

-- a step is told by its effect, its cause and its form
pub told-by : {e : EndState} {bytes : List ℕ} {f : Effect} (outcome : Outcome) (because : IsCaused e (Arrives bytes) f) (cause : HasCause e bytes outcome)
    → HasForm e bytes outcome cause f because.turns
    → Told e bytes (record { after = end_after e f; frame = frame_by e f f.sending; calls = f.calls; answer = outcome })
told-by {f = f} outcome because cause form =
    record { cause = cause; effect = record { effect = f; after_is = refl; frame_is = refl; calls_are = refl; because = because; cause = cause; form = form } }
