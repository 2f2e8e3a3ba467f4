-- The result of a packet with any options in an opening, and the packets of an opening.
use Rattle.std.proofs.Common.{◌≡◌, ◌⊎◌, inl, inr, refl, ap, sym, ◌∙◌, subst, ◌&&◌, not, ℕ, ◌+◌, List, [], Bool, true, false, Some, Result, Ok, Err}
use Rattle.std.proofs.Math.Bool.{and-false}
use Rattle.congestion_trait.specs.Calls.{Call}
use Rattle.dccp_packets.specs.Forms.{may_be_short}
use Rattle.dccp_packets.specs.Grammar.{packet_type}
use Rattle.dccp_packets.specs.declared.header.Kind.{Kind}
use Rattle.dccp_packets.specs.declared.header.Kind.TheVariants as kind
use Rattle.dccp_packets.specs.declared.header.Number.TheVariants.{Long}
use Rattle.dccp_packets.specs.declared.header.PacketType.{PacketType}
use Rattle.dccp_states.specs.Entrance.{gate}
use Rattle.dccp_states.specs.Phases.{after}
use Rattle.dccp_states.specs.Unexpected.{unexpected}
use Rattle.dccp_states.specs.declared.entrance.Entrance.{Entrance}
use Rattle.dccp_states.specs.declared.phase.Role.{Role}
use Rattle.dccp_states.specs.declared.calls.Timer.TheVariants as timers
use Rattle.dccp_states.specs.declared.outcome.Fault.{Fault}
use Rattle.dccp_states.specs.declared.outcome.Outcome.{Outcome}
use Rattle.dccp_states.specs.declared.outcome.Outcome.TheVariants.{Took}
use Rattle.dccp_states.specs.declared.phase.Phase.{Phase}
use Rattle.dccp_states.specs.declared.phase.Phase.TheVariants as phases
use Rattle.dccp_states.specs.declared.reply.Reply.{Reply}
use Rattle.dccp_states.specs.declared.reply.Reply.TheVariants as reply
use Rattle.dccp_endpoint.specs.Calling.{fires, requests}
use Rattle.dccp_endpoint.specs.Causes.{entrance_of}
use Rattle.dccp_endpoint.specs.Congesting.{calls_for}
use Rattle.dccp_endpoint.specs.Drafts.{Draft, IsSendable, alone, sent_of}
use Rattle.dccp_endpoint.specs.End.{EndState, IsProper, end_of, is_open, with_rows}
use Rattle.dccp_endpoint.specs.Faults.{counts}
use Rattle.dccp_endpoint.specs.Heeding.{DueConfirm, ReadingState}
use Rattle.dccp_endpoint.specs.Incoming.{Incoming}
use Rattle.dccp_endpoint.specs.Receiving.{is_unexpected, accounted, heeded, moved_to, moves, reads_options, replies}
use Rattle.dccp_endpoint.specs.Reporting.{counts_data, delivered_if, delivers, reporting, sends_ack, sends_vectors, vector_items}
use Rattle.dccp_endpoint.specs.ShortForm.{goes_short}
use Rattle.dccp_endpoint.specs.Speaking.{asking, confirming, is_confirmed, saying}
use Rattle.dccp_endpoint.specs.Steps.{Step, next_number}
use Rattle.dccp_endpoint.specs.Turns.{Key, offerings, sendings}
use Rattle.dccp_endpoint.specs.declared.config.Config.{Config}
use Rattle.dccp_endpoint.proofs.Lawful.{heard_rows, offerings-lawful, sendings-lawful}
use Rattle.dccp_endpoint.proofs.Room.{AreShort, asking-few, confirms-short, front-confirming-sendable, no-confirms, saying-sendable, vector-front}
use Rattle.feature_machine.specs.Negotiating.{AreRowsOf, every_place}
use Rattle.feature_machine.specs.Turns.{turned}
use Rattle.feature_machine.specs.declared.row.Row.{Row}
use Rattle.feature_machine.specs.declared.stands.Role2.{Role2}
use Rattle.feature_machine.proofs.Turning.{turned-role}
use Rattle.run_list.specs.MarkedSet.{answer_to}
use Rattle.run_list.specs.declared.answers.Marked.{Marked}
use Rattle.seq_circle.specs.Circle.{is_before, residue}

-- A step leaves the phase here, and sends a draft of this type under the next number, in the long form.
pub record Tells {A : Type 0} (e : EndState) (s : Step A) (to : Phase) (k : Kind) : Type 0 where
  pub config : s.after.config ≡ e.config
  pub phase : s.after.phase ≡ to
  pub gsr_is : s.after.marks.gsr ≡ e.marks.gsr
  pub gss_is : s.after.marks.gss ≡ next_number e
  pub draft : Draft
  pub is_kind : draft.kind ≡ k
  pub sendable : IsSendable draft
  pub frame_is : s.frame ≡ Some (sent_of e.config false (next_number e) draft)

-- It has closed, for a fault of the options.
pub record Shuts {A : Type 0} (e : EndState) (s : Step A) : Type 0 where
  pub config : s.after.config ≡ e.config
  pub closed : s.after.phase ≡ phases.Closed

-- Rows that ask, once their offers came up and their Changes went out.
module _ (r : Role2) (rows : List Row) (its : AreRowsOf r rows) (confirms : List DueConfirm) (number : ℕ) where
  abbrev offered : List Row
  offered = turned rows (offerings (is_confirmed confirms) every_place)

  abbrev keys : List Key
  keys = asking offered confirms

  offered-rows : AreRowsOf r offered
  offered-rows = turned-role r rows (offerings (is_confirmed confirms) every_place) its (offerings-lawful (is_confirmed confirms) every_place)

  asked-rows : AreRowsOf r (turned offered (sendings number keys))
  asked-rows = turned-role r offered (sendings number keys) offered-rows (sendings-lawful number keys)

  request-sendable : (service : ℕ) → AreShort confirms
      → IsSendable (saying (kind.Request service) confirms (turned offered (sendings number keys)) keys)
  request-sendable service short =
      saying-sendable (kind.Request service) confirms (turned offered (sendings number keys)) keys refl tt refl short asked-rows.sound
      (asking-few offered confirms offered-rows.sound)

  response-sendable : (ack service : ℕ) → AreShort confirms
      → IsSendable (saying (kind.Response ack service) confirms (turned offered (sendings number keys)) keys)
  response-sendable ack service short =
      saying-sendable (kind.Response ack service) confirms (turned offered (sendings number keys)) keys refl tt refl short asked-rows.sound
      (asking-few offered confirms offered-rows.sound)

-- the Request goes out again
pub request-again : (e : EndState) (in_flight : Bool) → IsProper e → e.phase ≡ phases.Request
    → Tells e (fires e timers.Request in_flight) phases.Request (kind.Request e.config.service)
unfolding fires
request-again e in_flight proper is_phase =
    subst (λ (s : Step Bool). Tells e s phases.Request (kind.Request e.config.service)) (sym same)
    (record {
      config = refl;
      phase = is_phase;
      gsr_is = refl;
      gss_is = refl;
      draft = _;
      is_kind = refl;
      sendable = request-sendable (end_of e.config.role) e.rows proper.rows [] (next_number e) e.config.service no-confirms;
      frame_is = refl;
    })
  where
    same : fires e timers.Request in_flight ≡ requests e true
    same = rw is_phase refl

-- an end that is not OPEN sends long numbers
not-open-long : (e : EndState) (d : Draft) → is_open e.phase ≡ false → goes_short e d ≡ false
not-open-long e d is = rw is (and-false (may_be_short (packet_type d.kind)))

acking-tells : {A : Type 0} (e x : EndState) (confirms : List DueConfirm) (answer : A) (to : Phase) → AreShort confirms → x.config ≡ e.config → x.phase ≡ to
    → is_open x.phase ≡ false → x.marks.gss ≡ e.marks.gss → x.marks.gsr ≡ e.marks.gsr
    → Tells e (sends_ack x (confirming (kind.Ack (Long x.marks.gsr)) confirms) answer) to (kind.Ack (Long e.marks.gsr))
acking-tells e x confirms answer to short config phase shut gss gsr =
    let d : Draft = reporting x (confirming (kind.Ack (Long x.marks.gsr)) confirms) in
    record {
      config = config;
      phase = phase;
      gsr_is = gsr;
      gss_is = ap (λ (n : ℕ). residue (n + 1)) gss;
      draft = d;
      is_kind = ap (λ (n : ℕ). kind.Ack (Long n)) gsr;
      sendable =
          front-confirming-sendable (kind.Ack (Long x.marks.gsr)) (vector_items (sends_vectors x.rows) x.config.vectors x.received.set x.marks.gsr) confirms
          refl tt refl (vector-front (sends_vectors x.rows) x.config.vectors x.received.set x.marks.gsr) short;
      frame_is =
          ap (λ (b : Bool). Some (sent_of x.config b (next_number x) d)) (not-open-long x d shut)
          ∙ ap (λ (c : Config). Some (sent_of c false (next_number x) d)) config
          ∙ ap (λ (n : ℕ). Some (sent_of e.config false (residue (n + 1)) d)) gss;
    }

-- the timer ack in PARTOPEN
pub ack-fires : (e : EndState) (in_flight : Bool) → e.phase ≡ phases.PartOpen
    → Tells e (fires e timers.Ack in_flight) phases.PartOpen (kind.Ack (Long e.marks.gsr))
unfolding fires
ack-fires e in_flight is_phase =
    subst (λ (s : Step Bool). Tells e s phases.PartOpen (kind.Ack (Long e.marks.gsr))) (sym same)
    (acking-tells e e [] true phases.PartOpen no-confirms refl is_phase (ap is_open is_phase) refl refl)
  where
    same : fires e timers.Ack in_flight ≡ sends_ack e (alone (kind.Ack (Long e.marks.gsr))) true
    same = rw is_phase refl

-- What is made of the options of a packet in an end that has let it in: a fault closes the end, and else it is answered.
module _ (y : EndState) (a : Incoming) (its : AreRowsOf (end_of y.config.role) y.rows) where
  abbrev Ends : Step Outcome → Phase → Kind → Type 0
  Ends s to k = Shuts y s ⊎ Tells y s to k

  module _ (h : ReadingState) (to : Phase) where
    abbrev mark : Marked
    mark = answer_to y.received.set a.number

    abbrev x : EndState
    x = counts_data (moved_to (accounted (with_rows y h.rows) a) to a.number) (delivers a.kind to mark)

    abbrev took : Outcome
    took = Took (delivered_if (delivers a.kind to mark) a.data_place)

    abbrev calls : List Call
    calls = calls_for a y.rows h.rows

    heard-so : (answer : Reply) → after y.phase a.kind ≡ (to, answer)
        → heeded y a (Ok h)
        ≡ record (replies x a h.confirms took answer) { calls = calls }
    heard-so answer row = ap (λ (row_of : Phase × Reply). record (moves (accounted (with_rows y h.rows) a) a h.confirms mark row_of) { calls = calls }) row

    short-so : reads_options y a ≡ Ok h → AreShort h.confirms
    short-so read = confirms-short (a.newest && counts y.phase a.kind) a.ack y.rows a.options h its.sound read

    rows-so : reads_options y a ≡ Ok h → AreRowsOf (end_of y.config.role) h.rows
    rows-so read = heard_rows (end_of y.config.role) (a.newest && counts y.phase a.kind) a.ack y.rows a.options h its read

    -- with a Response
    responds-so : reads_options y a ≡ Ok h → after y.phase a.kind ≡ (to, reply.Response)
        → Tells y (heeded y a (Ok h)) to (kind.Response y.marks.gsr y.config.service)
    responds-so read row =
        subst (λ (s : Step Outcome). Tells y s to (kind.Response y.marks.gsr y.config.service)) (sym (heard-so reply.Response row))
        (record {
          config = refl;
          phase = refl;
          gsr_is = refl;
          gss_is = refl;
          draft = _;
          is_kind = refl;
          sendable =
              response-sendable (end_of y.config.role) h.rows (rows-so read) h.confirms (next_number y) y.marks.gsr y.config.service (short-so read);
          frame_is = refl;
        })

    -- with an Ack in PARTOPEN
    acks-so : reads_options y a ≡ Ok h → after y.phase a.kind ≡ (phases.PartOpen, reply.Ack) → to ≡ phases.PartOpen
        → Tells y (heeded y a (Ok h)) phases.PartOpen (kind.Ack (Long y.marks.gsr))
    acks-so read row is =
        subst (λ (s : Step Outcome). Tells y s phases.PartOpen (kind.Ack (Long y.marks.gsr))) (sym (heard-so reply.Ack (row ∙ ap (λ (p : Phase). (p, reply.Ack)) (sym is))))
        (let tells = acking-tells y x h.confirms took phases.PartOpen (short-so read) refl is (ap is_open is) refl refl in
        record {
          config = tells.config;
          phase = tells.phase;
          gsr_is = tells.gsr_is;
          gss_is = tells.gss_is;
          draft = tells.draft;
          is_kind = tells.is_kind;
          sendable = tells.sendable;
          frame_is = tells.frame_is;
        })

    -- with an Ack in any phase
    opens-so : after y.phase a.kind ≡ (to, reply.Ack) → (heeded y a (Ok h)).after.phase ≡ to
    opens-so row = ap (λ (s : Step Outcome). s.after.phase) (heard-so reply.Ack row)

    opens-config : after y.phase a.kind ≡ (to, reply.Ack) → (heeded y a (Ok h)).after.config ≡ y.config
    opens-config row = ap (λ (s : Step Outcome). s.after.config) (heard-so reply.Ack row)

  shut-so : (fault : Fault) → Shuts y (heeded y a (Err fault))
  shut-so fault = record { config = refl; closed = refl }

  pub response-ends : (to : Phase) → after y.phase a.kind ≡ (to, reply.Response)
      → Ends (heeded y a (reads_options y a)) to (kind.Response y.marks.gsr y.config.service)
  response-ends to row = by (reads_options y a) refl where
    by : (read : Result ReadingState Fault) → reads_options y a ≡ read → Ends (heeded y a read) to (kind.Response y.marks.gsr y.config.service)
    by (Ok h) is = inr (responds-so h to is row)
    by (Err fault) is = inl (shut-so fault)

  pub ack-ends : after y.phase a.kind ≡ (phases.PartOpen, reply.Ack)
      → Ends (heeded y a (reads_options y a)) phases.PartOpen (kind.Ack (Long y.marks.gsr))
  ack-ends row = by (reads_options y a) refl where
    by : (read : Result ReadingState Fault) → reads_options y a ≡ read → Ends (heeded y a read) phases.PartOpen (kind.Ack (Long y.marks.gsr))
    by (Ok h) is = inr (acks-so h phases.PartOpen is row refl)
    by (Err fault) is = inl (shut-so fault)

  -- a step to OPEN
  pub record Opens (s : Step Outcome) : Type 0 where
    pub config : s.after.config ≡ y.config
    pub phase : s.after.phase ≡ phases.Open

  pub open-ends : after y.phase a.kind ≡ (phases.Open, reply.Ack)
      → Shuts y (heeded y a (reads_options y a)) ⊎ Opens (heeded y a (reads_options y a))
  open-ends row = by (reads_options y a) where
    by : (read : Result ReadingState Fault) → Shuts y (heeded y a read) ⊎ Opens (heeded y a read)
    by (Ok h) = inr (record { config = opens-config h phases.Open row; phase = opens-so h phases.Open row })
    by (Err fault) = inl (shut-so fault)

-- What the tables say of a packet, by its type and the end's phase.
pub entrance-so : (e : EndState) (a : Incoming) (p : Phase) (t : PacketType) (is : Entrance) → e.phase ≡ p → a.kind ≡ t → gate p t ≡ is
    → entrance_of e a ≡ is
entrance-so e a p t is phase type same = rw (phase, type) same

pub after-so : (e : EndState) (a : Incoming) (p : Phase) (t : PacketType) (row : Phase × Reply) → e.phase ≡ p → a.kind ≡ t → after p t ≡ row
    → after e.phase a.kind ≡ row
after-so e a p t row phase type same = rw (phase, type) same

pub expected-as : (e : EndState) (a : Incoming) (who : Role) (p : Phase) (t : PacketType) → e.config.role ≡ who → e.phase ≡ p → a.kind ≡ t
    → ((from_osr : Bool) → unexpected who p t from_osr ≡ false) → is_unexpected e a ≡ false
expected-as e a who p t role phase type each = rw (role, phase, type) (each (not (is_before a.number e.marks.osr)))
