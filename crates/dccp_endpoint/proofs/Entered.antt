-- A packet that entered, by step 3, 4 or 6 of `receive`, is told from step 7 on: its outcome's cause, and its effect.
--
-- It is an `Entry`: the end that those steps leave is written as an effect, and what follows is told of each entry alike.
use Rattle.std.proofs.Common.{◌≡◌, ◌≢◌, ◌⊎◌, inl, inr, refl, ap, sym, ◌∙◌, subst, ℕ, Bool, true, false, not, ◌&&◌, ◌||◌, if◌then◌else◌, List, [], ◌∷◌, ◌++◌, Option, Some, None, Result, Ok, Err, is_some}
use Rattle.std.proofs.lemmas.Bool.{and_parts, false≢true}
use Rattle.std.proofs.lemmas.List.{append-nil, append_assoc}
use Rattle.congestion_trait.specs.Calls.{Call}
use Rattle.seq_circle.specs.Circle.{is_before}
use Rattle.dccp_packets.specs.ResetCodes.{number_of_code}
use Rattle.dccp_packets.specs.declared.header.Kind.{Kind}
use Rattle.dccp_packets.specs.declared.header.Kind.TheVariants as kind
use Rattle.dccp_packets.specs.declared.header.Number.TheVariants.{Long}
use Rattle.dccp_packets.specs.declared.header.PacketType.{PacketType}
use Rattle.dccp_packets.specs.declared.header.PacketType.TheVariants as types
use Rattle.dccp_packets.specs.declared.reset_code.ResetCode.TheVariants as codes
use Rattle.dccp_states.specs.Phases.{after}
use Rattle.dccp_states.specs.declared.phase.Phase.{Phase}
use Rattle.dccp_states.specs.declared.phase.Phase.TheVariants as phase
use Rattle.dccp_states.specs.declared.phase.Role.{Role}
use Rattle.dccp_states.specs.declared.phase.Role.TheVariants as role
use Rattle.dccp_states.specs.declared.reply.Reply.{Reply}
use Rattle.dccp_states.specs.declared.reply.Reply.TheVariants as reply
use Rattle.run_list.specs.MarkedSet.{answer_to}
use Rattle.feature_machine.specs.Negotiating.{every_place}
use Rattle.feature_machine.specs.Turns.{Turn, turned}
use Rattle.feature_machine.specs.declared.row.Row.{Row}
use Rattle.feature_machine.proofs.Turning.{turned-joined}
use Rattle.dccp_endpoint.specs.Causes.{is_code_without_connection, is_waiting, IsLooking, Looks, LooksNowhere, AreHeard, AreTurns, Arrived, BecomesOpen, CallsFor, Came, FitsPassing, Greatest, Heeds, InResponse, IsAcknowledging, IsCaused, AreOptionsRead, IsHearing, IsOpening, NotNow, StaysSo, counts_in, turns_in}
use Rattle.dccp_endpoint.specs.Congesting.{calls_for}
use Rattle.dccp_endpoint.specs.Drafts.{alone}
use Rattle.dccp_endpoint.specs.Effects.{Effect, HeardNumber, Heard, Next, PacketFate, Refused, Transmission, Shut, Silent, Taken, effect_of, end_after, frame_by, greatest_or, is_acking_sent, raising}
use Rattle.dccp_endpoint.specs.End.{EndState, IsProper, is_begun, is_connected, is_live, is_open, is_phase_of, phase_entered, with_rows}
use Rattle.dccp_endpoint.specs.Faults.{counts}
use Rattle.dccp_endpoint.specs.Heeding.{DueConfirm, ReadingState, heeds, unheeded}
use Rattle.dccp_endpoint.specs.Incoming.{Incoming}
use Rattle.dccp_endpoint.specs.Inputs.{Arrives}
use Rattle.dccp_endpoint.specs.Outcomes.{HasCause, HasForm, data_sent, effect_of_closing, effect_of_reset, hears_first, offered_with, replying, IsAdmitted, IsReset, IsValid, IsValidPacket, WrongService, Faulted, AnswersClose, is_for_another, IsTaken, IsTaking, kind_sent, unacked_by}
use Rattle.dccp_endpoint.specs.Receiving.{acknowledges, becomes_open, checks_type, ends_as, ends_by_reset, expects, heeded, is_unexpected, moved_to, needs_ack, reads_options, replies, resets, responds, responds_asking, responds_offering, serves, through}
use Rattle.dccp_endpoint.specs.Reporting.{counts_data, delivered_if, delivers, is_acking, is_enough, looked_up, looks_up, marks, unacked_after}
use Rattle.dccp_endpoint.specs.Speaking.{asking, confirm_items, confirming, has_confirms, is_confirmed, saying}
use Rattle.dccp_endpoint.specs.Steps.{Step, in_phase, detail_of, idle, next_number, reset_of, sends, with_calls, without_detail}
use Rattle.dccp_endpoint.specs.Turns.{Key, offerings, sendings}
use Rattle.dccp_states.specs.declared.outcome.Fault.{Fault}
use Rattle.dccp_states.specs.declared.outcome.Outcome.{Outcome}
use Rattle.dccp_states.specs.declared.outcome.Outcome.TheVariants.{Synced, Took}
use Rattle.dccp_endpoint.proofs.Deriving.{Ready, Told, ack-caused, calling, calling-caused, front_of, effect_with, front-short, hearing, left, next-caused, offered_keys, offered_turns, offering, plain-caused, rest, silent-caused, told-by, wide}
use Rattle.dccp_endpoint.proofs.Heard.{heeds-turns, uncounted}
use Rattle.dccp_endpoint.proofs.Lawful.{offered-sound, rows-kept}
use Rattle.dccp_endpoint.proofs.OwnFrames.{alone-sendable}
use Rattle.dccp_endpoint.proofs.Phases.{MaySay, after_fits, answers-close, fits-reply, may-say, open-is, requests-client}
use Rattle.dccp_endpoint.proofs.Room.{AreShort, IsBoundedReading, asking-few, confirming-sendable, confirms-short, front-confirming-sendable, reading-bounded, saying-sendable}
use Rattle.dccp_endpoint.proofs.Tables.{numbered-code, other-service-asked}

-- where OSR is set
opening-so : (e : EndState) (ph to : Phase) (opens was : Bool) → is_open to ≡ opens → is_open ph ≡ was → is_open ph ≡ is_open e.phase
    → IsOpening e to (opens && not was)
opening-so e ph to true true opens was same = StaysSo (λ is. open-is e.phase (sym same ∙ was))
opening-so e ph to true false opens was same = BecomesOpen (open-is to opens) (λ is. false≢true (sym was ∙ same ∙ ap is_open is))
opening-so e ph to false was opens so same = StaysSo (λ is. absurd (false≢true (sym opens ∙ ap is_open is)))

none-have : (confirms : List DueConfirm) → has_confirms confirms ≡ false → confirms ≡ []
none-have [] is = refl
none-have (due ∷ rest) is = cc is

or-none : (one other : Bool) → (one || other) ≡ false → one ≡ false
or-none true other is = cc is
or-none false other is = refl

some-if : (delivered : Bool) (place : ℕ × ℕ) → is_some (delivered_if delivered place) ≡ delivered
some-if true place = refl
some-if false place = refl

-- the end as steps 3, 4 and 6 leave it
abbrev pub entered_as : EndState → Bool → Phase → ℕ → Option ℕ → EndState
entered_as e first ph number ack = end_after e (effect_of e (Heard first number Shut) ack false ph false Silent)

-- a packet that entered
pub record Entry (e : EndState) (bytes : List ℕ) (a : Incoming) : Type 0 where
  pub came : Came e (Arrives bytes) a
  pub first : Bool
  pub ph : Phase
  pub first_so : first ≡ hears_first e
  pub valid : IsValid e a (entered_as e first ph a.number (raising a.kind a.ack))
  pub entered : ph ≡ phase_entered e.phase
  pub hears : (to : Phase) (how : PacketFate) → how ≢ Refused → FitsPassing to a.kind how → IsHearing e (Arrives bytes) to (Heard first a.number how)
  pub acks : IsAcknowledging e (Arrives bytes) (raising a.kind a.ack)
  pub its_role : is_phase_of ph e.config.role ≡ true
  pub live : (is_live e.phase ≡ true) ⊎ (first ≡ true)
  pub begun : (is_begun e.phase ≡ true) ⊎ (after ph a.kind ≡ (phase.Respond, reply.Response))
  pub same_open : is_open ph ≡ is_open e.phase
  pub moves_on : is_waiting (after ph a.kind).0 ≡ false
  pub not_closed : e.phase ≢ phase.Closed
  pub greatest : a.newest ≡ true → greatest_or first a.number e.marks.gsr ≡ a.number
  pub refused : is_unexpected (entered_as e first ph a.number (raising a.kind a.ack)) a ≡ true
      → Told e bytes (sends (entered_as e first ph a.number (raising a.kind a.ack)) (alone (kind.Sync a.number)) (Synced a.number))

-- steps 7 and 8, after the test of Resets
abbrev pub AfterEntry : EndState → List ℕ → Incoming → PacketType → EndState → Type 0
AfterEntry e bytes a t x = Told e bytes (ends_as a (through (ends_by_reset a t x) (checks_type a ∷ [])))

module _ (o : EndState) (bytes : List ℕ) (proper : IsProper (wide o)) where
  abbrev e : EndState
  e = wide o

  module _ (a : Incoming) (entry : Entry e bytes a) where
    abbrev end : EndState
    end = entered_as e entry.first entry.ph a.number (raising a.kind a.ack)

    valid-packet : IsValidPacket e bytes a end
    valid-packet = record { came = entry.came; is_valid = entry.valid }

    -- with its number heard as the first or not
    closing-form : (how : PacketFate) (fault : Fault)
        → effect_of e (Heard entry.first a.number how) (raising a.kind a.ack) false phase.Closed false (Next (reset_of end.marks.gsr fault))
        ≡ effect_of_closing e a how fault
    closing-form how fault =
        ap (λ (first : Bool).
        effect_of e (Heard first a.number how) (raising a.kind a.ack) false phase.Closed false (Next (reset_of (greatest_or first a.number e.marks.gsr) fault)))
        entry.first_so

    -- it closes the end
    shut-told : (fault : Fault) → is_code_without_connection e.config.role fault.code ≡ false → (why : IsReset e bytes fault)
        → effect_of_reset e bytes fault why ≡ effect_of_closing e a Shut fault → Told e bytes (resets (in_phase end phase.Closed) end.marks.gsr fault)
    shut-told fault numbered why form =
        told-by _
        (plain-caused (left phase.Closed refl refl (λ is. absurd (false≢true is)) (λ closed. inl refl)
        (entry.hears phase.Closed Shut (λ is. cc is) refl) entry.acks NotNow)
        (kind.Reset end.marks.gsr fault.code (detail_of fault)) refl refl refl Greatest numbered)
        (record { fault = fault; why = why; has_code = refl; has_detail = refl }) (closing-form Shut fault ∙ sym form)

    -- it is taken: the row of the table
    abbrev IsRow : Phase → Reply → Type 0
    IsRow to r = after entry.ph a.kind ≡ (to, r)

    abbrev heard_so : HeardNumber
    heard_so = Heard entry.first a.number Taken

    -- what is looked up
    looking : IsLooking e (Arrives bytes) heard_so (looked_up a.kind a.ack)
    looking = by (is_acking a.kind) refl a.ack refl where
      by : (acks : Bool) → is_acking a.kind ≡ acks → (n : Option ℕ) → a.ack ≡ n → IsLooking e (Arrives bytes) heard_so (if acks then n else None)
      by false other n same = LooksNowhere
      by true is None same = LooksNowhere
      by true is (Some n) same = Looks n a (record { came = entry.came; first = entry.first; is_heard = refl }) is same

    taken-ready : (looked : Option ℕ) → IsLooking e (Arrives bytes) heard_so looked → (to : Phase) (r : Reply) → IsRow to r
        → Ready e (Arrives bytes) heard_so (raising a.kind a.ack) (becomes_open entry.ph to) to false looked
    taken-ready looked looks to r row =
        record {
          hears = entry.hears to Taken (λ is. cc is) tt;
          acks = entry.acks;
          its_role = ap (λ (p : Phase × Reply). is_phase_of p.0 e.config.role) (sym row) ∙ after_fits entry.ph a.kind e.config.role entry.its_role;
          live = λ _. entry.live;
          waits = λ is. absurd (false≢true (sym entry.moves_on ∙ ap (λ (p : Phase × Reply). is_waiting p.0) row ∙ is));
          shut = λ closed. absurd (entry.not_closed closed);
          opening = opening-so e entry.ph to (is_open to) (is_open entry.ph) refl refl entry.same_open;
          opened = NotNow;
          looks = looks;
        }

    -- which the vectors that go out report
    abbrev looked : Option ℕ
    looked = looked_up a.kind a.ack

    ready-so : (to : Phase) (r : Reply) → IsRow to r → Ready e (Arrives bytes) heard_so (raising a.kind a.ack) (becomes_open entry.ph to) to false looked
    ready-so to r row = taken-ready looked looking to r row

    -- whether its data are delivered
    abbrev IsDelivery : Phase → Bool → Type 0
    IsDelivery to new = new ≡ delivers a.kind to (answer_to end.received.set a.number)

    abbrev took : Bool → Outcome
    took new = Took (delivered_if new a.data_place)

    -- the data packets that are not acknowledged, with it
    abbrev unacked_so : Bool → ℕ
    unacked_so new = unacked_after e.unacked new

    -- where nothing goes out, the end had begun
    silent-begun : (to : Phase) (r : Reply) → IsRow to r → r ≢ reply.Response → is_begun e.phase ≡ true
    silent-begun to r row other = elim entry.begun [ inl is ↦ is | inr is ↦ absurd (other (ap (λ (p : Phase × Reply). p.1) (sym row ∙ is))) ]

    -- its options are read whole
    module _ (admitted : IsAdmitted e bytes a end) (h : ReadingState) (read : reads_options end a ≡ Ok h) where
      heeded-so : AreOptionsRead e a h
      heeded-so = ap (λ (ph : Phase). heeds (a.newest && counts ph a.kind) a.ack (unheeded e.rows) a.options) (sym entry.entered) ∙ read

      abbrev heard : List Turn
      heard = turns_in e a

      rows-so : h.rows ≡ turned e.rows heard
      rows-so = heeds-turns (counts_in e a) a.ack (unheeded e.rows) a.options h heeded-so

      abbrev hears : AreHeard e (Arrives bytes) heard_so heard h.confirms
      hears = Heeds a h (record { came = entry.came; first = entry.first; is_heard = refl }) heeded-so

      -- what is due to the congestion control
      abbrev due : List Call
      due = calls_for a e.rows h.rows

      abbrev Takes : Step Outcome → Type 0
      Takes step = Told e bytes (with_calls due step)

      takes-by : {f : Effect} (outcome : Outcome) (because : IsCaused e (Arrives bytes) f) → f.hearing ≡ heard_so → (cause : HasCause e bytes outcome)
          → HasForm e bytes outcome cause (calling due f) because.turns
          → Told e bytes (record { after = end_after e f; frame = frame_by e f f.sending; calls = due; answer = outcome })
      takes-by outcome because is_heard cause form =
          told-by outcome (calling-caused (CallsFor a h (record { came = entry.came; first = entry.first; is_heard = is_heard }) heeded-so) because) cause form

      short : AreShort h.confirms
      short = confirms-short (counts_in e a) a.ack e.rows a.options h proper.rows.sound heeded-so

      -- Where options do not count, nothing was said.
      deaf : counts_in e a ≡ false → h ≡ unheeded e.rows
      deaf off = uncounted a.ack (unheeded e.rows) a.options h (ap (λ (c : Bool). heeds c a.ack (unheeded e.rows) a.options) (sym off) ∙ heeded-so)

      -- Else the packet is the newest, and its reply may say something.
      newest-so : counts_in e a ≡ true → greatest_or entry.first a.number e.marks.gsr ≡ a.number
      newest-so on = entry.greatest (and_parts a.newest (counts (phase_entered e.phase) a.kind) on).0

      may-so : (to : Phase) (r : Reply) → IsRow to r → counts_in e a ≡ true → MaySay to r
      may-so to r row on =
          may-say e.config.role entry.ph a.kind (not (is_before a.number end.marks.osr)) to r entry.its_role
          (ap (λ (ph : Phase). counts ph a.kind) entry.entered ∙ (and_parts a.newest (counts (phase_entered e.phase) a.kind) on).1)
          admitted.expected row

      answers-so : (h.confirms ≡ []) ⊎ (Some (greatest_or entry.first a.number e.marks.gsr) ≡ Some a.number)
      answers-so = by (counts_in e a) refl where
        by : (on : Bool) → counts_in e a ≡ on → (h.confirms ≡ []) ⊎ (Some (greatest_or entry.first a.number e.marks.gsr) ≡ Some a.number)
        by true on = inr (ap Some (newest-so on))
        by false off = inl (ap (λ (x : ReadingState). x.confirms) (deaf off))

      -- a reply that may say nothing leaves nothing unsaid
      mute : (to : Phase) (r : Reply) → IsRow to r → (MaySay to r → ⊥) → h ≡ unheeded e.rows
      mute to r row never = by (counts_in e a) refl where
        by : (on : Bool) → counts_in e a ≡ on → h ≡ unheeded e.rows
        by true on = absurd (never (may-so to r row on))
        by false off = deaf off

      mute-none : (to : Phase) (r : Reply) → IsRow to r → (MaySay to r → ⊥) → h.confirms ≡ []
      mute-none to r row never = ap (λ (x : ReadingState). x.confirms) (mute to r row never)

      -- what it is told to be
      abbrev was-taken : (to : Phase) (r : Reply) (new : Bool) → IsRow to r → IsDelivery to new → r ≢ reply.ResetClosed
          → IsTaken e bytes (delivered_if new a.data_place)
      was-taken to r new row delivery no_reset =
          record {
            packet = a;
            entered = end;
            admitted = admitted;
            heeding = h;
            no_fault = read;
            to = to;
            answer = r;
            row = row;
            no_reset = no_reset;
            delivery = ap (λ (so : Bool). delivered_if so a.data_place) delivery;
          }

      taking : (to : Phase) (r : Reply) (new : Bool) (turns : List Turn) (at : AreTurns e (Arrives bytes) heard_so turns) (owed : Bool) (unacked : ℕ)
          (s : Transmission)
          (row : IsRow to r) (delivery : IsDelivery to new) (no_reset : r ≢ reply.ResetClosed) → at.heard ≡ heard → at.confirms ≡ h.confirms
          → at.offered ≡ offered_with r at.confirms → owed ≡ not (is_acking_sent s) → unacked ≡ unacked_by e.unacked new s
          → kind_sent s
          ≡ replying e (needs_ack to at.confirms (turned e.rows turns) (unacked_so new)) (greatest_or entry.first a.number e.marks.gsr) a.number r
          → data_sent s ≡ []
          → IsTaking e bytes (delivered_if new a.data_place) (was-taken to r new row delivery no_reset)
          (calling due (effect_with turns heard_so (raising a.kind a.ack) (becomes_open entry.ph to) to false looked owed unacked s)) at
      taking to r new turns at owed unacked s row delivery no_reset listens confirms offers owes counted replied without_data =
          record {
            heard = ap (λ (first : Bool). Heard first a.number Taken) entry.first_so;
            acknowledged = refl;
            looked = refl;
            moved = refl;
            opening = ap (λ (ph : Phase). becomes_open ph to) entry.entered;
            listens = listens;
            confirms = confirms;
            offers = offers;
            owes = owes;
            counted = counted ∙ ap (λ (so : Bool). unacked_by e.unacked so s) (sym (some-if new a.data_place));
            calls = refl;
            replied = replied
                ∙ ap (λ (so : Bool). replying e (needs_ack to at.confirms (turned e.rows turns) (unacked_so so))
                (greatest_or entry.first a.number e.marks.gsr) a.number r)
                (sym (some-if new a.data_place))
                ∙ ap (λ (first : Bool).
                replying e (needs_ack to at.confirms (turned e.rows turns) (unacked_after e.unacked (is_some (delivered_if new a.data_place))))
                (greatest_or first a.number e.marks.gsr) a.number r)
                entry.first_so;
            without_data = without_data;
          }

      -- a reply without offers
      listening : (to : Phase) (r : Reply) (new : Bool) (owed : Bool) (unacked : ℕ) (s : Transmission) (row : IsRow to r) (delivery : IsDelivery to new)
          (no_reset : r ≢ reply.ResetClosed) → [] ≡ offered_with r h.confirms → owed ≡ not (is_acking_sent s) → unacked ≡ unacked_by e.unacked new s
          → kind_sent s
          ≡ replying e (needs_ack to h.confirms (turned e.rows heard) (unacked_so new)) (greatest_or entry.first a.number e.marks.gsr) a.number r
          → data_sent s ≡ []
          → IsTaking e bytes (delivered_if new a.data_place) (was-taken to r new row delivery no_reset)
          (calling due (effect_with heard heard_so (raising a.kind a.ack) (becomes_open entry.ph to) to false looked owed unacked s)) (hearing hears)
      listening to r new owed unacked s row delivery no_reset unoffered owes counted replied without_data =
          taking to r new heard (hearing hears) owed unacked s row delivery no_reset refl refl unoffered owes counted replied without_data

      -- the end before its reply, with these rows
      abbrev moved_with : Option ℕ → Phase → List Row → Bool → EndState
      moved_with looked to rows new = counts_data (moved_to (looks_up (marks (with_rows end rows) a.number) looked) to a.number) new

      abbrev moved : Phase → List Row → Bool → EndState
      moved to rows new = moved_with looked to rows new

      acked-told : (to : Phase) (r : Reply) (new : Bool) → IsRow to r → IsDelivery to new → r ≢ reply.ResetClosed → is_connected to ≡ true
          → [] ≡ offered_with r h.confirms
          → Some (kind.Ack (Long end.marks.gsr))
          ≡ replying e (needs_ack to h.confirms (turned e.rows heard) (unacked_so new)) (greatest_or entry.first a.number e.marks.gsr) a.number r
          → Takes (acknowledges (moved to (turned e.rows heard) new) h.confirms (took new))
      acked-told to r new row delivery no_reset connected unoffered replied =
          takes-by (took new)
          (ack-caused (ready-so to r row) (hearing hears) (confirm_items h.confirms)
          (front-confirming-sendable (kind.Ack (Long end.marks.gsr)) (front_of (ready-so to r row) heard) h.confirms refl tt refl
          (front-short (ready-so to r row) heard) short)
          (sym (append-nil (confirm_items h.confirms))) answers-so connected refl)
          refl (was-taken to r new row delivery no_reset) (listening to r new false 0 _ row delivery no_reset unoffered refl refl replied refl)

      nothing-told : (to : Phase) (new : Bool) → IsRow to reply.Nothing → IsDelivery to new → (needed : Bool)
          → needs_ack to h.confirms (turned e.rows heard) (unacked_so new) ≡ needed
          → Takes (if needed then acknowledges (moved to (turned e.rows heard) new) h.confirms (took new)
          else idle (moved to (turned e.rows heard) new) (took new))
      nothing-told to new row delivery true is =
          acked-told to reply.Nothing new row delivery (λ same. cc same)
          (and_parts (is_connected to) (has_confirms h.confirms || (is_open to && is_enough (turned e.rows heard) (unacked_so new))) is).0 refl (rw is refl)
      nothing-told to new row delivery false is =
          takes-by (took new)
          (silent-caused (ready-so to reply.Nothing row) true (unacked_so new) (hearing hears) none refl refl
          (λ _. silent-begun to reply.Nothing row (λ same. cc same)))
          refl (was-taken to reply.Nothing new row delivery (λ same. cc same))
          (listening to reply.Nothing new true (unacked_so new) Silent row delivery (λ same. cc same) refl refl refl (rw is refl) refl) where
            by : (on : Bool) → counts_in e a ≡ on → h.confirms ≡ []
            by false off = ap (λ (x : ReadingState). x.confirms) (deaf off)
            by true on =
                let enough : Bool = is_open to && is_enough (turned e.rows heard) (unacked_so new) in
                let connected : is_connected to ≡ true = may-so to reply.Nothing row on in
                none-have h.confirms
                (or-none (has_confirms h.confirms) enough (ap (λ (c : Bool). c && (has_confirms h.confirms || enough)) (sym connected) ∙ is))

            none : h.confirms ≡ []
            none = by (counts_in e a) refl

      -- a Response, with the offers
      abbrev middle : List Row
      middle = turned e.rows (heard ++ offerings (is_confirmed h.confirms) every_place)

      abbrev keys : List Key
      keys = offered_keys e heard h.confirms

      responded-told : (to : Phase) (new : Bool) → IsRow to reply.Response → IsDelivery to new
          → Takes (responds_asking (moved to (turned e.rows (offered_turns e heard h.confirms)) new) h.confirms keys (took new))
      responded-told to new row delivery =
          let packet : Kind = kind.Response end.marks.gsr e.config.service in
          takes-by (took new)
          (next-caused (ready-so to reply.Response row) true (unacked_so new) (offering hears)
          (saying packet h.confirms (turned e.rows (offered_turns e heard h.confirms)) keys)
          (saying-sendable packet h.confirms (turned e.rows (offered_turns e heard h.confirms)) keys refl tt refl short
          (rows-kept proper (offering hears)).sound (asking-few middle h.confirms (offered-sound proper hears)))
          refl answers-so refl Greatest refl (inr (InResponse _ entry.first a.number refl refl)))
          refl (was-taken to reply.Response new row delivery (λ same. cc same))
          (taking to reply.Response new (offered_turns e heard h.confirms) (offering hears) true (unacked_so new) _ row delivery
          (λ same. cc same) refl refl refl refl
          refl refl refl)

      responds-told : (to : Phase) (new : Bool) → IsRow to reply.Response → IsDelivery to new
          → Takes (responds (moved to (turned e.rows heard) new) h.confirms (took new))
      responds-told to new row delivery =
          subst (λ (rows : List Row). Takes (responds_offering (moved to rows new) h.confirms (asking rows h.confirms) (took new)))
          (turned-joined e.rows heard (offerings (is_confirmed h.confirms) every_place))
          (subst (λ (rows : List Row). Takes (responds_asking (moved to rows new) h.confirms keys (took new))) last (responded-told to new row delivery)) where
            last : turned e.rows (offered_turns e heard h.confirms) ≡ turned middle (sendings (next_number e) keys)
            last =
                ap (turned e.rows) (sym (append_assoc heard (offerings (is_confirmed h.confirms) every_place) (sendings (next_number e) keys)))
                ∙ turned-joined e.rows (heard ++ offerings (is_confirmed h.confirms) every_place) (sendings (next_number e) keys)

      reply-told : (to : Phase) (r : Reply) (new : Bool) → IsRow to r → IsDelivery to new → r ≢ reply.ResetClosed
          → Takes (replies (moved to (turned e.rows heard) new) a h.confirms (took new) r)
      reply-told to reply.Nothing new row delivery no_reset =
          nothing-told to new row delivery (needs_ack to h.confirms (turned e.rows heard) (unacked_so new)) refl
      reply-told to reply.Torn new row delivery no_reset =
          takes-by (took new)
          (silent-caused (ready-so to reply.Torn row) true (unacked_so new) (hearing hears) (mute-none to reply.Torn row (λ may. may)) refl refl
          (λ _. silent-begun to reply.Torn row (λ same. cc same)))
          refl (was-taken to reply.Torn new row delivery no_reset)
          (listening to reply.Torn new true (unacked_so new) Silent row delivery no_reset refl refl refl refl refl)
      reply-told to reply.Response new row delivery no_reset = responds-told to new row delivery
      reply-told to reply.Close new row delivery no_reset =
          let none : h.confirms ≡ [] = mute-none to reply.Close row (λ may. may) in
          let packet : Kind = kind.Close end.marks.gsr in
          takes-by (took new)
          (next-caused (ready-so to reply.Close row) true (unacked_so new) (hearing hears) (alone packet) (alone-sendable packet refl tt) (rw none refl)
          (inl none)
          refl Greatest refl (inl refl))
          refl (was-taken to reply.Close new row delivery no_reset)
          (listening to reply.Close new true (unacked_so new) (Next (alone packet)) row delivery no_reset refl refl refl refl refl)
      reply-told to reply.SyncAck new row delivery no_reset =
          let packet : Kind = kind.SyncAck a.number in
          takes-by (took new)
          (next-caused (ready-so to reply.SyncAck row) true (unacked_so new) (hearing hears) (confirming packet h.confirms)
          (confirming-sendable packet h.confirms refl tt refl short)
          (sym (append-nil (confirm_items h.confirms))) (inr refl) refl (Arrived a entry.came) refl (inl refl))
          refl (was-taken to reply.SyncAck new row delivery no_reset)
          (listening to reply.SyncAck new true (unacked_so new) (Next (confirming packet h.confirms)) row delivery no_reset refl refl refl refl refl)
      reply-told to reply.Ack new row delivery no_reset =
          acked-told to reply.Ack new row delivery no_reset (fits-reply entry.ph a.kind to reply.Ack row) refl refl
      reply-told to reply.ResetClosed new row delivery no_reset = absurd (no_reset refl)

      -- A Close is answered with a Reset; its options say nothing to rows, it acknowledges nothing that is looked up, and it has no data.
      closed-told : IsRow phase.Closed reply.ResetClosed
          → Takes (replies (moved_with None phase.Closed e.rows false) a h.confirms (took false) reply.ResetClosed)
      closed-told row =
          let fault : Fault = without_detail (number_of_code codes.Closed) in
          takes-by _
          (plain-caused (taken-ready None LooksNowhere phase.Closed reply.ResetClosed row)
          (kind.Reset end.marks.gsr fault.code (detail_of fault)) refl refl refl
          Greatest (numbered-code e.config.role fault.code refl))
          refl (record { fault = fault; why = AnswersClose a end h phase.Closed admitted read row; has_code = refl; has_detail = refl })
          (ap (calling due) (closing-form Taken fault))

      closed-so : (to : Phase) (rows : List Row) (number : Option ℕ) (new : Bool) → to ≡ phase.Closed → rows ≡ e.rows → number ≡ None → new ≡ false
          → IsRow to reply.ResetClosed → Takes (replies (moved_with number to rows new) a h.confirms (took new) reply.ResetClosed)
      closed-so to rows number new closes same nothing undelivered row =
          rw (closes, same, nothing, undelivered) (closed-told (row ∙ ap (λ (p : Phase). (p, reply.ResetClosed)) closes))

      replied-told : (to : Phase) (r : Reply) (new : Bool) → IsRow to r → IsDelivery to new → Takes (replies (moved to h.rows new) a h.confirms (took new) r)
      replied-told to reply.ResetClosed new row delivery =
          let close : a.kind ≡ types.Close = answers-close entry.ph a.kind to row in
          closed-so to h.rows looked new (fits-reply entry.ph a.kind to reply.ResetClosed row)
          (ap (λ (x : ReadingState). x.rows) (mute to reply.ResetClosed row (λ may. may))) (ap (λ (t : PacketType). looked_up t a.ack) close)
          (delivery ∙ ap (λ (t : PacketType). delivers t to (answer_to end.received.set a.number)) close) row
      replied-told to r new row delivery =
          subst (λ (rows : List Row). Takes (replies (moved to rows new) a h.confirms (took new) r)) (sym rows-so)
          (reply-told to r new row delivery (λ is. cc is))

    -- step 8
    heeding-told : IsAdmitted e bytes a end → (r : Result ReadingState Fault) → reads_options end a ≡ r → IsBoundedReading r → Told e bytes (heeded end a r)
    heeding-told admitted (Err fault) is numbered = shut-told fault (numbered-code e.config.role fault.code numbered) (Faulted a end fault admitted is) refl
    heeding-told admitted (Ok h) is bounded = replied-told admitted h is (after entry.ph a.kind).0 (after entry.ph a.kind).1 _ refl refl

    -- step 7
    served-told : is_unexpected end a ≡ false → (other : Bool) → is_for_another end a ≡ other → Told e bytes (ends_as a (through (serves a end other) []))
    served-told expected true other =
        let code : ℕ = number_of_code codes.BadServiceCode in
        let client : e.config.role ≡ role.Client =
        requests-client e.config.role entry.ph (other-service-asked end entry.ph a.kind a.service other) entry.its_role in
        shut-told (without_detail code) (ap (λ (r : Role). is_code_without_connection r code) client)
        (WrongService a end valid-packet expected other) refl
    served-told expected false other =
        heeding-told (record { valid = valid-packet; expected = expected; for_us = other }) (reads_options end a) refl
        (reading-bounded (a.newest && counts end.phase a.kind) a.ack end.rows a.options proper.rows.sound)

    expected-told : (out : Bool) → is_unexpected end a ≡ out → Told e bytes (ends_as a (through (expects a end out) []))
    expected-told true is = entry.refused is
    expected-told false is = served-told is (is_for_another end a) refl

    pub entry-told : (t : PacketType) → t ≢ types.Reset → AfterEntry e bytes a t end
    entry-told types.Reset no_reset = absurd (no_reset refl)
    entry-told _ no_reset = expected-told (is_unexpected end a) refl
