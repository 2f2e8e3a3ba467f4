-- The result of a packet without options, by its row of the tables; and the results of the calls and timers of closing.
use Rattle.std.proofs.Common.{◌≡◌, ◌≢◌, ◌⊎◌, inl, inr, refl, ap, sym, ◌∙◌, subst, ◌&&◌, not, ℕ, ◌+◌, List, [], Bool, true, false, if◌then◌else◌, Option, Some, Result, Ok}
use Rattle.congestion_trait.specs.Calls.{Call}
use Rattle.dccp_packets.specs.Forms.{may_be_short}
use Rattle.dccp_packets.specs.Grammar.{packet_type}
use Rattle.dccp_packets.specs.ResetCodes.{number_of_code}
use Rattle.dccp_packets.specs.declared.header.Kind.{Kind}
use Rattle.dccp_packets.specs.declared.header.Kind.TheVariants as kind
use Rattle.dccp_packets.specs.declared.header.PacketType.{PacketType}
use Rattle.dccp_packets.specs.declared.header.PacketType.TheVariants as types
use Rattle.dccp_packets.specs.declared.reset_code.ResetCode.TheVariants as codes
use Rattle.dccp_states.specs.Entrance.{gate}
use Rattle.dccp_states.specs.Phases.{after}
use Rattle.dccp_states.specs.Unexpected.{unexpected}
use Rattle.dccp_states.specs.declared.calls.Timer.TheVariants as timers
use Rattle.dccp_states.specs.declared.entrance.Entrance.TheVariants as entrance
use Rattle.dccp_states.specs.declared.outcome.Outcome.{Outcome}
use Rattle.dccp_states.specs.declared.outcome.Outcome.TheVariants.{Synced}
use Rattle.dccp_states.specs.declared.phase.Phase.{Phase}
use Rattle.dccp_states.specs.declared.phase.Phase.TheVariants as phases
use Rattle.dccp_states.specs.declared.phase.Role.{Role}
use Rattle.dccp_states.specs.declared.reply.Reply.{Reply}
use Rattle.dccp_states.specs.declared.reply.Reply.TheVariants as reply
use Rattle.dccp_endpoint.specs.Calling.{closes, closing_packet, closing_phase, fires}
use Rattle.dccp_endpoint.specs.Causes.{Came, entrance_of, verdict_of}
use Rattle.dccp_endpoint.specs.Congesting.{calls_for}
use Rattle.dccp_endpoint.specs.Drafts.{alone, sent_of}
use Rattle.dccp_endpoint.specs.End.{EndState, with_rows}
use Rattle.dccp_endpoint.specs.Incoming.{Incoming}
use Rattle.dccp_endpoint.specs.Inputs.{Arrives}
use Rattle.dccp_endpoint.specs.Faults.{counts}
use Rattle.dccp_endpoint.specs.Heeding.{heeds, unheeded}
use Rattle.dccp_options.specs.Grammar.{Entry}
use Rattle.dccp_options.specs.declared.option.OptFault.{OptFault}
use Rattle.run_list.specs.declared.answers.Marked.{Marked}
use Rattle.dccp_endpoint.specs.Receiving.{reads_options, accounted, acknowledges, heeded, moves, is_other_service, is_unexpected, moved_to, needs_ack, number_without_connection, receives, replies, with_raised_marks}
use Rattle.dccp_endpoint.specs.Reporting.{counts_data, delivered_if, delivers}
use Rattle.dccp_endpoint.specs.ShortForm.{allows_short}
use Rattle.dccp_endpoint.specs.Steps.{Step, detail_of, idle, in_phase, next_number, sends, with_calls, without_detail}
use Rattle.dccp_endpoint.specs.declared.config.Config.{Config}
use Rattle.run_list.specs.MarkedSet.{answer_to}
use Rattle.seq_circle.specs.Circle.{is_before, later_of, residue}
use Rattle.validity_windows.specs.Verdict.{gar_after}
use Rattle.validity_windows.specs.declared.verdict.Verdict.TheVariants as verdicts
use Rattle.dccp_states.specs.declared.outcome.Outcome.TheVariants.{Took}
use Rattle.two_ends_progress.proofs.Forced.{bad-goes, expected-goes, reset-goes, stray-goes}

-- A step moves the phase here, and leaves these as the greatest numbers received.
pub record Moves {A : Type 0} (e : EndState) (s : Step A) (to : Phase) (gsr gar : ℕ) : Type 0 where
  pub config : s.after.config ≡ e.config
  pub phase : s.after.phase ≡ to
  pub gsr_is : s.after.marks.gsr ≡ gsr
  pub gar_is : s.after.marks.gar ≡ gar
  pub rows_are : s.after.rows ≡ e.rows

-- Besides it sends this type alone, under the next number.
pub record Says {A : Type 0} (e : EndState) (s : Step A) (to : Phase) (gsr gar : ℕ) (k : Kind) : Type 0 where
  pub moves : Moves e s to gsr gar
  pub gss_is : s.after.marks.gss ≡ next_number e
  pub frame_is : s.frame ≡ Some (sent_of e.config false (next_number e) (alone k))

-- An end with what a step keeps and changes of another.
record IsLeft (e x : EndState) (to : Phase) (gsr gar : ℕ) : Type 0 where
  config : x.config ≡ e.config
  phase : x.phase ≡ to
  gss : x.marks.gss ≡ e.marks.gss
  gsr_is : x.marks.gsr ≡ gsr
  gar_is : x.marks.gar ≡ gar
  rows_are : x.rows ≡ e.rows

says-so : {A : Type 0} (e x : EndState) (s : Step A) (calls : List Call) (answer : A) (to : Phase) (gsr gar : ℕ) (k : Kind)
    → s ≡ with_calls calls (sends x (alone k) answer) → IsLeft e x to gsr gar → may_be_short (packet_type k) ≡ false → Says e s to gsr gar k
says-so {A} e x s calls answer to gsr gar k same left never =
    record {
      moves =
          record {
            config = ap (λ (t : Step A). t.after.config) same ∙ left.config;
            phase = ap (λ (t : Step A). t.after.phase) same ∙ left.phase;
            gsr_is = ap (λ (t : Step A). t.after.marks.gsr) same ∙ left.gsr_is;
            gar_is = ap (λ (t : Step A). t.after.marks.gar) same ∙ left.gar_is;
            rows_are = ap (λ (t : Step A). t.after.rows) same ∙ left.rows_are;
          };
      gss_is = ap (λ (t : Step A). t.after.marks.gss) same ∙ ap (λ (n : ℕ). residue (n + 1)) left.gss;
      frame_is =
          ap (λ (t : Step A). t.frame) same
          ∙ ap (λ (b : Bool). Some (sent_of x.config (b && (allows_short x && true)) (next_number x) (alone k))) never
          ∙ ap (λ (c : Config). Some (sent_of c false (next_number x) (alone k))) left.config
          ∙ ap (λ (n : ℕ). Some (sent_of e.config false (residue (n + 1)) (alone k))) left.gss;
    }

-- A row of the tables of phases, of a type that is no Reset.
pub record IsRow (who : Role) (phase : Phase) (type : PacketType) (to : Phase) (answer : Reply) : Type 0 where
  pub checked : gate phase type ≡ entrance.Check
  pub no_reset : type ≢ types.Reset
  pub expected : (from_osr : Bool) → unexpected who phase type from_osr ≡ false
  pub for_us : (x : EndState) (service : Option ℕ) → is_other_service x phase type service ≡ false
  pub next : after phase type ≡ (to, answer)

module _ (e : EndState) (bytes : List ℕ) (a : Incoming) (came : Came e (Arrives bytes) a) where
  -- numbers that are not valid
  pub bad-comes : (n : ℕ) → entrance_of e a ≡ entrance.Check → verdict_of e a ≡ verdicts.SyncFor n
      → Says e (receives e bytes) e.phase e.marks.gsr e.marks.gar (kind.Sync n)
  bad-comes n is bad =
      says-so e e (receives e bytes) [] (Synced n) e.phase e.marks.gsr e.marks.gar (kind.Sync n) (bad-goes e bytes a came n is bad)
      (record { config = refl; phase = refl; gss = refl; gsr_is = refl; gar_is = refl; rows_are = refl }) refl

  -- a valid Reset
  pub reset-comes : entrance_of e a ≡ entrance.Check → verdict_of e a ≡ verdicts.Valid → a.kind ≡ types.Reset
      → Moves e (receives e bytes) phases.TimeWait e.marks.gsr e.marks.gar
  reset-comes is fits reset =
      let same = reset-goes e bytes a came is fits reset in
      record {
        config = ap (λ (t : Step Outcome). t.after.config) same;
        phase = ap (λ (t : Step Outcome). t.after.phase) same;
        gsr_is = ap (λ (t : Step Outcome). t.after.marks.gsr) same;
        gar_is = ap (λ (t : Step Outcome). t.after.marks.gar) same;
        rows_are = ap (λ (t : Step Outcome). t.after.rows) same;
      }

  -- a packet without a connection: the frame that answers it, and an end that stays as it is
  pub stray-frame : entrance_of e a ≡ entrance.NoConnection
      → (receives e bytes).frame
      ≡ Some (sent_of e.config false (number_without_connection a.ack)
      (alone (kind.Reset a.number (number_of_code codes.NoConnection) (detail_of (without_detail (number_of_code codes.NoConnection))))))
  stray-frame is = ap (λ (t : Step Outcome). t.frame) (stray-goes e bytes a came is)

  pub stray-stays : entrance_of e a ≡ entrance.NoConnection → (receives e bytes).after ≡ e
  stray-stays is = ap (λ (t : Step Outcome). t.after) (stray-goes e bytes a came is)

  -- A valid packet of a row is let in, and its options are read.
  module _ (who : Role) (phase to : Phase) (type : PacketType) (answer : Reply) (row : IsRow who phase type to answer) (is_role : e.config.role ≡ who)
      (is_phase : e.phase ≡ phase) (is_type : a.kind ≡ type) (fits : verdict_of e a ≡ verdicts.Valid) where
    expected-so : is_unexpected (with_raised_marks e a) a ≡ false
    expected-so = rw (is_role, is_phase, is_type) (row.expected (not (is_before a.number e.marks.osr)))

    for-us : is_other_service (with_raised_marks e a) e.phase a.kind a.service ≡ false
    for-us = rw (is_phase, is_type) (row.for_us (with_raised_marks e a) a.service)

    checked-so : entrance_of e a ≡ entrance.Check
    checked-so = rw (is_phase, is_type) row.checked

    no-reset-so : a.kind ≢ types.Reset
    no-reset-so is = row.no_reset (sym is_type ∙ is)

    pub next-so : after e.phase a.kind ≡ (to, answer)
    next-so = rw (is_phase, is_type) row.next

    pub row-heeds : receives e bytes ≡ heeded (with_raised_marks e a) a (reads_options (with_raised_marks e a) a)
    row-heeds = expected-goes e bytes a came checked-so no-reset-so fits expected-so for-us

  module _ (who : Role) (phase to : Phase) (type : PacketType) (answer : Reply) (row : IsRow who phase type to answer) (is_role : e.config.role ≡ who)
      (is_phase : e.phase ≡ phase) (is_type : a.kind ≡ type) (bare : a.options ≡ []) (fits : verdict_of e a ≡ verdicts.Valid) where
    -- the end as it is when the reply is due
    abbrev x : EndState
    x = counts_data (moved_to (accounted (with_rows (with_raised_marks e a) e.rows) a) to a.number)
        (delivers a.kind to (answer_to (with_raised_marks e a).received.set a.number))

    abbrev calls : List Call
    calls = calls_for a e.rows e.rows

    abbrev took : Outcome
    took = Took (delivered_if (delivers a.kind to (answer_to (with_raised_marks e a).received.set a.number)) a.data_place)

    row-goes : receives e bytes ≡ with_calls calls (replies x a [] took answer)
    row-goes =
        let y : EndState = with_raised_marks e a in
        let z : EndState = accounted (with_rows y e.rows) a in
        let mark : Marked = answer_to y.received.set a.number in
        row-heeds who phase to type answer row is_role is_phase is_type fits
        ∙ ap (λ (all : List (Result Entry OptFault)). heeded y a (heeds (a.newest && counts y.phase a.kind) a.ack (unheeded y.rows) all)) bare
        ∙ ap (λ (row_of : Phase × Reply). with_calls calls (moves z a [] mark row_of)) (next-so who phase to type answer row is_role is_phase is_type fits)

    left : IsLeft e x to (later_of e.marks.gsr a.number) (gar_after e.marks.gar a.kind a.ack)
    left = record { config = refl; phase = refl; gss = refl; gsr_is = refl; gar_is = refl; rows_are = refl }

    -- a row that answers with a SyncAck
    pub sync-acked : answer ≡ reply.SyncAck
        → Says e (receives e bytes) to (later_of e.marks.gsr a.number) (gar_after e.marks.gar a.kind a.ack) (kind.SyncAck a.number)
    sync-acked is =
        says-so e x (receives e bytes) calls took to _ _ (kind.SyncAck a.number)
        (row-goes ∙ ap (λ (r : Reply). with_calls calls (replies x a [] took r)) is) left refl

    -- with the Reset Closed
    pub close-reset : answer ≡ reply.ResetClosed
        → Says e (receives e bytes) to (later_of e.marks.gsr a.number) (gar_after e.marks.gar a.kind a.ack)
        (kind.Reset (later_of e.marks.gsr a.number) (number_of_code codes.Closed) (detail_of (without_detail (number_of_code codes.Closed))))
    close-reset is =
        says-so e x (receives e bytes) calls _ to _ _ _ (row-goes ∙ ap (λ (r : Reply). with_calls calls (replies x a [] took r)) is) left refl

    -- with a Close
    pub close-answered : answer ≡ reply.Close
        → Says e (receives e bytes) to (later_of e.marks.gsr a.number) (gar_after e.marks.gar a.kind a.ack)
        (kind.Close (later_of e.marks.gsr a.number))
    close-answered is =
        says-so e x (receives e bytes) calls took to _ _ _ (row-goes ∙ ap (λ (r : Reply). with_calls calls (replies x a [] took r)) is) left refl

    -- with nothing, unless an Ack is due
    record IsQuiet (s : Step Outcome) : Type 0 where
      moves : Moves e s to (later_of e.marks.gsr a.number) (gar_after e.marks.gar a.kind a.ack)
      gss_is : (s.after.marks.gss ≡ e.marks.gss) ⊎ (s.after.marks.gss ≡ next_number e)

    quiet-by : (due : Bool) → IsQuiet (with_calls calls (if due then acknowledges x [] took else idle x took))
    quiet-by true = record { moves = record { config = refl; phase = refl; gsr_is = refl; gar_is = refl; rows_are = refl }; gss_is = inr refl }
    quiet-by false = record { moves = record { config = refl; phase = refl; gsr_is = refl; gar_is = refl; rows_are = refl }; gss_is = inl refl }

    quiet : answer ≡ reply.Nothing → IsQuiet (receives e bytes)
    quiet is =
        subst IsQuiet (sym (row-goes ∙ ap (λ (r : Reply). with_calls calls (replies x a [] took r)) is)) (quiet-by (needs_ack to [] e.rows x.unacked))

    pub nothing-answered : answer ≡ reply.Nothing
        → Moves e (receives e bytes) to (later_of e.marks.gsr a.number) (gar_after e.marks.gar a.kind a.ack)
    nothing-answered is = (quiet is).moves

    pub nothing-sent : answer ≡ reply.Nothing
        → ((receives e bytes).after.marks.gss ≡ e.marks.gss) ⊎ ((receives e bytes).after.marks.gss ≡ next_number e)
    nothing-sent is = (quiet is).gss_is

-- The result of the call `close` in OPEN.
pub close-called : (e : EndState) (who : Role) → e.config.role ≡ who → e.phase ≡ phases.Open
    → may_be_short (packet_type (closing_packet who e.marks.gsr)) ≡ false
    → Says e (closes e) (closing_phase who) e.marks.gsr e.marks.gar (closing_packet who e.marks.gsr)
unfolding closes
close-called e who is_role is_phase never =
    says-so e (in_phase e (closing_phase who)) (closes e) [] (Ok tt) (closing_phase who) e.marks.gsr e.marks.gar (closing_packet who e.marks.gsr)
    (rw (is_phase, is_role) refl) (record { config = refl; phase = refl; gss = refl; gsr_is = refl; gar_is = refl; rows_are = refl }) never

-- The timer close sends the Close again in CLOSING, and the CloseReq in CLOSEREQ.
pub close-fires : (e : EndState) (in_flight : Bool) → e.phase ≡ phases.Closing
    → Says e (fires e timers.Close in_flight) phases.Closing e.marks.gsr e.marks.gar (kind.Close e.marks.gsr)
unfolding fires
close-fires e in_flight is_phase =
    says-so e e (fires e timers.Close in_flight) [] true phases.Closing e.marks.gsr e.marks.gar (kind.Close e.marks.gsr)
    (rw is_phase refl) (record { config = refl; phase = is_phase; gss = refl; gsr_is = refl; gar_is = refl; rows_are = refl }) refl

pub request-fires : (e : EndState) (in_flight : Bool) → e.phase ≡ phases.CloseReq
    → Says e (fires e timers.Close in_flight) phases.CloseReq e.marks.gsr e.marks.gar (kind.CloseReq e.marks.gsr)
unfolding fires
request-fires e in_flight is_phase =
    says-so e e (fires e timers.Close in_flight) [] true phases.CloseReq e.marks.gsr e.marks.gar (kind.CloseReq e.marks.gsr)
    (rw is_phase refl) (record { config = refl; phase = is_phase; gss = refl; gsr_is = refl; gar_is = refl; rows_are = refl }) refl
