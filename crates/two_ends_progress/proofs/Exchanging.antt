-- What an end that asks sends, and the result of the options of an Ack in OPEN.
use Rattle.std.proofs.Common.{◌≡◌, ◌⊎◌, inl, inr, refl, ap, sym, ◌∙◌, subst, ◌&&◌, ◌||◌, not, ℕ, List, [], ◌∷◌, ◌++◌, append-nil, Bool, true, false, if◌then◌else◌, Some, Ok, Err, length, ◌≤◌}
use Rattle.std.proofs.Math.Bool.{and-false}
use Rattle.congestion_trait.specs.Calls.{Call}
use Rattle.dccp_packets.specs.declared.header.Kind.TheVariants as kind
use Rattle.dccp_packets.specs.declared.header.Number.TheVariants.{Long}
use Rattle.dccp_states.specs.Phases.{after}
use Rattle.dccp_states.specs.declared.calls.Timer.TheVariants as timers
use Rattle.dccp_states.specs.declared.outcome.Fault.{Fault}
use Rattle.dccp_states.specs.declared.outcome.Outcome.{Outcome}
use Rattle.dccp_states.specs.declared.outcome.Outcome.TheVariants.{Took}
use Rattle.dccp_states.specs.declared.phase.Phase.{Phase}
use Rattle.dccp_states.specs.declared.phase.Phase.TheVariants as phases
use Rattle.dccp_states.specs.declared.reply.Reply.{Reply}
use Rattle.dccp_states.specs.declared.reply.Reply.TheVariants as reply
use Rattle.dccp_endpoint.specs.Calling.{asks_all, asks_now, fires, fires_in}
use Rattle.dccp_endpoint.specs.Congesting.{calls_for}
use Rattle.dccp_endpoint.specs.Drafts.{Draft, sent_of}
use Rattle.dccp_endpoint.specs.End.{EndState, IsProper, end_of, with_rows}
use Rattle.dccp_endpoint.specs.Faults.{counts}
use Rattle.dccp_endpoint.specs.Heeding.{DueConfirm, ReadingState}
use Rattle.dccp_endpoint.specs.Incoming.{Incoming}
use Rattle.dccp_endpoint.specs.Receiving.{accounted, acknowledges, heeded, moved_to, moves, needs_ack, reads_options}
use Rattle.dccp_options.specs.Written.{Item}
use Rattle.dccp_endpoint.specs.Reporting.{is_enough, counts_data, delivered_if, delivers, reporting, sends_vectors, vector_items}
use Rattle.dccp_endpoint.specs.Saying.{own_options}
use Rattle.dccp_endpoint.specs.ShortForm.{allows_short, goes_short}
use Rattle.dccp_endpoint.specs.Speaking.{asks, confirm_items, confirming, has_confirms, saying}
use Rattle.dccp_endpoint.specs.Steps.{Step, idle, next_number}
use Rattle.dccp_endpoint.specs.Turns.{Key, sendings}
use Rattle.dccp_endpoint.proofs.Lawful.{sendings-lawful}
use Rattle.dccp_endpoint.proofs.Room.{confirms-short, due-few, front-asking-sendable, front-confirming-sendable, vector-front}
use Rattle.dccp_endpoint.proofs.Short.{short_ack}
use Rattle.feature_machine.specs.Negotiating.{AreRowsOf, due_keys}
use Rattle.feature_machine.specs.Turns.{turned}
use Rattle.feature_machine.proofs.Turning.{turned-role}
use Rattle.run_list.specs.MarkedSet.{MarkedSet, answer_to}
use Rattle.run_list.specs.declared.answers.Marked.{Marked}
use Rattle.ack_vectors.specs.declared.room.Vectors.{Vectors}
use Rattle.two_ends_progress.proofs.Entering.{Shuts, Tells}

-- A step to this phase sends an Ack with these Confirms and Changes, besides its Ack Vector.
pub record Speaks {A : Type 0} (e : EndState) (s : Step A) (to : Phase) (confirms : List DueConfirm) (keys : List Key) : Type 0 where
  pub tells : Tells e s to (kind.Ack (Long e.marks.gsr))
  pub has_vector : Bool
  pub vectors : Vectors
  pub set : MarkedSet
  pub greatest : ℕ
  pub options_are : tells.draft.options ≡ own_options has_vector vectors set greatest confirms s.after.rows keys

-- The timer negotiate, where rows ask: in PARTOPEN and OPEN.
pub negotiate-speaks : (e : EndState) (in_flight : Bool) (p : Phase) → fires_in e timers.Negotiate in_flight p ≡ asks_all e (due_keys e.rows) → (k : Key)
    (keys : List Key) → IsProper e → e.phase ≡ p → due_keys e.rows ≡ k ∷ keys → Speaks e (fires e timers.Negotiate in_flight) p [] (k ∷ keys)
unfolding fires
negotiate-speaks e in_flight p asks_then k keys proper is_phase due =
    subst (λ (s : Step Bool). Speaks e s p [] (k ∷ keys)) (sym same)
    (record {
      tells =
          record {
            config = refl;
            phase = is_phase;
            gsr_is = refl;
            gss_is = refl;
            draft = reporting x (saying (kind.Ack (Long x.marks.gsr)) [] x.rows (k ∷ keys));
            is_kind = refl;
            sendable =
                front-asking-sendable (kind.Ack (Long x.marks.gsr)) (vector_items (sends_vectors x.rows) x.config.vectors x.received.set x.marks.gsr) x.rows
                (k ∷ keys) refl tt refl (vector-front (sends_vectors x.rows) x.config.vectors x.received.set x.marks.gsr) rows.sound
                (subst (λ (ks : List Key). length ks ≤ 18) due (due-few e.rows proper.rows.sound));
            frame_is =
                ap (λ (b : Bool). Some (sent_of e.config b (next_number e) (reporting x (saying (kind.Ack (Long x.marks.gsr)) [] x.rows (k ∷ keys)))))
                (short_ack x (kind.Ack (Long x.marks.gsr)) [] x.rows (k ∷ keys) refl ∙ and-false (allows_short x));
          };
      has_vector = sends_vectors x.rows;
      vectors = x.config.vectors;
      set = x.received.set;
      greatest = x.marks.gsr;
      options_are = refl;
    })
  where
    x : EndState
    x = asks e (k ∷ keys)

    rows : AreRowsOf (end_of e.config.role) (turned e.rows (sendings (next_number e) (k ∷ keys)))
    rows = turned-role (end_of e.config.role) e.rows (sendings (next_number e) (k ∷ keys)) proper.rows (sendings-lawful (next_number e) (k ∷ keys))

    same : fires e timers.Negotiate in_flight ≡ asks_now e (k ∷ keys) true
    same = ap (fires_in e timers.Negotiate in_flight) is_phase ∙ asks_then ∙ ap (asks_all e) due

pub negotiate-rows : (e : EndState) (in_flight : Bool) (p : Phase) → fires_in e timers.Negotiate in_flight p ≡ asks_all e (due_keys e.rows) → (k : Key)
    (keys : List Key) → e.phase ≡ p → due_keys e.rows ≡ k ∷ keys
    → (fires e timers.Negotiate in_flight).after.rows ≡ turned e.rows (sendings (next_number e) (k ∷ keys))
unfolding fires
negotiate-rows e in_flight p asks_then k keys is_phase due = ap (λ (s : Step Bool). s.after.rows) same where
  same : fires e timers.Negotiate in_flight ≡ asks_now e (k ∷ keys) true
  same = ap (fires_in e timers.Negotiate in_flight) is_phase ∙ asks_then ∙ ap (asks_all e) due

-- An Ack that was read whole in OPEN.
module _ (y : EndState) (a : Incoming) (its : AreRowsOf (end_of y.config.role) y.rows) (row : after y.phase a.kind ≡ (phases.Open, reply.Nothing)) where
  pub record IsHeeded (s : Step Outcome) (h : ReadingState) : Type 0 where
    pub config : s.after.config ≡ y.config
    pub phase : s.after.phase ≡ phases.Open
    pub gsr_is : s.after.marks.gsr ≡ y.marks.gsr
    pub rows_are : s.after.rows ≡ h.rows
    pub gss_is : (s.after.marks.gss ≡ y.marks.gss) ⊎ (s.after.marks.gss ≡ next_number y)

  module _ (h : ReadingState) (read : reads_options y a ≡ Ok h) where
    abbrev mark : Marked
    mark = answer_to y.received.set a.number

    abbrev x : EndState
    x = counts_data (moved_to (accounted (with_rows y h.rows) a) phases.Open a.number) (delivers a.kind phases.Open mark)

    abbrev took : Outcome
    took = Took (delivered_if (delivers a.kind phases.Open mark) a.data_place)

    abbrev calls : List Call
    calls = calls_for a y.rows h.rows

    abbrev due-now : Bool
    due-now = needs_ack phases.Open h.confirms h.rows x.unacked

    heard-as : heeded y a (Ok h) ≡ record (if due-now then acknowledges x h.confirms took else idle x took) { calls = calls }
    heard-as = ap (λ (row_of : Phase × Reply). record (moves (accounted (with_rows y h.rows) a) a h.confirms mark row_of) { calls = calls }) row

    keeps-by : (b : Bool) → IsHeeded (record (if b then acknowledges x h.confirms took else idle x took) { calls = calls }) h
    keeps-by true = record { config = refl; phase = refl; gsr_is = refl; rows_are = refl; gss_is = inr refl }
    keeps-by false = record { config = refl; phase = refl; gsr_is = refl; rows_are = refl; gss_is = inl refl }

    pub keeps : IsHeeded (heeded y a (Ok h)) h
    keeps = subst (λ (s : Step Outcome). IsHeeded s h) (sym heard-as) (keeps-by due-now)

    -- Confirms that are due go out.
    pub confirms-speak : has_confirms h.confirms ≡ true → Speaks y (heeded y a (Ok h)) phases.Open h.confirms []
    confirms-speak some =
        subst (λ (s : Step Outcome). Speaks y s phases.Open h.confirms []) (sym (heard-as ∙ ap (λ (b : Bool). record (if b then acknowledges x h.confirms took else idle x took) { calls = calls })
        (ap (λ (b : Bool). b || (true && is_enough h.rows x.unacked)) some)))
        (record {
          tells =
              record {
                config = refl;
                phase = refl;
                gsr_is = refl;
                gss_is = refl;
                draft = d;
                is_kind = refl;
                sendable =
                    front-confirming-sendable (kind.Ack (Long x.marks.gsr)) (vector_items (sends_vectors x.rows) x.config.vectors x.received.set x.marks.gsr)
                    h.confirms refl tt refl (vector-front (sends_vectors x.rows) x.config.vectors x.received.set x.marks.gsr)
                    (confirms-short (a.newest && counts y.phase a.kind) a.ack y.rows a.options h its.sound read);
                frame_is = ap (λ (b : Bool). Some (sent_of x.config b (next_number x) d)) long;
              };
          has_vector = sends_vectors x.rows;
          vectors = x.config.vectors;
          set = x.received.set;
          greatest = x.marks.gsr;
          options_are =
              ap (λ (items : List Item). vector_items (sends_vectors x.rows) x.config.vectors x.received.set x.marks.gsr ++ items)
              (sym (append-nil (confirm_items h.confirms)));
        })
      where
        d : Draft
        d = reporting x (confirming (kind.Ack (Long x.marks.gsr)) h.confirms)

        same : d ≡ reporting x (saying (kind.Ack (Long x.marks.gsr)) h.confirms x.rows [])
        same = ap (λ (items : List Item). reporting x (record { kind = kind.Ack (Long x.marks.gsr); options = items; payload = [] }))
            (sym (append-nil (confirm_items h.confirms)))

        long : goes_short x d ≡ false
        long =
            ap (goes_short x) same
            ∙ short_ack x (kind.Ack (Long x.marks.gsr)) h.confirms x.rows [] refl
            ∙ ap (λ (b : Bool). allows_short x && not (b || false)) some
            ∙ and-false (allows_short x)

  pub shut-by : (fault : Fault) → Shuts y (heeded y a (Err fault))
  shut-by fault = record { config = refl; closed = refl }
