-- The timer ack in OPEN sends an Ack with an Ack Vector alone, in either form, and no end finds a fault in that.
use Rattle.std.proofs.Common.{◌≡◌, refl, sym, subst, ℕ, ◌+◌, Bool, true, false, List, [], ◌∷◌, ◌++◌, append-nil, length, map, Option, Some, Ok, arith}
use Rattle.dccp_endpoint.proofs.OwnPackets.{vector_parts}
use Rattle.std.proofs.lemmas.Bool.{and_parts}
use Rattle.ack_vectors.specs.Vector.{option_data, vector_under}
use Rattle.dccp_options.specs.Grammar.{Entry}
use Rattle.dccp_options.specs.Kinds as options
use Rattle.dccp_options.specs.Kinds.{is_understood}
use Rattle.dccp_options.specs.Written.{entries_at}
use Rattle.dccp_packets.specs.Forms.{may_be_short}
use Rattle.dccp_packets.specs.Grammar.{packet_type}
use Rattle.dccp_packets.specs.declared.header.Kind.TheVariants as kind
use Rattle.dccp_packets.specs.declared.header.Number.TheVariants.{Long}
use Rattle.dccp_states.specs.declared.calls.Timer.TheVariants as timers
use Rattle.dccp_states.specs.declared.phase.Phase.TheVariants as phases
use Rattle.dccp_endpoint.specs.Calling.{fires}
use Rattle.dccp_endpoint.specs.Drafts.{Draft, IsSendable, alone, sent_of}
use Rattle.dccp_endpoint.specs.End.{EndState, held_of, is_open}
use Rattle.dccp_endpoint.specs.Heeding.{ReadingState, heeds, heeds_entry}
use Rattle.dccp_endpoint.specs.Reporting.{reporting, sends_ack, sends_vectors, vector_item, vector_items}
use Rattle.dccp_endpoint.specs.ShortForm.{allows_short, goes_short, is_settled_on_one}
use Rattle.dccp_endpoint.specs.Steps.{Step, next_number}
use Rattle.dccp_endpoint.proofs.Room.{front-confirming-sendable, no-confirms, vector-front}
use Rattle.feature_lists.specs.declared.features.Feature.TheVariants.{ShortSeqnos}
use Rattle.feature_lists.specs.declared.features.Place.TheVariants.{Here}
use Rattle.run_list.specs.MarkedSet.{MarkedSet, has}
use Rattle.ack_vectors.specs.declared.room.Vectors.{Vectors}

-- An Ack Vector of any length is understood, and says nothing to the rows.
vector-understood : (size : ℕ) → is_understood options.ack_vector_0 size ≡ true
vector-understood size = grind arith

vector-passed : (count understood : Bool) (ack : Option ℕ) (h : ReadingState) (place : ℕ) (body : List ℕ) → is_understood options.ack_vector_0 (length body) ≡ true
    → heeds_entry count ack h (record { place = place; mandatory = false; kind = options.ack_vector_0; body = body }) ≡ Ok h
vector-passed true understood ack h place body is = rw is refl
vector-passed false understood ack h place body is = rw is refl

pub vectors-passed : (count : Bool) (ack : Option ℕ) (h : ReadingState) (bodies : List (List ℕ)) (place : ℕ)
    → heeds count ack h (map Ok (entries_at place (map vector_item bodies))) ≡ Ok h
vectors-passed count ack h [] place = refl
vectors-passed count ack h (body ∷ rest) place =
    let entry : Entry = record { place = place + 0; mandatory = false; kind = options.ack_vector_0; body = body } in
    let passed : heeds_entry count ack h entry ≡ Ok h = vector-passed count true ack h (place + 0) body (vector-understood (length body)) in
    rw passed (vectors-passed count ack h rest _)

-- the options of an Ack that has a vector alone
bodies-so : (b : Bool) (vectors : Vectors) (set : MarkedSet) (ack : ℕ) → vector_items b vectors set ack ++ [] ≡ map vector_item (vector_parts b vectors set ack)
bodies-so true vectors set ack = append-nil _
bodies-so false vectors set ack = refl

-- A step in OPEN sends a packet under the next number, in the form that the end chooses.
pub record SaysSo {A : Type 0} (e : EndState) (s : Step A) (d : Draft) : Type 0 where
  pub config : s.after.config ≡ e.config
  pub phase : s.after.phase ≡ phases.Open
  pub rows_are : s.after.rows ≡ e.rows
  pub gsr_is : s.after.marks.gsr ≡ e.marks.gsr
  pub gss_is : s.after.marks.gss ≡ next_number e
  pub frame_is : s.frame ≡ Some (sent_of e.config (goes_short e d) (next_number e) d)

pub record AcksAlone (e : EndState) (s : Step Bool) : Type 0 where
  pub draft : Draft
  pub is_kind : draft.kind ≡ kind.Ack (Long e.marks.gsr)
  pub sendable : IsSendable draft
  pub bodies : List (List ℕ)
  pub options_are : draft.options ≡ map vector_item bodies
  pub says : SaysSo e s draft
  pub not_owed : s.after.owed ≡ false

pub ack-alone : (e : EndState) (in_flight : Bool) → e.phase ≡ phases.Open → AcksAlone e (fires e timers.Ack in_flight)
unfolding fires
ack-alone e in_flight is_phase =
    subst (λ (s : Step Bool). AcksAlone e s) (sym same)
    (record {
      draft = reporting e (alone (kind.Ack (Long e.marks.gsr)));
      is_kind = refl;
      sendable =
          front-confirming-sendable (kind.Ack (Long e.marks.gsr)) (vector_items (sends_vectors e.rows) e.config.vectors e.received.set e.marks.gsr) [] refl tt refl
          (vector-front (sends_vectors e.rows) e.config.vectors e.received.set e.marks.gsr) no-confirms;
      bodies = vector_parts (sends_vectors e.rows) e.config.vectors e.received.set e.marks.gsr;
      options_are = bodies-so (sends_vectors e.rows) e.config.vectors e.received.set e.marks.gsr;
      says = record { config = refl; phase = is_phase; rows_are = refl; gsr_is = refl; gss_is = refl; frame_is = refl };
      not_owed = refl;
    })
  where
    same : fires e timers.Ack in_flight ≡ sends_ack e (alone (kind.Ack (Long e.marks.gsr))) true
    same = rw is_phase refl

-- What goes out short may be, at an end where short numbers are settled.
pub short-may : (e : EndState) (d : Draft) → goes_short e d ≡ true → may_be_short (packet_type d.kind) ≡ true
short-may e d is = (and_parts (may_be_short (packet_type d.kind)) _ is).0

pub short-settled : (e : EndState) (d : Draft) → goes_short e d ≡ true → is_settled_on_one (held_of e ShortSeqnos Here) ≡ true
short-settled e d is =
    let allowed = (and_parts (allows_short e) _ (and_parts (may_be_short (packet_type d.kind)) _ is).1).0 in
    (and_parts (is_settled_on_one (held_of e ShortSeqnos Here)) _ (and_parts (is_open e.phase) _ allowed).1).0
