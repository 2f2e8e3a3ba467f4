-- What an end that has heard the last number of its peer makes of the peer's next data: it hands them over.
use Rattle.std.proofs.Common.{◌≡◌, ◌⊎◌, inl, inr, refl, ap, ◌∙◌, ◌&&◌, ℕ, ◌+◌, ◌^◌, ◌<◌, ◌≤◌, Bool, true, false, List, [], length, Some, None, Ok, Result, if◌then◌else◌, arith}
use Rattle.dccp_packets.specs.declared.header.PacketType.TheVariants as types
use Rattle.dccp_states.specs.Phases.{after}
use Rattle.dccp_states.specs.declared.outcome.Outcome.{Outcome}
use Rattle.dccp_states.specs.declared.outcome.Outcome.TheVariants.{Took}
use Rattle.dccp_states.specs.declared.phase.Phase.{Phase}
use Rattle.dccp_states.specs.declared.phase.Phase.TheVariants as phases
use Rattle.dccp_states.specs.declared.phase.Role.{Role}
use Rattle.dccp_states.specs.declared.phase.Role.TheVariants as role
use Rattle.dccp_states.specs.declared.reply.Reply.{Reply}
use Rattle.dccp_states.specs.declared.reply.Reply.TheVariants as reply
use Rattle.dccp_options.specs.Grammar.{Entry}
use Rattle.dccp_options.specs.declared.option.OptFault.{OptFault}
use Rattle.dccp_endpoint.specs.Causes.{Came, verdict_of}
use Rattle.dccp_endpoint.specs.End.{EndState, is_live, with_rows}
use Rattle.dccp_endpoint.specs.Faults.{counts}
use Rattle.dccp_endpoint.specs.Heeding.{ReadingState, heeds, unheeded}
use Rattle.dccp_endpoint.specs.Incoming.{Incoming}
use Rattle.dccp_endpoint.specs.Inputs.{Arrives}
use Rattle.dccp_endpoint.specs.Receiving.{accounted, acknowledges, heeded, moved_to, moves, needs_ack, reads_options, receives, with_raised_marks}
use Rattle.dccp_endpoint.specs.Reporting.{counts_data, delivered_if, delivers}
use Rattle.dccp_endpoint.specs.Steps.{Step, idle}
use Rattle.run_list.specs.MarkedSet.{answer_to}
use Rattle.run_list.specs.declared.answers.Marked.TheVariants.{New}
use Rattle.seq_circle.specs.Circle.{residue}
use Rattle.seq_circle.specs.Counts.{number_of}
use Rattle.two_ends.specs.World.{WorldState, half_of}
use Rattle.two_ends.proofs.OfWorlds.Acting.{party_of}
use Rattle.two_ends.proofs.OfMarks.MarkSets.{counts_are_new}
use Rattle.two_ends.proofs.OfMarks.Marking.{IsMarking}
use Rattle.two_ends.proofs.OfWorlds.Numbering.{few-logged}
use Rattle.two_ends.proofs.OfMarks.Shown.{some-first}
use Rattle.validity_windows.specs.Verdict.{by_window}
use Rattle.validity_windows.specs.declared.verdict.Verdict.TheVariants as verdicts
use Rattle.world_events.specs.declared.event.Side.{Side}
use Rattle.two_ends_progress.proofs.Numbers.{near-in-window, window-both}
use Rattle.two_ends_progress.proofs.Receiving.{IsRow, next-so, row-heeds}
use Rattle.two_ends_progress.proofs.Stepping.{AreTwo, IsUnderWay, turned, heard-so, held-two}

data-row : (who : Role) → IsRow who phases.Open types.Data phases.Open reply.Nothing
data-row role.Client = record { checked = refl; no_reset = λ is. cc is; expected = λ b. refl; for_us = λ x service. refl; next = refl }
data-row role.Server = record { checked = refl; no_reset = λ is. cc is; expected = λ b. refl; for_us = λ x service. refl; next = refl }

-- The numbers after GSR are new to an end: none of them was sent before.
module _ (more : ℕ) (w : WorldState) (u : IsUnderWay more w) {x y : Side} (two : AreTwo x y) (live : is_live (half_of w y).end.phase ≡ true) where
  abbrev m : IsMarking (party_of w u.held.logs y) (party_of w u.held.logs x)
  m = (held-two w u.held two).1.marks

  abbrev iss : ℕ
  iss = (half_of w x).end.config.iss

  abbrev count : ℕ
  count = length (u.held.logs x)

  some : 1 ≤ m.view.greatest
  some = m.here.heard.lives live

  gsr-count : (half_of w y).end.marks.gsr ≡ number_of iss m.view.greatest
  gsr-count = m.here.heard.tied some

  within : m.view.greatest ≤ count
  within = m.here.heard.within

  few : count < 2 ^ 47
  few = few-logged (party_of w u.held.logs x) (held-two w u.held two).0.ordered

  unmarked : m.view.greatest < count → m.view.marked count ≡ false
  unmarked after = by (m.view.marked count) refl where
    by : (b : Bool) → m.view.marked count ≡ b → m.view.marked count ≡ false
    by false is = is
    by true is =
        let placed = m.kept.here.sound.marks_processed count is in
        let taken = m.kept.here.sound.processed_taken count placed in
        absurd (omega (arith, taken, after))

  new-so : m.view.greatest < count → (half_of w x).end.marks.gss ≡ number_of iss count → answer_to (half_of w y).end.received.set (half_of w x).end.marks.gss ≡ New
  new-so after gss =
      let first = some-first m.view.first m.view.greatest m.kept.here.sound.unheard_greatest some in
      let below = m.kept.here.sound.floor_below in
      ap (answer_to (half_of w y).end.received.set) gss
      ∙ counts_are_new iss (half_of w y).end.received.set m.view (m.here.set first) count (omega (arith, some, after)) (omega (arith, few))
      (omega (arith, below, after), unmarked after)

  greatest-then : (g c i gsr gss : ℕ) → 1 ≤ g → g ≤ c → c < 2 ^ 47 → gsr ≡ number_of i g → gss ≡ number_of i c
      → (gss ≡ residue (gsr + 1)) ⊎ (gss ≡ residue (residue (gsr + 1) + 1)) → g < c
  greatest-then g c i gsr gss some under few gsr_is gss_is near =
      elim near [
        | inl one ↦ omega (arith, some, under, few, gsr_is, gss_is, one)
        | inr two ↦ omega (arith, some, under, few, gsr_is, gss_is, two)
      ]

  gss-count : (half_of w x).end.marks.gss ≡ number_of iss count
  gss-count =
      let greatest = (held-two w u.held two).0.ordered.greatest in
      omega (arith, greatest, some, within)

  pub newly : ((half_of w x).end.marks.gss ≡ residue ((half_of w y).end.marks.gsr + 1))
      ⊎ ((half_of w x).end.marks.gss ≡ residue (residue ((half_of w y).end.marks.gsr + 1) + 1))
      → answer_to (half_of w y).end.received.set (half_of w x).end.marks.gss ≡ New
  newly near =
      new-so (greatest-then m.view.greatest count iss (half_of w y).end.marks.gsr (half_of w x).end.marks.gss some within few gsr-count gss-count near) gss-count

  -- and in the window
  pub in-window : ((half_of w x).end.marks.gss ≡ residue ((half_of w y).end.marks.gsr + 1))
      ⊎ ((half_of w x).end.marks.gss ≡ residue (residue ((half_of w y).end.marks.gsr + 1) + 1))
      → by_window (half_of w y).end.marks (half_of w x).end.marks.gss None ≡ verdicts.Valid
  in-window near =
      window-both (half_of w y).end.marks (half_of w x).end.marks.gss None
      (near-in-window (half_of w y).end.marks (half_of w x).end.marks.gss (half_of w x).end.marks.gss (heard-so more w u (turned two) live) near) refl

-- A packet without options that is read in OPEN is taken, with its data where its number is new.
took-so : (z : EndState) (a : Incoming) (h : ReadingState) → after z.phase a.kind ≡ (phases.Open, reply.Nothing)
    → (heeded z a (Ok h)).answer ≡ Took (delivered_if (delivers a.kind phases.Open (answer_to z.received.set a.number)) a.data_place)
took-so z a h row =
    ap (λ (to : Phase × Reply). (moves (accounted (with_rows z h.rows) a) a h.confirms (answer_to z.received.set a.number) to).answer) row
    ∙ by (needs_ack phases.Open h.confirms h.rows x.unacked)
  where
    x : EndState
    x = counts_data (moved_to (accounted (with_rows z h.rows) a) phases.Open a.number) (delivers a.kind phases.Open (answer_to z.received.set a.number))

    took : Outcome
    took = Took (delivered_if (delivers a.kind phases.Open (answer_to z.received.set a.number)) a.data_place)

    by : (due : Bool) → (if due then acknowledges x h.confirms took else idle x took).answer ≡ took
    by true = refl
    by false = refl

pub data-taken : (e : EndState) (bytes : List ℕ) (a : Incoming) (came : Came e (Arrives bytes) a) → e.phase ≡ phases.Open → a.kind ≡ types.Data
    → a.options ≡ [] → verdict_of e a ≡ verdicts.Valid → answer_to e.received.set a.number ≡ New
    → (receives e bytes).answer ≡ Took (Some a.data_place)
data-taken e bytes a came phase type bare fits new =
    let z : EndState = with_raised_marks e a in
    let row = data-row e.config.role in
    let goes = row-heeds e bytes a came e.config.role phases.Open phases.Open types.Data reply.Nothing row refl phase type fits in
    let next_is = next-so e bytes a came e.config.role phases.Open phases.Open types.Data reply.Nothing row refl phase type fits in
    let count : Bool = a.newest && counts z.phase a.kind in
    let read : reads_options z a ≡ Ok (unheeded z.rows) =
    ap (λ (all : List (Result Entry OptFault)). heeds count a.ack (unheeded z.rows) all) bare in
    let hands : delivers a.kind phases.Open (answer_to e.received.set a.number) ≡ true = rw (type, new) refl in
    ap (λ (s : Step Outcome). s.answer) (goes ∙ ap (heeded z a) read)
    ∙ took-so z a (unheeded z.rows) next_is
    ∙ ap (λ (b : Bool). Took (delivered_if b a.data_place)) hands
