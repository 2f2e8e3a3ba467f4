-- An Ack of the first side, and a Sync exchange where that is not valid: the second side has then received its last number.
use Rattle.std.proofs.Common.{◌≡◌, inl, inr, refl, ap, sym, ◌∙◌, subst, ◌==◌, ◌&&◌, ℕ, ◌+◌, ◌^◌, ◌<◌, ◌≤◌, Bool, true, false, List, map, Some, None, Ok, Result, arith}
use Rattle.congestion_trait.specs.Control.{Control}
use Rattle.dccp_options.specs.Grammar.{Entry}
use Rattle.dccp_options.specs.Written.{Item, entries_at}
use Rattle.dccp_options.specs.declared.option.OptFault.{OptFault}
use Rattle.dccp_packets.specs.Grammar.{KindFits, packet_type}
use Rattle.dccp_packets.specs.Kinds.{ack_of}
use Rattle.dccp_packets.specs.Widths.{kind_in_widths}
use Rattle.dccp_packets.specs.declared.header.Kind.{Kind}
use Rattle.dccp_packets.specs.declared.header.Kind.TheVariants as kind
use Rattle.dccp_packets.specs.declared.header.Number.TheVariants.{Long}
use Rattle.dccp_packets.specs.declared.header.PacketType.TheVariants as types
use Rattle.dccp_states.specs.declared.calls.Timer.TheVariants as timers
use Rattle.dccp_states.specs.declared.entrance.Entrance.TheVariants as entrance
use Rattle.dccp_states.specs.declared.outcome.Outcome.{Outcome}
use Rattle.dccp_states.specs.declared.phase.Phase.TheVariants as phases
use Rattle.dccp_states.specs.declared.phase.Role.TheVariants as role
use Rattle.dccp_states.specs.declared.reply.Reply.TheVariants as reply
use Rattle.dccp_endpoint.specs.Calling.{fires}
use Rattle.dccp_endpoint.specs.Causes.{EveryStepHasOneEffect, verdict_of}
use Rattle.dccp_endpoint.specs.Controlled.{has_in_flight}
use Rattle.dccp_endpoint.specs.Drafts.{Draft, IsSendable}
use Rattle.dccp_endpoint.specs.End.{EndState, is_live, value_in}
use Rattle.dccp_endpoint.specs.Faults.{counts}
use Rattle.dccp_endpoint.specs.Heeding.{ReadingState, heeds, unheeded}
use Rattle.dccp_endpoint.specs.Incoming.{Incoming}
use Rattle.dccp_endpoint.specs.Receiving.{heeded, reads_options, receives, with_raised_marks}
use Rattle.dccp_endpoint.specs.Reporting.{vector_item}
use Rattle.dccp_endpoint.specs.ShortForm.{is_settled_on_one}
use Rattle.dccp_endpoint.specs.Steps.{Step, next_number}
use Rattle.feature_lists.specs.declared.features.Feature.TheVariants.{ShortSeqnos}
use Rattle.feature_lists.specs.declared.features.Place.TheVariants.{Here, There}
use Rattle.feature_machine.specs.Negotiating.{held_by, row_at}
use Rattle.feature_machine.specs.declared.row.Row.{Row}
use Rattle.seq_circle.specs.Circle.{later_of}
use Rattle.two_ends.specs.Controlled.{ControlledWorld, congestion_of}
use Rattle.two_ends.specs.World.{Half, WorldState, half_of}
use Rattle.validity_windows.specs.Verdict.{by_window}
use Rattle.validity_windows.specs.declared.verdict.Verdict.{Verdict}
use Rattle.validity_windows.specs.declared.verdict.Verdict.TheVariants as verdicts
use Rattle.world_events.specs.declared.event.Event.{Event}
use Rattle.world_events.specs.declared.event.Event.TheVariants as event
use Rattle.world_events.specs.declared.event.Side.{Side}
use Rattle.two_ends_progress.specs.Leading.{HasWay}
use Rattle.two_ends_progress.proofs.Closing.{get-in-step, heard-in-order}
use Rattle.two_ends_progress.proofs.Entering.{entrance-so}
use Rattle.two_ends_progress.proofs.Exchanging.{keeps}
use Rattle.two_ends_progress.proofs.Leading.{leads-by, leads-within, next}
use Rattle.two_ends_progress.proofs.Numbers.{AreHeard, later-so, window-or}
use Rattle.two_ends_progress.proofs.Openly.{AreOpenWith, IsComingAs, IsOutAs, coming-as, few-next, fewer-open, out-as, stays-open, swapped}
use Rattle.two_ends_progress.proofs.Questions.{open-ack}
use Rattle.two_ends_progress.proofs.Receiving.{bad-comes, next-so, row-heeds}
use Rattle.two_ends_progress.proofs.Rounds.{open-sync, open-sync-ack}
use Rattle.two_ends_progress.proofs.Stepping.{AreTwo, IsSent, turned, after-says, gsr-small, gss-small, heard-so, proper-of, timer-acts}
use Rattle.two_ends_progress.proofs.Vectoring.{ack-alone, vectors-passed}

module _ {C : Type 0} (control : Control C) (effects : EveryStepHasOneEffect) (own others : List Row)
    (alike : is_settled_on_one (held_by (row_at own ShortSeqnos Here)) ≡ true → (value_in others ShortSeqnos There == 1) ≡ true) where
  -- The timer ack of the first side: its Ack is on its way, and it owes nothing.
  pub record HasAcked (more : ℕ) (w v : WorldState) (x y : Side) : Type 0 where
    pub opened : AreOpenWith more v x y own others
    pub rests : half_of v y ≡ half_of w y
    pub gss_is : (half_of v x).end.marks.gss ≡ next_number (half_of w x).end
    pub not_owed : (half_of v x).end.owed ≡ false
    pub ack : ℕ
    pub ack_fits : ack < 2 ^ 48
    pub draft : Draft
    pub is_kind : draft.kind ≡ kind.Ack (Long ack)
    pub sendable : IsSendable draft
    pub bodies : List (List ℕ)
    pub options_are : draft.options ≡ map vector_item bodies
    pub out : IsOutAs (half_of v x) (half_of v x).end.marks.gss draft

  pub ack-sent : (more : ℕ) (w : ControlledWorld C) {x y : Side} (two : AreTwo x y) → AreOpenWith (more + 1) w.world x y own others
      → HasAcked more w.world (next control w (event.Timer x timers.Ack)).world x y
  ack-sent more w {x} {y} two o =
      let e : EndState = (half_of w.world x).end in
      let flies : Bool = has_in_flight control (congestion_of w x) in
      let acks = ack-alone e flies o.here in
      let acts = timer-acts control effects w two timers.Ack (more + 1) o.under_way in
      let s : Step Bool = fires e timers.Ack flies in
      record {
        opened =
            stays-open control effects own others more w (event.Timer x timers.Ack) two None s acts acks.says.config acks.says.phase acks.says.rows_are o;
        rests = acts.resting;
        gss_is = ap (λ (h : Half). h.end.marks.gss) acts.acting ∙ acks.says.gss_is;
        not_owed = ap (λ (h : Half). h.end.owed) acts.acting ∙ acks.not_owed;
        ack = e.marks.gsr;
        ack_fits = gsr-small (more + 1) w.world o.under_way two;
        draft = acks.draft;
        is_kind = acks.is_kind;
        sendable = acks.sendable;
        bodies = acks.bodies;
        options_are = acks.options_are;
        out = out-as (half_of (next control w (event.Timer x timers.Ack)).world x) (half_of w.world x) None s acks.draft acts.acting acks.says;
      }

  -- The second side has received the first one's last number.
  pub record AreSynced (more : ℕ) (w : WorldState) (x y : Side) : Type 0 where
    pub opened : AreOpenWith more w x y own others
    pub heard : (half_of w y).end.marks.gsr ≡ (half_of w x).end.marks.gss

  fewer-synced : (fewer more : ℕ) (w : WorldState) (x y : Side) → fewer ≤ more → AreSynced more w x y → AreSynced fewer w x y
  fewer-synced fewer more w x y less s = record { opened = fewer-open fewer more w x y own others less s.opened; heard = s.heard }

  -- That Ack arrives.
  module _ (more : ℕ) (before : WorldState) (w : ControlledWorld C) {x y : Side} (two : AreTwo x y) (a1 : HasAcked (more + 1) before w.world x y) where
    abbrev e : EndState
    e = (half_of w.world y).end

    abbrev n : ℕ
    n = (half_of w.world x).end.marks.gss

    c : IsComingAs control effects w x y n a1.draft
    c =
        coming-as control effects own others alike (more + 1) w two n a1.draft a1.opened a1.out (gss-small (more + 1) w.world a1.opened.under_way two)
        a1.sendable (subst KindFits (sym a1.is_kind) a1.ack_fits)
        (subst (λ (k : Kind). ack_of (kind_in_widths k) ≡ ack_of k) (sym a1.is_kind) (ap Some (omega (arith, a1.ack_fits))))

    abbrev a : Incoming
    a = c.here.packet

    abbrev now : Event
    now = event.Deliver x c.index

    abbrev v : ControlledWorld C
    v = next control w now

    type_is : a.kind ≡ types.Ack
    type_is = c.here.type_is ∙ ap packet_type a1.is_kind

    acks_is : a.ack ≡ Some a1.ack
    acks_is = c.here.acks ∙ ap ack_of a1.is_kind

    verdict-is : (is : Verdict) → by_window e.marks n (Some a1.ack) ≡ is → verdict_of e a ≡ is
    verdict-is is same = rw (type_is, c.here.numbered, acks_is) same

    heard : AreHeard e.marks n
    heard = heard-so (more + 1) w.world a1.opened.under_way (turned two) (ap is_live a1.opened.there)

    valid-so : by_window e.marks n (Some a1.ack) ≡ verdicts.Valid → AreSynced more v.world x y
    valid-so valid =
        let z : EndState = with_raised_marks e a in
        let row = open-ack e.config.role in
        let fits = verdict-is verdicts.Valid valid in
        let goes =
        row-heeds e c.frame.bytes a c.here.came e.config.role phases.Open phases.Open types.Ack reply.Nothing row refl a1.opened.there type_is fits in
        let next_is =
        next-so e c.frame.bytes a c.here.came e.config.role phases.Open phases.Open types.Ack reply.Nothing row refl a1.opened.there type_is fits in
        let count : Bool = a.newest && counts z.phase a.kind in
        let h : ReadingState = unheeded z.rows in
        let read : reads_options z a ≡ Ok h =
        ap (λ (all : List (Result Entry OptFault)). heeds count a.ack h all)
        (c.here.listed ∙ ap (λ (items : List Item). map Ok (entries_at 0 items)) a1.options_are)
        ∙ vectors-passed count a.ack h a1.bodies 0 in
        let kept = keeps z a (proper-of (more + 1) w.world a1.opened.under_way (turned two)).rows next_is h read in
        let s : Step Outcome = receives e c.frame.bytes in
        let same : s ≡ heeded z a (Ok h) = goes ∙ ap (heeded z a) read in
        let config : s.after.config ≡ e.config = ap (λ (t : Step Outcome). t.after.config) same ∙ kept.config in
        let phase : s.after.phase ≡ phases.Open = ap (λ (t : Step Outcome). t.after.phase) same ∙ kept.phase in
        let rows : s.after.rows ≡ e.rows = ap (λ (t : Step Outcome). t.after.rows) same ∙ kept.rows_are in
        let gsr : s.after.marks.gsr ≡ n =
        ap (λ (t : Step Outcome). t.after.marks.gsr) same ∙ kept.gsr_is ∙ ap (later_of e.marks.gsr) c.here.numbered
        ∙ later-so e.marks.gsr n (heard-in-order e.marks n heard) in
        record {
          opened =
              swapped more v.world y x others own
              (stays-open control effects others own more w now (turned two) (Some c.frame.number) s c.acts config phase rows
              (swapped (more + 1) w.world x y own others a1.opened));
          heard = ap (λ (h : Half). h.end.marks.gsr) c.acts.acting ∙ gsr ∙ sym (ap (λ (h : Half). h.end.marks.gss) c.acts.resting);
        }

  -- What each event keeps, as `Kept`, still holds.
  pub in-step-on : (Kept : ControlledWorld C → Type 0) → ((v : ControlledWorld C) (e : Event) → Kept v → Kept (next control v e))
      → (rest most : ℕ) (w : ControlledWorld C) {x y : Side} (two : AreTwo x y) (goal : ControlledWorld C → Type 0) → Kept w
      → AreOpenWith (rest + 1 + 1 + 1 + 1) w.world x y own others
      → ((v : ControlledWorld C) → Kept v → AreSynced rest v.world x y → HasWay control most v goal) → HasWay control (most + 1 + 1 + 1 + 1) w goal
  in-step-on Kept keep rest most w {x} {y} two goal kept o go =
      leads-by control (most + 1 + 1 + 1) w goal first tt
      (elim (window-or (half_of u.world y).end.marks (half_of u.world x).end.marks.gss (Some a1.ack)) [
        | inl valid ↦
            let d = c (rest + 1 + 1) w.world u two a1 in
            leads-within control (most + 1) (most + 1 + 1 + 1) u goal (omega arith)
            (leads-by control most u goal (event.Deliver x d.index) tt
            (go (next control u (event.Deliver x d.index)) (keep u (event.Deliver x d.index) (keep w first kept))
            (fewer-synced rest (rest + 1 + 1) _ x y (omega arith) (valid-so (rest + 1 + 1) w.world u two a1 valid))))
        | inr bad ↦ synced bad
      ])
    where
      first : Event
      first = event.Timer x timers.Ack

      u : ControlledWorld C
      u = next control w first

      a1 : HasAcked (rest + 1 + 1 + 1) w.world u.world x y
      a1 = ack-sent (rest + 1 + 1 + 1) w two o

      synced : by_window (half_of u.world y).end.marks (half_of u.world x).end.marks.gss (Some a1.ack) ≡ verdicts.SyncFor (half_of u.world x).end.marks.gss
          → HasWay control (most + 1 + 1 + 1) u goal
      synced bad =
          let e : EndState = (half_of u.world y).end in
          let n : ℕ = (half_of u.world x).end.marks.gss in
          let d = c (rest + 1 + 1) w.world u two a1 in
          let now : Event = event.Deliver x d.index in
          let v : ControlledWorld C = next control u now in
          let type : d.here.packet.kind ≡ types.Ack = type_is (rest + 1 + 1) w.world u two a1 in
          let checked = entrance-so e d.here.packet phases.Open types.Ack entrance.Check a1.opened.there type refl in
          let says =
          bad-comes e d.frame.bytes d.here.packet d.here.came n checked (verdict-is (rest + 1 + 1) w.world u two a1 (verdicts.SyncFor n) bad) in
          let said = after-says control effects (rest + 1 + 1) u now (turned two) _ _ _ _ _ _ d.acts says a1.opened.under_way in
          let opened : AreOpenWith (rest + 1 + 1) v.world x y own others =
          swapped (rest + 1 + 1) v.world y x others own
          (stays-open control effects others own (rest + 1 + 1) u now (turned two) (Some d.frame.number) (receives e d.frame.bytes) d.acts says.moves.config
          (says.moves.phase ∙ a1.opened.there) says.moves.rows_are (swapped (rest + 1 + 1 + 1) u.world x y own others a1.opened)) in
          let same_gss : (half_of v.world x).end.marks.gss ≡ n = ap (λ (h : Half). h.end.marks.gss) said.is_after.rests in
          let sent : IsSent (half_of v.world y) (half_of v.world y).end.marks.gss (kind.Sync (half_of v.world x).end.marks.gss) =
          subst (λ (m : ℕ). IsSent (half_of v.world y) (half_of v.world y).end.marks.gss (kind.Sync m)) (sym same_gss) said.sent in
          let g =
          get-in-step control effects rest v opened.under_way two (half_of v.world x).end.config.role (half_of v.world y).end.config.role phases.Open phases.Open
          (open-sync (half_of v.world x).end.config.role) (open-sync-ack (half_of v.world y).end.config.role) refl refl opened.here opened.there refl refl refl sent in
          let second : Event = event.Deliver y g.first in
          let v2 : ControlledWorld C = next control v second in
          let third : Event = event.Deliver x g.second in
          let v3 : ControlledWorld C = next control v2 third in
          leads-by control (most + 1 + 1) u goal now tt
          (leads-by control (most + 1) v goal second tt
          (leads-by control most v2 goal third tt
          (go v3 (keep v2 third (keep v second (keep u now (keep w first kept))))
          (record {
            opened =
                record {
                  under_way = g.in_step.under_way;
                  few = few-next control effects rest v2 third (few-next control effects (rest + 1) v second opened.few);
                  here = g.in_step.phase;
                  there = g.in_step.peer_phase;
                  own_rows = g.rows_are ∙ opened.own_rows;
                  others_rows = g.peer_rows ∙ opened.others_rows;
                };
            heard = g.in_step.heard;
          }))))
