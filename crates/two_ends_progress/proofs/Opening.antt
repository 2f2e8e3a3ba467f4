-- The tree of an opening: by timers and deliveries the handshake gets through to both ends, or an end is over.
use Rattle.std.proofs.Common.{◌≡◌, ◌≢◌, ◌⊎◌, inl, inr, refl, ap, sym, ◌∙◌, subst, ℕ, ◌+◌, ◌^◌, ◌<◌, Bool, true, false, List, [], ◌∷◌, Option, Some, None, arith}
use Rattle.congestion_trait.specs.Control.{Control}
use Rattle.dccp_packets.specs.Grammar.{KindFits, packet_type}
use Rattle.dccp_packets.specs.Kinds.{ack_of}
use Rattle.dccp_packets.specs.ResetCodes.{number_of_code}
use Rattle.dccp_packets.specs.declared.header.Kind.{Kind}
use Rattle.dccp_packets.specs.declared.header.Kind.TheVariants as kind
use Rattle.dccp_packets.specs.declared.header.Number.TheVariants.{Long}
use Rattle.dccp_packets.specs.declared.header.PacketType.{PacketType}
use Rattle.dccp_packets.specs.declared.header.PacketType.TheVariants as types
use Rattle.dccp_packets.specs.declared.reset_code.ResetCode.TheVariants as codes
use Rattle.dccp_states.specs.Phases.{after}
use Rattle.dccp_states.specs.declared.calls.Timer.TheVariants as timers
use Rattle.dccp_states.specs.declared.entrance.Entrance.TheVariants as entrance
use Rattle.dccp_states.specs.declared.outcome.Outcome.{Outcome}
use Rattle.dccp_states.specs.declared.phase.Phase.{Phase}
use Rattle.dccp_states.specs.declared.phase.Phase.TheVariants as phases
use Rattle.dccp_states.specs.declared.phase.Role.TheVariants as role
use Rattle.dccp_states.specs.declared.reply.Reply.TheVariants as reply
use Rattle.dccp_endpoint.specs.Calling.{fires, opens}
use Rattle.dccp_endpoint.specs.Causes.{EveryStepHasOneEffect, entrance_of}
use Rattle.dccp_endpoint.specs.Controlled.{has_in_flight}
use Rattle.dccp_endpoint.specs.Drafts.{Draft, Fits, IsSendable, alone, sent_of}
use Rattle.dccp_endpoint.specs.End.{EndState, end_of, first_phase, new_end, is_connected, is_live}
use Rattle.feature_machine.specs.Negotiating.{AreRowsOf}
use Rattle.feature_machine.specs.declared.row.Row.{Row}
use Rattle.two_ends.specs.declared.frames.SentFrame.{SentFrame}
use Rattle.dccp_endpoint.specs.Incoming.{Incoming}
use Rattle.dccp_endpoint.specs.Receiving.{acknowledges_in_window, heeded, is_other_service, is_own_service, is_unexpected, number_without_connection, reads_options, receives, started, with_raised_marks}
use Rattle.dccp_endpoint.specs.Steps.{Step, detail_of, next_number, without_detail}
use Rattle.dccp_endpoint.specs.declared.config.Config.{Config}
use Rattle.seq_circle.specs.Circle.{later_of, residue}
use Rattle.two_ends.specs.Controlled.{ControlledWorld, begins_with, congestion_of, plays, plays_from_start}
use Rattle.two_ends.specs.World.{Half, WorldState, half_of, moved}
use Rattle.validity_windows.specs.Verdict.{by_window, is_ack_within, verdict}
use Rattle.validity_windows.specs.Windows.{ack_high, ack_low}
use Rattle.validity_windows.specs.declared.marks.Marks.{Marks}
use Rattle.validity_windows.specs.declared.verdict.Verdict.TheVariants as verdicts
use Rattle.world_events.specs.declared.event.Event.{Event}
use Rattle.world_events.specs.declared.event.Event.TheVariants as event
use Rattle.world_events.specs.declared.event.Side.{Side}
use Rattle.world_events.specs.declared.event.Side.TheVariants.{Client, Server}
use Rattle.two_ends_progress.specs.Leading.{HasWay, HaveRoomFor}
use Rattle.two_ends_progress.specs.Opening.{AreConnected, HasEnded, IsInHandshake, IsAsking, AsksAgain, IsAnswered}
use Rattle.two_ends_progress.specs.Paired.{AreForEachOther}
use Rattle.two_ends_progress.proofs.Arriving.{IsBare, IsPlain, bare-plain}
use Rattle.two_ends_progress.proofs.Closing.{heard-in-order, start-under-way, sync-ack-bare, sync-bare}
use Rattle.two_ends_progress.proofs.Entering.{Tells, after-so, entrance-so, expected-as, ack-ends, ack-fires, open-ends, request-again, response-ends}
use Rattle.two_ends_progress.proofs.Forced.{accepted-goes, answered-goes, misled-goes, refused-goes, rejected-goes}
use Rattle.two_ends_progress.proofs.Leading.{leads-by, leads-here, leads-within, next}
use Rattle.two_ends_progress.proofs.Numbers.{later-so, low-end-valid, newest-within, window-or, window-valid}
use Rattle.two_ends_progress.proofs.Receiving.{IsRow, bad-comes, next-so, row-heeds, sync-acked}
use Rattle.two_ends_progress.proofs.Stepping.{Acts, AreTwo, ClientFirst, ServerFirst, IsComing, IsOut, IsUnderWay, after-says, coming, fewer-under-way, fits-of, gsr-small, gss-small, heard-so, open-acts, out-so, proper-of, timer-acts, under-way-next, verdict-read}

ack-opens : IsRow role.Server phases.Respond types.Ack phases.Open reply.Ack
ack-opens = record { checked = refl; no_reset = λ is. cc is; expected = λ b. refl; for_us = λ x service. refl; next = refl }

sync-ack-opens : IsRow role.Server phases.Respond types.SyncAck phases.Open reply.Ack
sync-ack-opens = record { checked = refl; no_reset = λ is. cc is; expected = λ b. refl; for_us = λ x service. refl; next = refl }

request-again-row : IsRow role.Server phases.Respond types.Request phases.Respond reply.Response
request-again-row = record { checked = refl; no_reset = λ is. cc is; expected = λ b. refl; for_us = λ x service. refl; next = refl }

pub sync-answered : IsRow role.Client phases.PartOpen types.Sync phases.PartOpen reply.SyncAck
sync-answered = record { checked = refl; no_reset = λ is. cc is; expected = λ b. refl; for_us = λ x service. refl; next = refl }

-- a draft of each type that an opening has
request-plain : (d : Draft) (service : ℕ) → IsSendable d → d.kind ≡ kind.Request service → service < 2 ^ 32 → IsPlain d
request-plain d service sendable is small =
    record {
      sendable = sendable;
      fits = subst KindFits (sym is) small;
      acks = λ reference. rw is refl;
    }

response-plain : (d : Draft) (ack service : ℕ) → IsSendable d → d.kind ≡ kind.Response ack service → ack < 2 ^ 48 → service < 2 ^ 32 → IsPlain d
response-plain d ack service sendable is small fits =
    record {
      sendable = sendable;
      fits = subst KindFits (sym is) (small, fits);
      acks = λ reference. rw is refl;
    }

pub ack-plain : (d : Draft) (ack : ℕ) → IsSendable d → d.kind ≡ kind.Ack (Long ack) → ack < 2 ^ 48 → IsPlain d
ack-plain d ack sendable is small =
    record {
      sendable = sendable;
      fits = subst KindFits (sym is) small;
      acks = λ reference. rw is refl;
    }

refusal-bare : (ack : ℕ) → ack < 2 ^ 48
    → IsBare (kind.Reset ack (number_of_code codes.BadServiceCode) (detail_of (without_detail (number_of_code codes.BadServiceCode))))
refusal-bare ack small = record { is_long = refl; detail = refl; fits = (small, omega arith, refl); never_short = refl; acks = λ reference. refl }

-- the client is in PARTOPEN, and the server is OPEN
abbrev pub IsHalfOpen : WorldState → Type 0
IsHalfOpen w = (w.client.end.phase ≡ phases.PartOpen) × (w.server.end.phase ≡ phases.Open)

-- What is known after a side has told something.
pub record HasTold (more : ℕ) (v : WorldState) (half : Half) (b : EndState) (to : Phase) (k : Kind) (d : Draft) : Type 0 where
  pub under_way : IsUnderWay more v
  pub phase : half.end.phase ≡ to
  pub gsr_is : half.end.marks.gsr ≡ b.marks.gsr
  pub gss_is : half.end.marks.gss ≡ next_number b
  pub draft : Draft
  pub draft_is : draft ≡ d
  pub is_kind : draft.kind ≡ k
  pub sendable : IsSendable draft
  pub out : IsOut half half.end.marks.gss draft

-- the call `open` of a client that was not opened yet
opens-so : (client : Config) → client.role ≡ role.Client → (opens (new_end client)).after.phase ≡ phases.Request
unfolding opens
opens-so client is = rw is refl

module _ {C : Type 0} (control : Control C) (effects : EveryStepHasOneEffect) where
  abbrev Leads : ℕ → ControlledWorld C → Type 0
  Leads most w = HasWay control most w (λ (v : ControlledWorld C). HasEnded v.world ⊎ IsHalfOpen v.world)

  pub after-tells : {A : Type 0} (more : ℕ) (w : ControlledWorld C) (e : Event) {x y : Side} (two : AreTwo x y) (arrived : Option ℕ) (s : Step A) (b : EndState)
      (to : Phase) (k : Kind) → Acts w.world (next control w e).world x y (moved (half_of w.world x) arrived s) → (tells : Tells b s to k)
      → b.config ≡ (half_of w.world x).end.config → IsUnderWay (more + 1) w.world
      → HasTold more (next control w e).world (half_of (next control w e).world x) b to k tells.draft
  after-tells more w e {x} two arrived s b to k acts tells same u =
      let half : Half = half_of w.world x in
      let out : IsOut (moved half arrived s) s.after.marks.gss tells.draft =
      out-so half arrived s s.after.marks.gss tells.draft
      (tells.frame_is
      ∙ ap (λ (c : Config). Some (sent_of c false (next_number b) tells.draft)) (sym tells.config)
      ∙ ap (λ (n : ℕ). Some (sent_of s.after.config false n tells.draft)) (sym tells.gss_is)) in
      record {
        under_way = under-way-next control effects more w e two arrived s acts (tells.config ∙ same) u;
        phase = ap (λ (h : Half). h.end.phase) acts.acting ∙ tells.phase;
        gsr_is = ap (λ (h : Half). h.end.marks.gsr) acts.acting ∙ tells.gsr_is;
        gss_is = ap (λ (h : Half). h.end.marks.gss) acts.acting ∙ tells.gss_is;
        draft = tells.draft;
        draft_is = refl;
        is_kind = tells.is_kind;
        sendable = tells.sendable;
        out = subst (λ (h : Half). IsOut h h.end.marks.gss tells.draft) (sym acts.acting) out;
      }

  both-connected : (w : WorldState) → HasEnded w ⊎ IsHalfOpen w → HasEnded w ⊎ AreConnected w
  both-connected w (inl over) = inl over
  both-connected w (inr half) = inr each where
    each : AreConnected w
    each Client = ap is_connected half.0
    each Server = ap is_connected half.1

  -- An Ack or a SyncAck that is valid at a server in RESPOND opens it, or a fault of its options closes it.
  opened-by : (w : ControlledWorld C) → IsUnderWay 1 w.world → w.world.client.end.phase ≡ phases.PartOpen → w.world.server.end.phase ≡ phases.Respond
      → (n : ℕ) (d : Draft) (type : PacketType) → packet_type d.kind ≡ type → IsRow role.Server phases.Respond type phases.Open reply.Ack
      → IsOut w.world.client n d → n < 2 ^ 48 → IsPlain d → verdict w.world.server.end.marks (packet_type d.kind) n (ack_of d.kind) ≡ verdicts.Valid
      → Leads 1 w
  opened-by w u part respond n d type is_type row out small plain valid =
      let e : EndState = w.world.server.end in
      let c = coming control effects 1 w ServerFirst n d u out small plain in
      let bytes : List ℕ = c.frame.bytes in
      let a : Incoming = c.here.packet in
      let fits = verdict-read e bytes n d c.here verdicts.Valid valid in
      let kind_is = c.here.type_is ∙ is_type in
      let goes = row-heeds e bytes a c.here.came role.Server phases.Respond phases.Open type reply.Ack row u.roles.is_server respond kind_is fits in
      let next_is = next-so e bytes a c.here.came role.Server phases.Respond phases.Open type reply.Ack row u.roles.is_server respond kind_is fits in
      let now = event.Deliver Client c.index in
      let v : ControlledWorld C = next control w now in
      let y : EndState = with_raised_marks e a in
      let phase_is : v.world.server.end.phase ≡ (heeded y a (reads_options y a)).after.phase =
      ap (λ (h : Half). h.end.phase) c.acts.acting ∙ ap (λ (s : Step Outcome). s.after.phase) goes in
      leads-by control 0 w _ now tt
      (leads-here control v _
      (elim (open-ends y a (proper-of 1 w.world u ServerFirst).rows next_is) [
        | inl shuts ↦ inl (inr (inl (phase_is ∙ shuts.closed)))
        | inr opens ↦ inr (ap (λ (h : Half). h.end.phase) c.acts.resting ∙ part, phase_is ∙ opens.phase)
      ]))

  -- A Response to the client's last Request: the client acknowledges it, or is over.
  module _ (w : ControlledWorld C) (u : IsUnderWay 2 w.world) (request : w.world.client.end.phase ≡ phases.Request)
      (respond : w.world.server.end.phase ≡ phases.Respond) (heard : w.world.server.end.marks.gsr ≡ w.world.client.end.marks.gss)
      (d : Draft) (service : ℕ) (sendable : IsSendable d) (is_kind : d.kind ≡ kind.Response w.world.client.end.marks.gss service)
      (fits_service : service < 2 ^ 32) (out : IsOut w.world.server w.world.server.end.marks.gss d) where
    abbrev e : EndState
    e = w.world.client.end

    abbrev n : ℕ
    n = w.world.server.end.marks.gss

    c : IsComing control effects w Client Server n d
    c =
        coming control effects 2 w ClientFirst n d u out (gss-small 2 w.world u ServerFirst)
        (response-plain d e.marks.gss service sendable is_kind (gss-small 2 w.world u ClientFirst) fits_service)

    abbrev a : Incoming
    a = c.here.packet

    abbrev y : EndState
    y = started e e.phase a

    type_is : a.kind ≡ types.Response
    type_is = c.here.type_is ∙ ap packet_type is_kind

    entered : entrance_of e a ≡ entrance.InRequest
    entered = entrance-so e a phases.Request types.Response entrance.InRequest request type_is refl

    no-reset-so : a.kind ≢ types.Reset
    no-reset-so is = cc (type_is, is)

    acks-so : acknowledges_in_window e a ≡ true
    acks-so =
        ap (is_ack_within (ack_low e.marks) (ack_high e.marks)) (c.here.acks ∙ ap ack_of is_kind) ∙ newest-within e.marks

    expected-so : is_unexpected y a ≡ false
    expected-so = expected-as y a role.Client phases.Request types.Response u.roles.is_client request type_is (λ b. refl)

    abbrev now : Event
    now = event.Deliver Server c.index

    abbrev v : ControlledWorld C
    v = next control w now

    acked : (for_us : is_other_service y e.phase a.kind a.service ≡ false) → Leads 2 w
    acked for_us =
        let s : Step Outcome = heeded y a (reads_options y a) in
        let goes = answered-goes e c.frame.bytes a c.here.came entered no-reset-so acks-so expected-so for_us in
        let acts : Acts w.world v.world Client Server (moved w.world.client (Some c.frame.number) s) =
        subst (λ (t : Step Outcome). Acts w.world v.world Client Server (moved w.world.client (Some c.frame.number) t)) goes c.acts in
        let row = after-so y a phases.Request types.Response (phases.PartOpen, reply.Ack) request type_is refl in
        elim (ack-ends y a (proper-of 2 w.world u ClientFirst).rows row) [
          | inl shuts ↦
              leads-by control 1 w _ now tt
              (leads-within control 0 1 v _ (omega arith)
              (leads-here control v _ (inl (inl (inl (ap (λ (h : Half). h.end.phase) acts.acting ∙ shuts.closed))))))
          | inr tells ↦
              let told = after-tells 1 w now ClientFirst (Some c.frame.number) s y phases.PartOpen _ acts tells refl u in
              let still : v.world.server ≡ w.world.server = acts.resting in
              let at : ℕ = v.world.client.end.marks.gss in
              let m : Marks = w.world.server.end.marks in
              let acks : ack_of told.draft.kind ≡ Some m.gss = ap ack_of told.is_kind ∙ ap Some c.here.numbered in
              let valid : by_window m at (Some m.gss) ≡ verdicts.Valid =
              window-valid m e.marks.gss at (heard-so 2 w.world u ServerFirst (ap is_live respond))
              (told.gss_is ∙ ap (λ (k : ℕ). residue (k + 1)) (sym heard)) in
              let is : verdict m (packet_type told.draft.kind) at (ack_of told.draft.kind) ≡ verdicts.Valid =
              ap (λ (k : Kind). verdict m (packet_type k) at (ack_of told.draft.kind)) told.is_kind ∙ ap (by_window m at) acks ∙ valid in
              leads-by control 1 w _ now tt
              (opened-by v told.under_way told.phase (ap (λ (h : Half). h.end.phase) still ∙ respond) at told.draft types.Ack (ap packet_type told.is_kind) ack-opens
              told.out (gss-small 1 v.world told.under_way ClientFirst)
              (ack-plain told.draft a.number told.sendable told.is_kind (subst (λ (k : ℕ). k < 2 ^ 48) (sym c.here.numbered) (gss-small 2 w.world u ServerFirst)))
              (subst (λ (h : Half). verdict h.end.marks (packet_type told.draft.kind) at (ack_of told.draft.kind) ≡ verdicts.Valid) (sym still) is))
        ]

    misled : is_other_service y e.phase a.kind a.service ≡ true → Leads 2 w
    misled other_service =
        let goes = misled-goes e c.frame.bytes a c.here.came entered no-reset-so acks-so expected-so other_service in
        leads-by control 1 w _ now tt
        (leads-within control 0 1 v _ (omega arith)
        (leads-here control v _
        (inl (inl (inl (ap (λ (h : Half). h.end.phase) c.acts.acting ∙ ap (λ (s : Step Outcome). s.after.phase) goes))))))

    answered : Leads 2 w
    answered = by (is_other_service y e.phase a.kind a.service) refl where
      by : (b : Bool) → is_other_service y e.phase a.kind a.service ≡ b → Leads 2 w
      by true is = misled is
      by false is = acked is

  -- What a server that was asked leaves: it is over, or has answered.
  respond-on : (w : ControlledWorld C) → IsUnderWay 3 w.world → w.world.client.end.phase ≡ phases.Request → (index : ℕ) (frame : SentFrame) (y : EndState) (a : Incoming)
      → (receives w.world.server.end frame.bytes) ≡ heeded y a (reads_options y a)
      → Acts w.world (next control w (event.Deliver Client index)).world Server Client
      (moved w.world.server (Some frame.number) (receives w.world.server.end frame.bytes))
      → y.config ≡ w.world.server.end.config → y.rows ≡ w.world.server.end.rows → y.marks.gsr ≡ w.world.client.end.marks.gss
      → after y.phase a.kind ≡ (phases.Respond, reply.Response) → Leads 3 w
  respond-on w u request index frame y a goes came_acts config rows heard row =
      let s : Step Outcome = heeded y a (reads_options y a) in
      let now = event.Deliver Client index in
      let v : ControlledWorld C = next control w now in
      let acts : Acts w.world v.world Server Client (moved w.world.server (Some frame.number) s) =
      subst (λ (t : Step Outcome). Acts w.world v.world Server Client (moved w.world.server (Some frame.number) t)) goes came_acts in
      let its : AreRowsOf (end_of y.config.role) y.rows =
      subst (λ (c : Config). AreRowsOf (end_of c.role) y.rows) (sym config)
      (subst (λ (r : List Row). AreRowsOf (end_of w.world.server.end.config.role) r) (sym rows) (proper-of 3 w.world u ServerFirst).rows) in
      elim (response-ends y a its phases.Respond row) [
        | inl shuts ↦
            leads-by control 2 w _ now tt
            (leads-within control 0 2 v _ (omega arith)
            (leads-here control v _ (inl (inr (inl (ap (λ (h : Half). h.end.phase) acts.acting ∙ shuts.closed))))))
        | inr tells ↦
            let told = after-tells 2 w now ServerFirst (Some frame.number) s y phases.Respond _ acts tells config u in
            let still : v.world.client ≡ w.world.client = acts.resting in
            let same : y.marks.gsr ≡ v.world.client.end.marks.gss = heard ∙ sym (ap (λ (h : Half). h.end.marks.gss) still) in
            leads-by control 2 w _ now tt
            (answered v told.under_way (ap (λ (h : Half). h.end.phase) still ∙ request) told.phase (told.gsr_is ∙ same) told.draft y.config.service told.sendable
            (told.is_kind ∙ ap (λ (k : ℕ). kind.Response k y.config.service) same)
            (subst (λ (c : Config). c.service < 2 ^ 32) (sym config) (fits-of 3 w.world u ServerFirst).service) told.out)
      ]

  -- A Request that reaches a server in LISTEN.
  module _ (w : ControlledWorld C) (u : IsUnderWay 3 w.world) (request : w.world.client.end.phase ≡ phases.Request)
      (listens : w.world.server.end.phase ≡ phases.Listen) (d : Draft) (service : ℕ) (sendable : IsSendable d) (is_kind : d.kind ≡ kind.Request service)
      (fits_service : service < 2 ^ 32) (out : IsOut w.world.client w.world.client.end.marks.gss d) where
    abbrev first-e : EndState
    first-e = w.world.server.end

    abbrev first-n : ℕ
    first-n = w.world.client.end.marks.gss

    first-c : IsComing control effects w Server Client first-n d
    first-c = coming control effects 3 w ServerFirst first-n d u out (gss-small 3 w.world u ClientFirst) (request-plain d service sendable is_kind fits_service)

    abbrev first-a : Incoming
    first-a = first-c.here.packet

    first-type : first-a.kind ≡ types.Request
    first-type = first-c.here.type_is ∙ ap packet_type is_kind

    first-entered : entrance_of first-e first-a ≡ entrance.Accept
    first-entered = entrance-so first-e first-a phases.Listen types.Request entrance.Accept listens first-type refl

    abbrev first-now : Event
    first-now = event.Deliver Client first-c.index

    abbrev first-v : ControlledWorld C
    first-v = next control w first-now

    accepted : is_own_service first-e first-a.service ≡ true → Leads 3 w
    accepted ours =
        let y : EndState = started first-e phases.Respond first-a in
        let expected = expected-as y first-a role.Server phases.Respond types.Request u.roles.is_server refl first-type (λ b. refl) in
        let for_us : is_other_service y phases.Respond first-a.kind first-a.service ≡ false = refl in
        let no_reset : first-a.kind ≢ types.Reset = λ is. cc (first-type, is) in
        let row : after y.phase first-a.kind ≡ (phases.Respond, reply.Response) = rw first-type refl in
        respond-on w u request first-c.index first-c.frame y first-a
        (accepted-goes first-e first-c.frame.bytes first-a first-c.here.came first-entered ours no_reset expected for_us) first-c.acts refl refl first-c.here.numbered
        row

    refused : is_own_service first-e first-a.service ≡ false → Leads 3 w
    refused other_service =
        let goes = refused-goes first-e first-c.frame.bytes first-a first-c.here.came first-entered other_service in
        let k : (ℕ → Kind) = λ m. kind.Reset m (number_of_code codes.BadServiceCode) (detail_of (without_detail (number_of_code codes.BadServiceCode))) in
        let s : Step Outcome = receives first-e first-c.frame.bytes in
        let config : s.after.config ≡ first-e.config = ap (λ (t : Step Outcome). t.after.config) goes in
        let u1 = under-way-next control effects 2 w first-now ServerFirst (Some first-c.frame.number) s first-c.acts config u in
        let sent : s.frame ≡ Some (sent_of s.after.config false 0 (alone (k first-n))) =
        ap (λ (t : Step Outcome). t.frame) goes
        ∙ ap (λ (b : Option ℕ). Some (sent_of first-e.config false (number_without_connection b) (alone (k first-a.number)))) (first-c.here.acks ∙ ap ack_of is_kind)
        ∙ ap (λ (m : ℕ). Some (sent_of first-e.config false 0 (alone (k m)))) first-c.here.numbered
        ∙ ap (λ (c : Config). Some (sent_of c false 0 (alone (k first-n)))) (sym config) in
        let lies : IsOut first-v.world.server 0 (alone (k first-n)) =
        subst (λ (h : Half). IsOut h 0 (alone (k first-n))) (sym first-c.acts.acting)
        (out-so w.world.server (Some first-c.frame.number) s 0 (alone (k first-n)) sent) in
        let still : first-v.world.client ≡ w.world.client = first-c.acts.resting in
        let e : EndState = first-v.world.client.end in
        let asks : e.phase ≡ phases.Request = ap (λ (h : Half). h.end.phase) still ∙ request in
        let g = coming control effects 2 first-v ClientFirst 0 (alone (k first-n)) u1 lies (omega arith)
        (bare-plain (k first-n) (refusal-bare first-n (gss-small 3 w.world u ClientFirst))) in
        let b : Incoming = g.here.packet in
        let entered : entrance_of e b ≡ entrance.InRequest = rw (asks, g.here.type_is) refl in
        let acks : acknowledges_in_window e b ≡ true =
        ap (is_ack_within (ack_low e.marks) (ack_high e.marks)) (g.here.acks ∙ ap (λ (h : Half). Some h.end.marks.gss) (sym still)) ∙ newest-within e.marks in
        let ends = rejected-goes e g.frame.bytes b g.here.came entered g.here.type_is acks in
        let now = event.Deliver Server g.index in
        leads-by control 2 w _ first-now tt
        (leads-within control 1 2 first-v _ (omega arith)
        (leads-by control 0 first-v _ now tt
        (leads-here control (next control first-v now) _
        (inl (inl (inr (ap (λ (h : Half). h.end.phase) g.acts.acting ∙ ap (λ (t : Step Outcome). t.after.phase) ends)))))))

    first-asked : Leads 3 w
    first-asked = by (is_own_service first-e first-a.service) refl where
      by : (ours : Bool) → is_own_service first-e first-a.service ≡ ours → Leads 3 w
      by true is = accepted is
      by false is = refused is

  -- A Request that is valid at a server in RESPOND.
  asked-again : (w : ControlledWorld C) → IsUnderWay 3 w.world → w.world.client.end.phase ≡ phases.Request → w.world.server.end.phase ≡ phases.Respond
      → (d : Draft) (service : ℕ) → IsSendable d → d.kind ≡ kind.Request service → service < 2 ^ 32
      → IsOut w.world.client w.world.client.end.marks.gss d
      → by_window w.world.server.end.marks w.world.client.end.marks.gss None ≡ verdicts.Valid → Leads 3 w
  asked-again w u request respond d service sendable is_kind fits_service out valid =
      let e : EndState = w.world.server.end in
      let n : ℕ = w.world.client.end.marks.gss in
      let c = coming control effects 3 w ServerFirst n d u out (gss-small 3 w.world u ClientFirst) (request-plain d service sendable is_kind fits_service) in
      let a : Incoming = c.here.packet in
      let is : verdict e.marks (packet_type d.kind) n (ack_of d.kind) ≡ verdicts.Valid =
      ap (λ (k : Kind). verdict e.marks (packet_type k) n (ack_of k)) is_kind ∙ valid in
      let fits = verdict-read e c.frame.bytes n d c.here verdicts.Valid is in
      let kind_is = c.here.type_is ∙ ap packet_type is_kind in
      let goes =
      row-heeds e c.frame.bytes a c.here.came role.Server phases.Respond phases.Respond types.Request reply.Response request-again-row u.roles.is_server respond
      kind_is fits in
      let next_is =
      next-so e c.frame.bytes a c.here.came role.Server phases.Respond phases.Respond types.Request reply.Response request-again-row u.roles.is_server respond
      kind_is fits in
      let heard = heard-so 3 w.world u ServerFirst (ap is_live respond) in
      respond-on w u request c.index c.frame (with_raised_marks e a) a goes c.acts refl refl
      (ap (later_of e.marks.gsr) c.here.numbered ∙ later-so e.marks.gsr n (heard-in-order e.marks n heard)) next_is

  -- The timer request, from both worlds.
  asking-on : (w : ControlledWorld C) → IsUnderWay 4 w.world → w.world.client.end.phase ≡ phases.Request
      → (w.world.server.end.phase ≡ phases.Listen)
      ⊎ ((w.world.server.end.phase ≡ phases.Respond) × (by_window w.world.server.end.marks (next_number w.world.client.end) None ≡ verdicts.Valid))
      → Leads 4 w
  asking-on w u request which =
      let e : EndState = w.world.client.end in
      let flies : Bool = has_in_flight control (congestion_of w Client) in
      let tells = request-again e flies (proper-of 4 w.world u ClientFirst) request in
      let now = event.Timer Client timers.Request in
      let v : ControlledWorld C = next control w now in
      let acts = timer-acts control effects w ClientFirst timers.Request 4 u in
      let told = after-tells 3 w now ClientFirst None (fires e timers.Request flies) e phases.Request _ acts tells refl u in
      let still : v.world.server ≡ w.world.server = acts.resting in
      let fits : e.config.service < 2 ^ 32 = (fits-of 4 w.world u ClientFirst).service in
      leads-by control 3 w _ now tt
      (elim which [
        | inl listens ↦
            first-asked v told.under_way told.phase (ap (λ (h : Half). h.end.phase) still ∙ listens) told.draft e.config.service told.sendable told.is_kind fits told.out
        | inr again ↦
            asked-again v told.under_way told.phase (ap (λ (h : Half). h.end.phase) still ∙ again.0) told.draft e.config.service told.sendable told.is_kind fits told.out
            (subst (λ (h : Half). by_window h.end.marks v.world.client.end.marks.gss None ≡ verdicts.Valid) (sym still)
            (subst (λ (n : ℕ). by_window w.world.server.end.marks n None ≡ verdicts.Valid) (sym told.gss_is) again.1))
      ])

  -- The timer ack of a client in PARTOPEN: where its Ack is not valid, a Sync and a SyncAck open the server.
  acking-on : (w : ControlledWorld C) → IsUnderWay 4 w.world → w.world.client.end.phase ≡ phases.PartOpen → w.world.server.end.phase ≡ phases.Respond → Leads 4 w
  acking-on w u part respond =
      let e : EndState = w.world.client.end in
      let flies : Bool = has_in_flight control (congestion_of w Client) in
      let tells = ack-fires e flies part in
      let now = event.Timer Client timers.Ack in
      let v : ControlledWorld C = next control w now in
      let acts = timer-acts control effects w ClientFirst timers.Ack 4 u in
      let told = after-tells 3 w now ClientFirst None (fires e timers.Ack flies) e phases.PartOpen _ acts tells refl u in
      let still : v.world.server ≡ w.world.server = acts.resting in
      leads-by control 3 w _ now tt
      (ack-on v told.under_way told.phase (ap (λ (h : Half). h.end.phase) still ∙ respond) told.draft e.marks.gsr told.sendable told.is_kind
      (gsr-small 4 w.world u ClientFirst) told.out)
    where
      -- the SyncAck opens the server
      sync-ack-on : (w : ControlledWorld C) → IsUnderWay 1 w.world → w.world.client.end.phase ≡ phases.PartOpen → w.world.server.end.phase ≡ phases.Respond
          → IsOut w.world.client w.world.client.end.marks.gss (alone (kind.SyncAck w.world.server.end.marks.gss)) → Leads 1 w
      sync-ack-on w u part respond out =
          let m : Marks = w.world.server.end.marks in
          let n : ℕ = w.world.client.end.marks.gss in
          opened-by w u part respond n (alone (kind.SyncAck m.gss)) types.SyncAck refl sync-ack-opens out (gss-small 1 w.world u ClientFirst)
          (bare-plain (kind.SyncAck m.gss) (sync-ack-bare m.gss (gss-small 1 w.world u ServerFirst)))
          (low-end-valid m n (heard-so 1 w.world u ServerFirst (ap is_live respond)))

      -- the Sync is answered by it
      sync-on : (w : ControlledWorld C) → IsUnderWay 2 w.world → w.world.client.end.phase ≡ phases.PartOpen → w.world.server.end.phase ≡ phases.Respond
          → IsOut w.world.server w.world.server.end.marks.gss (alone (kind.Sync w.world.client.end.marks.gss)) → Leads 2 w
      sync-on w u part respond out =
          let e : EndState = w.world.client.end in
          let n : ℕ = w.world.server.end.marks.gss in
          let k : Kind = kind.Sync e.marks.gss in
          let c = coming control effects 2 w ClientFirst n (alone k) u out (gss-small 2 w.world u ServerFirst)
          (bare-plain k (sync-bare e.marks.gss (gss-small 2 w.world u ClientFirst))) in
          let heard = heard-so 2 w.world u ClientFirst (ap is_live part) in
          let says =
          sync-acked e c.frame.bytes c.here.packet c.here.came role.Client phases.PartOpen phases.PartOpen types.Sync reply.SyncAck sync-answered u.roles.is_client part
          c.here.type_is c.here.listed (verdict-read e c.frame.bytes n (alone k) c.here verdicts.Valid (low-end-valid e.marks n heard)) refl in
          let now = event.Deliver Server c.index in
          let v : ControlledWorld C = next control w now in
          let said = after-says control effects 1 w now ClientFirst _ _ _ _ _ _ c.acts says u in
          let still : v.world.server ≡ w.world.server = said.is_after.rests in
          let sync_ack : IsOut v.world.client v.world.client.end.marks.gss (alone (kind.SyncAck v.world.server.end.marks.gss)) =
          subst (λ (m : ℕ). IsOut v.world.client v.world.client.end.marks.gss (alone (kind.SyncAck m)))
          (c.here.numbered ∙ sym (ap (λ (h : Half). h.end.marks.gss) still)) said.sent in
          leads-by control 1 w _ now tt
          (sync-ack-on v said.is_after.under_way said.is_after.phase (ap (λ (h : Half). h.end.phase) still ∙ respond) sync_ack)

      ack-on : (w : ControlledWorld C) → IsUnderWay 3 w.world → w.world.client.end.phase ≡ phases.PartOpen → w.world.server.end.phase ≡ phases.Respond
          → (d : Draft) (ack : ℕ) → IsSendable d → d.kind ≡ kind.Ack (Long ack) → ack < 2 ^ 48 → IsOut w.world.client w.world.client.end.marks.gss d → Leads 3 w
      ack-on w u part respond d ack sendable is_kind small out =
          let e : EndState = w.world.server.end in
          let n : ℕ = w.world.client.end.marks.gss in
          let plain = ack-plain d ack sendable is_kind small in
          let so : verdict e.marks (packet_type d.kind) n (ack_of d.kind) ≡ by_window e.marks n (Some ack) =
          ap (λ (k : Kind). verdict e.marks (packet_type k) n (ack_of k)) is_kind in
          elim (window-or e.marks n (Some ack)) [
            | inl valid ↦
                leads-within control 1 3 w _ (omega arith)
                (opened-by w (fewer-under-way 1 3 w.world (omega arith) u) part respond n d types.Ack (ap packet_type is_kind) ack-opens out
                (gss-small 3 w.world u ClientFirst) plain (so ∙ valid))
            | inr bad ↦
                let c = coming control effects 3 w ServerFirst n d u out (gss-small 3 w.world u ClientFirst) plain in
                let is = entrance-so e c.here.packet phases.Respond (packet_type d.kind) entrance.Check respond c.here.type_is refl in
                let says = bad-comes e c.frame.bytes c.here.packet c.here.came n is (verdict-read e c.frame.bytes n d c.here (verdicts.SyncFor n) (so ∙ bad)) in
                let now = event.Deliver Client c.index in
                let v : ControlledWorld C = next control w now in
                let said = after-says control effects 2 w now ServerFirst _ _ _ _ _ _ c.acts says u in
                let still : v.world.client ≡ w.world.client = said.is_after.rests in
                leads-by control 2 w _ now tt
                (sync-on v said.is_after.under_way (ap (λ (h : Half). h.end.phase) still ∙ part) (said.is_after.phase ∙ respond)
                (subst (λ (h : Half). IsOut v.world.server v.world.server.end.marks.gss (alone (kind.Sync h.end.marks.gss))) (sym still) said.sent))
          ]

  -- from each world in which an opening is under way
  opening-on : (w : ControlledWorld C) → IsUnderWay 4 w.world → IsInHandshake w.world → Leads 4 w
  opening-on w u (IsAsking request listens) = asking-on w u request (inl listens)
  opening-on w u (AsksAgain request respond near) = asking-on w u request (inr (respond, near))
  opening-on w u (IsAnswered part respond) = acking-on w u part respond

  pub half-leads : (client server : Config) (for_client for_server : C) (events : List Event) → client.role ≡ role.Client
      → server.role ≡ role.Server → Fits client → Fits server → AreForEachOther client server
      → IsInHandshake (plays_from_start control client server for_client for_server events).world
      → HaveRoomFor 4 (plays_from_start control client server for_client for_server events).world
      → Leads 4 (plays_from_start control client server for_client for_server events)
  half-leads client server for_client for_server events is_client is_server client_fits server_fits paired opening room =
      opening-on (plays_from_start control client server for_client for_server events)
      (start-under-way control effects 4 client server for_client for_server events is_client is_server client_fits server_fits paired room) opening

  pub opening-leads : (client server : Config) (for_client for_server : C) (events : List Event) → client.role ≡ role.Client
      → server.role ≡ role.Server → Fits client → Fits server → AreForEachOther client server
      → IsInHandshake (plays_from_start control client server for_client for_server events).world
      → HaveRoomFor 4 (plays_from_start control client server for_client for_server events).world
      → HasWay control 4 (plays_from_start control client server for_client for_server events)
      (λ (v : ControlledWorld C). HasEnded v.world ⊎ AreConnected v.world)
  opening-leads client server for_client for_server events is_client is_server client_fits server_fits paired opening room =
      let way = half-leads client server for_client for_server events is_client is_server client_fits server_fits paired opening room in
      record {
        events = way.events;
        are_passive = way.are_passive;
        few = way.few;
        leads = both-connected (plays control (plays_from_start control client server for_client for_server events) way.events).world way.leads;
      }

  -- What the call `open` leaves at the start.
  pub start-asks : (client server : Config) (for_client for_server : C) → client.role ≡ role.Client → server.role ≡ role.Server
      → IsInHandshake (plays_from_start control client server for_client for_server (event.Open ∷ [])).world
  start-asks client server for_client for_server is_client is_server =
      let acts = open-acts control effects (begins_with control client server for_client for_server) refl in
      IsAsking (ap (λ (h : Half). h.end.phase) acts.acting ∙ opens-so client is_client)
      (ap (λ (h : Half). h.end.phase) acts.resting ∙ ap first_phase is_server)
