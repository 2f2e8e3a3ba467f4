-- A client in PARTOPEN and a server in OPEN: any Ack of the server's opens the client, or the SyncAck that answers its Sync.
use Rattle.std.proofs.Common.{◌≡◌, ◌≢◌, ◌⊎◌, inl, inr, refl, ap, sym, ◌∙◌, subst, ◌&&◌, ◌==◌, ℕ, ◌+◌, ◌^◌, ◌<◌, ◌≤◌, ◌++◌, Bool, true, false, List, [], ◌∷◌, map, Some, None, Result, Ok, Err, arith}
use Rattle.ack_vectors.specs.declared.room.Vectors.{Vectors}
use Rattle.congestion_trait.specs.Control.{Control}
use Rattle.dccp_options.specs.Written.{Item, entries_at}
use Rattle.dccp_packets.specs.Grammar.{KindFits, packet_type}
use Rattle.dccp_packets.specs.Kinds.{ack_of}
use Rattle.dccp_packets.specs.Widths.{kind_in_widths}
use Rattle.dccp_packets.specs.declared.header.Kind.{Kind}
use Rattle.dccp_packets.specs.declared.header.Kind.TheVariants as kind
use Rattle.dccp_packets.specs.declared.header.Number.TheVariants.{Long}
use Rattle.dccp_packets.specs.declared.header.PacketType.TheVariants as types
use Rattle.dccp_states.specs.Phases.{after}
use Rattle.dccp_states.specs.declared.calls.Timer.TheVariants as timers
use Rattle.dccp_states.specs.declared.entrance.Entrance.TheVariants as entrance
use Rattle.dccp_states.specs.declared.outcome.Fault.{Fault}
use Rattle.dccp_states.specs.declared.outcome.Outcome.{Outcome}
use Rattle.dccp_states.specs.declared.phase.Phase.{Phase}
use Rattle.dccp_states.specs.declared.phase.Phase.TheVariants as phases
use Rattle.dccp_states.specs.declared.phase.Role.TheVariants as role
use Rattle.dccp_states.specs.declared.reply.Reply.TheVariants as reply
use Rattle.dccp_endpoint.specs.Calling.{fires}
use Rattle.dccp_endpoint.specs.Causes.{Came, EveryStepHasOneEffect, verdict_of}
use Rattle.dccp_endpoint.specs.Controlled.{has_in_flight}
use Rattle.dccp_endpoint.specs.Drafts.{Draft, Fits, IsSendable}
use Rattle.dccp_endpoint.specs.End.{EndState, held_of, is_begun, is_live, value_in}
use Rattle.dccp_endpoint.specs.Faults.{counts}
use Rattle.dccp_endpoint.specs.Heeding.{ReadingState}
use Rattle.dccp_endpoint.specs.Incoming.{Incoming}
use Rattle.dccp_endpoint.specs.Inputs.{Arrives}
use Rattle.dccp_endpoint.specs.Receiving.{heeded, reads_options, receives, takes_short, with_raised_marks}
use Rattle.dccp_endpoint.specs.Saying.{confirm_for, has_key, own_options}
use Rattle.dccp_endpoint.specs.ShortForm.{is_settled_on_one, is_stable}
use Rattle.dccp_endpoint.specs.Speaking.{has_confirms}
use Rattle.dccp_endpoint.specs.Steps.{Step, next_number}
use Rattle.dccp_endpoint.specs.Turns.{Key, sendings}
use Rattle.dccp_endpoint.specs.declared.config.Config.{Config}
use Rattle.dccp_endpoint.proofs.Keys.{has-due}
use Rattle.feature_lists.specs.declared.features.Feature.TheVariants.{ShortSeqnos}
use Rattle.feature_lists.specs.declared.features.Place.TheVariants.{Here, There}
use Rattle.feature_machine.specs.Negotiating.{IsNegotiation, due_keys, held_by, is_due, row_at}
use Rattle.feature_machine.specs.Turns.{turned as turned-rows}
use Rattle.feature_machine.specs.declared.row.Row.{Row}
use Rattle.feature_machine.specs.declared.stands.Stand.{Stand}
use Rattle.feature_machine.specs.declared.stands.Stand.TheVariants as stand
use Rattle.run_list.specs.MarkedSet.{MarkedSet}
use Rattle.seq_circle.specs.Circle.{is_before, residue}
use Rattle.two_ends.proofs.OfWorlds.Consequences.{alike}
use Rattle.two_ends.specs.Controlled.{ControlledWorld, begins_with, congestion_of, plays, plays_from_start}
use Rattle.two_ends.specs.Negotiated.{Agree}
use Rattle.two_ends.specs.Safe.{Safe}
use Rattle.two_ends.specs.World.{Half, WorldState, moved}
use Rattle.two_ends.specs.declared.frames.SentFrame.{SentFrame}
use Rattle.validity_windows.specs.Verdict.{by_window, is_ack_within, verdict}
use Rattle.validity_windows.specs.Windows.{ack_high, ack_low}
use Rattle.validity_windows.specs.declared.marks.Marks.{Marks}
use Rattle.validity_windows.specs.declared.verdict.Verdict.{Verdict}
use Rattle.validity_windows.specs.declared.verdict.Verdict.TheVariants as verdicts
use Rattle.world_events.specs.declared.event.Event.{Event}
use Rattle.world_events.specs.declared.event.Event.TheVariants as event
use Rattle.world_events.specs.declared.event.Side.TheVariants.{Client, Server}
use Rattle.two_ends_progress.specs.GettingThrough.{AreFew}
use Rattle.two_ends_progress.specs.Leading.{AreOpen, HasWay}
use Rattle.two_ends_progress.specs.Opening.{HasEnded, IsInHandshake}
use Rattle.two_ends_progress.specs.Paired.{AreForEachOther}
use Rattle.two_ends_progress.proofs.Agreed.{plays-joined}
use Rattle.two_ends_progress.proofs.Closing.{AreInStep, get-in-step, start-under-way, sync-ack-bare, sync-bare}
use Rattle.two_ends_progress.proofs.EitherForm.{either-read}
use Rattle.two_ends_progress.proofs.Entering.{entrance-so}
use Rattle.two_ends_progress.proofs.Exchanging.{confirms-speak, keeps, negotiate-rows, negotiate-speaks, shut-by}
use Rattle.two_ends_progress.proofs.Leading.{leads-by, leads-here, leads-within, next}
use Rattle.two_ends_progress.proofs.Numbers.{gar-within, low-end-valid, near-in-window, next-newest, window-both, window-or}
use Rattle.two_ends_progress.proofs.Openly.{IsOutAs, few-next, near-so, out-as}
use Rattle.two_ends_progress.proofs.Opening.{IsHalfOpen, ack-plain, after-tells, half-leads, sync-answered}
use Rattle.two_ends_progress.proofs.Questions.{counting-so, newest-so, no-confirms-or, open-ack, same-read}
use Rattle.two_ends_progress.proofs.Receiving.{IsRow, bad-comes, next-so, nothing-answered, row-heeds, sync-acked}
use Rattle.two_ends_progress.proofs.Rounds.{first-so, open-sync, open-sync-ack}
use Rattle.two_ends_progress.proofs.Sent.{few-plays, way-joined}
use Rattle.two_ends_progress.proofs.Settling.{over, asked, asked-changing, confirm-due, quiet-stable}
use Rattle.two_ends_progress.proofs.Stepping.{Acts, ClientFirst, IsComing, IsOut, IsSent, IsUnderWay, ServerFirst, after-moves, after-says, arrives, arriving, coming, fewer-under-way, fits-of, gsr-small, gss-small, heard-so, meant-of, own-in-order, proper-of, room-so, timer-acts, under-way-next, verdict-read, verdict-so}
use Rattle.two_ends_progress.proofs.Vectoring.{ack-alone}

-- the rows of the tables
part-ack : IsRow role.Client phases.PartOpen types.Ack phases.Open reply.Nothing
part-ack = record { checked = refl; no_reset = λ is. cc is; expected = λ b. refl; for_us = λ x service. refl; next = refl }

part-sync-ack : IsRow role.Client phases.PartOpen types.SyncAck phases.Open reply.Nothing
part-sync-ack = record { checked = refl; no_reset = λ is. cc is; expected = λ b. refl; for_us = λ x service. refl; next = refl }

both-open : (w : WorldState) → w.client.end.phase ≡ phases.Open → w.server.end.phase ≡ phases.Open → AreOpen w
both-open w client server Client = client
both-open w client server Server = server

settled-stable : (s : Stand) (b : Bool) → (is_stable s && b) ≡ true → s ≡ stand.Stable
settled-stable stand.Stable b is = refl
settled-stable stand.Changing b is = cc is
settled-stable stand.Unstable b is = cc is

settled-one : (a b : Bool) → (a && b) ≡ true → b ≡ true
settled-one true b is = is
settled-one false b is = cc is

module _ {C : Type 0} (control : Control C) (effects : EveryStepHasOneEffect) where
  abbrev Leads : ℕ → ControlledWorld C → Type 0
  Leads most w = HasWay control most w (λ (v : ControlledWorld C). HasEnded v.world ⊎ AreOpen v.world)

  -- The SyncAck that answers the client's Sync opens it.
  sync-ack-opens : (w : ControlledWorld C) → IsUnderWay 1 w.world → IsHalfOpen w.world
      → IsSent w.world.server w.world.server.end.marks.gss (kind.SyncAck w.world.client.end.marks.gss) → Leads 1 w
  sync-ack-opens w u half out =
      let e : EndState = w.world.client.end in
      let n : ℕ = w.world.server.end.marks.gss in
      let k : Kind = kind.SyncAck e.marks.gss in
      let d =
      arriving control effects 1 w ClientFirst n k u out (gss-small 1 w.world u ServerFirst) (sync-ack-bare e.marks.gss (gss-small 1 w.world u ClientFirst)) in
      let valid = verdict-so e d.frame.bytes n k d.here verdicts.Valid (low-end-valid e.marks n (heard-so 1 w.world u ClientFirst (ap is_live half.0))) in
      let moves =
      nothing-answered e d.frame.bytes d.here.packet d.here.came role.Client phases.PartOpen phases.Open types.SyncAck reply.Nothing part-sync-ack
      u.roles.is_client half.0 d.here.type_is d.here.listed valid refl in
      let now = event.Deliver Server d.index in
      let left = after-moves control effects 0 w now ClientFirst _ _ _ _ _ d.acts moves u in
      leads-by control 0 w _ now tt
      (leads-here control (next control w now) _
      (inr (both-open (next control w now).world left.phase (ap (λ (h : Half). h.end.phase) left.rests ∙ half.1))))

  -- The Sync, for the server's last number, is answered by that.
  sync-opens : (w : ControlledWorld C) → IsUnderWay 2 w.world → IsHalfOpen w.world
      → IsSent w.world.client w.world.client.end.marks.gss (kind.Sync w.world.server.end.marks.gss) → Leads 2 w
  sync-opens w u half out =
      let e : EndState = w.world.server.end in
      let n : ℕ = w.world.client.end.marks.gss in
      let k : Kind = kind.Sync e.marks.gss in
      let c =
      arriving control effects 2 w ServerFirst n k u out (gss-small 2 w.world u ClientFirst) (sync-bare e.marks.gss (gss-small 2 w.world u ServerFirst)) in
      let says =
      sync-acked e c.frame.bytes c.here.packet c.here.came role.Server phases.Open phases.Open types.Sync reply.SyncAck (open-sync role.Server) u.roles.is_server
      half.1 c.here.type_is c.here.listed
      (verdict-so e c.frame.bytes n k c.here verdicts.Valid (low-end-valid e.marks n (heard-so 2 w.world u ServerFirst (ap is_live half.1)))) refl in
      let now = event.Deliver Client c.index in
      let v : ControlledWorld C = next control w now in
      let said = after-says control effects 1 w now ServerFirst _ _ _ _ _ _ c.acts says u in
      let still : v.world.client ≡ w.world.client = said.is_after.rests in
      let sync_ack : IsSent v.world.server v.world.server.end.marks.gss (kind.SyncAck v.world.client.end.marks.gss) =
      subst (λ (m : ℕ). IsSent v.world.server v.world.server.end.marks.gss (kind.SyncAck m))
      (c.here.numbered ∙ sym (ap (λ (h : Half). h.end.marks.gss) still)) said.sent in
      leads-by control 1 w _ now tt
      (sync-ack-opens v said.is_after.under_way (ap (λ (h : Half). h.end.phase) still ∙ half.0, said.is_after.phase) sync_ack)

  -- An Ack under the server's last number opens the client, or a fault of its options closes it, or a Sync answers it.
  module _ (w : ControlledWorld C) (u : IsUnderWay 3 w.world) (half : IsHalfOpen w.world) (index : ℕ) (frame : SentFrame) (a : Incoming)
      (came : Came w.world.client.end (Arrives frame.bytes) a) (type_is : a.kind ≡ types.Ack) (numbered : a.number ≡ w.world.server.end.marks.gss) (ack : ℕ)
      (acks : a.ack ≡ Some ack)
      (acts : Acts w.world (next control w (event.Deliver Server index)).world Client Server
      (moved w.world.client (Some frame.number) (receives w.world.client.end frame.bytes))) where
    abbrev e : EndState
    e = w.world.client.end

    abbrev n : ℕ
    n = w.world.server.end.marks.gss

    abbrev z : EndState
    z = with_raised_marks e a

    abbrev now : Event
    now = event.Deliver Server index

    abbrev v : ControlledWorld C
    v = next control w now

    verdict-is : (is : Verdict) → by_window e.marks n (Some ack) ≡ is → verdict_of e a ≡ is
    verdict-is is same = rw (type_is, numbered, acks) same

    valid-opens : verdict_of e a ≡ verdicts.Valid → Leads 1 w
    valid-opens fits =
        leads-by control 0 w _ now tt (leads-here control v _ (by (reads_options z a) refl))
      where
        goes : receives e frame.bytes ≡ heeded z a (reads_options z a)
        goes = row-heeds e frame.bytes a came role.Client phases.PartOpen phases.Open types.Ack reply.Nothing part-ack u.roles.is_client half.0 type_is fits

        next_is : after z.phase a.kind ≡ (phases.Open, reply.Nothing)
        next_is = next-so e frame.bytes a came role.Client phases.PartOpen phases.Open types.Ack reply.Nothing part-ack u.roles.is_client half.0 type_is fits

        by : (r : Result ReadingState Fault) → reads_options z a ≡ r → HasEnded v.world ⊎ AreOpen v.world
        by (Ok h) read =
            inr (both-open v.world
            (ap (λ (t : Half). t.end.phase) acts.acting ∙ ap (λ (t : Step Outcome). t.after.phase) (goes ∙ ap (heeded z a) read)
            ∙ (keeps z a (proper-of 3 w.world u ClientFirst).rows next_is h read).phase)
            (ap (λ (t : Half). t.end.phase) acts.resting ∙ half.1))
        by (Err fault) read =
            inl (inl (inl
            (ap (λ (t : Half). t.end.phase) acts.acting ∙ ap (λ (t : Step Outcome). t.after.phase) (goes ∙ ap (heeded z a) read)
            ∙ (shut-by z a (proper-of 3 w.world u ClientFirst).rows next_is fault).closed)))

    ack-opens : Leads 3 w
    ack-opens =
        elim (window-or e.marks n (Some ack)) [
          | inl valid ↦ leads-within control 1 3 w _ (omega arith) (valid-opens (verdict-is verdicts.Valid valid))
          | inr bad ↦
              let checked = entrance-so e a phases.PartOpen types.Ack entrance.Check half.0 type_is refl in
              let says = bad-comes e frame.bytes a came n checked (verdict-is (verdicts.SyncFor n) bad) in
              let said = after-says control effects 2 w now ClientFirst _ _ _ _ _ _ acts says u in
              let still : v.world.server ≡ w.world.server = said.is_after.rests in
              let sent : IsSent v.world.client v.world.client.end.marks.gss (kind.Sync v.world.server.end.marks.gss) =
              subst (λ (h : Half). IsSent v.world.client v.world.client.end.marks.gss (kind.Sync h.end.marks.gss)) (sym still) said.sent in
              leads-by control 2 w _ now tt
              (sync-opens v said.is_after.under_way (said.is_after.phase ∙ half.0, ap (λ (h : Half). h.end.phase) still ∙ half.1) sent)
        ]

  -- a long one
  told-opens : (w : ControlledWorld C) → IsUnderWay 3 w.world → IsHalfOpen w.world → (d : Draft) (ack : ℕ) → IsSendable d → d.kind ≡ kind.Ack (Long ack)
      → ack < 2 ^ 48 → IsOut w.world.server w.world.server.end.marks.gss d → Leads 3 w
  told-opens w u half d ack sendable is_kind small out =
      let b =
      coming control effects 3 w ClientFirst w.world.server.end.marks.gss d u out (gss-small 3 w.world u ServerFirst) (ack-plain d ack sendable is_kind small) in
      ack-opens w u half b.index b.frame b.here.packet b.here.came (b.here.type_is ∙ ap packet_type is_kind) b.here.numbered ack
      (b.here.acks ∙ ap ack_of is_kind) b.acts

  -- The timer ack of the server, in the form that it has.
  acks-opens : (w : ControlledWorld C) → IsUnderWay 4 w.world → AreFew 4 w.world → IsHalfOpen w.world
      → (is_settled_on_one (held_of w.world.server.end ShortSeqnos Here) ≡ true → takes_short w.world.client.end ≡ true) → Leads 4 w
  acks-opens w u few half takes =
      let e : EndState = w.world.server.end in
      let flies : Bool = has_in_flight control (congestion_of w Server) in
      let acks = ack-alone e flies half.1 in
      let acts = timer-acts control effects w ServerFirst timers.Ack 4 u in
      let s : Step Bool = fires e timers.Ack flies in
      let now = event.Timer Server timers.Ack in
      let v : ControlledWorld C = next control w now in
      let u1 = under-way-next control effects 3 w now ServerFirst None s acts acks.says.config u in
      let few1 = few-next control effects 3 w now few in
      let out : IsOutAs v.world.server v.world.server.end.marks.gss acks.draft = out-as v.world.server w.world.server None s acks.draft acts.acting acks.says in
      let near = near-so control effects v ClientFirst 3 u1 few1 out.index out.frame out.is_there in
      let still : v.world.client ≡ w.world.client = acts.resting in
      let small : e.marks.gsr < 2 ^ 48 = gsr-small 4 w.world u ServerFirst in
      let before : is_settled_on_one (held_of v.world.server.end ShortSeqnos Here) ≡ is_settled_on_one (held_of e ShortSeqnos Here) =
      ap (λ (rows : List Row). is_settled_on_one (held_by (row_at rows ShortSeqnos Here))) (ap (λ (h : Half). h.end.rows) acts.acting ∙ acks.says.rows_are) in
      let here =
      either-read v.world.server.end.config v.world.client.end v.world.server.end.marks.gss acks.draft out.short out.frame (meant-of 3 v.world ClientFirst u1)
      (fits-of 3 v.world u1 ServerFirst) (gss-small 3 v.world u1 ServerFirst) (gsr-small 3 v.world u1 ClientFirst) (gss-small 3 v.world u1 ClientFirst)
      acks.sendable (subst KindFits (sym acks.is_kind) small)
      (subst (λ (k : Kind). ack_of (kind_in_widths k) ≡ ack_of k) (sym acks.is_kind) (ap Some (omega (arith, small)))) out.may
      (λ is. ap (λ (h : Half). takes_short h.end) still ∙ takes (sym before ∙ out.settled is)) out.bytes_are out.number_is out.ack_is near in
      let lands = arrives control effects v ClientFirst out.index out.frame out.is_there (room-so v.world.client 3 (u1.room Client)) near in
      leads-by control 3 w _ now tt
      (ack-opens v u1 (ap (λ (h : Half). h.end.phase) still ∙ half.0, ap (λ (h : Half). h.end.phase) acts.acting ∙ acks.says.phase) out.index out.frame
      here.packet here.came (here.type_is ∙ ap packet_type acks.is_kind) here.numbered e.marks.gsr (here.acks ∙ ap ack_of acks.is_kind) lands)

  -- The client has asked, in PARTOPEN.
  record HasQuestion (more : ℕ) (w v : WorldState) : Type 0 where
    under_way : IsUnderWay more v
    half : IsHalfOpen v
    rests : v.server ≡ w.server
    gss_is : v.client.end.marks.gss ≡ next_number w.client.end
    rows_are : v.client.end.rows ≡ asked w.client.end.rows (next_number w.client.end)
    draft : Draft
    is_kind : draft.kind ≡ kind.Ack (Long w.client.end.marks.gsr)
    sendable : IsSendable draft
    out : IsOut v.client v.client.end.marks.gss draft
    has_vector : Bool
    vectors : Vectors
    set : MarkedSet
    greatest : ℕ
    options_are : draft.options
        ≡ own_options has_vector vectors set greatest [] (asked w.client.end.rows (next_number w.client.end)) (due_keys w.client.end.rows)

  fewer-question : (fewer more : ℕ) (old new : WorldState) → fewer ≤ more → HasQuestion more old new → HasQuestion fewer old new
  fewer-question fewer more old new less q =
      record {
        under_way = fewer-under-way fewer more new less q.under_way;
        half = q.half;
        rests = q.rests;
        gss_is = q.gss_is;
        rows_are = q.rows_are;
        draft = q.draft;
        is_kind = q.is_kind;
        sendable = q.sendable;
        out = q.out;
        has_vector = q.has_vector;
        vectors = q.vectors;
        set = q.set;
        greatest = q.greatest;
        options_are = q.options_are;
      }

  abbrev Question : Event
  Question = event.Timer Client timers.Negotiate

  question-sent : (more : ℕ) (w : ControlledWorld C) → IsUnderWay (more + 1) w.world → IsHalfOpen w.world → (k : Key) (keys : List Key)
      → due_keys w.world.client.end.rows ≡ k ∷ keys → HasQuestion more w.world (next control w Question).world
  question-sent more w u half k keys due =
      let e : EndState = w.world.client.end in
      let flies : Bool = has_in_flight control (congestion_of w Client) in
      let speaks = negotiate-speaks e flies phases.PartOpen refl k keys (proper-of (more + 1) w.world u ClientFirst) half.0 due in
      let v : ControlledWorld C = next control w Question in
      let s : Step Bool = fires e timers.Negotiate flies in
      let acts = timer-acts control effects w ClientFirst timers.Negotiate (more + 1) u in
      let told = after-tells control effects more w Question ClientFirst None s e phases.PartOpen _ acts speaks.tells refl u in
      let rows : s.after.rows ≡ asked e.rows (next_number e) =
      negotiate-rows e flies phases.PartOpen refl k keys half.0 due ∙ ap (λ (ks : List Key). turned-rows e.rows (sendings (next_number e) ks)) (sym due) in
      record {
        under_way = told.under_way;
        half = (told.phase, ap (λ (h : Half). h.end.phase) acts.resting ∙ half.1);
        rests = acts.resting;
        gss_is = told.gss_is;
        rows_are = ap (λ (h : Half). h.end.rows) acts.acting ∙ rows;
        draft = told.draft;
        is_kind = told.is_kind;
        sendable = told.sendable;
        out = told.out;
        has_vector = speaks.has_vector;
        vectors = speaks.vectors;
        set = speaks.set;
        greatest = speaks.greatest;
        options_are =
            ap (λ (d : Draft). d.options) told.draft_is ∙ speaks.options_are
            ∙ ap (λ (rs : List Row). own_options speaks.has_vector speaks.vectors speaks.set speaks.greatest [] rs (k ∷ keys)) rows
            ∙ ap (λ (ks : List Key). own_options speaks.has_vector speaks.vectors speaks.set speaks.greatest [] (asked e.rows (next_number e)) ks) (sym due);
      }

  abbrev short-there : Key
  short-there = (ShortSeqnos, There)

  -- The server, whose row is not UNSTABLE, answers what is valid by a Confirm, and that opens the client.
  module _ (before : WorldState) (w : ControlledWorld C) (q : HasQuestion 4 before w.world) (sound : IsNegotiation before.client.end.rows)
      (due : is_due (row_at before.client.end.rows ShortSeqnos There) ≡ true)
      (settled : (row_at w.world.server.end.rows ShortSeqnos Here).stand ≢ stand.Unstable) (small : before.client.end.marks.gsr < 2 ^ 48)
      (valid : by_window w.world.server.end.marks w.world.client.end.marks.gss (Some before.client.end.marks.gsr) ≡ verdicts.Valid)
      (later : is_before w.world.server.end.marks.gsr w.world.client.end.marks.gss ≡ true) where
    abbrev coming-there : IsComing control effects w Server Client w.world.client.end.marks.gss q.draft
    coming-there =
        coming control effects 4 w ServerFirst w.world.client.end.marks.gss q.draft q.under_way q.out (gss-small 4 w.world q.under_way ClientFirst)
        (ack-plain q.draft before.client.end.marks.gsr q.sendable q.is_kind small)

    abbrev heard-packet : Incoming
    heard-packet = coming-there.here.packet

    abbrev taken : EndState
    taken = with_raised_marks w.world.server.end heard-packet

    abbrev hearing : Event
    hearing = event.Deliver Client coming-there.index

    abbrev heard-world : ControlledWorld C
    heard-world = next control w hearing

    type_is : heard-packet.kind ≡ types.Ack
    type_is = coming-there.here.type_is ∙ ap packet_type q.is_kind

    fits : verdict_of w.world.server.end heard-packet ≡ verdicts.Valid
    fits =
        verdict-read w.world.server.end coming-there.frame.bytes w.world.client.end.marks.gss q.draft coming-there.here verdicts.Valid
        (ap (λ (k : Kind). verdict w.world.server.end.marks (packet_type k) w.world.client.end.marks.gss (ack_of k)) q.is_kind ∙ valid)

    goes : receives w.world.server.end coming-there.frame.bytes ≡ heeded taken heard-packet (reads_options taken heard-packet)
    goes =
        row-heeds w.world.server.end coming-there.frame.bytes heard-packet coming-there.here.came role.Server phases.Open phases.Open types.Ack reply.Nothing (open-ack role.Server)
        q.under_way.roles.is_server q.half.1 type_is fits

    next_is : after taken.phase heard-packet.kind ≡ (phases.Open, reply.Nothing)
    next_is =
        next-so w.world.server.end coming-there.frame.bytes heard-packet coming-there.here.came role.Server phases.Open phases.Open types.Ack reply.Nothing (open-ack role.Server)
        q.under_way.roles.is_server q.half.1 type_is fits

    newest : heard-packet.newest ≡ true
    newest = coming-there.here.newest_is ∙ newest-so w.world.server.end w.world.client.end.marks.gss later

    confirms : (h : ReadingState) → reads_options taken heard-packet ≡ Ok h → has_confirms h.confirms ≡ true
    confirms h read = by-confirms (no-confirms-or h.confirms) where
      its : (some : List ℕ) × (confirm_for (over short-there) h.confirms ≡ Some some)
      its =
          confirm-due before.client.end.rows sound (next_number before.client.end) w.world.server.end.rows
          (proper-of 4 w.world q.under_way ServerFirst).rows.sound heard-packet.ack q.has_vector q.vectors q.set q.greatest heard-packet.options
          (coming-there.here.listed ∙ ap (λ (items : List Item). map Ok (entries_at 0 items)) q.options_are) h
          (same-read (heard-packet.newest && counts taken.phase heard-packet.kind) heard-packet.ack heard-packet.ack w.world.server.end.rows heard-packet.options heard-packet.options h
          (counting-so heard-packet.newest taken.phase heard-packet.kind newest q.half.1 type_is) refl refl read) short-there due settled

      by-confirms : (h.confirms ≡ []) ⊎ (has_confirms h.confirms ≡ true) → has_confirms h.confirms ≡ true
      by-confirms (inr some) = some
      by-confirms (inl none) = let no : None ≡ Some its.0 = sym (ap (confirm_for (over short-there)) none) ∙ its.1 in cc no

    read-by : (r : Result ReadingState Fault) → reads_options taken heard-packet ≡ r → Leads 3 heard-world
    read-by (Err fault) read =
        leads-within control 0 3 heard-world _ (omega arith)
        (leads-here control heard-world _
        (inl (inr (inl
        (ap (λ (t : Half). t.end.phase) coming-there.acts.acting ∙ ap (λ (t : Step Outcome). t.after.phase) (goes ∙ ap (heeded taken heard-packet) read)
        ∙ (shut-by taken heard-packet (proper-of 4 w.world q.under_way ServerFirst).rows next_is fault).closed)))))
    read-by (Ok h) read =
        let s : Step Outcome = heeded taken heard-packet (Ok h) in
        let same : receives w.world.server.end coming-there.frame.bytes ≡ s = goes ∙ ap (heeded taken heard-packet) read in
        let acts : Acts w.world heard-world.world Server Client (moved w.world.server (Some coming-there.frame.number) s) =
        subst (λ (t : Step Outcome). Acts w.world heard-world.world Server Client (moved w.world.server (Some coming-there.frame.number) t)) same coming-there.acts in
        let speaks = confirms-speak taken heard-packet (proper-of 4 w.world q.under_way ServerFirst).rows next_is h read (confirms h read) in
        let told = after-tells control effects 3 w hearing ServerFirst (Some coming-there.frame.number) s taken phases.Open _ acts speaks.tells refl q.under_way in
        told-opens heard-world told.under_way (ap (λ (t : Half). t.end.phase) acts.resting ∙ q.half.0, told.phase) told.draft taken.marks.gsr told.sendable told.is_kind
        (subst (λ (n : ℕ). n < 2 ^ 48) told.gsr_is (gsr-small 3 heard-world.world told.under_way ServerFirst)) told.out

    question-opens : Leads 4 w
    question-opens = leads-by control 3 w _ hearing tt (read-by (reads_options taken heard-packet) refl)

  due-so : (rows : List Row) → IsNegotiation rows → is_due (row_at rows ShortSeqnos There) ≡ true → due_keys rows ≢ []
  due-so rows sound due none =
      let no : is_due (row_at rows ShortSeqnos There) ≡ false = sym (has-due rows short-there sound) ∙ ap (has_key short-there) none in cc (no, due)

  later-of : (more : ℕ) (w : ControlledWorld C) (v : WorldState) → IsUnderWay more w.world → IsHalfOpen w.world → v.server ≡ w.world.server
      → v.client.end.marks.gss ≡ next_number w.world.client.end → is_before v.server.end.marks.gsr v.client.end.marks.gss ≡ true
  later-of more w v u half rests gss =
      subst (λ (h : Half). is_before h.end.marks.gsr v.client.end.marks.gss ≡ true) (sym rests)
      (next-newest w.world.server.end.marks w.world.client.end.marks.gss v.client.end.marks.gss (heard-so more w.world u ServerFirst (ap is_live half.1)) gss)

  -- In step the question is valid.
  step-asks : (w : ControlledWorld C) → AreInStep control effects 5 w.world Client Server phases.PartOpen phases.Open
      → is_due (row_at w.world.client.end.rows ShortSeqnos There) ≡ true
      → (row_at w.world.server.end.rows ShortSeqnos Here).stand ≢ stand.Unstable → Leads 5 w
  step-asks w k due settled = by (due_keys w.world.client.end.rows) refl where
    half : IsHalfOpen w.world
    half = (k.phase, k.peer_phase)

    sound : IsNegotiation w.world.client.end.rows
    sound = (proper-of 5 w.world k.under_way ClientFirst).rows.sound

    by : (keys : List Key) → due_keys w.world.client.end.rows ≡ keys → Leads 5 w
    by [] none = absurd (due-so w.world.client.end.rows sound due none)
    by (key ∷ keys) is =
        let q = question-sent 4 w k.under_way half key keys is in
        let v : ControlledWorld C = next control w Question in
        let m : Marks = w.world.server.end.marks in
        let near : (m.gss ≡ m.gar) ⊎ (m.gss ≡ residue (m.gar + 1)) = subst (λ (g : ℕ). (m.gss ≡ g) ⊎ (m.gss ≡ residue (g + 1))) k.told k.near in
        let ordered = own-in-order 5 w.world k.under_way ServerFirst (ap is_begun k.peer_phase) in
        let within : is_ack_within (ack_low m) (ack_high m) (Some m.gar) ≡ true =
        gar-within m (proper-of 5 w.world k.under_way ServerFirst).widths ordered (first-so 5 w.world k.under_way ServerFirst) near in
        let at : ℕ = next_number w.world.client.end in
        let valid : by_window m at (Some w.world.client.end.marks.gsr) ≡ verdicts.Valid =
        window-both m at (Some w.world.client.end.marks.gsr)
        (near-in-window m w.world.client.end.marks.gss at (heard-so 5 w.world k.under_way ServerFirst (ap is_live k.peer_phase))
        (inl (ap (λ (g : ℕ). residue (g + 1)) (sym k.heard))))
        (subst (λ (g : ℕ). is_ack_within (ack_low m) (ack_high m) (Some g) ≡ true) (sym k.told) within) in
        leads-by control 4 w _ Question tt
        (question-opens w.world v q sound due (λ is. settled (sym (ap (λ (h : Half). (row_at h.end.rows ShortSeqnos Here).stand) q.rests) ∙ is))
        (gsr-small 5 w.world k.under_way ClientFirst)
        (subst (λ (h : Half). by_window h.end.marks v.world.client.end.marks.gss (Some w.world.client.end.marks.gsr) ≡ verdicts.Valid) (sym q.rests)
        (subst (λ (n : ℕ). by_window m n (Some w.world.client.end.marks.gsr) ≡ verdicts.Valid) (sym q.gss_is) valid))
        (later-of 5 w v.world k.under_way half q.rests q.gss_is))

  changing-due : (row : Row) → row.stand ≡ stand.Changing → is_due row ≡ true
  changing-due row is = rw is refl

  -- The client asks, and once more in step where that is not valid.
  module _ (w : ControlledWorld C) (u : IsUnderWay 9 w.world) (half : IsHalfOpen w.world) (due : is_due (row_at w.world.client.end.rows ShortSeqnos There) ≡ true)
      (settled : (row_at w.world.server.end.rows ShortSeqnos Here).stand ≢ stand.Unstable) where
    asking-sound : IsNegotiation w.world.client.end.rows
    asking-sound = (proper-of 9 w.world u ClientFirst).rows.sound

    abbrev gsr : ℕ
    gsr = w.world.client.end.marks.gsr

    abbrev asked-world : ControlledWorld C
    asked-world = next control w Question

    refused : HasQuestion 8 w.world asked-world.world
        → by_window asked-world.world.server.end.marks asked-world.world.client.end.marks.gss (Some gsr) ≡ verdicts.SyncFor asked-world.world.client.end.marks.gss → Leads 8 asked-world
    refused q bad =
        let e : EndState = asked-world.world.server.end in
        let n : ℕ = asked-world.world.client.end.marks.gss in
        let its : IsComing control effects asked-world Server Client n q.draft =
        coming control effects 8 asked-world ServerFirst n q.draft q.under_way q.out (gss-small 8 asked-world.world q.under_way ClientFirst)
        (ack-plain q.draft gsr q.sendable q.is_kind (gsr-small 9 w.world u ClientFirst)) in
        let a : Incoming = its.here.packet in
        let checked = entrance-so e a phases.Open types.Ack entrance.Check q.half.1 (its.here.type_is ∙ ap packet_type q.is_kind) refl in
        let says =
        bad-comes e its.frame.bytes a its.here.came n checked
        (verdict-read e its.frame.bytes n q.draft its.here (verdicts.SyncFor n)
        (ap (λ (k : Kind). verdict e.marks (packet_type k) n (ack_of k)) q.is_kind ∙ bad)) in
        let now = event.Deliver Client its.index in
        let o : ControlledWorld C = next control asked-world now in
        let said = after-says control effects 7 asked-world now ServerFirst _ _ _ _ _ _ its.acts says q.under_way in
        let still : o.world.client ≡ asked-world.world.client = said.is_after.rests in
        let sent : IsSent o.world.server o.world.server.end.marks.gss (kind.Sync o.world.client.end.marks.gss) =
        subst (λ (h : Half). IsSent o.world.server o.world.server.end.marks.gss (kind.Sync h.end.marks.gss)) (sym still) said.sent in
        let u1 = said.is_after.under_way in
        let by =
        get-in-step control effects 5 o u1 ClientFirst role.Client role.Server phases.PartOpen phases.Open sync-answered (open-sync-ack role.Server)
        u1.roles.is_client u1.roles.is_server (ap (λ (h : Half). h.end.phase) still ∙ q.half.0) (said.is_after.phase ∙ q.half.1) refl refl refl sent in
        let s : ControlledWorld C = next control (next control o (event.Deliver Server by.first)) (event.Deliver Client by.second) in
        let rows : s.world.client.end.rows ≡ asked w.world.client.end.rows (next_number w.world.client.end) =
        by.rows_are ∙ ap (λ (h : Half). h.end.rows) still ∙ q.rows_are in
        let theirs : s.world.server.end.rows ≡ w.world.server.end.rows =
        by.peer_rows ∙ said.is_after.rows_are ∙ ap (λ (h : Half). h.end.rows) q.rests in
        leads-by control 7 asked-world _ now tt
        (leads-by control 6 o _ (event.Deliver Server by.first) tt
        (leads-by control 5 (next control o (event.Deliver Server by.first)) _ (event.Deliver Client by.second) tt
        (step-asks s by.in_step
        (ap (λ (rs : List Row). is_due (row_at rs ShortSeqnos There)) rows
        ∙ changing-due (row_at (asked w.world.client.end.rows (next_number w.world.client.end)) ShortSeqnos There) (asked-changing w.world.client.end.rows asking-sound (next_number w.world.client.end) short-there due))
        (λ is. settled (sym (ap (λ (rs : List Row). (row_at rs ShortSeqnos Here).stand) theirs) ∙ is)))))

    asking-by : (keys : List Key) → due_keys w.world.client.end.rows ≡ keys → Leads 9 w
    asking-by [] none = absurd (due-so w.world.client.end.rows asking-sound due none)
    asking-by (key ∷ keys) is =
        let q = question-sent 8 w u half key keys is in
        leads-by control 8 w _ Question tt
        (elim (window-or asked-world.world.server.end.marks asked-world.world.client.end.marks.gss (Some gsr)) [
          | inl valid ↦
              leads-within control 4 8 asked-world _ (omega arith)
              (question-opens w.world asked-world (fewer-question 4 8 w.world asked-world.world (omega arith) q) asking-sound due
              (λ is. settled (sym (ap (λ (h : Half). (row_at h.end.rows ShortSeqnos Here).stand) q.rests) ∙ is)) (gsr-small 9 w.world u ClientFirst) valid
              (later-of 9 w asked-world.world u half q.rests q.gss_is))
          | inr bad ↦ refused q bad
        ])

    asking-opens : Leads 9 w
    asking-opens = asking-by (due_keys w.world.client.end.rows) refl

  -- Where the server may send short, its row is settled on that: so is the client's, or the client asks.
  module _ (w : ControlledWorld C) (u : IsUnderWay 9 w.world) (few : AreFew 4 w.world) (half : IsHalfOpen w.world) (agree : Agree w.world) where
    acked : (is_settled_on_one (held_of w.world.server.end ShortSeqnos Here) ≡ true → takes_short w.world.client.end ≡ true) → Leads 9 w
    acked takes = leads-within control 4 9 w _ (omega arith) (acks-opens w (fewer-under-way 4 9 w.world (omega arith) u) few half takes)

    abbrev theirs : Row
    theirs = row_at w.world.server.end.rows ShortSeqnos Here

    abbrev ours : Row
    ours = row_at w.world.client.end.rows ShortSeqnos There

    takes-so : is_settled_on_one (held_of w.world.server.end ShortSeqnos Here) ≡ true → is_due ours ≡ false → takes_short w.world.client.end ≡ true
    takes-so one quiet =
        let stable = settled-stable theirs.stand (theirs.value == 1) one in
        let same = alike w.world agree (record { feature = ShortSeqnos; location = Server }) (quiet-stable ours quiet, stable) Client Server in
        ap (λ (p : Phase). is_live p && (value_in w.world.client.end.rows ShortSeqnos There == 1)) half.0
        ∙ ap (λ (n : ℕ). n == 1) same ∙ settled-one (is_stable theirs.stand) (theirs.value == 1) one

    unstable-no : is_settled_on_one (held_of w.world.server.end ShortSeqnos Here) ≡ true → theirs.stand ≢ stand.Unstable
    unstable-no one is = cc (settled-stable theirs.stand (theirs.value == 1) one, is)

    half-by : (one : Bool) → is_settled_on_one (held_of w.world.server.end ShortSeqnos Here) ≡ one → Leads 9 w
    half-by false is = acked (λ one. cc (is, one))
    half-by true is = by-due (is_due ours) refl where
      by-due : (due : Bool) → is_due ours ≡ due → Leads 9 w
      by-due false quiet = acked (λ one. takes-so one quiet)
      by-due true due = asking-opens w u half due (unstable-no is)

    half-opens : Leads 9 w
    half-opens = half-by (is_settled_on_one (held_of w.world.server.end ShortSeqnos Here)) refl

module _ {C : Type 0} (control : Control C) (effects : EveryStepHasOneEffect) (client server : Config) (for_client for_server : C) (events : List Event)
    (is_client : client.role ≡ role.Client) (is_server : server.role ≡ role.Server) (client_fits : Fits client) (server_fits : Fits server)
    (paired : AreForEachOther client server) (safe : (all : List Event) → Safe control (plays_from_start control client server for_client for_server all)) where
  abbrev reached : ControlledWorld C
  reached = plays_from_start control client server for_client for_server events

  abbrev Goal : ControlledWorld C → Type 0
  Goal v = HasEnded v.world ⊎ AreOpen v.world

  -- after a way to where the client is in PARTOPEN and the server in OPEN
  half-on : (more : List Event) → AreFew 9 (plays control reached more).world → IsHalfOpen (plays control reached more).world
      → HasWay control 9 (plays control reached more) Goal
  half-on more few half = half-opens control effects v under_way (λ side. omega (arith, few side)) half agree where
    v : ControlledWorld C
    v = plays control reached more

    all : ControlledWorld C
    all = plays_from_start control client server for_client for_server (events ++ more)

    same : all ≡ v
    same = plays-joined control (begins_with control client server for_client for_server) events more

    agree : Agree v.world
    agree = subst (λ (z : ControlledWorld C). Agree z.world) same (safe (events ++ more)).agree

    few-all : AreFew 9 all.world
    few-all = subst (λ (z : ControlledWorld C). AreFew 9 z.world) (sym same) few

    under_way : IsUnderWay 9 v.world
    under_way =
        subst (λ (z : ControlledWorld C). IsUnderWay 9 z.world) same
        (start-under-way control effects 9 client server for_client for_server (events ++ more) is_client is_server client_fits server_fits paired
        (λ side. omega (arith, few-all side)))

  pub opened-leads : IsInHandshake reached.world → AreFew 13 reached.world → HasWay control 13 reached Goal
  opened-leads opening few =
      elim first.leads [
        | inl over ↦ record { events = first.events; are_passive = first.are_passive; few = omega (arith, first.few); leads = inl over }
        | inr half ↦
            way-joined control 4 9 reached Goal first.events first.are_passive first.few
            (half-on first.events (few-plays control effects 9 reached first.events (λ each. omega (arith, few each, first.few))) half)
      ]
    where
      first : HasWay control 4 reached (λ (v : ControlledWorld C). HasEnded v.world ⊎ IsHalfOpen v.world)
      first =
          half-leads control effects client server for_client for_server events is_client is_server client_fits server_fits paired opening
          (λ each. omega (arith, few each))
