-- An end asks for all that it wants, and the other answers: what is known after each Ack of this.
use Rattle.std.proofs.Common.{◌≡◌, ◌≢◌, ◌⊎◌, inl, inr, refl, ap, sym, ◌∙◌, subst, ◌&&◌, ◌||◌, not, ℕ, ◌+◌, ◌^◌, ◌<◌, ◌≤◌, Bool, true, false, List, [], ◌∷◌, length, map, Option, Some, None, Result, Ok, Err, arith}
use Rattle.std.proofs.lemmas.List.{length-map}
use Rattle.ack_vectors.specs.declared.room.Vectors.{Vectors}
use Rattle.congestion_trait.specs.Control.{Control}
use Rattle.dccp_options.specs.Grammar.{Entry}
use Rattle.dccp_options.specs.Written.{Item, entries_at}
use Rattle.dccp_options.specs.declared.option.OptFault.{OptFault}
use Rattle.dccp_packets.specs.Grammar.{packet_type}
use Rattle.dccp_packets.specs.Kinds.{ack_of}
use Rattle.dccp_packets.specs.declared.header.Kind.{Kind}
use Rattle.dccp_packets.specs.declared.header.Kind.TheVariants as kind
use Rattle.dccp_packets.specs.declared.header.Number.TheVariants.{Long}
use Rattle.dccp_packets.specs.declared.header.PacketType.{PacketType}
use Rattle.dccp_packets.specs.declared.header.PacketType.TheVariants as types
use Rattle.dccp_states.specs.Phases.{after}
use Rattle.dccp_states.specs.declared.calls.Timer.TheVariants as timers
use Rattle.dccp_states.specs.declared.outcome.Fault.{Fault}
use Rattle.dccp_states.specs.declared.outcome.Outcome.{Outcome}
use Rattle.dccp_states.specs.declared.phase.Phase.{Phase}
use Rattle.dccp_states.specs.declared.phase.Phase.TheVariants as phases
use Rattle.dccp_states.specs.declared.phase.Role.{Role}
use Rattle.dccp_states.specs.declared.phase.Role.TheVariants as role
use Rattle.dccp_states.specs.declared.reply.Reply.TheVariants as reply
use Rattle.dccp_endpoint.specs.Calling.{fires}
use Rattle.dccp_endpoint.specs.Causes.{EveryStepHasOneEffect, verdict_of}
use Rattle.dccp_endpoint.specs.Controlled.{has_in_flight}
use Rattle.dccp_endpoint.specs.Drafts.{Draft, IsSendable}
use Rattle.dccp_endpoint.specs.End.{EndState, is_begun, is_live}
use Rattle.dccp_endpoint.specs.Faults.{counts}
use Rattle.dccp_endpoint.specs.Heeding.{DueConfirm, ReadingState, heeds, unheeded}
use Rattle.dccp_endpoint.specs.Incoming.{Incoming, is_newest}
use Rattle.dccp_endpoint.specs.Receiving.{heeded, reads_options, receives, with_raised_marks}
use Rattle.dccp_endpoint.specs.Saying.{own_options}
use Rattle.dccp_endpoint.specs.Speaking.{has_confirms}
use Rattle.dccp_endpoint.specs.Steps.{Step, next_number}
use Rattle.dccp_endpoint.specs.Turns.{Key, sendings}
use Rattle.feature_machine.specs.Negotiating.{IsNegotiation, due_keys, is_due, row_at}
use Rattle.feature_machine.specs.Rows.{answers_opening, row_step, Sends}
use Rattle.feature_machine.specs.Turns.{turned as turned-rows}
use Rattle.feature_machine.specs.declared.row.Row.{Row}
use Rattle.feature_machine.specs.declared.stands.Stand.TheVariants as stand
use Rattle.run_list.specs.MarkedSet.{MarkedSet}
use Rattle.seq_circle.specs.Circle.{is_before, later_of, residue}
use Rattle.two_ends.proofs.OfWorlds.Acting.{party_of}
use Rattle.two_ends.proofs.OfFeatures.FeatureSteps.{reached_keeps}
use Rattle.two_ends.proofs.OfWorlds.Numbering.{few-logged}
use Rattle.two_ends.proofs.OfFeatures.Viewing.{carried_of}
use Rattle.two_ends.specs.Controlled.{ControlledWorld, congestion_of}
use Rattle.two_ends.specs.FeatureRows.{opened_count}
use Rattle.two_ends.specs.World.{Half, WorldState, half_of, moved}
use Rattle.validity_windows.specs.Verdict.{by_window, verdict}
use Rattle.validity_windows.specs.declared.verdict.Verdict.{Verdict}
use Rattle.validity_windows.specs.declared.verdict.Verdict.TheVariants as verdicts
use Rattle.world_events.specs.declared.event.Event.{Event}
use Rattle.world_events.specs.declared.event.Event.TheVariants as event
use Rattle.world_events.specs.declared.event.Side.{Side}
use Rattle.world_events.specs.declared.event.Side.TheVariants.{Client, Server}
use Rattle.two_ends_progress.specs.Leading.{HasWay}
use Rattle.two_ends_progress.specs.Opening.{HasEnded}
use Rattle.two_ends_progress.proofs.Closing.{heard-in-order}
use Rattle.two_ends_progress.proofs.Exchanging.{confirms-speak, keeps, negotiate-rows, negotiate-speaks, shut-by}
use Rattle.two_ends_progress.proofs.Leading.{leads-by, leads-here, leads-within, next}
use Rattle.two_ends_progress.proofs.Numbers.{later-so, next-newest, self-before, sent-before}
use Rattle.two_ends_progress.proofs.Opening.{ack-plain, after-tells}
use Rattle.two_ends_progress.proofs.Receiving.{IsRow, next-so, row-heeds}
use Rattle.two_ends_progress.proofs.RowSteps.{sent-opened}
use Rattle.two_ends_progress.proofs.Settling.{answered-none-unstable, answered-stable, asked, none-unstable, over, over-twice, their-stands, unanswered}
use Rattle.two_ends_progress.proofs.Stepping.{Acts, AreTwo, ClientFirst, ServerFirst, IsComing, IsOut, IsUnderWay, coming, fewer-under-way, gss-small, heard-so, held-two, proper-of, timer-acts, turned, under-way-next, verdict-read}

-- the row of the tables of an Ack in OPEN, for both roles
pub open-ack : (who : Role) → IsRow who phases.Open types.Ack phases.Open reply.Nothing
open-ack role.Client = record { checked = refl; no_reset = λ is. cc is; expected = λ b. refl; for_us = λ x service. refl; next = refl }
open-ack role.Server = record { checked = refl; no_reset = λ is. cc is; expected = λ b. refl; for_us = λ x service. refl; next = refl }

-- The number of a row's last opening is that of a frame of its side.
module _ (more : ℕ) (w : WorldState) (u : IsUnderWay more w) where
  server-opened : (k : Key) → opened_count w.server.end.config.iss (row_at w.server.end.rows k.0 k.1).opened ≤ length (u.held.logs Server)
  server-opened k =
      let mine = (held-two w u.held ServerFirst).0 in
      let kept = reached_keeps _ _ _ (mine.negotiated.reached u.roles.is_server u.roles.is_client k) in
      let in_frames = kept.own.opened_in in
      let same = length-map (u.held.logs Server) (carried_of w.client.end.config.iss k) in
      omega (arith, in_frames, same)

  client-opened : (k : Key) → opened_count w.client.end.config.iss (row_at w.client.end.rows k.0 k.1).opened ≤ length (u.held.logs Client)
  client-opened k =
      subst (λ (key : Key). opened_count w.client.end.config.iss (row_at w.client.end.rows key.0 key.1).opened ≤ length (u.held.logs Client)) (over-twice k)
      (let mine = (held-two w u.held ServerFirst).0 in
      let kept = reached_keeps _ _ _ (mine.negotiated.reached u.roles.is_server u.roles.is_client (over k)) in
      let in_frames = kept.peers.opened_in in
      let same = length-map (u.held.logs Client) (carried_of w.server.end.config.iss (over (over k))) in
      omega (arith, in_frames, same))

  opened-so : {x y : Side} → AreTwo x y → (k : Key)
      → opened_count (half_of w x).end.config.iss (row_at (half_of w x).end.rows k.0 k.1).opened ≤ length (u.held.logs x)
  opened-so ClientFirst k = client-opened k
  opened-so ServerFirst k = server-opened k

  -- So what acknowledges the next frame answers the last opening of each row that asks with it.
  pub early-so : {x y : Side} (two : AreTwo x y) → is_begun (half_of w x).end.phase ≡ true → (k : Key) → is_due (row_at (half_of w x).end.rows k.0 k.1) ≡ true
      → answers_opening (row_step (row_at (half_of w x).end.rows k.0 k.1) (Sends (next_number (half_of w x).end))).row.opened (Some (next_number (half_of w x).end))
      ≡ true
  early-so {x} two begun k due =
      elim (sent-opened row n (λ stable. cc (due, stable))) [
        | inl now ↦ ap (λ (o : Option ℕ). answers_opening o (Some n)) now ∙ ap not (self-before n)
        | inr before ↦ ap (λ (o : Option ℕ). answers_opening o (Some n)) before.1 ∙ by row.opened refl before.0
      ]
    where
      n : ℕ
      n = next_number (half_of w x).end

      row : Row
      row = row_at (half_of w x).end.rows k.0 k.1

      by : (o : Option ℕ) → row.opened ≡ o → row.stand ≡ stand.Changing → answers_opening o (Some n) ≡ true
      by None none changing = absurd (((held-two w u.held two).0.negotiated.begun k).begun changing none)
      by (Some o) some changing =
          let mine = (held-two w u.held two).0 in
          let number = (mine.negotiated.begun k).early o some in
          let least = subst (λ (is : Option ℕ). opened_count (half_of w x).end.config.iss is ≤ length (u.held.logs x)) some (opened-so two k) in
          let few = few-logged (party_of w u.held.logs x) mine.ordered in
          ap not (sent-before (half_of w x).end.config.iss (length (u.held.logs x)) n o
          (omega (arith, mine.ordered.greatest)) few number.fits number.iss_fits least)

-- An end has asked: this is what it has sent, and its rows are those that asked, under the number.
pub record HasAsked (more : ℕ) (v : WorldState) (x y : Side) (their : Half) (rows : List Row) (n ack : ℕ) : Type 0 where
  pub rests : half_of v y ≡ their
  pub under_way : IsUnderWay more v
  pub here : (half_of v x).end.phase ≡ phases.Open
  pub there : (half_of v y).end.phase ≡ phases.Open
  pub gss_is : (half_of v x).end.marks.gss ≡ n
  pub gsr_is : (half_of v x).end.marks.gsr ≡ ack
  pub rows_are : (half_of v x).end.rows ≡ asked rows n
  pub draft : Draft
  pub is_kind : draft.kind ≡ kind.Ack (Long ack)
  pub sendable : IsSendable draft
  pub out : IsOut (half_of v x) (half_of v x).end.marks.gss draft
  pub has_vector : Bool
  pub vectors : Vectors
  pub set : MarkedSet
  pub greatest : ℕ
  pub options_are : draft.options ≡ own_options has_vector vectors set greatest [] (asked rows n) (due_keys rows)

-- An Ack with these Confirms is on its way from a side.
pub record HasAnswered (half : Half) (gsr before n : ℕ) (confirms : List DueConfirm) : Type 0 where
  pub newer : is_before gsr half.end.marks.gss ≡ true
  pub next_is : half.end.marks.gss ≡ residue (before + 1)
  pub draft : Draft
  pub is_kind : draft.kind ≡ kind.Ack (Long n)
  pub sendable : IsSendable draft
  pub out : IsOut half half.end.marks.gss draft
  pub has_vector : Bool
  pub vectors : Vectors
  pub set : MarkedSet
  pub greatest : ℕ
  pub options_are : draft.options ≡ own_options has_vector vectors set greatest confirms half.end.rows []

-- The other end has read that whole, and has answered, if a Confirm was due.
pub record HasHeard (more : ℕ) (v : WorldState) (x y : Side) (rows theirs : List Row) (n gsr before : ℕ) : Type 0 where
  pub mine_gsr : (half_of v x).end.marks.gsr ≡ gsr
  pub under_way : IsUnderWay more v
  pub here : (half_of v x).end.phase ≡ phases.Open
  pub there : (half_of v y).end.phase ≡ phases.Open
  pub gss_is : (half_of v x).end.marks.gss ≡ n
  pub rows_are : (half_of v x).end.rows ≡ asked rows n
  pub sound : IsNegotiation rows
  pub their_sound : IsNegotiation theirs
  pub ack : Option ℕ
  pub has_vector : Bool
  pub vectors : Vectors
  pub set : MarkedSet
  pub greatest : ℕ
  pub options : List (Result Entry OptFault)
  pub are : options ≡ map Ok (entries_at 0 (own_options has_vector vectors set greatest [] (asked rows n) (due_keys rows)))
  pub h : ReadingState
  pub read : heeds true ack (unheeded theirs) options ≡ Ok h
  pub their_rows : (half_of v y).end.rows ≡ h.rows
  pub heard : (half_of v y).end.marks.gsr ≡ n
  pub early : (k : Key) → is_due (row_at rows k.0 k.1) ≡ true → answers_opening (row_at (asked rows n) k.0 k.1).opened (Some n) ≡ true
  pub answer : (h.confirms ≡ []) ⊎ HasAnswered (half_of v y) gsr before n h.confirms

-- A round of the first side: its rows are settled where the other's are not UNSTABLE, and the other's stands stay.
pub record IsRound (more : ℕ) (w v : WorldState) (x y : Side) : Type 0 where
  pub under_way : IsUnderWay more v
  pub here : (half_of v x).end.phase ≡ phases.Open
  pub there : (half_of v y).end.phase ≡ phases.Open
  pub settles : (k : Key) → (row_at (half_of w y).end.rows (over k).0 (over k).1).stand ≢ stand.Unstable → (row_at (half_of v x).end.rows k.0 k.1).stand ≡ stand.Stable
  pub none : (k : Key) → (row_at (half_of v x).end.rows k.0 k.1).stand ≢ stand.Unstable
  pub stays : (k : Key) → (row_at (half_of v y).end.rows k.0 k.1).stand ≡ (row_at (half_of w y).end.rows k.0 k.1).stand

pub no-confirms-or : (confirms : List DueConfirm) → (confirms ≡ []) ⊎ (has_confirms confirms ≡ true)
no-confirms-or [] = inl refl
no-confirms-or (due ∷ rest) = inr refl

-- options count on a newest Ack in OPEN
pub counting-so : (newest : Bool) (p : Phase) (t : PacketType) → newest ≡ true → p ≡ phases.Open → t ≡ types.Ack → (newest && counts p t) ≡ true
counting-so newest p t new phase type = rw (new, phase, type) refl

pub newest-so : (e : EndState) (n : ℕ) → is_before e.marks.gsr n ≡ true → is_newest e n ≡ true
newest-so e n later = by (not (is_live e.phase)) where
  by : (b : Bool) → (b || is_before e.marks.gsr n) ≡ true
  by true = refl
  by false = later

-- what came of an Ack that is read in an end that has let it in
pub same-read : (count : Bool) (ack other : Option ℕ) (rows : List Row) (options given : List (Result Entry OptFault)) (h : ReadingState) → count ≡ true → ack ≡ other
    → options ≡ given → heeds count ack (unheeded rows) options ≡ Ok h → heeds true other (unheeded rows) given ≡ Ok h
same-read count ack other rows options given h counts acks same read =
    ap (λ (all : List (Result Entry OptFault)). heeds true other (unheeded rows) all) (sym same)
    ∙ ap (λ (a : Option ℕ). heeds true a (unheeded rows) options) (sym acks)
    ∙ ap (λ (c : Bool). heeds c ack (unheeded rows) options) (sym counts) ∙ read

module _ {C : Type 0} (control : Control C) (effects : EveryStepHasOneEffect) where
  abbrev pub role-of : WorldState → Side → Role
  role-of w x = (half_of w x).end.config.role

  ended-at : (w : WorldState) {x y : Side} → AreTwo x y → (half_of w x).end.phase ≡ phases.Closed → HasEnded w
  ended-at w ClientFirst closed = inl (inl closed)
  ended-at w ServerFirst closed = inr (inl closed)

  -- the timer negotiate, where rows ask
  pub ask : (more : ℕ) (w : ControlledWorld C) → IsUnderWay (more + 1) w.world → {x y : Side} (two : AreTwo x y) → (half_of w.world x).end.phase ≡ phases.Open
      → (half_of w.world y).end.phase ≡ phases.Open → (k : Key) (keys : List Key) → due_keys (half_of w.world x).end.rows ≡ k ∷ keys
      → HasAsked more (next control w (event.Timer x timers.Negotiate)).world x y (half_of w.world y) (half_of w.world x).end.rows (next_number (half_of w.world x).end)
      (half_of w.world x).end.marks.gsr
  ask more w u {x} {y} two here there k keys due =
      let e : EndState = (half_of w.world x).end in
      let flies : Bool = has_in_flight control (congestion_of w x) in
      let speaks = negotiate-speaks e flies phases.Open refl k keys (proper-of (more + 1) w.world u two) here due in
      let now = event.Timer x timers.Negotiate in
      let v : ControlledWorld C = next control w now in
      let s : Step Bool = fires e timers.Negotiate flies in
      let acts = timer-acts control effects w two timers.Negotiate (more + 1) u in
      let told = after-tells control effects more w now two None s e phases.Open _ acts speaks.tells refl u in
      let rows : s.after.rows ≡ asked e.rows (next_number e) =
      negotiate-rows e flies phases.Open refl k keys here due ∙ ap (λ (ks : List Key). turned-rows e.rows (sendings (next_number e) ks)) (sym due) in
      record {
        rests = acts.resting;
        under_way = told.under_way;
        here = told.phase;
        there = ap (λ (h : Half). h.end.phase) acts.resting ∙ there;
        gss_is = told.gss_is;
        gsr_is = told.gsr_is;
        rows_are = ap (λ (h : Half). h.end.rows) acts.acting ∙ rows;
        draft = told.draft;
        is_kind = told.is_kind;
        sendable = told.sendable;
        out = told.out;
        has_vector = speaks.has_vector;
        vectors = speaks.vectors;
        set = speaks.set;
        greatest = speaks.greatest;
        options_are =
            ap (λ (d : Draft). d.options) told.draft_is ∙ speaks.options_are
            ∙ ap (λ (rs : List Row). own_options speaks.has_vector speaks.vectors speaks.set speaks.greatest [] rs (k ∷ keys)) rows
            ∙ ap (λ (ks : List Key). own_options speaks.has_vector speaks.vectors speaks.set speaks.greatest [] (asked e.rows (next_number e)) ks) (sym due);
      }

  -- The other end takes that Ack where it is valid.
  module _ (more : ℕ) (w : ControlledWorld C) {x y : Side} (two : AreTwo x y) (rows theirs : List Row) (n ack : ℕ) (sound : IsNegotiation rows)
      (their_sound : IsNegotiation theirs) (their : Half) (a1 : HasAsked (more + 1) w.world x y their rows n ack) (theirs_are : (half_of w.world y).end.rows ≡ theirs) (ack_fits : ack < 2 ^ 48)
      (early : (k : Key) → is_due (row_at rows k.0 k.1) ≡ true → answers_opening (row_at (asked rows n) k.0 k.1).opened (Some n) ≡ true)
      (later : is_before (half_of w.world y).end.marks.gsr n ≡ true) where
    abbrev pub e : EndState
    e = (half_of w.world y).end

    abbrev pub at : ℕ
    at = (half_of w.world x).end.marks.gss

    pub c : IsComing control effects w y x at a1.draft
    c =
        coming control effects (more + 1) w (turned two) at a1.draft a1.under_way a1.out (gss-small (more + 1) w.world a1.under_way two)
        (ack-plain a1.draft ack a1.sendable a1.is_kind ack_fits)

    abbrev pub a : Incoming
    a = c.here.packet

    abbrev pub z : EndState
    z = with_raised_marks e a

    abbrev pub now : Event
    now = event.Deliver x c.index

    abbrev pub v : ControlledWorld C
    v = next control w now

    pub kind_is : a.kind ≡ types.Ack
    kind_is = c.here.type_is ∙ ap packet_type a1.is_kind

    pub verdict-as : (is : Verdict) → by_window e.marks n (Some ack) ≡ is → verdict_of e a ≡ is
    verdict-as is same =
        verdict-read e c.frame.bytes at a1.draft c.here is
        (ap (λ (k : Kind). verdict e.marks (packet_type k) at (ack_of k)) a1.is_kind ∙ ap (λ (m : ℕ). by_window e.marks m (Some ack)) a1.gss_is ∙ same)

    newest : a.newest ≡ true
    newest = c.here.newest_is ∙ newest-so e at (subst (λ (m : ℕ). is_before e.marks.gsr m ≡ true) (sym a1.gss_is) later)

    -- it goes through
    goes : verdict_of e a ≡ verdicts.Valid → receives e c.frame.bytes ≡ heeded z a (reads_options z a)
    goes fits =
        row-heeds e c.frame.bytes a c.here.came (role-of w.world y) phases.Open phases.Open types.Ack reply.Nothing (open-ack (role-of w.world y)) refl a1.there kind_is fits

    nothing : verdict_of e a ≡ verdicts.Valid → after z.phase a.kind ≡ (phases.Open, reply.Nothing)
    nothing fits =
        next-so e c.frame.bytes a c.here.came (role-of w.world y) phases.Open phases.Open types.Ack reply.Nothing (open-ack (role-of w.world y)) refl a1.there kind_is fits

    -- read whole
    heard : (fits : verdict_of e a ≡ verdicts.Valid) (h : ReadingState) → reads_options z a ≡ Ok h → HasHeard more v.world x y rows theirs n ack e.marks.gss
    heard fits h read =
        let s : Step Outcome = heeded z a (Ok h) in
        let same : receives e c.frame.bytes ≡ s = goes fits ∙ ap (heeded z a) read in
        let acts : Acts w.world v.world y x (moved (half_of w.world y) (Some c.frame.number) s) =
        subst (λ (t : Step Outcome). Acts w.world v.world y x (moved (half_of w.world y) (Some c.frame.number) t)) same c.acts in
        let its = (proper-of (more + 1) w.world a1.under_way (turned two)).rows in
        let kept = keeps z a its (nothing fits) h read in
        let heard_in_order = heard-in-order e.marks at (heard-so (more + 1) w.world a1.under_way (turned two) (ap is_live a1.there)) in
        let under_way = under-way-next control effects more w now (turned two) (Some c.frame.number) s acts kept.config a1.under_way in
        let gsr_is : (half_of v.world y).end.marks.gsr ≡ n =
        ap (λ (t : Half). t.end.marks.gsr) acts.acting ∙ kept.gsr_is ∙ ap (later_of e.marks.gsr) c.here.numbered ∙ later-so e.marks.gsr at heard_in_order ∙ a1.gss_is in
        let z_gsr : z.marks.gsr ≡ n = ap (later_of e.marks.gsr) c.here.numbered ∙ later-so e.marks.gsr at heard_in_order ∙ a1.gss_is in
        record {
          mine_gsr = ap (λ (t : Half). t.end.marks.gsr) acts.resting ∙ a1.gsr_is;
          under_way = under_way;
          here = ap (λ (t : Half). t.end.phase) acts.resting ∙ a1.here;
          there = ap (λ (t : Half). t.end.phase) acts.acting ∙ kept.phase;
          gss_is = ap (λ (t : Half). t.end.marks.gss) acts.resting ∙ a1.gss_is;
          rows_are = ap (λ (t : Half). t.end.rows) acts.resting ∙ a1.rows_are;
          sound = sound;
          their_sound = their_sound;
          ack = a.ack;
          has_vector = a1.has_vector;
          vectors = a1.vectors;
          set = a1.set;
          greatest = a1.greatest;
          options = a.options;
          are =
              c.here.listed ∙ ap (λ (items : List Item). map Ok (entries_at 0 items)) a1.options_are;
          h = h;
          read =
              subst (λ (rs : List Row). heeds true a.ack (unheeded rs) a.options ≡ Ok h) theirs_are
              (same-read (a.newest && counts z.phase a.kind) a.ack a.ack e.rows a.options a.options h (counting-so a.newest z.phase a.kind newest a1.there kind_is) refl refl read);
          their_rows = ap (λ (t : Half). t.end.rows) acts.acting ∙ kept.rows_are;
          heard = gsr_is;
          early = early;
          answer =
              elim (no-confirms-or h.confirms) [
                | inl none ↦ inl none
                | inr some ↦
                    let speaks = confirms-speak z a its (nothing fits) h read some in
                    let told = after-tells control effects more w now (turned two) (Some c.frame.number) s z phases.Open _ acts speaks.tells refl a1.under_way in
                    inr (record {
                      newer =
                          subst (λ (g : ℕ). is_before g (half_of v.world y).end.marks.gss ≡ true) a1.gsr_is
                          (next-newest (half_of w.world x).end.marks e.marks.gss (half_of v.world y).end.marks.gss
                          (heard-so (more + 1) w.world a1.under_way two (ap is_live a1.here)) told.gss_is);
                      next_is = told.gss_is;
                      draft = told.draft;
                      is_kind = told.is_kind ∙ ap (λ (m : ℕ). kind.Ack (Long m)) z_gsr;
                      sendable = told.sendable;
                      out = told.out;
                      has_vector = speaks.has_vector;
                      vectors = speaks.vectors;
                      set = speaks.set;
                      greatest = speaks.greatest;
                      options_are =
                          ap (λ (d : Draft). d.options) told.draft_is ∙ speaks.options_are
                          ∙ ap (λ (rs : List Row). own_options speaks.has_vector speaks.vectors speaks.set speaks.greatest h.confirms rs [])
                          (sym (ap (λ (t : Half). t.end.rows) acts.acting));
                    })
              ];
        }

    -- a fault of its options ends it
    faulted : (fits : verdict_of e a ≡ verdicts.Valid) (fault : Fault) → reads_options z a ≡ Err fault → HasEnded v.world
    faulted fits fault read =
        let shut = shut-by z a (proper-of (more + 1) w.world a1.under_way (turned two)).rows (nothing fits) fault in
        ended-at v.world (turned two)
        (ap (λ (t : Half). t.end.phase) c.acts.acting ∙ ap (λ (t : Step Outcome). t.after.phase) (goes fits ∙ ap (heeded z a) read) ∙ shut.closed)

    -- with what comes then
    pub hear : (goal : ControlledWorld C → Type 0) → ((u : ControlledWorld C) → HasEnded u.world → goal u) → (rest : ℕ)
        → by_window e.marks n (Some ack) ≡ verdicts.Valid
        → ((u : ControlledWorld C) → HasHeard more u.world x y rows theirs n ack e.marks.gss → HasWay control rest u goal) → HasWay control (rest + 1) w goal
    hear goal ended rest valid go =
        leads-by control rest w _ now tt (by (reads_options z a) refl)
      where
        fits : verdict_of e a ≡ verdicts.Valid
        fits = verdict-as verdicts.Valid valid

        by : (r : Result ReadingState Fault) → reads_options z a ≡ r → HasWay control rest v goal
        by (Ok h) read = go v (heard fits h read)
        by (Err fault) read = leads-within control 0 rest v _ (omega arith) (leads-here control v _ (ended v (faulted fits fault read)))

  -- The answer, where it is valid or none was due, ends the round.
  module _ (more : ℕ) (w0 : WorldState) (w : ControlledWorld C) {x y : Side} (two : AreTwo x y) (rows : List Row) (n gsr before : ℕ)
      (s2 : HasHeard (more + 1) w.world x y rows (half_of w0 y).end.rows n gsr before) (n_fits : n < 2 ^ 48) where
    pub theirs_stay : (k : Key) → (row_at (half_of w.world y).end.rows k.0 k.1).stand ≡ (row_at (half_of w0 y).end.rows k.0 k.1).stand
    theirs_stay k =
        ap (λ (rs : List Row). (row_at rs k.0 k.1).stand) s2.their_rows
        ∙ their-stands rows s2.sound n (half_of w0 y).end.rows s2.their_sound s2.ack s2.has_vector s2.vectors s2.set s2.greatest s2.options s2.are s2.h s2.read k

    pub silent-round : s2.h.confirms ≡ [] → IsRound more w0 w.world x y
    silent-round none =
        record {
          under_way = fewer-under-way more (more + 1) w.world (omega arith) s2.under_way;
          here = s2.here;
          there = s2.there;
          settles =
              λ k settled.
              ap (λ (rs : List Row). (row_at rs k.0 k.1).stand) s2.rows_are
              ∙ unanswered rows s2.sound n (half_of w0 y).end.rows s2.their_sound s2.ack s2.has_vector s2.vectors s2.set s2.greatest s2.options s2.are s2.h s2.read
              none k settled;
          none =
              λ k is.
              none-unstable rows s2.sound n k (sym (ap (λ (rs : List Row). (row_at rs k.0 k.1).stand) s2.rows_are) ∙ is);
          stays = theirs_stay;
        }

    module _ (t : HasAnswered (half_of w.world y) gsr before n s2.h.confirms) where
      abbrev pub me : EndState
      me = (half_of w.world x).end

      abbrev pub last : ℕ
      last = (half_of w.world y).end.marks.gss

      pub back : IsComing control effects w x y last t.draft
      back =
          coming control effects (more + 1) w two last t.draft s2.under_way t.out (gss-small (more + 1) w.world s2.under_way (turned two))
          (ack-plain t.draft n t.sendable t.is_kind n_fits)

      abbrev pub b : Incoming
      b = back.here.packet

      abbrev pub q : EndState
      q = with_raised_marks me b

      abbrev pub back-now : Event
      back-now = event.Deliver y back.index

      abbrev pub r : ControlledWorld C
      r = next control w back-now

      pub back-kind : b.kind ≡ types.Ack
      back-kind = back.here.type_is ∙ ap packet_type t.is_kind

      pub back-verdict : (is : Verdict) → by_window me.marks last (Some n) ≡ is → verdict_of me b ≡ is
      back-verdict is same =
          verdict-read me back.frame.bytes last t.draft back.here is
          (ap (λ (k : Kind). verdict me.marks (packet_type k) last (ack_of k)) t.is_kind ∙ same)

      back-goes : verdict_of me b ≡ verdicts.Valid → receives me back.frame.bytes ≡ heeded q b (reads_options q b)
      back-goes fits =
          row-heeds me back.frame.bytes b back.here.came (role-of w.world x) phases.Open phases.Open types.Ack reply.Nothing (open-ack (role-of w.world x)) refl
          s2.here back-kind fits

      back-nothing : verdict_of me b ≡ verdicts.Valid → after q.phase b.kind ≡ (phases.Open, reply.Nothing)
      back-nothing fits =
          next-so me back.frame.bytes b back.here.came (role-of w.world x) phases.Open phases.Open types.Ack reply.Nothing (open-ack (role-of w.world x)) refl s2.here
          back-kind fits

      full-round : is_before me.marks.gsr last ≡ true → (fits : verdict_of me b ≡ verdicts.Valid) (g : ReadingState) → reads_options q b ≡ Ok g
          → IsRound more w0 r.world x y
      full-round later fits g read =
          let s : Step Outcome = heeded q b (Ok g) in
          let same : receives me back.frame.bytes ≡ s = back-goes fits ∙ ap (heeded q b) read in
          let acts : Acts w.world r.world x y (moved (half_of w.world x) (Some back.frame.number) s) =
          subst (λ (o : Step Outcome). Acts w.world r.world x y (moved (half_of w.world x) (Some back.frame.number) o)) same back.acts in
          let its = (proper-of (more + 1) w.world s2.under_way two).rows in
          let kept = keeps q b its (back-nothing fits) g read in
          let newest : b.newest ≡ true = back.here.newest_is ∙ newest-so me last later in
          let heard : heeds true (Some n) (unheeded (asked rows n)) b.options ≡ Ok g =
          subst (λ (rs : List Row). heeds true (Some n) (unheeded rs) b.options ≡ Ok g) s2.rows_are
          (same-read (b.newest && counts q.phase b.kind) b.ack (Some n) me.rows b.options b.options g (counting-so b.newest q.phase b.kind newest s2.here back-kind)
          (back.here.acks ∙ ap ack_of t.is_kind) refl read) in
          let answers_are =
          back.here.listed ∙ ap (λ (items : List Item). map Ok (entries_at 0 items)) t.options_are in
          let asked_sound : IsNegotiation (asked rows n) = subst IsNegotiation s2.rows_are its.sound in
          let rows_are : (half_of r.world x).end.rows ≡ g.rows = ap (λ (o : Half). o.end.rows) acts.acting ∙ kept.rows_are in
          record {
            under_way = under-way-next control effects more w back-now two (Some back.frame.number) s acts kept.config s2.under_way;
            here = ap (λ (o : Half). o.end.phase) acts.acting ∙ kept.phase;
            there = ap (λ (o : Half). o.end.phase) acts.resting ∙ s2.there;
            settles =
                λ k settled.
                ap (λ (rs : List Row). (row_at rs k.0 k.1).stand) rows_are
                ∙ answered-stable rows s2.sound n (half_of w0 y).end.rows s2.their_sound s2.ack s2.has_vector s2.vectors s2.set s2.greatest s2.options s2.are s2.h s2.read
                t.has_vector t.vectors t.set t.greatest (half_of w.world y).end.rows asked_sound b.options answers_are g heard s2.early k settled;
            none =
                λ k is.
                answered-none-unstable rows s2.sound n (half_of w0 y).end.rows s2.their_sound s2.ack s2.has_vector s2.vectors s2.set s2.greatest s2.options s2.are s2.h
                s2.read t.has_vector t.vectors t.set t.greatest (half_of w.world y).end.rows asked_sound b.options answers_are g heard s2.early k
                (sym (ap (λ (rs : List Row). (row_at rs k.0 k.1).stand) rows_are) ∙ is);
            stays = λ k. ap (λ (o : Half). (row_at o.end.rows k.0 k.1).stand) acts.resting ∙ theirs_stay k;
          }

      back-faulted : (fits : verdict_of me b ≡ verdicts.Valid) (fault : Fault) → reads_options q b ≡ Err fault → HasEnded r.world
      back-faulted fits fault read =
          let shut = shut-by q b (proper-of (more + 1) w.world s2.under_way two).rows (back-nothing fits) fault in
          ended-at r.world two
          (ap (λ (o : Half). o.end.phase) back.acts.acting ∙ ap (λ (o : Step Outcome). o.after.phase) (back-goes fits ∙ ap (heeded q b) read) ∙ shut.closed)

      -- with what comes then
      pub finish : (goal : ControlledWorld C → Type 0) → ((u : ControlledWorld C) → HasEnded u.world → goal u) → (rest : ℕ)
          → is_before me.marks.gsr last ≡ true → by_window me.marks last (Some n) ≡ verdicts.Valid
          → ((u : ControlledWorld C) → IsRound more w0 u.world x y → HasWay control rest u goal) → HasWay control (rest + 1) w goal
      finish goal ended rest later valid go =
          leads-by control rest w _ back-now tt (by (reads_options q b) refl)
        where
          fits : verdict_of me b ≡ verdicts.Valid
          fits = back-verdict verdicts.Valid valid

          by : (o : Result ReadingState Fault) → reads_options q b ≡ o → HasWay control rest r goal
          by (Ok g) read = go r (full-round later fits g read)
          by (Err fault) read = leads-within control 0 rest r _ (omega arith) (leads-here control r _ (ended r (back-faulted fits fault read)))
