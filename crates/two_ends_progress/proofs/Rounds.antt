-- The tree of a negotiation: an end asks, the other answers, and by three rounds all rows are STABLE, or an end is over.
use Rattle.std.proofs.Common.{◌≡◌, ◌⊎◌, inl, inr, refl, ap, sym, ◌∙◌, subst, ℕ, ◌+◌, ◌^◌, ◌<◌, ◌≤◌, true, false, List, [], ◌∷◌, Option, Some, arith}
use Rattle.congestion_trait.specs.Control.{Control}
use Rattle.dccp_packets.specs.declared.header.Kind.TheVariants as kind
use Rattle.dccp_packets.specs.declared.header.PacketType.TheVariants as types
use Rattle.dccp_states.specs.Phases.{after}
use Rattle.dccp_states.specs.declared.calls.Timer.TheVariants as timers
use Rattle.dccp_states.specs.declared.entrance.Entrance.TheVariants as entrance
use Rattle.dccp_states.specs.declared.phase.Phase.TheVariants as phases
use Rattle.dccp_states.specs.declared.phase.Role.{Role}
use Rattle.dccp_states.specs.declared.phase.Role.TheVariants as role
use Rattle.dccp_states.specs.declared.reply.Reply.TheVariants as reply
use Rattle.dccp_endpoint.specs.Causes.{EveryStepHasOneEffect}
use Rattle.dccp_endpoint.specs.End.{EndState, is_begun, is_live}
use Rattle.dccp_endpoint.specs.Incoming.{Incoming}
use Rattle.dccp_endpoint.specs.Saying.{has_key}
use Rattle.dccp_endpoint.specs.Steps.{next_number}
use Rattle.dccp_endpoint.specs.Turns.{Key}
use Rattle.dccp_endpoint.proofs.Keys.{has-due}
use Rattle.feature_machine.specs.Negotiating.{IsNegotiation, due_keys, is_due, row_at}
use Rattle.feature_machine.specs.Rows.{answers_opening}
use Rattle.feature_machine.specs.declared.row.Row.{Row}
use Rattle.seq_circle.specs.Circle.{is_before, residue}
use Rattle.two_ends.specs.Controlled.{ControlledWorld}
use Rattle.two_ends.specs.World.{Half, WorldState, half_of}
use Rattle.validity_windows.specs.Verdict.{by_window, is_ack_within, is_in_window}
use Rattle.validity_windows.specs.Windows.{ack_high, ack_low}
use Rattle.validity_windows.specs.declared.marks.Marks.{Marks}
use Rattle.validity_windows.specs.declared.verdict.Verdict.TheVariants as verdicts
use Rattle.world_events.specs.declared.event.Event.TheVariants as event
use Rattle.world_events.specs.declared.event.Side.{Side}
use Rattle.world_events.specs.declared.event.Side.TheVariants.{Client, Server}
use Rattle.two_ends_progress.specs.Leading.{AreOpen, HasWay}
use Rattle.two_ends_progress.specs.Opening.{HasEnded}
use Rattle.two_ends_progress.specs.Settled.{AreSettled}
use Rattle.two_ends_progress.proofs.Closing.{get-in-step}
use Rattle.two_ends_progress.proofs.Entering.{entrance-so}
use Rattle.two_ends_progress.proofs.Leading.{leads-by, leads-within, next}
use Rattle.two_ends_progress.proofs.Numbers.{gar-within, near-in-window, newest-within, next-newest, window-both, window-or}
use Rattle.two_ends_progress.proofs.Questions.{HasAnswered, HasAsked, HasHeard, IsRound, ask, back, back-kind, back-verdict, c, early-so, finish, hear, kind_is, role-of, silent-round, theirs_stay, verdict-as}
use Rattle.two_ends_progress.proofs.Receiving.{IsRow, bad-comes}
use Rattle.two_ends_progress.proofs.Settling.{quiet-stable, asked, asked-opened, over}
use Rattle.two_ends_progress.proofs.Stepping.{AreTwo, ClientFirst, ServerFirst, IsComing, IsSent, IsUnderWay, after-says, fewer-under-way, gsr-small, heard-so, held-two, own-in-order, proper-of, turned}

-- the rows of the tables, for both roles
pub open-sync : (who : Role) → IsRow who phases.Open types.Sync phases.Open reply.SyncAck
open-sync role.Client = record { checked = refl; no_reset = λ is. cc is; expected = λ b. refl; for_us = λ x service. refl; next = refl }
open-sync role.Server = record { checked = refl; no_reset = λ is. cc is; expected = λ b. refl; for_us = λ x service. refl; next = refl }

pub open-sync-ack : (who : Role) → IsRow who phases.Open types.SyncAck phases.Open reply.Nothing
open-sync-ack role.Client = record { checked = refl; no_reset = λ is. cc is; expected = λ b. refl; for_us = λ x service. refl; next = refl }
open-sync-ack role.Server = record { checked = refl; no_reset = λ is. cc is; expected = λ b. refl; for_us = λ x service. refl; next = refl }

-- A round of one world is one of another, where the stands of the answering end's rows are the same.
round-of : (more : ℕ) (w s v : WorldState) (x y : Side)
    → ((k : Key) → (row_at (half_of s y).end.rows k.0 k.1).stand ≡ (row_at (half_of w y).end.rows k.0 k.1).stand) → IsRound more s v x y → IsRound more w v x y
round-of more w s v x y same r =
    record {
      under_way = r.under_way;
      here = r.here;
      there = r.there;
      settles = λ k settled. r.settles k (λ is. settled (sym (same (over k)) ∙ is));
      none = r.none;
      stays = λ k. r.stays k ∙ same k;
    }

fewer-round : (fewer more : ℕ) (w v : WorldState) (x y : Side) → fewer ≤ more → IsRound more w v x y → IsRound fewer w v x y
fewer-round fewer more w v x y less r =
    record {
      under_way = fewer-under-way fewer more v less r.under_way;
      here = r.here;
      there = r.there;
      settles = r.settles;
      none = r.none;
      stays = r.stays;
    }

-- ISS is the first number of the configuration.
pub first-so : (more : ℕ) (w : WorldState) (u : IsUnderWay more w) {x y : Side} (two : AreTwo x y)
    → (half_of w x).end.marks.iss ≡ residue (half_of w x).end.config.iss
first-so more w u two =
    let mine = (held-two w u.held two).0 in
    omega (arith, mine.ordered.first, mine.ordered.fits.iss)

-- Each goal that is reached where an end is over.
module _ {C : Type 0} (control : Control C) (effects : EveryStepHasOneEffect) (goal : ControlledWorld C → Type 0)
    (ended : (v : ControlledWorld C) → HasEnded v.world → goal v) where
  abbrev Leads : ℕ → ControlledWorld C → Type 0
  Leads most w = HasWay control most w goal

  -- No row asks: nothing is to be done.
  quiet-round : (more : ℕ) (w : ControlledWorld C) → IsUnderWay more w.world → {x y : Side} (two : AreTwo x y) → (half_of w.world x).end.phase ≡ phases.Open
      → (half_of w.world y).end.phase ≡ phases.Open → due_keys (half_of w.world x).end.rows ≡ [] → IsRound more w.world w.world x y
  quiet-round more w u {x} two here there none =
      let sound : IsNegotiation (half_of w.world x).end.rows = (proper-of more w.world u two).rows.sound in
      let quiet : ((k : Key) → is_due (row_at (half_of w.world x).end.rows k.0 k.1) ≡ false) =
      λ k. sym (has-due (half_of w.world x).end.rows k sound) ∙ ap (has_key k) none in
      record {
        under_way = u;
        here = here;
        there = there;
        settles = λ k settled. quiet-stable (row_at (half_of w.world x).end.rows k.0 k.1) (quiet k);
        none = λ k is. cc (quiet-stable (row_at (half_of w.world x).end.rows k.0 k.1) (quiet k), is);
        stays = λ k. refl;
      }

  -- The two ends are in step, as far as the first one's next question and the answer to it go.
  record IsReady (w : WorldState) (x y : Side) : Type 0 where
    asks : ((half_of w x).end.marks.gss ≡ (half_of w y).end.marks.gsr) ⊎ ((half_of w x).end.marks.gss ≡ residue ((half_of w y).end.marks.gsr + 1))
    acks : is_ack_within (ack_low (half_of w y).end.marks) (ack_high (half_of w y).end.marks) (Some (half_of w x).end.marks.gsr) ≡ true
    answers : ((half_of w y).end.marks.gss ≡ (half_of w x).end.marks.gsr) ⊎ ((half_of w y).end.marks.gss ≡ residue ((half_of w x).end.marks.gsr + 1))

  next-near : (gss gsr n : ℕ) → (gss ≡ gsr) ⊎ (gss ≡ residue (gsr + 1)) → n ≡ residue (gss + 1) → (n ≡ residue (gsr + 1)) ⊎ (n ≡ residue (residue (gsr + 1) + 1))
  next-near gss gsr n near same =
      elim near [
        | inl at ↦ inl (same ∙ ap (λ (g : ℕ). residue (g + 1)) at)
        | inr after ↦ inr (same ∙ ap (λ (g : ℕ). residue (g + 1)) after)
      ]

  number-fits : (w : ControlledWorld C) (x : Side) → next_number (half_of w.world x).end < 2 ^ 48
  number-fits w x = omega arith

  -- What the asking end's rows and the number say of the last openings.
  early-of : (more : ℕ) (w : WorldState) (u : IsUnderWay more w) {x y : Side} (two : AreTwo x y) → (half_of w x).end.phase ≡ phases.Open → (k : Key)
      → is_due (row_at (half_of w x).end.rows k.0 k.1) ≡ true
      → answers_opening (row_at (asked (half_of w x).end.rows (next_number (half_of w x).end)) k.0 k.1).opened (Some (next_number (half_of w x).end)) ≡ true
  early-of more w u {x} two here k due =
      ap (λ (o : Option ℕ). answers_opening o (Some (next_number (half_of w x).end)))
      (asked-opened (half_of w x).end.rows (proper-of more w u two).rows.sound (next_number (half_of w x).end) k due)
      ∙ early-so more w u two (ap is_begun here) k due

  newer-of : (more : ℕ) (w : WorldState) (u : IsUnderWay more w) {x y : Side} (two : AreTwo x y) → (half_of w y).end.phase ≡ phases.Open
      → is_before (half_of w y).end.marks.gsr (next_number (half_of w x).end) ≡ true
  newer-of more w u {x} {y} two there =
      next-newest (half_of w y).end.marks (half_of w x).end.marks.gss (next_number (half_of w x).end) (heard-so more w u (turned two) (ap is_live there)) refl

  -- A round of two ends in step takes three events.
  sure-round : (rest : ℕ) (w : ControlledWorld C) → IsUnderWay (rest + 1 + 1 + 1) w.world → {x y : Side} (two : AreTwo x y)
      → (half_of w.world x).end.phase ≡ phases.Open → (half_of w.world y).end.phase ≡ phases.Open → IsReady w.world x y
      → ((v : ControlledWorld C) → IsRound rest w.world v.world x y → Leads rest v) → Leads (rest + 1 + 1 + 1) w
  sure-round rest w u {x} {y} two here there ready go = by (due_keys (half_of w.world x).end.rows) refl where
    n : ℕ
    n = next_number (half_of w.world x).end

    by : (keys : List Key) → due_keys (half_of w.world x).end.rows ≡ keys → Leads (rest + 1 + 1 + 1) w
    by [] none =
        leads-within control rest (rest + 1 + 1 + 1) w _ (omega arith)
        (go w (quiet-round rest w (fewer-under-way rest (rest + 1 + 1 + 1) w.world (omega arith) u) two here there none))
    by (k ∷ keys) due =
        let a1 = ask control effects (rest + 1 + 1) w u two here there k keys due in
        let now = event.Timer x timers.Negotiate in
        let v : ControlledWorld C = next control w now in
        let m : Marks = (half_of w.world y).end.marks in
        let at : ℕ = next_number (half_of w.world x).end in
        let ack : ℕ = (half_of w.world x).end.marks.gsr in
        let valid : by_window m at (Some ack) ≡ verdicts.Valid =
        window-both m at (Some ack)
        (near-in-window m (half_of w.world x).end.marks.gss at (heard-so (rest + 1 + 1 + 1) w.world u (turned two) (ap is_live there))
        (next-near (half_of w.world x).end.marks.gss m.gsr at ready.asks refl)) ready.acks in
        leads-by control (rest + 1 + 1) w _ now tt
        (hear control effects (rest + 1) v two (half_of w.world x).end.rows (half_of w.world y).end.rows at ack (proper-of (rest + 1 + 1 + 1) w.world u two).rows.sound
        (proper-of (rest + 1 + 1 + 1) w.world u (turned two)).rows.sound (half_of w.world y) a1 (ap (λ (h : Half). h.end.rows) a1.rests)
        (gsr-small (rest + 1 + 1 + 1) w.world u two) (early-of (rest + 1 + 1 + 1) w.world u two here)
        (subst (λ (h : Half). is_before h.end.marks.gsr at ≡ true) (sym a1.rests) (newer-of (rest + 1 + 1 + 1) w.world u two there)) goal ended (rest + 1)
        (subst (λ (h : Half). by_window h.end.marks at (Some ack) ≡ verdicts.Valid) (sym a1.rests) valid)
        (λ o s2. on o (subst (λ (h : Half). HasHeard (rest + 1) o.world x y (half_of w.world x).end.rows (half_of w.world y).end.rows n ack h.end.marks.gss) a1.rests s2)))
      where
        on : (o : ControlledWorld C)
            → HasHeard (rest + 1) o.world x y (half_of w.world x).end.rows (half_of w.world y).end.rows n (half_of w.world x).end.marks.gsr
            (half_of w.world y).end.marks.gss → Leads (rest + 1) o
        on o s2 =
            let gsr : ℕ = (half_of w.world x).end.marks.gsr in
            let before : ℕ = (half_of w.world y).end.marks.gss in
            elim s2.answer [
              | inl none ↦
                  leads-within control rest (rest + 1) o _ (omega arith)
                  (go o (silent-round control effects rest w.world o two (half_of w.world x).end.rows n gsr before s2 (number-fits w x) none))
              | inr t ↦
                  let me : Marks = (half_of o.world x).end.marks in
                  let last : ℕ = (half_of o.world y).end.marks.gss in
                  let in_window : is_in_window me last ≡ true =
                  near-in-window me last last (heard-so (rest + 1) o.world s2.under_way two (ap is_live s2.here))
                  (subst (λ (g : ℕ). (last ≡ residue (g + 1)) ⊎ (last ≡ residue (residue (g + 1) + 1))) (sym s2.mine_gsr)
                  (next-near before gsr last ready.answers t.next_is)) in
                  let valid : by_window me last (Some n) ≡ verdicts.Valid =
                  window-both me last (Some n) in_window
                  (subst (λ (g : ℕ). is_ack_within (ack_low me) (ack_high me) (Some g) ≡ true) s2.gss_is (newest-within me)) in
                  finish control effects rest w.world o two (half_of w.world x).end.rows n gsr before s2 (number-fits w x) t goal ended rest
                  (subst (λ (g : ℕ). is_before g last ≡ true) (sym s2.mine_gsr) t.newer) valid go
            ]

  -- With a Sync on its way to the side that asks, it asks once both are in step.
  synced-round : (rest : ℕ) (w0 : WorldState) (w : ControlledWorld C) → IsUnderWay (rest + 1 + 1 + 1 + 1 + 1) w.world → {x y : Side} (two : AreTwo x y)
      → (half_of w.world x).end.phase ≡ phases.Open → (half_of w.world y).end.phase ≡ phases.Open
      → IsSent (half_of w.world y) (half_of w.world y).end.marks.gss (kind.Sync (half_of w.world x).end.marks.gss)
      → ((k : Key) → (row_at (half_of w.world y).end.rows k.0 k.1).stand ≡ (row_at (half_of w0 y).end.rows k.0 k.1).stand)
      → ((v : ControlledWorld C) → IsRound rest w0 v.world x y → Leads rest v) → Leads (rest + 1 + 1 + 1 + 1 + 1) w
  synced-round rest w0 w u {x} {y} two here there sent same go =
      let by =
      get-in-step control effects (rest + 1 + 1 + 1) w u two (role-of control effects w.world x) (role-of control effects w.world y) phases.Open phases.Open (open-sync (role-of control effects w.world x))
      (open-sync-ack (role-of control effects w.world y)) refl refl here there refl refl refl sent in
      let v : ControlledWorld C = next control w (event.Deliver y by.first) in
      let s : ControlledWorld C = next control v (event.Deliver x by.second) in
      let k = by.in_step in
      let m : Marks = (half_of s.world y).end.marks in
      let begun : is_begun (half_of s.world y).end.phase ≡ true = ap is_begun k.peer_phase in
      let near : (m.gss ≡ m.gar) ⊎ (m.gss ≡ residue (m.gar + 1)) =
      subst (λ (g : ℕ). (m.gss ≡ g) ⊎ (m.gss ≡ residue (g + 1))) k.told k.near in
      let ordered = own-in-order (rest + 1 + 1 + 1) s.world k.under_way (turned two) begun in
      let within : is_ack_within (ack_low m) (ack_high m) (Some m.gar) ≡ true =
      gar-within m (proper-of (rest + 1 + 1 + 1) s.world k.under_way (turned two)).widths ordered (first-so (rest + 1 + 1 + 1) s.world k.under_way (turned two)) near in
      leads-by control (rest + 1 + 1 + 1 + 1) w _ (event.Deliver y by.first) tt
      (leads-by control (rest + 1 + 1 + 1) v _ (event.Deliver x by.second) tt
      (sure-round rest s k.under_way two k.phase k.peer_phase
      (record {
        asks = inl (sym k.heard);
        acks = subst (λ (g : ℕ). is_ack_within (ack_low m) (ack_high m) (Some g) ≡ true) (sym k.told) within;
        answers = k.near;
      })
      (λ z r. go z (round-of rest w0 s.world z.world x y (λ k. ap (λ (rs : List Row). (row_at rs k.0 k.1).stand) by.peer_rows ∙ same k) r))))

  -- With one on its way to the side that answers, the other asks anew once both are in step.
  synced-back : (rest : ℕ) (w0 : WorldState) (w : ControlledWorld C) → IsUnderWay (rest + 1 + 1 + 1 + 1 + 1) w.world → {x y : Side} (two : AreTwo x y)
      → (half_of w.world x).end.phase ≡ phases.Open → (half_of w.world y).end.phase ≡ phases.Open
      → IsSent (half_of w.world x) (half_of w.world x).end.marks.gss (kind.Sync (half_of w.world y).end.marks.gss)
      → ((k : Key) → (row_at (half_of w.world y).end.rows k.0 k.1).stand ≡ (row_at (half_of w0 y).end.rows k.0 k.1).stand)
      → ((v : ControlledWorld C) → IsRound rest w0 v.world x y → Leads rest v) → Leads (rest + 1 + 1 + 1 + 1 + 1) w
  synced-back rest w0 w u {x} {y} two here there sent same go =
      let by =
      get-in-step control effects (rest + 1 + 1 + 1) w u (turned two) (role-of control effects w.world y) (role-of control effects w.world x) phases.Open phases.Open
      (open-sync (role-of control effects w.world y)) (open-sync-ack (role-of control effects w.world x)) refl refl there here refl refl refl sent in
      let v : ControlledWorld C = next control w (event.Deliver x by.first) in
      let s : ControlledWorld C = next control v (event.Deliver y by.second) in
      let k = by.in_step in
      let m : Marks = (half_of s.world y).end.marks in
      leads-by control (rest + 1 + 1 + 1 + 1) w _ (event.Deliver x by.first) tt
      (leads-by control (rest + 1 + 1 + 1) v _ (event.Deliver y by.second) tt
      (sure-round rest s k.under_way two k.peer_phase k.phase
      (record {
        asks = k.near;
        acks = subst (λ (g : ℕ). is_ack_within (ack_low m) (ack_high m) (Some g) ≡ true) (sym k.heard) (newest-within m);
        answers = inl (sym k.heard);
      })
      (λ z r. go z (round-of rest w0 s.world z.world x y (λ k. ap (λ (rs : List Row). (row_at rs k.0 k.1).stand) by.rows_are ∙ same k) r))))

  -- A round of two ends in OPEN takes at most eight events.
  module _ (rest : ℕ) (w : ControlledWorld C) (u : IsUnderWay (rest + 8) w.world) {x y : Side} (two : AreTwo x y)
      (here : (half_of w.world x).end.phase ≡ phases.Open) (there : (half_of w.world y).end.phase ≡ phases.Open)
      (go : (v : ControlledWorld C) → IsRound rest w.world v.world x y → Leads rest v) where
    abbrev asker : EndState
    asker = (half_of w.world x).end

    abbrev answerer : EndState
    answerer = (half_of w.world y).end

    abbrev question : ℕ
    question = next_number asker

    abbrev Heard : ControlledWorld C → Type 0
    Heard o = HasHeard (rest + 5 + 1) o.world x y asker.rows answerer.rows question asker.marks.gsr answerer.marks.gss

    -- The answer is not valid: it is asked anew, in step.
    module _ (o : ControlledWorld C) (s2 : Heard o) (t : HasAnswered (half_of o.world y) asker.marks.gsr answerer.marks.gss question s2.h.confirms)
        (bad : by_window (half_of o.world x).end.marks (half_of o.world y).end.marks.gss (Some question) ≡ verdicts.SyncFor (half_of o.world y).end.marks.gss)
      where
        abbrev reader : EndState
        reader = (half_of o.world x).end

        abbrev reply_number : ℕ
        reply_number = (half_of o.world y).end.marks.gss

        abbrev its : IsComing control effects o x y reply_number t.draft
        its = back control effects (rest + 5) w.world o two asker.rows question asker.marks.gsr answerer.marks.gss s2 (number-fits w x) t

        refused-answer : Leads (rest + 5 + 1) o
        refused-answer =
            let a : Incoming = its.here.packet in
            let checked =
            entrance-so reader a phases.Open types.Ack entrance.Check s2.here
            (back-kind control effects (rest + 5) w.world o two asker.rows question asker.marks.gsr answerer.marks.gss s2 (number-fits w x) t) refl in
            let says =
            bad-comes reader its.frame.bytes a its.here.came reply_number checked
            (back-verdict control effects (rest + 5) w.world o two asker.rows question asker.marks.gsr answerer.marks.gss s2 (number-fits w x) t (verdicts.SyncFor reply_number) bad) in
            let now = event.Deliver y its.index in
            let v : ControlledWorld C = next control o now in
            let said = after-says control effects (rest + 5) o now two _ _ _ _ _ _ its.acts says s2.under_way in
            let still : half_of v.world y ≡ half_of o.world y = said.is_after.rests in
            let sent : IsSent (half_of v.world x) (half_of v.world x).end.marks.gss (kind.Sync (half_of v.world y).end.marks.gss) =
            subst (λ (h : Half). IsSent (half_of v.world x) (half_of v.world x).end.marks.gss (kind.Sync h.end.marks.gss)) (sym still) said.sent in
            leads-by control (rest + 5) o _ now tt
            (leads-within control (rest + 1 + 1 + 1 + 1 + 1) (rest + 5) v _ (omega arith)
            (synced-back rest w.world v (fewer-under-way (rest + 1 + 1 + 1 + 1 + 1) (rest + 5) v.world (omega arith) said.is_after.under_way) two
            (said.is_after.phase ∙ s2.here) (ap (λ (h : Half). h.end.phase) still ∙ s2.there) sent
            (λ k.
            ap (λ (h : Half). (row_at h.end.rows k.0 k.1).stand) still
            ∙ theirs_stay control effects (rest + 5) w.world o two asker.rows question asker.marks.gsr answerer.marks.gss s2 (number-fits w x) k)
            go))

    -- The other end has read the question.
    answered-round : (o : ControlledWorld C) → Heard o → Leads (rest + 5 + 1) o
    answered-round o s2 =
        elim s2.answer [
          | inl none ↦
              leads-within control rest (rest + 5 + 1) o _ (omega arith)
              (go o (fewer-round rest (rest + 5) w.world o.world x y (omega arith)
              (silent-round control effects (rest + 5) w.world o two asker.rows question asker.marks.gsr answerer.marks.gss s2 (number-fits w x) none)))
          | inr t ↦
              elim (window-or (half_of o.world x).end.marks (half_of o.world y).end.marks.gss (Some question)) [
                | inl valid ↦
                    leads-within control (rest + 1) (rest + 5 + 1) o _ (omega arith)
                    (finish control effects (rest + 5) w.world o two asker.rows question asker.marks.gsr answerer.marks.gss s2 (number-fits w x) t goal ended rest
                    (subst (λ (g : ℕ). is_before g (half_of o.world y).end.marks.gss ≡ true) (sym s2.mine_gsr) t.newer) valid
                    (λ z r. go z (fewer-round rest (rest + 5) w.world z.world x y (omega arith) r)))
                | inr bad ↦ refused-answer o s2 t bad
              ]
        ]

    -- The first side has asked.
    module _ (v : ControlledWorld C) (a1 : HasAsked (rest + 5 + 1 + 1) v.world x y (half_of w.world y) asker.rows question asker.marks.gsr) where
      abbrev sound : IsNegotiation asker.rows
      sound = (proper-of (rest + 8) w.world u two).rows.sound

      abbrev their_sound : IsNegotiation answerer.rows
      their_sound = (proper-of (rest + 8) w.world u (turned two)).rows.sound

      theirs_are : (half_of v.world y).end.rows ≡ answerer.rows
      theirs_are = ap (λ (h : Half). h.end.rows) a1.rests

      early : (k : Key) → is_due (row_at asker.rows k.0 k.1) ≡ true → answers_opening (row_at (asked asker.rows question) k.0 k.1).opened (Some question) ≡ true
      early = early-of (rest + 8) w.world u two here

      later : is_before (half_of v.world y).end.marks.gsr question ≡ true
      later = subst (λ (h : Half). is_before h.end.marks.gsr question ≡ true) (sym a1.rests) (newer-of (rest + 8) w.world u two there)

      -- with a question that is not valid
      refused-question : by_window (half_of v.world y).end.marks question (Some asker.marks.gsr) ≡ verdicts.SyncFor question → Leads (rest + 5 + 1 + 1) v
      refused-question bad =
          let e : EndState = (half_of v.world y).end in
          let its : IsComing control effects v y x (half_of v.world x).end.marks.gss a1.draft =
          c control effects (rest + 5 + 1) v two asker.rows answerer.rows question asker.marks.gsr sound their_sound (half_of w.world y) a1 theirs_are
          (gsr-small (rest + 8) w.world u two) early later in
          let a : Incoming = its.here.packet in
          let checked =
          entrance-so e a phases.Open types.Ack entrance.Check a1.there
          (kind_is control effects (rest + 5 + 1) v two asker.rows answerer.rows question asker.marks.gsr sound their_sound (half_of w.world y) a1 theirs_are
          (gsr-small (rest + 8) w.world u two) early later) refl in
          let says =
          bad-comes e its.frame.bytes a its.here.came question checked
          (verdict-as control effects (rest + 5 + 1) v two asker.rows answerer.rows question asker.marks.gsr sound their_sound (half_of w.world y) a1 theirs_are
          (gsr-small (rest + 8) w.world u two) early later (verdicts.SyncFor question) bad) in
          let now = event.Deliver x its.index in
          let o : ControlledWorld C = next control v now in
          let said = after-says control effects (rest + 5 + 1) v now (turned two) _ _ _ _ _ _ its.acts says a1.under_way in
          let still : half_of o.world x ≡ half_of v.world x = said.is_after.rests in
          let sent : IsSent (half_of o.world y) (half_of o.world y).end.marks.gss (kind.Sync (half_of o.world x).end.marks.gss) =
          subst (λ (m : ℕ). IsSent (half_of o.world y) (half_of o.world y).end.marks.gss (kind.Sync m))
          (sym (ap (λ (h : Half). h.end.marks.gss) still ∙ a1.gss_is)) said.sent in
          leads-by control (rest + 5 + 1) v _ now tt
          (leads-within control (rest + 1 + 1 + 1 + 1 + 1) (rest + 5 + 1) o _ (omega arith)
          (synced-round rest w.world o (fewer-under-way (rest + 1 + 1 + 1 + 1 + 1) (rest + 5 + 1) o.world (omega arith) said.is_after.under_way) two
          (ap (λ (h : Half). h.end.phase) still ∙ a1.here) (said.is_after.phase ∙ a1.there) sent
          (λ k. ap (λ (rs : List Row). (row_at rs k.0 k.1).stand) (said.is_after.rows_are ∙ theirs_are)) go))

      asked-round : Leads (rest + 5 + 1 + 1) v
      asked-round =
          elim (window-or (half_of v.world y).end.marks question (Some asker.marks.gsr)) [
            | inl valid ↦
                hear control effects (rest + 5 + 1) v two asker.rows answerer.rows question asker.marks.gsr sound their_sound (half_of w.world y) a1 theirs_are
                (gsr-small (rest + 8) w.world u two) early later goal ended (rest + 5 + 1) valid
                (λ o s2.
                answered-round o
                (subst (λ (h : Half). HasHeard (rest + 5 + 1) o.world x y asker.rows answerer.rows question asker.marks.gsr h.end.marks.gss) a1.rests s2))
            | inr bad ↦ refused-question bad
          ]

    round : Leads (rest + 8) w
    round = by (due_keys asker.rows) refl where
      by : (keys : List Key) → due_keys asker.rows ≡ keys → Leads (rest + 8) w
      by [] none =
          leads-within control rest (rest + 8) w _ (omega arith)
          (go w (quiet-round rest w (fewer-under-way rest (rest + 8) w.world (omega arith) u) two here there none))
      by (k ∷ keys) due =
          let now = event.Timer x timers.Negotiate in
          leads-within control (rest + 5 + 1 + 1 + 1) (rest + 8) w _ (omega arith)
          (leads-by control (rest + 5 + 1 + 1) w _ now tt
          (asked-round (next control w now)
          (ask control effects (rest + 5 + 1 + 1) w (fewer-under-way (rest + 5 + 1 + 1 + 1) (rest + 8) w.world (omega arith) u) two here there k keys due)))

  -- Three rounds settle all: by the first no row of the client is UNSTABLE, by the second the server's are STABLE, and by the third all are.
  pub settle-on : (rest : ℕ) (w : ControlledWorld C) → IsUnderWay (rest + 24) w.world → AreOpen w.world
      → ((v : ControlledWorld C) → IsUnderWay rest v.world → AreOpen v.world → AreSettled v.world → Leads rest v) → Leads (rest + 24) w
  settle-on rest w u opened go =
      leads-within control (rest + 8 + 8 + 8) (rest + 24) w _ (omega arith)
      (round (rest + 8 + 8) w (fewer-under-way (rest + 8 + 8 + 8) (rest + 24) w.world (omega arith) u) ClientFirst (opened Client) (opened Server)
      (λ a one.
      round (rest + 8) a one.under_way ServerFirst one.there one.here
      (λ b two.
      round rest b two.under_way ClientFirst two.there two.here (λ c three. go c three.under_way (both c three) (settled a b c one two three)))))
    where
      both : (c : ControlledWorld C) {b : WorldState} → IsRound rest b c.world Client Server → AreOpen c.world
      both c three Client = three.here
      both c three Server = three.there

      settled : (a b c : ControlledWorld C) → IsRound (rest + 8 + 8) w.world a.world Client Server → IsRound (rest + 8) a.world b.world Server Client
          → IsRound rest b.world c.world Client Server → AreSettled c.world
      settled a b c one two three Client feature place =
          three.settles (feature, place) (λ is. cc (two.settles (over (feature, place)) (one.none (over (over (feature, place)))), is))
      settled a b c one two three Server feature place =
          three.stays (feature, place) ∙ two.settles (feature, place) (one.none (over (feature, place)))
