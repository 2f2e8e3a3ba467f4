-- The tree of data: an Ack, a Sync exchange where it was not valid, a second Ack, and the timer rto; then `send` takes data, and they get through.
use Rattle.std.proofs.Common.{◌≡◌, inr, refl, ap, sym, ◌∙◌, subst, ◌==◌, nat_lt, ℕ, ◌+◌, ◌-◌, ◌≤◌, Bool, true, false, cond, List, [], ◌∷◌, drop, length, Some, None, Ok, Result, slice_get, arith}
use Rattle.std.proofs.lemmas.Bool.{le-ltb}
use Rattle.congestion_trait.specs.Calls.{Sends, TimesOut}
use Rattle.congestion_trait.specs.Control.{Control, may_send}
use Rattle.congestion_trait.specs.Flight.{pipe_of}
use Rattle.dccp_packets.specs.declared.header.Kind.TheVariants as kind
use Rattle.dccp_packets.specs.declared.header.PacketType.TheVariants as types
use Rattle.dccp_states.specs.declared.calls.SendFault.{SendFault}
use Rattle.dccp_states.specs.declared.calls.Timer.TheVariants as timers
use Rattle.dccp_states.specs.declared.outcome.Outcome.{Outcome}
use Rattle.dccp_states.specs.declared.outcome.Outcome.TheVariants.{Took}
use Rattle.dccp_states.specs.declared.phase.Phase.TheVariants as phases
use Rattle.dccp_endpoint.specs.Calling.{fires, lacks_vectors, send_fault, sends_payload}
use Rattle.dccp_endpoint.specs.Causes.{EveryStepHasOneEffect, verdict_of}
use Rattle.dccp_endpoint.specs.Controlled.{after_calls, has_in_flight}
use Rattle.dccp_endpoint.specs.Drafts.{Draft, IsSendable, carrying}
use Rattle.dccp_endpoint.specs.End.{EndState, is_live, value_in}
use Rattle.dccp_endpoint.specs.Inputs as input
use Rattle.dccp_endpoint.specs.Receiving.{receives}
use Rattle.dccp_endpoint.specs.ShortForm.{is_settled_on_one}
use Rattle.dccp_endpoint.specs.Steps.{Step, idle, next_number, sends, with_calls}
use Rattle.dccp_endpoint.proofs.Frames.{fixed_part_is_short}
use Rattle.dccp_options.specs.Written.{IsWritable, Item}
use Rattle.std.proofs.lemmas.List.Elements.{All-nil}
use Rattle.feature_lists.specs.declared.features.Feature.TheVariants.{ShortSeqnos}
use Rattle.feature_lists.specs.declared.features.Place.TheVariants.{Here, There}
use Rattle.feature_machine.specs.Negotiating.{held_by, row_at}
use Rattle.feature_machine.specs.declared.row.Row.{Row}
use Rattle.run_list.specs.MarkedSet.{answer_to}
use Rattle.run_list.specs.declared.answers.Marked.TheVariants.{New}
use Rattle.seq_circle.specs.Circle.{residue}
use Rattle.two_ends.specs.Controlled.{ControlledWorld, ControlledStep, congestion_of, controlled, controlled_after, happens_to}
use Rattle.two_ends.specs.Delivered.{place_delivered}
use Rattle.two_ends.specs.World.{Half, HalfStep, WorldState, half_of, half_steps, is_far_frame, is_full, moved, with_half}
use Rattle.dccp_endpoint.specs.UserCalls.{seen_of}
use Rattle.two_ends.specs.declared.frames.SentFrame.{SentFrame}
use Rattle.two_ends.proofs.OfWorlds.Delivering.{payload-lies}
use Rattle.validity_windows.specs.declared.verdict.Verdict.TheVariants as verdicts
use Rattle.world_events.specs.declared.event.Event.{Event}
use Rattle.world_events.specs.declared.event.Event.TheVariants as event
use Rattle.dccp_states.specs.declared.seen.Seen.TheVariants as seen
use Rattle.world_events.specs.declared.event.Side.{Side}
use Rattle.two_ends_progress.specs.GettingThrough.{GetsThrough}
use Rattle.two_ends_progress.specs.Leading.{HasWay}
use Rattle.two_ends_progress.proofs.HandedOver.{data-taken, in-window, newly}
use Rattle.two_ends_progress.proofs.InStep.{HasAcked, ack-sent, in-step-on}
use Rattle.two_ends_progress.proofs.Leading.{leads-by, leads-here, next}
use Rattle.two_ends_progress.proofs.Openly.{AreOpenWith, IsComingAs, IsOutAs, coming-as, out-as, stays-open}
use Rattle.two_ends_progress.proofs.Stepping.{Acts, AreTwo, ClientFirst, ServerFirst, after-so, called-so, acts-with, gss-small, room-so, timer-acts}
use Rattle.two_ends_progress.proofs.Vectoring.{SaysSo}

-- What the timer rto leaves of an end in OPEN: the end itself.
rto-as : (e : EndState) (flies : Bool) → e.phase ≡ phases.Open → fires e timers.Rto flies ≡ cond flies (with_calls (TimesOut ∷ []) (idle e true)) (idle e false)
unfolding fires
rto-as e true is_phase = rw is_phase refl
rto-as e false is_phase = rw is_phase refl

rto-rests : (e : EndState) (flies : Bool) → e.phase ≡ phases.Open → (fires e timers.Rto flies).after ≡ e
rto-rests e true is_phase = ap (λ (s : Step Bool). s.after) (rto-as e true is_phase)
rto-rests e false is_phase = ap (λ (s : Step Bool). s.after) (rto-as e false is_phase)

rto-calls : (e : EndState) (flies : Bool) → e.phase ≡ phases.Open → (fires e timers.Rto flies).calls ≡ cond flies (TimesOut ∷ []) []
rto-calls e true is_phase = ap (λ (s : Step Bool). s.calls) (rto-as e true is_phase)
rto-calls e false is_phase = ap (λ (s : Step Bool). s.calls) (rto-as e false is_phase)

-- Data that go out on a Data packet.
abbrev data-of : List ℕ → Draft
data-of payload = carrying kind.Data payload

sends-so : (e : EndState) (payload : List ℕ) (may : Bool) → e.phase ≡ phases.Open → e.owed ≡ false → length payload ≤ 1024 → lacks_vectors e.rows ≡ false
    → may ≡ true → sends_payload e payload may ≡ with_calls (Sends (next_number e) ∷ []) (sends e (data-of payload) (Ok tt))
unfolding sends_payload
sends-so e payload may phase owed short reports free =
    let fits : nat_lt 1024 (length payload) ≡ false = le-ltb 1024 (length payload) short in
    let none : send_fault e payload may ≡ None = rw (phase, fits, reports, free) refl in
    rw (none, owed) refl

data-says : (e : EndState) (payload : List ℕ) (may : Bool) → e.phase ≡ phases.Open → e.owed ≡ false → length payload ≤ 1024
    → lacks_vectors e.rows ≡ false → may ≡ true → SaysSo e (sends_payload e payload may) (data-of payload)
data-says e payload may phase owed short reports free =
    subst (λ (s : Step (Result (Unit {0}) SendFault)). SaysSo e s (data-of payload)) (sym (sends-so e payload may phase owed short reports free))
    (record { config = refl; phase = phase; rows_are = refl; gsr_is = refl; gss_is = refl; frame_is = refl })

data-sendable : (payload : List ℕ) → length payload ≤ 1024 → IsSendable (data-of payload)
data-sendable payload short =
    let fixed = fixed_part_is_short true types.Data in
    record {
      is_long = refl;
      detail = tt;
      items = All-nil (λ (item : Item). IsWritable item);
      on_data = λ _. refl;
      area = omega (arith, fixed);
      data_fits = short;
    }

room-left : (pipe window : ℕ) → nat_lt 0 pipe ≡ false → 1 ≤ window → nat_lt pipe window ≡ true
room-left pipe window none wide = grind (arith, none, wide)

module _ {C : Type 0} (control : Control C) (effects : EveryStepHasOneEffect) where
  -- Where nothing is in flight, and where all of it is counted as lost, a packet may be sent.
  may-by : ((c : C) → may_send control (control.timed_out c) ≡ true) → (c : C) → 1 ≤ control.window c → (flies : Bool) → has_in_flight control c ≡ flies
      → may_send control (after_calls control c (cond flies (TimesOut ∷ []) [])) ≡ true
  may-by frees c wide true flies = frees c
  may-by frees c wide false flies = room-left (pipe_of (control.flight c)) (control.window c) flies wide

  rto-congestion : (w : ControlledWorld C) {x y : Side} → AreTwo x y → is_full (half_of w.world x) ≡ false
      → congestion_of (next control w (event.Timer x timers.Rto)) x
      ≡ after_calls control (congestion_of w x) (fires (half_of w.world x).end timers.Rto (has_in_flight control (congestion_of w x))).calls
  rto-congestion w ClientFirst room = rw room refl
  rto-congestion w ServerFirst room = rw room refl

  rto-frees : ((c : C) → may_send control (control.timed_out c) ≡ true) → (w : ControlledWorld C) {x y : Side} → AreTwo x y → is_full (half_of w.world x) ≡ false
      → (half_of w.world x).end.phase ≡ phases.Open → 1 ≤ control.window (congestion_of w x)
      → may_send control (congestion_of (next control w (event.Timer x timers.Rto)) x) ≡ true
  rto-frees frees w {x} two room free wide =
      let c : C = congestion_of w x in
      ap (may_send control) (rto-congestion w two room ∙ ap (after_calls control c) (rto-calls (half_of w.world x).end (has_in_flight control c) free))
      ∙ may-by frees c wide (has_in_flight control c) refl

  -- a step of a side by what it makes of its half
  abbrev step-of : ControlledWorld C → Side → HalfStep → ControlledStep C
  step-of w side h = record { after = controlled control w side (record { world = with_half w.world side h.half; calls = h.calls; seen = h.seen }); seen = h.seen }

  abbrev send-half : ControlledWorld C → Side → List ℕ → HalfStep
  send-half w side payload = half_steps (half_of w.world side) None (input.Sends payload (may_send control (congestion_of w side)))

  send-happens : (w : ControlledWorld C) {x y : Side} → AreTwo x y → (payload : List ℕ) → is_full (half_of w.world x) ≡ false
      → happens_to control w (event.Send x payload) ≡ Ok (step-of w x (send-half w x payload))
  send-happens w ClientFirst payload room = rw room refl
  send-happens w ServerFirst payload room = rw room refl

  abbrev taken-half : ControlledWorld C → Side → SentFrame → HalfStep
  taken-half w side frame = half_steps (half_of w.world side) (Some frame.number) (input.Arrives frame.bytes)

  deliver-happens : (w : ControlledWorld C) {x y : Side} → AreTwo x y → (index : ℕ) (frame : SentFrame) → slice_get (half_of w.world x).frames index ≡ Some frame
      → is_full (half_of w.world y) ≡ false → is_far_frame (half_of w.world y).end frame ≡ false
      → happens_to control w (event.Deliver x index) ≡ Ok (step-of w y (taken-half w y frame))
  deliver-happens w ClientFirst index frame there room near = rw (there, room, near) refl
  deliver-happens w ServerFirst index frame there room near = rw (there, room, near) refl

  send-acts : (more : ℕ) (w : ControlledWorld C) {x y : Side} (two : AreTwo x y) (payload : List ℕ) → is_full (half_of w.world x) ≡ false
      → Acts w.world (next control w (event.Send x payload)).world x y
      (moved (half_of w.world x) None (sends_payload (half_of w.world x).end payload (may_send control (congestion_of w x))))
  send-acts more w {x} two payload room =
      acts-with w.world _ _ two
      (after-so control effects w (event.Send x payload)
      ∙ called-so w.world x (input.Sends payload (may_send control (congestion_of w x))) room)

  module _ (own others : List Row)
      (alike : is_settled_on_one (held_by (row_at own ShortSeqnos Here)) ≡ true → (value_in others ShortSeqnos There == 1) ≡ true) where
    -- The second side has received all but the first one's last Ack, and the first owes nothing.
    record IsReady (more : ℕ) (w : WorldState) (x y : Side) : Type 0 where
      opened : AreOpenWith more w x y own others
      not_owed : (half_of w x).end.owed ≡ false
      after_heard : (half_of w x).end.marks.gss ≡ residue ((half_of w y).end.marks.gsr + 1)

    ready-so : (more : ℕ) (before : WorldState) (w : WorldState) (x y : Side) → (half_of before y).end.marks.gsr ≡ (half_of before x).end.marks.gss
        → HasAcked control effects own others alike more before w x y → IsReady more w x y
    ready-so more before w x y heard a1 =
        record {
          opened = a1.opened;
          not_owed = a1.not_owed;
          after_heard =
              a1.gss_is ∙ ap (λ (g : ℕ). residue (g + 1)) (sym heard) ∙ ap (λ (h : Half). residue (h.end.marks.gsr + 1)) (sym a1.rests);
        }

    rto-ready : (more : ℕ) (w : ControlledWorld C) {x y : Side} (two : AreTwo x y) → IsReady (more + 1) w.world x y
        → IsReady more (next control w (event.Timer x timers.Rto)).world x y
    rto-ready more w {x} {y} two r =
        let e : EndState = (half_of w.world x).end in
        let flies : Bool = has_in_flight control (congestion_of w x) in
        let s : Step Bool = fires e timers.Rto flies in
        let acts = timer-acts control effects w two timers.Rto (more + 1) r.opened.under_way in
        let rests : s.after ≡ e = rto-rests e flies r.opened.here in
        record {
          opened =
              stays-open control effects own others more w (event.Timer x timers.Rto) two None s acts (ap (λ (z : EndState). z.config) rests)
              (ap (λ (z : EndState). z.phase) rests ∙ r.opened.here) (ap (λ (z : EndState). z.rows) rests) r.opened;
          not_owed = ap (λ (h : Half). h.end.owed) acts.acting ∙ ap (λ (z : EndState). z.owed) rests ∙ r.not_owed;
          after_heard =
              ap (λ (h : Half). h.end.marks.gss) acts.acting ∙ ap (λ (z : EndState). z.marks.gss) rests ∙ r.after_heard
              ∙ ap (λ (h : Half). residue (h.end.marks.gsr + 1)) (sym acts.resting);
        }

    -- There `send` takes data, and they get through.
    gets-through : (w : ControlledWorld C) {x y : Side} (two : AreTwo x y) (payload : List ℕ) → IsReady 2 w.world x y → may_send control (congestion_of w x) ≡ true
        → lacks_vectors own ≡ false → length payload ≤ 1024 → GetsThrough control w x payload
    gets-through w {x} {y} two payload r may reports short =
        record {
          sent = step-of w x (send-half w x payload);
          takes_place = takes;
          is_taken = ap (λ (t : Step (Result (Unit {0}) SendFault)). seen_of (input.Sent t.answer)) (sends-so e payload m r.opened.here r.not_owed short reports_here may);
          frame = c.frame;
          is_added = subst (λ (u : ControlledWorld C). slice_get (half_of u.world x).frames index ≡ Some c.frame) same c.is_there;
          handed = step-of v y (taken-half v y c.frame);
          arrives =
              subst (λ (u : ControlledWorld C). happens_to control u (event.Deliver x index) ≡ Ok (step-of v y (taken-half v y c.frame))) same
              (deliver-happens v two index c.frame c.is_there (room-so (half_of v.world y) 1 (opened.under_way.room y)) c.near);
          place = (length c.frame.bytes - length payload, length c.frame.bytes);
          is_delivered = ap (λ (o : Outcome). place_delivered (seen.Received o)) taken ∙ ap Some c.here.placed;
          up_to_the_end = refl;
          are_the_data =
              subst (λ (bytes : List ℕ). drop (length c.frame.bytes - length bytes) c.frame.bytes ≡ bytes) c.here.payload_is
              (payload-lies c.frame.bytes c.here.parts c.here.is_packet).1;
        }
      where
        e : EndState
        e = (half_of w.world x).end

        m : Bool
        m = may_send control (congestion_of w x)

        index : ℕ
        index = length (half_of w.world x).frames

        room : is_full (half_of w.world x) ≡ false
        room = room-so (half_of w.world x) 2 (r.opened.under_way.room x)

        v : ControlledWorld C
        v = next control w (event.Send x payload)

        takes : happens_to control w (event.Send x payload) ≡ Ok (step-of w x (send-half w x payload))
        takes = send-happens w two payload room

        same : v ≡ (step-of w x (send-half w x payload)).after
        same = ap (controlled_after w) takes

        reports_here : lacks_vectors e.rows ≡ false
        reports_here = ap lacks_vectors r.opened.own_rows ∙ reports

        s : Step (Result (Unit {0}) SendFault)
        s = sends_payload e payload m

        says : SaysSo e s (data-of payload)
        says = data-says e payload m r.opened.here r.not_owed short reports_here may

        acts : Acts w.world v.world x y (moved (half_of w.world x) None s)
        acts = send-acts 2 w two payload room

        opened : AreOpenWith 1 v.world x y own others
        opened = stays-open control effects own others 1 w (event.Send x payload) two None s acts says.config says.phase says.rows_are r.opened

        gss : ℕ
        gss = (half_of v.world x).end.marks.gss

        out : IsOutAs (half_of v.world x) gss (data-of payload)
        out = out-as (half_of v.world x) (half_of w.world x) None s (data-of payload) acts.acting says

        c : IsComingAs control effects v x y gss (data-of payload)
        c =
            coming-as control effects own others alike 1 v two gss (data-of payload) opened out (gss-small 1 v.world opened.under_way two)
            (data-sendable payload short) tt refl

        there : EndState
        there = (half_of v.world y).end

        near : gss ≡ residue (residue (there.marks.gsr + 1) + 1)
        near =
            ap (λ (h : Half). h.end.marks.gss) acts.acting ∙ says.gss_is ∙ ap (λ (g : ℕ). residue (g + 1)) r.after_heard
            ∙ ap (λ (h : Half). residue (residue (h.end.marks.gsr + 1) + 1)) (sym acts.resting)

        live : is_live there.phase ≡ true
        live = ap is_live opened.there

        fits : verdict_of there c.here.packet ≡ verdicts.Valid
        fits = rw (c.here.type_is, c.here.numbered, c.here.acks) (in-window 1 v.world opened.under_way two live (inr near))

        new : answer_to there.received.set c.here.packet.number ≡ New
        new = ap (answer_to there.received.set) c.here.numbered ∙ newly 1 v.world opened.under_way two live (inr near)

        taken : (receives there c.frame.bytes).answer ≡ Took (Some c.here.packet.data_place)
        taken = data-taken there c.frame.bytes c.here.packet c.here.came opened.there c.here.type_is c.here.listed fits new

    -- The tree.
    pub through-on : ((c : C) → may_send control (control.timed_out c) ≡ true)
        → ((w : ControlledWorld C) (e : Event) → ((side : Side) → 1 ≤ control.window (congestion_of w side)) → (side : Side) → 1 ≤ control.window (congestion_of (next control w e) side))
        → (w : ControlledWorld C) {x y : Side} (two : AreTwo x y) (payload : List ℕ) → ((side : Side) → 1 ≤ control.window (congestion_of w side))
        → AreOpenWith 8 w.world x y own others → lacks_vectors own ≡ false → length payload ≤ 1024
        → HasWay control 6 w (λ (v : ControlledWorld C). GetsThrough control v x payload)
    through-on frees keep w {x} {y} two payload wide o reports short =
        let goal : (ControlledWorld C → Type 0) = λ v. GetsThrough control v x payload in
        in-step-on control effects own others alike (λ u. (side : Side) → 1 ≤ control.window (congestion_of u side)) keep 4 2 w two goal wide o
        (λ u wide_there synced.
        let first : Event = event.Timer x timers.Ack in
        let u1 : ControlledWorld C = next control u first in
        let a1 = ack-sent control effects own others alike 3 u two synced.opened in
        let ready = ready-so 3 u.world u1.world x y synced.heard a1 in
        let second : Event = event.Timer x timers.Rto in
        let u2 : ControlledWorld C = next control u1 second in
        let may =
        rto-frees frees u1 two (room-so (half_of u1.world x) 3 (ready.opened.under_way.room x)) ready.opened.here (keep u first wide_there x) in
        leads-by control 1 u goal first tt
        (leads-by control 0 u1 goal second tt
        (leads-here control u2 goal (gets-through u2 two payload (rto-ready 2 u1 two ready) may reports short))))
