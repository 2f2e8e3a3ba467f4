-- The law on data: from a world that is OPEN and settled they get through, and from one that is OPEN, or an end is over.
use Rattle.std.proofs.Common.{◌≡◌, ◌⊎◌, inl, inr, refl, ap, sym, ◌∙◌, subst, ◌==◌, ◌&&◌, ℕ, ◌+◌, ◌≤◌, true, false, Bool, List, [], ◌∷◌, ◌++◌, length, length-append, arith}
use Rattle.congestion_trait.specs.Control.{Control, IsLawful}
use Rattle.congestion_trait.proofs.Keeping.{sends-after-timeout}
use Rattle.dccp_endpoint.specs.Calling.{lacks_vectors}
use Rattle.dccp_endpoint.specs.Causes.{EveryStepHasOneEffect}
use Rattle.dccp_endpoint.specs.Drafts.{Fits}
use Rattle.dccp_endpoint.specs.End.{held_of, value_in}
use Rattle.dccp_endpoint.specs.ShortForm.{is_settled_on_one, is_stable}
use Rattle.dccp_endpoint.specs.declared.config.Config.{Config}
use Rattle.dccp_states.specs.declared.phase.Phase.TheVariants as phases
use Rattle.dccp_states.specs.declared.phase.Role.TheVariants as role
use Rattle.feature_lists.specs.declared.features.Feature.TheVariants.{ShortSeqnos}
use Rattle.feature_lists.specs.declared.features.Place.TheVariants.{Here, There}
use Rattle.feature_machine.specs.Negotiating.{held_by, row_at}
use Rattle.two_ends.specs.Controlled.{ControlledWorld, begins_with, congestion_of, plays, plays_from_start}
use Rattle.two_ends.specs.Safe.{Safe}
use Rattle.two_ends.specs.World.{WorldState, half_of}
use Rattle.world_events.specs.declared.event.Event.{Event}
use Rattle.world_events.specs.declared.event.Side.{Side}
use Rattle.world_events.specs.declared.event.Side.TheVariants.{Client, Server}
use Rattle.two_ends_progress.specs.GettingThrough.{AreFew, GetsThrough, LacksReports}
use Rattle.two_ends_progress.specs.Leading.{AreOpen, ArePassive, HasWay}
use Rattle.two_ends_progress.specs.Opening.{HasEnded}
use Rattle.two_ends_progress.specs.Paired.{AreForEachOther}
use Rattle.two_ends_progress.specs.Settled.{AreSettled, HaveAgreed, HoldOneValue}
use Rattle.two_ends_progress.proofs.Agreed.{agreeing-leads, one-value, plays-joined}
use Rattle.two_ends_progress.proofs.Closing.{start-under-way}
use Rattle.two_ends_progress.proofs.Leading.{leads-here, leads-within, next}
use Rattle.two_ends_progress.proofs.Openly.{few-next}
use Rattle.two_ends_progress.proofs.Stepping.{AreTwo, ClientFirst, ServerFirst, IsUnderWay}
use Rattle.two_ends_progress.proofs.Through.{through-on}
use Rattle.two_ends_progress.proofs.Widening.{wide-begins, wide-next, wide-plays}

-- The second side takes the short numbers that the first may send, where they hold one value.
settled-value : (stable : Bool) (value : ℕ) → (stable && (value == 1)) ≡ true → (value == 1) ≡ true
settled-value true value is = is
settled-value false value is = cc is

alike-so : (w : WorldState) → HoldOneValue w → {x y : Side} → AreTwo x y
    → is_settled_on_one (held_by (row_at (half_of w x).end.rows ShortSeqnos Here)) ≡ true → (value_in (half_of w y).end.rows ShortSeqnos There == 1) ≡ true
alike-so w one ClientFirst settled =
    ap (λ (n : ℕ). n == 1) (sym (one ShortSeqnos Here))
    ∙ settled-value (is_stable (held_of w.client.end ShortSeqnos Here).stand) (held_of w.client.end ShortSeqnos Here).value settled
alike-so w one ServerFirst settled =
    ap (λ (n : ℕ). n == 1) (one ShortSeqnos There)
    ∙ settled-value (is_stable (held_of w.server.end ShortSeqnos Here).stand) (held_of w.server.end ShortSeqnos Here).value settled

module _ {C : Type 0} (control : Control C) (effects : EveryStepHasOneEffect) where
  -- this many events add this many frames at most
  pub few-plays : (more : ℕ) (w : ControlledWorld C) (events : List Event) → AreFew (more + length events) w.world → AreFew more (plays control w events).world
  few-plays more w [] few = λ side. omega (arith, few side)
  few-plays more w (event ∷ events) few =
      few-plays more (next control w event) events
      (few-next control effects (more + length events) w event (λ side. omega (arith, few side)))

-- a way and another after it
passive-joined : (events more : List Event) → ArePassive events → ArePassive more → ArePassive (events ++ more)
passive-joined [] more first second = second
passive-joined (event ∷ events) more first second = (first.0, passive-joined events more first.1 second)

pub way-joined : {C : Type 0} (control : Control C) (most least : ℕ) (w : ControlledWorld C) (goal : ControlledWorld C → Type 0) (events : List Event) → ArePassive events
    → length events ≤ most → HasWay control least (plays control w events) goal → HasWay control (most + least) w goal
way-joined control most least w goal events passive few way =
    record {
      events = events ++ way.events;
      are_passive = passive-joined events way.events passive way.are_passive;
      few = omega (arith, few, way.few, length-append events way.events);
      leads = subst goal (sym (plays-joined control w events way.events)) way.leads;
    }

module _ {C : Type 0} (control : Control C) (lawful : IsLawful control) (effects : EveryStepHasOneEffect) where
  abbrev AreWide : ControlledWorld C → Type 0
  AreWide w = (side : Side) → 1 ≤ control.window (congestion_of w side)

  data-way : (w : ControlledWorld C) {x y : Side} (two : AreTwo x y) (payload : List ℕ) → IsUnderWay 8 w.world → AreFew 8 w.world → AreWide w
      → (half_of w.world x).end.phase ≡ phases.Open → (half_of w.world y).end.phase ≡ phases.Open → HoldOneValue w.world
      → lacks_vectors (half_of w.world x).end.rows ≡ false → length payload ≤ 1024 → HasWay control 6 w (λ (v : ControlledWorld C). GetsThrough control v x payload)
  data-way w {x} {y} two payload u few wide here there one reports short =
      through-on control effects (half_of w.world x).end.rows (half_of w.world y).end.rows (alike-so w.world one two)
      (λ c. sends-after-timeout control lawful c) (wide-next control lawful.keeps_window) w two payload wide
      (record { under_way = u; few = few; here = here; there = there; own_rows = refl; others_rows = refl }) reports short

  pub data-from : (w : ControlledWorld C) (side : Side) (payload : List ℕ) → IsUnderWay 8 w.world → AreFew 8 w.world → AreWide w → AreOpen w.world
      → HoldOneValue w.world → lacks_vectors (half_of w.world side).end.rows ≡ false → length payload ≤ 1024
      → HasWay control 6 w (λ (v : ControlledWorld C). GetsThrough control v side payload)
  data-from w Client payload u few wide opened one reports short = data-way w ClientFirst payload u few wide (opened Client) (opened Server) one reports short
  data-from w Server payload u few wide opened one reports short = data-way w ServerFirst payload u few wide (opened Server) (opened Client) one reports short

module _ {C : Type 0} (control : Control C) (lawful : IsLawful control) (effects : EveryStepHasOneEffect) (client server : Config) (for_client for_server : C)
    (events : List Event) (is_client : client.role ≡ role.Client) (is_server : server.role ≡ role.Server) (client_fits : Fits client) (server_fits : Fits server)
    (paired : AreForEachOther client server) where
  abbrev reached : ControlledWorld C
  reached = plays_from_start control client server for_client for_server events

  wide-reached : (side : Side) → 1 ≤ control.window (congestion_of reached side)
  wide-reached =
      wide-plays control lawful.keeps_window (begins_with control client server for_client for_server) events
      (wide-begins control lawful.keeps_window client server for_client for_server)

  under-way : AreFew 8 reached.world → IsUnderWay 8 reached.world
  under-way few =
      start-under-way control effects 8 client server for_client for_server events is_client is_server client_fits server_fits paired
      (λ side. omega (arith, few side))

  pub data-leads : Safe control reached → (side : Side) (payload : List ℕ) → AreOpen reached.world → AreSettled reached.world → AreFew 8 reached.world
      → lacks_vectors (half_of reached.world side).end.rows ≡ false → length payload ≤ 1024
      → HasWay control 6 reached (λ (v : ControlledWorld C). GetsThrough control v side payload)
  data-leads safe side payload opened settled few reports short =
      data-from control lawful effects reached side payload (under-way few) few wide-reached opened (one-value reached.world safe.agree settled) reports short

module _ {C : Type 0} (control : Control C) (lawful : IsLawful control) (effects : EveryStepHasOneEffect) (client server : Config) (for_client for_server : C)
    (is_client : client.role ≡ role.Client) (is_server : server.role ≡ role.Server) (client_fits : Fits client) (server_fits : Fits server)
    (paired : AreForEachOther client server) (safe : (all : List Event) → Safe control (plays_from_start control client server for_client for_server all))
    (events : List Event) (side : Side) (payload : List ℕ) (short : length payload ≤ 1024) where
  abbrev w : ControlledWorld C
  w = plays_from_start control client server for_client for_server events

  abbrev Ends : ControlledWorld C → Type 0
  Ends v = HasEnded v.world ⊎ (LacksReports v.world side ⊎ GetsThrough control v side payload)

  -- after a way to where both have agreed
  agreed-on : (more : List Event) → AreFew 8 (plays control w more).world → HaveAgreed (plays control w more).world → HasWay control 6 (plays control w more) Ends
  agreed-on more few agreed = by (lacks_vectors (half_of v.world side).end.rows) refl where
    v : ControlledWorld C
    v = plays control w more

    all : ControlledWorld C
    all = plays_from_start control client server for_client for_server (events ++ more)

    same : all ≡ v
    same = plays-joined control (begins_with control client server for_client for_server) events more

    by : (lacks : Bool) → lacks_vectors (half_of v.world side).end.rows ≡ lacks → HasWay control 6 v Ends
    by true is = leads-within control 0 6 v Ends (omega arith) (leads-here control v Ends (inr (inl (agreed, is))))
    by false is =
        let way = subst (λ (u : ControlledWorld C). AreFew 8 u.world → AreOpen u.world → AreSettled u.world → lacks_vectors (half_of u.world side).end.rows ≡ false
        → HasWay control 6 u (λ (z : ControlledWorld C). GetsThrough control z side payload)) same
        (λ few opened settled reports.
        data-leads control lawful effects client server for_client for_server (events ++ more) is_client is_server client_fits server_fits paired
        (safe (events ++ more)) side payload opened settled few reports short) few agreed.are_open agreed.are_settled is in
        record { events = way.events; are_passive = way.are_passive; few = way.few; leads = inr (inr way.leads) }

  pub data-or-over : AreOpen w.world → AreFew 32 w.world → HasWay control 30 w Ends
  data-or-over opened few =
      elim first.leads [
        | inl over ↦
            record { events = first.events; are_passive = first.are_passive; few = omega (arith, first.few); leads = inl over }
        | inr agreed ↦
            way-joined control 24 6 w Ends first.events first.are_passive first.few
            (agreed-on first.events (few-plays control effects 8 w first.events (λ each. omega (arith, few each, first.few))) agreed)
      ]
    where
      first : HasWay control 24 w (λ (v : ControlledWorld C). HasEnded v.world ⊎ HaveAgreed v.world)
      first =
          agreeing-leads control effects client server for_client for_server events is_client is_server client_fits server_fits paired safe opened
          (λ each. omega (arith, few each))
