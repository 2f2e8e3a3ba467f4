-- What an end believes received, by its congestion control, the other side processed.
use Rattle.std.proofs.Common.{◌≡◌, ap, sym, ◌∙◌, subst, ⊎_elim, ℕ, ◌^◌, ◌<◌, true, List, [], ◌∷◌, ◌++◌, Result, Ok, Err, IfOk, Option, Some, arith}
use Rattle.std.proofs.lemmas.List.Elements.{Contains-append_left}
use Rattle.std.specs.List.{Contains, filter, list_any}
use Rattle.std.specs.Result.{result_ok}
use Rattle.congestion_trait.proofs.Calls.{listed_run, reported_run}
use Rattle.congestion_trait.proofs.Numbers.{numbers_reported-exact}
use Rattle.congestion_trait.specs.Calls.{Call, call_sends, tells}
use Rattle.congestion_trait.specs.Control.{Control, IsLawful}
use Rattle.congestion_trait.specs.Flight.{Has, HasEntry}
use Rattle.congestion_trait.specs.declared.flight.FlightEntry.{FlightEntry}
use Rattle.congestion_trait.specs.declared.flight.Standing.{Standing}
use Rattle.congestion_trait.specs.declared.flight.Standing.TheVariants.{Reported}
use Rattle.dccp_endpoint.specs.Causes.{EveryStepHasOneEffect}
use Rattle.dccp_endpoint.specs.Controlled.{after_calls, is_made}
use Rattle.dccp_endpoint.specs.Drafts.{Fits}
use Rattle.dccp_endpoint.specs.End.{EndState}
use Rattle.dccp_endpoint.specs.Effects.{Effect}
use Rattle.dccp_endpoint.specs.Incoming.{Incoming}
use Rattle.dccp_endpoint.specs.Inputs.{Input}
use Rattle.dccp_endpoint.specs.declared.config.Config.{Config}
use Rattle.dccp_options.specs.Vectors.{report_of}
use Rattle.dccp_states.specs.declared.phase.Role.TheVariants as role
use Rattle.two_ends.specs.Asked.{AllIsAsked, KeepsInitialValues}
use Rattle.two_ends.specs.Controlled.{ControlledWorld, begins_with, congestion_of, controlled_after, controls, happens_to, plays, said_by}
use Rattle.two_ends.specs.Delivered.{DeliversItsData, IsDeliveredOnce}
use Rattle.two_ends.specs.Frames.{options_in, packet_of, packet_options}
use Rattle.two_ends.specs.Numbered.{Facts}
use Rattle.two_ends.specs.Reached.{ReachedByEvents}
use Rattle.two_ends.specs.Reported.{CarriesVector, Heard}
use Rattle.two_ends.specs.Safe.{Safe}
use Rattle.two_ends.specs.World.{Said, WorldState, WorldStep, at_start, half_of, half_steps, happens, world_after_all}
use Rattle.world_events.specs.Actors.{actor, other}
use Rattle.world_events.specs.declared.event.Event.{Event}
use Rattle.dccp_states.specs.declared.seen.Seen.{Seen}
use Rattle.world_events.specs.declared.event.Side.{Side}
use Rattle.world_events.specs.declared.event.Side.TheVariants.{Client, Server}
use Rattle.world_events.specs.declared.event.WorldFault.{WorldFault}
use Rattle.two_ends.proofs.OfWorlds.Acting.{IsHeld, Refused, Steps, Takes, event-taken}
use Rattle.two_ends.proofs.OfWorlds.Calling.{IsHeardOf, any-left, sends-so, tells-so}
use Rattle.two_ends.proofs.OfWorlds.Delivering.{delivered-once, delivers-so}
use Rattle.two_ends.proofs.OfWorlds.Keeping.{HasRoles, SideInvariant, kept-asked, kept-facts, kept-initial, kept-proper, kept-received, kept-safe, kept-told, run-kept, run-roles, step-kept}
use Rattle.two_ends.proofs.OfWorlds.Reaching.{occurring, plays-run, world-after}
use Rattle.two_ends.proofs.OfWorlds.ReadBack.{IsFromPeer, IsSentFrame}

none-listed : (n : ℕ) (standing : Standing) → Has [] n standing → ⊥
none-listed n standing has_it = omega (arith, has_it.1)

-- What an arriving packet reports as received, its sender had processed.
arrived-processed : (w : WorldState) (h : IsHeld SideInvariant w) (side : Side) (arrived : Option ℕ) (given : Input) (f : Effect) (n : ℕ)
    → IsFromPeer (half_of w side).end (half_of w (other side)).frames arrived given → IsHeardOf (half_of w side).end given f.hearing f.sending n → n < 2 ^ 48
    → Contains (half_of w (other side)).processed n
arrived-processed w h side arrived given f n from heard small =
    let a : Incoming = heard.packet in
    let came = heard.taken.came in
    let sent : IsSentFrame (half_of w side).end (half_of w (other side)).frames arrived came.bytes =
    subst (IsFromPeer (half_of w side).end (half_of w (other side)).frames arrived) came.is_given from in
    let is_packet : packet_of sent.frame.bytes ≡ Some came.packet = ap packet_of (sym sent.same) ∙ ap result_ok came.is_packet in
    let options : options_in sent.frame.bytes ≡ a.options = ap packet_options is_packet ∙ sym (ap (λ (x : Incoming). x.options) came.same) in
    let carries : CarriesVector sent.frame heard.told.number heard.told.bytes =
    record {
      acknowledges = (kept-told w h side given a came arrived sent).ack ∙ heard.told.acknowledges;
      carries = ap (report_of heard.told.number) options ∙ heard.told.reports;
    } in
    kept-received w h (other side) sent.index sent.frame heard.told.number heard.told.bytes n sent.is_there carries small heard.told.received

module _ {C : Type 0} (control : Control C) (lawful : IsLawful control) where
  -- The numbers of a congestion control are numbers, and those that were reported to it were processed.
  record IsHonest (congestion : C) (processed : List ℕ) : Type 0 where
    fits : (n : ℕ) → HasEntry (control.flight congestion) n → n < 2 ^ 48
    heard : (n : ℕ) → Has (control.flight congestion) n Reported → Contains processed n

  started : (congestion : C) (ccid : ℕ) (processed : List ℕ) → IsHonest (control.started congestion ccid) processed
  started congestion ccid processed =
      let none = lawful.start_empties congestion ccid in
      record {
        fits = λ n listed. absurd (none-listed n listed.0 (subst (λ (l : List FlightEntry). Has l n listed.0) none listed.1));
        heard = λ n has_it. absurd (none-listed n Reported (subst (λ (l : List FlightEntry). Has l n Reported) none has_it));
      }

  processed-more : (congestion : C) (processed more : List ℕ) → IsHonest congestion processed → IsHonest congestion (processed ++ more)
  processed-more congestion processed more h =
      record { fits = h.fits; heard = λ n has_it. Contains-append_left processed more n (h.heard n has_it) }

  called : (congestion : C) (processed : List ℕ) (calls : List Call) → IsHonest congestion processed
      → ((n : ℕ) → list_any (tells n) calls ≡ true → n < 2 ^ 48 → Contains processed n)
      → ((n : ℕ) → list_any (call_sends n) calls ≡ true → n < 2 ^ 48) → IsHonest (after_calls control congestion calls) processed
  called congestion processed calls h told sent = record { fits = fits; heard = heard } where
    fits : (n : ℕ) → HasEntry (control.flight (after_calls control congestion calls)) n → n < 2 ^ 48
    fits n listed =
        ⊎_elim (λ before. h.fits n before) (λ now. sent n (any-left (call_sends n) (is_made control) calls now))
        (listed_run control lawful congestion (filter (is_made control) calls) n listed)

    heard : (n : ℕ) → Has (control.flight (after_calls control congestion calls)) n Reported → Contains processed n
    heard n has_it =
        ⊎_elim (λ before. h.heard n before) (λ now. told n (any-left (tells n) (is_made control) calls now) (fits n (Reported, has_it)))
        (reported_run control lawful congestion (filter (is_made control) calls) n has_it)

  module _ (effects : EveryStepHasOneEffect) where
    -- a step of the side whose congestion control it is
    acting-honest : (w : WorldState) → IsHeld SideInvariant w → (side : Side) (arrived : Option ℕ) (given : Input)
        → IsFromPeer (half_of w side).end (half_of w (other side)).frames arrived given
        → (congestion : C) → IsHonest congestion (half_of w (other side)).processed
        → IsHonest (after_calls control congestion (half_steps (half_of w side) arrived given).calls) (half_of w (other side)).processed
    acting-honest w held side arrived given from congestion h =
        let e : EndState = (half_of w side).end in
        let has = effects e given (kept-proper w held side) in
        let f : Effect = has.effect in
        subst (λ (calls : List Call). IsHonest (after_calls control congestion calls) (half_of w (other side)).processed) (sym has.calls_are)
        (called congestion (half_of w (other side)).processed f.calls h
        (λ n is small. arrived-processed w held side arrived given f n from (tells-so e given f.hearing f.sending f.calls has.because.calls n is) small)
        (sends-so e given f.hearing f.sending f.calls has.because.calls))

    -- of both sides
    abbrev AreHonest : ControlledWorld C → Type 0
    AreHonest w = IsHonest w.for_client w.world.server.processed × IsHonest w.for_server w.world.client.processed

    honest-after : (w : ControlledWorld C) → IsHeld SideInvariant w.world → AreHonest w → (side : Side) (r : Result WorldStep WorldFault) → Takes w.world side r
        → AreHonest (controlled_after w (controls control w side r))
    honest-after w held h side _ (Refused why) = h
    honest-after w held h Client _ (Steps arrived given room from) = (
      acting-honest w.world held Client arrived given from w.for_client h.0,
      processed-more w.for_server w.world.client.processed _ h.1,
    )
    honest-after w held h Server _ (Steps arrived given room from) = (
      processed-more w.for_client w.world.server.processed _ h.0,
      acting-honest w.world held Server arrived given from w.for_server h.1,
    )

    honest-from : (w : ControlledWorld C) (events : List Event) → IsHeld SideInvariant w.world → AreHonest w → AreHonest (plays control w events)
    honest-from w [] held h = h
    honest-from w (event ∷ events) held h =
        let said : Said = said_by control (congestion_of w (actor event)) in
        let r : Result WorldStep WorldFault = happens w.world event said in
        let takes : Takes w.world (actor event) r = event-taken w.world event said in
        honest-from (controlled_after w (controls control w (actor event) r)) events
        (subst (IsHeld SideInvariant) (sym (world-after control w (actor event) r)) (step-kept effects w.world (actor event) r takes held))
        (honest-after w held h (actor event) r takes)

    module _ (client server : Config) (for_client for_server : C) (events : List Event) (client_fits : Fits client) (server_fits : Fits server) where
      abbrev start : ControlledWorld C
      start = begins_with control client server for_client for_server

      abbrev last : ControlledWorld C
      last = plays control start events

      same : last.world ≡ world_after_all (at_start client server) (occurring control start events)
      same = plays-run control start events

      last-held : IsHeld SideInvariant last.world
      last-held = subst (IsHeld SideInvariant) (sym same) (run-kept effects client server (occurring control start events) client_fits server_fits)

      last-honest : AreHonest last
      last-honest =
          honest-from start events (run-kept effects client server [] client_fits server_fits)
          (started for_client 2 [], started for_server 2 [])

      last-heard : Heard control last
      last-heard Client n is = last-honest.0.heard n ((numbers_reported-exact (control.flight last.for_client) n).0 is)
      last-heard Server n is = last-honest.1.heard n ((numbers_reported-exact (control.flight last.for_server) n).0 is)

      pub plays-facts : Facts last.world
      plays-facts = kept-facts last.world last-held

      pub plays-delivered : IsDeliveredOnce control start events
      plays-delivered = delivered-once control effects start events (run-kept effects client server [] client_fits server_fits)

      pub plays-roles : client.role ≡ role.Client → server.role ≡ role.Server → HasRoles last.world
      plays-roles is_client is_server =
          subst HasRoles (sym same)
          (run-roles effects client server (occurring control start events) is_client is_server client_fits server_fits)

      pub plays-initial : client.role ≡ role.Client → server.role ≡ role.Server → KeepsInitialValues last.world
      plays-initial is_client is_server = kept-initial last.world last-held (plays-roles is_client is_server)

      pub plays-asked : client.role ≡ role.Client → server.role ≡ role.Server → AllIsAsked last.world
      plays-asked is_client is_server = kept-asked last.world last-held (plays-roles is_client is_server)

      pub plays-safe : client.role ≡ role.Client → server.role ≡ role.Server → Safe control last
      plays-safe is_client is_server =
          kept-safe control last last-held
          (plays-roles is_client is_server)
          last-heard

    pub reached-held : (w : ControlledWorld C) → ReachedByEvents control w → IsHeld SideInvariant w.world
    reached-held w r =
        subst (λ (v : ControlledWorld C). IsHeld SideInvariant v.world) (sym r.same)
        (last-held r.client r.server r.for_client r.for_server r.events r.client_fits r.server_fits)

    -- what `step` answers of data
    pub reached-delivers : (w : ControlledWorld C) → ReachedByEvents control w → (event : Event) (new : ControlledWorld C) (result : Result Seen WorldFault)
        → IfOk result (λ seen. happens_to control w event ≡ Ok (record { after = new; seen = seen }))
        → IfOk result (λ seen. DeliversItsData w.world event new.world seen)
    reached-delivers w r event new (Ok seen) took = delivers-so control w (reached-held w r) event new seen took
    reached-delivers w r event new (Err fault) none = tt

    pub reached-facts : (w : ControlledWorld C) → ReachedByEvents control w → Facts w.world
    reached-facts w r =
        subst (λ (v : ControlledWorld C). Facts v.world) (sym r.same)
        (plays-facts r.client r.server r.for_client r.for_server r.events r.client_fits r.server_fits)

    pub reached-safe : (w : ControlledWorld C) → ReachedByEvents control w → Safe control w
    reached-safe w r =
        subst (Safe control) (sym r.same)
        (plays-safe r.client r.server r.for_client r.for_server r.events r.client_fits r.server_fits r.is_client r.is_server)
