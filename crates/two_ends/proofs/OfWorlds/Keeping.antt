-- What every schedule keeps, and what makes the world safe.
use Rattle.std.proofs.Common.{◌≡◌, ap, sym, ◌∙◌, subst, ℕ, ◌+◌, ◌-◌, ◌^◌, ◌<◌, ◌≤◌, true, List, Option, Result, Some, slice_get, length, arith}
use Rattle.std.specs.List.{Contains}
use Rattle.std.proofs.lemmas.List.{length-map}
use Rattle.seq_circle.specs.Circle.{residue}
use Rattle.seq_circle.specs.Counts.{number_of}
use Rattle.dccp_states.specs.declared.phase.Role.TheVariants as role
use Rattle.congestion_trait.specs.Control.{Control}
use Rattle.dccp_options.specs.Vectors.{is_received, state_at}
use Rattle.dccp_endpoint.specs.Causes.{Came, EveryStepHasOneEffect}
use Rattle.dccp_endpoint.specs.Drafts.{Fits}
use Rattle.dccp_endpoint.specs.End.{IsProper}
use Rattle.dccp_endpoint.specs.Incoming.{Incoming}
use Rattle.dccp_endpoint.specs.Inputs.{Input}
use Rattle.dccp_endpoint.specs.declared.config.Config.{Config}
use Rattle.two_ends.specs.FeatureMoves as moves
use Rattle.two_ends.specs.FeatureRows.{location_of, pair_of}
use Rattle.feature_machine.specs.Negotiating.{opposite}
use Rattle.feature_machine.specs.declared.stands.Role2.TheVariants as end
use Rattle.world_events.specs.declared.event.Side.{Side}
use Rattle.world_events.specs.declared.event.Side.TheVariants.{Client, Server}
use Rattle.world_events.specs.declared.event.WorldFault.{WorldFault}
use Rattle.two_ends.specs.declared.frames.SentFrame.{SentFrame}
use Rattle.two_ends.specs.Asked.{AllIsAsked, KeepsInitialValues, row_for}
use Rattle.two_ends.specs.Controlled.{ControlledWorld}
use Rattle.two_ends.specs.Numbered.{AreNumbered, Facts, Hears, IsNumberOf, IsNumbered}
use Rattle.two_ends.specs.Pairs.{FeatureAt, place_at}
use Rattle.two_ends.specs.Negotiated.{Agree, Given}
use Rattle.two_ends.specs.Reported.{CarriesVector, Heard, IsOnce, Once, Told, Truthful}
use Rattle.two_ends.specs.Safe.{Safe}
use Rattle.two_ends.specs.World.{WorldState, WorldStep, Occurrence, half_of, world_after_all, world_after, at_start}
use Rattle.world_events.specs.Actors.{other}
use Rattle.two_ends.proofs.OfWorlds.Acknowledging.{KnowsAcknowledged, acknowledging}
use Rattle.two_ends.proofs.OfWorlds.Acting.{IsHeld, Keeps, NoFact, Party, Takes, config_of, end_of, held_by, party_of, run-configs, run-held, taken-held}
use Rattle.two_ends.proofs.OfFeatures.Agreeing.{AreReached, IsSpoken, agree, end_at, given, key_of}
use Rattle.two_ends.proofs.OfFeatures.Asking.{active-sent, none-pending, unasked}
use Rattle.two_ends.proofs.OfWorlds.Hearing.{IsHearingPeer, hearing}
use Rattle.two_ends.proofs.OfFeatures.KeyHearing.{IsWell}
use Rattle.two_ends.proofs.OfWorlds.Logged.{at-place}
use Rattle.two_ends.proofs.OfMarks.Marking.{IsMarking, marking}
use Rattle.two_ends.proofs.OfFeatures.Negotiating.{IsNegotiated, negotiating}
use Rattle.two_ends.proofs.OfWorlds.Numbering.{IsOrdered, few-logged, more-sent, numbering}
use Rattle.two_ends.proofs.OfWorlds.ReadBack.{IsSentFrame, IsToldBy, logged-numbered, told-by-sender}
use Rattle.two_ends.proofs.OfMarks.Remembering.{marks-processed, newest-processed, records-honest}
use Rattle.two_ends.proofs.OfMarks.Resets.{resets-move-nothing}
use Rattle.two_ends.proofs.OfMarks.Reporting.{once, received-processed, told, truthful, unacknowledged}
use Rattle.two_ends.proofs.OfMarks.Shown.{few-processed}
use Rattle.two_ends.proofs.OfFeatures.Speaking.{IsSaidOnce, frame-once, speaks-once}
use Rattle.two_ends.proofs.OfMarks.Vectors.{frames-length}
use Rattle.two_ends.proofs.OfFeatures.Viewing.{view_of}

-- A further fact is one file, a field here, and its line at the start and in a step.
pub record SideInvariant (x y : Party) : Type 0 where
  pub ordered : IsOrdered x
  pub hears : IsHearingPeer x y
  pub acknowledged : KnowsAcknowledged x
  pub marks : IsMarking x y
  pub negotiated : IsNegotiated x y

keeping : Keeps NoFact SideInvariant
keeping =
    record {
      starts =
          λ x y x_fits y_fits.
          record {
            ordered = numbering.starts x y x_fits y_fits;
            hears = hearing.starts x y x_fits y_fits;
            acknowledged = acknowledging.starts x y x_fits y_fits;
            marks = marking.starts x y x_fits y_fits;
            negotiated = negotiating.starts x y x_fits y_fits;
          };
      acts =
          λ act none (here, there).
          let ordered = numbering.acts act (tt, tt) (here.ordered, there.ordered) in
          let hears = hearing.acts act (here.ordered, there.ordered) (here.hears, there.hears) in
          let acknowledged = acknowledging.acts act (here.ordered, there.ordered) (here.acknowledged, there.acknowledged) in
          let marks = marking.acts act (here.ordered, there.ordered) (here.marks, there.marks) in
          let negotiated = negotiating.acts act (here.ordered, there.ordered) (here.negotiated, there.negotiated) in (
            record { ordered = ordered.0; hears = hears.0; acknowledged = acknowledged.0; marks = marks.0; negotiated = negotiated.0 },
            record { ordered = ordered.1; hears = hears.1; acknowledged = acknowledged.1; marks = marks.1; negotiated = negotiated.1 },
          );
    }

abbrev numbered-half : (x : Party) → IsOrdered x → IsNumbered x.half
numbered-half x o =
    record {
      count = length x.log;
      in_order =
          subst (λ (n : ℕ). AreNumbered (config_of x).role n 0 x.half.frames (length x.log)) (sym o.first)
          (logged-numbered (config_of x) x.half.frames x.log o.logged);
      up_to_greatest = o.greatest ∙ ap (λ (n : ℕ). residue (n + length x.log + (2 ^ 48 - 1))) (sym o.first);
      few = few-logged x o;
      few_frames = o.few;
    }

own-acknowledged : (x : Party) → IsOrdered x → KnowsAcknowledged x → 1 ≤ length x.log → IsNumberOf (end_of x).marks.iss (length x.log) (end_of x).marks.gar
own-acknowledged x o k some =
    subst (λ (n : ℕ). IsNumberOf n (length x.log) (end_of x).marks.gar) (sym o.first) (more-sent (config_of x).iss _ _ _ (omega (arith, some)) k.gar)

-- The client's end is a client, and the server's a server.
pub record HasRoles (w : WorldState) : Type 0 where
  pub is_client : (half_of w Client).end.config.role ≡ role.Client
  pub is_server : (half_of w Server).end.config.role ≡ role.Server

-- What the side invariant says of a world.
module _ (w : WorldState) (h : IsHeld SideInvariant w) where
  holds : (side : Side) → SideInvariant (party_of w h.logs side) (party_of w h.logs (other side))
  holds side = (held_by SideInvariant w h side).0

  ordered-there : (side : Side) → IsOrdered (party_of w h.logs (other side))
  ordered-there side = (holds (other side)).ordered

  marks-of : (side : Side) → IsMarking (party_of w h.logs side) (party_of w h.logs (other side))
  marks-of side = (holds side).marks

  said-once : (side : Side) (index : ℕ) (frame : SentFrame) → slice_get (half_of w side).frames index ≡ Some frame → IsSaidOnce frame.bytes
  said-once side index frame there = frame-once (party_of w h.logs side) _ index frame (holds side).ordered (holds side).negotiated.well there

  pub kept-facts : Facts w
  kept-facts =
      record {
        numbered = λ side. numbered-half (party_of w h.logs side) (holds side).ordered;
        heard = λ side. subst (λ (n : ℕ). Hears n (length (h.logs (other side))) (half_of w side).end) (sym (holds (other side)).ordered.first)
            (holds side).hears;
        unmoved = λ side. resets-move-nothing (half_of w side).end (holds side).ordered.proper;
        acknowledged = λ side. own-acknowledged (party_of w h.logs side) (holds side).ordered (holds side).acknowledged;
        spoken = λ side index frame there. speaks-once side frame.bytes (said-once side index frame there)
            (unacknowledged w h.logs side (holds side).ordered (ordered-there side) (marks-of side) index frame there);
        processed = λ side. marks-processed (party_of w h.logs side) (party_of w h.logs (other side)) (ordered-there side) (marks-of side);
        newest = λ side. newest-processed w h.logs side (ordered-there side) (marks-of side);
        recorded = λ side. records-honest w h.logs side (holds side).ordered (ordered-there side) (marks-of side);
      }

  spoken : (side : Side) → IsSpoken (party_of w h.logs side) (config_of (party_of w h.logs (other side))).iss
  spoken side =
      let iss : ℕ = (config_of (party_of w h.logs (other side))).iss in
      record {
        logged = (holds side).ordered.logged;
        well = λ k place l there. (at-place (IsWell iss) (h.logs side) place l (holds side).negotiated.well there).each k;
      }

  reached-pair : HasRoles w → (pair : FeatureAt) → AreReached w h.logs pair
  reached-pair roles pair =
      let n = (holds Server).negotiated in
      record {
        servers = n.greatest;
        clients = n.others;
        reached = by pair.location (n.reached roles.is_server roles.is_client (key_of pair Server));
      }
    where
      server : Party
      server = party_of w h.logs Server

      client : Party
      client = party_of w h.logs Client

      by : (location : Side)
          → moves.HaveReached (pair_of pair.feature (location_of end.Server (place_at Server location)))
          (view_of server (config_of client).iss (holds Server).negotiated.greatest (pair.feature, place_at Server location))
          (view_of client (config_of server).iss (holds Server).negotiated.others (pair.feature, opposite (place_at Server location)))
          → moves.HaveReached (pair_of pair.feature (end_at location))
          (view_of server (config_of client).iss (holds Server).negotiated.greatest (pair.feature, place_at Server location))
          (view_of client (config_of server).iss (holds Server).negotiated.others (pair.feature, place_at Client location))
      by Client reached = reached
      by Server reached = reached

  pub kept-proper : (side : Side) → IsProper (half_of w side).end
  kept-proper side = (holds side).ordered.proper

  -- An end took no more packets than were sent.
  pub marked-few : (side : Side) → (half_of w side).end.marked ≤ 2 ^ 47
  marked-few side =
      let m = marks-of side in
      let most = few-processed m.view m.peer.frames m.kept.here.sound m.kept.here.listed in
      omega (
        arith,
        m.here.marked,
        ap length m.here.processed,
        length-map m.view.processed (number_of (config_of (party_of w h.logs (other side))).iss),
        most,
        frames-length m.there.frames,
        few-logged (party_of w h.logs (other side)) (ordered-there side),
      )

  pub held-once : (side : Side) → IsOnce w side
  held-once side = once w h.logs side (holds side).ordered (ordered-there side) (marks-of side)

  -- What arrives has the numbers that are kept of its frame.
  pub kept-told : (side : Side) (given : Input) (a : Incoming) (came : Came (half_of w side).end given a) (arrived : Option ℕ)
      → (sent : IsSentFrame (half_of w side).end (half_of w (other side)).frames arrived came.bytes) → IsToldBy sent.frame a
  kept-told side given a came arrived sent =
      told-by-sender (half_of w side).end given a came (half_of w (other side)).end.config (holds side).ordered.numbers (half_of w (other side)).frames
      (h.logs (other side)) arrived sent (ordered-there side).logged

  -- What a side's Ack Vector reports as received, it had processed.
  pub kept-received : (side : Side) (index : ℕ) (frame : SentFrame) (ack : ℕ) (bytes : List ℕ) (n : ℕ) → slice_get (half_of w side).frames index ≡ Some frame
      → CarriesVector frame ack bytes → n < 2 ^ 48 → is_received (state_at ack bytes n) ≡ true → Contains (half_of w side).processed n
  kept-received side = received-processed w h.logs side (holds side).ordered (ordered-there side) (marks-of side)

  -- What was not asked for stays, and the last lists sent are the active ones.
  pub kept-initial : HasRoles w → KeepsInitialValues w
  kept-initial roles pair side none = unasked w h.logs spoken pair (reached-pair roles pair) side none

  pub kept-asked : HasRoles w → AllIsAsked w
  kept-asked roles pair side =
      record {
        last_is_active = λ priority list last. active-sent w h.logs spoken pair (reached-pair roles pair) side priority list last;
        nothing_waits =
            λ stable.
            none-pending (row_for w pair side).feature (row_for w pair side).place (row_for w pair side).stand (row_for w pair side).pending stable
            ((kept-proper side).rows.sound.each pair.feature (place_at side pair.location)).sound.pending;
      }

  -- The parts that say nothing of congestion control.
  record AreKept : Type 0 where
    agree : Agree w
    given : Given w
    truthful : Truthful w
    told : Told w
    once : Once w

  kept-parts : HasRoles w → AreKept
  kept-parts roles =
      record {
        agree = agree w h.logs spoken (reached-pair roles);
        given = given w h.logs spoken (reached-pair roles);
        truthful = λ side. truthful w h.logs side (holds side).ordered (ordered-there side) (marks-of side);
        told = λ side. told w h.logs side (holds side).ordered (ordered-there side) (marks-of side);
        once = held-once;
      }

-- With what the ends believe received, the world is safe.
pub kept-safe : {C : Type 0} (control : Control C) (w : ControlledWorld C) → IsHeld SideInvariant w.world → HasRoles w.world → Heard control w → Safe control w
kept-safe control w h roles heard =
    let parts = kept-parts w.world h roles in
    record {
      agree = parts.agree;
      given = parts.given;
      truthful = parts.truthful;
      told = parts.told;
      once = parts.once;
      heard = heard;
    }

module _ (effects : EveryStepHasOneEffect) where
  pub run-kept : (client server : Config) (events : List Occurrence) → Fits client → Fits server
      → IsHeld SideInvariant (world_after_all (at_start client server) events)
  run-kept client server events client_fits server_fits =
      run-held SideInvariant keeping (λ x y k. k.ordered.proper) (λ x y k. k.ordered.numbers) effects client server events client_fits server_fits

  -- one step
  pub step-kept : (w : WorldState) (side : Side) (r : Result WorldStep WorldFault) → Takes w side r → IsHeld SideInvariant w
      → IsHeld SideInvariant (world_after w r)
  step-kept w side r takes h =
      (taken-held SideInvariant keeping (λ x y k. k.ordered.proper) (λ x y k. k.ordered.numbers) effects w side r takes h).held

  pub run-roles : (client server : Config) (events : List Occurrence) → client.role ≡ role.Client → server.role ≡ role.Server → Fits client → Fits server
      → HasRoles (world_after_all (at_start client server) events)
  run-roles client server events is_client is_server client_fits server_fits =
      let same = run-configs SideInvariant keeping (λ x y k. k.ordered.proper)
      (λ x y k. k.ordered.numbers) effects client server events client_fits server_fits in
      record {
        is_client = ap (λ (config : Config). config.role) (same Client) ∙ is_client;
        is_server = ap (λ (config : Config). config.role) (same Server) ∙ is_server;
      }
