-- What an end heard are numbers of its peer's log.
use Rattle.std.proofs.Common.{◌≡◌, ◌≢◌, inl, inr, refl, sym, ◌∙◌, ℕ, ◌+◌, ◌^◌, ◌<◌, ◌≤◌, true, false, Bool, if◌then◌else◌, length, arith}
use Rattle.std.proofs.lemmas.Option.{slice_get_within}
use Rattle.seq_circle.specs.Circle.{residue, is_before, later_of}
use Rattle.dccp_packets.specs.declared.header.PacketType.TheVariants as types
use Rattle.dccp_endpoint.specs.Causes.{Came, IsHearing, Keeps as KeepsHeard, Starts, Raises}
use Rattle.dccp_endpoint.specs.Effects.{Effect, HeardNumber, end_after}
use Rattle.dccp_endpoint.specs.End.{EndState, is_live}
use Rattle.dccp_endpoint.specs.Incoming.{Incoming}
use Rattle.dccp_endpoint.proofs.Phases.{begins, check-live}
use Rattle.two_ends.specs.Numbered.{AreSentNumbers, Hears, IsNumberOf}
use Rattle.two_ends.proofs.OfWorlds.Acting.{Act, Keeps, Party, config_of, end_of, longer}
use Rattle.two_ends.proofs.OfWorlds.Numbering.{IsOrdered, came-logged, few-logged, more-sent}

abbrev pub IsHearingPeer : Party → Party → Type 0
IsHearingPeer x y = Hears (config_of y).iss (length y.log) (end_of x)

before-places : (iss a b x y : ℕ) → x ≡ residue (iss + a) → y ≡ residue (iss + b) → a < 2 ^ 47 → b < 2 ^ 47 → is_before x y ≡ true → a ≤ b
before-places iss a b x y is_x is_y few others earlier = grind arith

dead-still : (live : Bool) → (live ≡ true → false ≡ true) → live ≡ false
dead-still true keeps = sym (keeps refl)
dead-still false keeps = refl

-- a later packet of the peer raises GSR
raised-heard : (iss count isr gsr number : ℕ) → count < 2 ^ 47 → AreSentNumbers iss count isr gsr → IsNumberOf iss count number
    → AreSentNumbers iss count isr (later_of gsr number)
raised-heard iss count isr gsr number few h s = by (is_before gsr number) refl where
  by : (later : Bool) → is_before gsr number ≡ later → AreSentNumbers iss count isr (if later then number else gsr)
  by true later =
      let above : h.greatest.place ≤ s.place =
      before-places iss h.greatest.place s.place gsr number h.greatest.same s.same (omega (arith, h.greatest.was_sent)) (omega (arith, s.was_sent)) later in
      record { first = h.first; greatest = s; in_order = omega (arith, h.in_order, above) }
  by false later = h

module _ (act : Act) (peer : IsOrdered act.peer) where
  -- A packet of the peer, other than a Reset, has the number of its place.
  pub was-sent : (a : Incoming) → Came (end_of act.side) act.given a → a.kind ≢ types.Reset → IsNumberOf (config_of act.peer).iss (length act.peer.log) a.number
  was-sent a came other =
      let from = came-logged act peer a came other in
      record { place = from.place; was_sent = slice_get_within act.peer.log from.place from.logged from.is_there; same = from.read.number }

  hears-next : (f : Effect) (h : HeardNumber) → IsHearing (end_of act.side) act.given f.phase h → IsHearingPeer act.side act.peer
      → Hears (config_of act.peer).iss (length act.peer.log) (end_after (end_of act.side) (record f { hearing = h }))
  hears-next f _ (KeepsHeard live) (inl unset) =
      inl (record {
        not_live = dead-still (is_live f.phase) (λ now. sym unset.not_live ∙ live now);
        no_first = unset.no_first;
        no_greatest =
            unset.no_greatest;
      })
  hears-next f _ (KeepsHeard live) (inr h) = inr h
  hears-next f _ (Starts a how came other entrance taken passes) before =
      let s = was-sent a came other in
      inr (record { first = s; greatest = s; in_order = omega arith })
  hears-next f _ (Raises a how came other entrance valid passes) (inl unset) =
      let live : is_live (end_of act.side).phase ≡ true = check-live (end_of act.side).phase a.kind entrance in
      let dead : is_live (end_of act.side).phase ≡ false = unset.not_live in
      cc (live, dead)
  hears-next f _ (Raises a how came other entrance valid passes) (inr h) =
      inr (raised-heard (config_of act.peer).iss (length act.peer.log) _ _ a.number (few-logged act.peer peer) h (was-sent a came other))

-- the other side has numbered more
more-heard : (iss count more : ℕ) (e : EndState) → count ≤ more → Hears iss count e → Hears iss more e
more-heard iss count more e above (inl unset) = inl unset
more-heard iss count more e above (inr h) =
    inr (record { first = more-sent iss count more _ above h.first; greatest = more-sent iss count more _ above h.greatest; in_order = h.in_order })

-- a fact of both sides after every schedule
pub hearing : Keeps (λ x y. IsOrdered x) IsHearingPeer
hearing =
    record {
      starts = λ own peer own_fits peer_fits. inl (record { not_live = (begins own.role).not_live; no_first = refl; no_greatest = refl });
      acts = λ act (own, others) (here, there). (
        hears-next act others act.effect act.effect.hearing act.because.hears here,
        more-heard (config_of act.side).iss _ _ (end_of act.peer) (longer act) there,
      );
    }
