-- What each part of what is safe means.
use Rattle.std.proofs.Common.{◌≡◌, ◌≢◌, refl, ap, sym, ◌∙◌, subst, ℕ, ◌+◌, ◌^◌, ◌<◌, ◌≤◌, min, Bool, true, false, List, ◌∷◌, Some, None, slice_get, length, length-take, length-drop, arith}
use Rattle.std.proofs.lemmas.List.{get_or-drop, get_or-take}
use Rattle.std.proofs.lemmas.Option.{same_Some}
use Rattle.std.specs.List.{Contains}
use Rattle.std.specs.Prelude.{IsSome, IsTrue, drop, slice_index, take}
use Rattle.ack_vectors.proofs.ReadBack.{plain-set}
use Rattle.ack_vectors.proofs.Telling.{heard-member, told-there, whole-tells}
use Rattle.ack_vectors.specs.Vector.{is_whole_under, room_of, set_states, state_told, vector_under}
use Rattle.ack_vectors.specs.declared.room.Vectors.{Vectors}
use Rattle.congestion_trait.proofs.Numbers.{numbers_reported-exact}
use Rattle.congestion_trait.specs.Control.{Control}
use Rattle.congestion_trait.specs.Flight.{Has}
use Rattle.congestion_trait.specs.declared.flight.Standing.TheVariants.{Reported}
use Rattle.dccp_options.specs.Vectors.{is_received, state_at}
use Rattle.dccp_packets.specs.Grammar.{packet_type}
use Rattle.dccp_packets.specs.declared.header.Kind.{Kind}
use Rattle.dccp_packets.specs.declared.header.Kind.TheVariants as kind
use Rattle.dccp_packets.specs.declared.header.PacketType.TheVariants as types
use Rattle.feature_lists.proofs.FirstShared.{found_is_first, none_is_shared}
use Rattle.feature_lists.specs.Features.{initial_of}
use Rattle.feature_lists.specs.Lists.{IsFirstShared, SharesNothing, has_entry, reconciled}
use Rattle.run_list.specs.MarkedSet.{floor_under, has}
use Rattle.seq_circle.specs.Circle.{IsBefore, IsFrom, IsWithin, distance}
use Rattle.seq_circle.specs.Counts.{number_of}
use Rattle.world_events.specs.Actors.{other}
use Rattle.world_events.specs.declared.event.Side.{Side}
use Rattle.world_events.specs.declared.event.Side.TheVariants.{Client, Server}
use Rattle.two_ends.specs.declared.frames.SentFrame.{SentFrame}
use Rattle.dccp_endpoint.specs.End.{floor_of}
use Rattle.two_ends.specs.CameOf.{CameOfLists, CameOfLocation}
use Rattle.two_ends.specs.Controlled.{ControlledWorld, congestion_of}
use Rattle.two_ends.specs.Counted.{AreAmongFirst, AreResets}
use Rattle.two_ends.specs.Frames.{is_reset}
use Rattle.two_ends.specs.Negotiated.{Agree, HasSent, Initial, IsNotNegotiable, IsServerPriority, IsSettled, Origin, Reconciled, Told as ToldValue, last_list_sent, last_value, list_said, pair_was_negotiated, value_said}
use Rattle.two_ends.specs.Pairs.{FeatureAt, held_at, said_by}
use Rattle.two_ends.specs.Reported.{CarriesVector, Far, Heard, NeedsNoReport, Once, Told, ToldIn, Truthful, WasTold, processed_by}
use Rattle.two_ends.specs.World.{WorldState, half_of}
use Rattle.two_ends.proofs.OfMarks.Processed.{at-has, has-at}
use Rattle.two_ends.proofs.OfMarks.Shown.{or-any}

-- the server's first entry, where the client has it
first-found : (value : ℕ) (later clients : List ℕ) → has_entry clients value ≡ true → reconciled (value ∷ later) clients ≡ Some value
first-found value later clients is = rw is refl

far-not : (iss count later n q : ℕ) → iss < 2 ^ 48 → 1 ≤ count → count + 2047 ≤ 2 ^ 47 → 1 ≤ later → later ≤ count + 2047 → n ≡ number_of iss count
    → q ≡ number_of iss later → IsBefore n (floor_under q) → ⊥
far-not iss count later n q fits some early one upto n_is q_is before = omega (arith, fits, some, early, one, upto, n_is, q_is, before)

between-counts : (iss first count floor isr low : ℕ) → iss < 2 ^ 48 → 1 ≤ first → first ≤ count → count < floor → floor ≤ 2 ^ 47 + 1
    → isr ≡ number_of iss first → low ≡ number_of iss floor → distance isr (number_of iss count) < distance isr low
between-counts iss first count floor isr low fits some from before early isr_is low_is =
    omega (arith, fits, some, from, before, early, isr_is, low_is)

number-small : (iss count n : ℕ) → n ≡ number_of iss count → n < 2 ^ 48
number-small iss count n is = omega (arith, is)

other-twice : (side : Side) → other (other side) ≡ side
other-twice Client = refl
other-twice Server = refl

no-reset : (k : Kind) → is_reset k ≡ false → packet_type k ≡ types.Reset → ⊥
no-reset (kind.Reset ack code detail) other_kind is = cc other_kind
no-reset _ other_kind is = cc is

has-contains : (ns : List ℕ) (n : ℕ) → has ns n ≡ true → Contains ns n
has-contains ns n is =
    let found = at-has ns n is in
    (found.0, found.1, or-any ns found.0 n 0 found.1 ∙ found.2)

contains-has : (ns : List ℕ) (n : ℕ) → Contains ns n → has ns n ≡ true
contains-has ns n has_it = has-at ns has_it.0 n has_it.1 (or-any ns has_it.0 0 n has_it.1 ∙ has_it.2)

module _ (w : WorldState) where
  module _ (agree : Agree w) (pair : FeatureAt) (settled : IsSettled w pair) where
    pub alike : (one another : Side) → (held_at w pair one).value ≡ (held_at w pair another).value
    alike Client Client = refl
    alike Client Server = (agree pair settled).equal
    alike Server Client = sym (agree pair settled).equal
    alike Server Server = refl

    pub list-sent : (side : Side) → IsServerPriority pair → IsTrue (pair_was_negotiated w pair) → IsSome (last_list_sent w pair side)
    list-sent Client priority negotiated = ((agree pair settled).both_sent priority negotiated).0
    list-sent Server priority negotiated = ((agree pair settled).both_sent priority negotiated).1

    pub first-entry : (side : Side) (value : ℕ) (later clients : List ℕ) → IsServerPriority pair → last_list_sent w pair Server ≡ Some (value ∷ later)
        → last_list_sent w pair Client ≡ Some clients → IsTrue (has_entry clients value) → (held_at w pair side).value ≡ value
    first-entry side value later clients priority servers_last clients_last shared =
        alike side Server
        ∙ (agree pair settled).is_reconciled priority (value ∷ later) clients value servers_last clients_last (first-found value later clients shared)

    pub first-shared : (side : Side) (value : ℕ) (servers clients : List ℕ) → IsServerPriority pair → last_list_sent w pair Server ≡ Some servers
        → last_list_sent w pair Client ≡ Some clients → IsFirstShared servers clients value → (held_at w pair side).value ≡ value
    first-shared side value servers clients priority servers_last clients_last shared =
        alike side Server
        ∙ (agree pair settled).is_reconciled priority servers clients value servers_last clients_last ((found_is_first servers clients value).1 shared)

    pub told-last : (side : Side) (value : ℕ) → IsNotNegotiable pair → IsTrue (pair_was_negotiated w pair) → last_value w pair ≡ Some value
        → (held_at w pair side).value ≡ value
    told-last side value located negotiated last =
        alike side pair.location
        ∙ same_Some _ value (sym ((agree pair settled).is_last_sent located negotiated) ∙ last)

  module _ (pair : FeatureAt) (value : ℕ) where
    pub from-silent : (quiet : Side) → IsServerPriority pair
        → ((index : ℕ) (frame : SentFrame) → slice_get (half_of w quiet).frames index ≡ Some frame → list_said (said_by pair quiet frame.bytes) ≡ None)
        → Origin w pair value → value ≡ initial_of pair.feature
    from-silent quiet priority none (Initial is) = is
    from-silent Server priority none (Reconciled servers clients same one another is) =
        let silent = none one.index one.frame one.is_there in
        let said = one.is_said in
        cc (silent, said)
    from-silent Client priority none (Reconciled servers clients same one another is) =
        let silent = none another.index another.frame another.is_there in
        let said = another.is_said in
        cc (silent, said)
    from-silent quiet priority none (ToldValue located told) = cc (priority, located)

    pub from-apart : IsServerPriority pair
        → ((servers clients : List ℕ) → HasSent w pair Server servers → HasSent w pair Client clients → SharesNothing servers clients)
        → Origin w pair value → value ≡ initial_of pair.feature
    from-apart priority apart (Initial is) = is
    from-apart priority apart (Reconciled servers clients same one another is) =
        let none : reconciled servers clients ≡ None = (none_is_shared servers clients).1 (apart servers clients one another) in
        cc (is, none)
    from-apart priority apart (ToldValue located told) = cc (priority, located)

    pub from-untold : IsNotNegotiable pair
        → ((index : ℕ) (frame : SentFrame) → slice_get (half_of w pair.location).frames index ≡ Some frame
        → value_said (said_by pair pair.location frame.bytes) ≡ None) → Origin w pair value → value ≡ initial_of pair.feature
    from-untold located none (Initial is) = is
    from-untold located none (Reconciled servers clients priority one another is) = cc (priority, located)
    from-untold located none (ToldValue same told) =
        let silent = none told.index told.frame told.is_there in
        let said = told.is_said in
        cc (silent, said)

    pub of-lists : IsServerPriority pair → value ≢ initial_of pair.feature → Origin w pair value → CameOfLists w pair value
    of-lists priority other (Initial is) = absurd (other is)
    of-lists priority other (Reconciled servers clients same one another is) = record {
      servers_place = one.index;
      clients_place = another.index;
      servers_frame = one.frame;
      clients_frame = another.frame;
      servers = servers;
      clients = clients;
      server_sent = one.is_there;
      client_sent = another.is_there;
      server_said = one.is_said;
      client_said = another.is_said;
      is_shared = (found_is_first servers clients value).0 is;
    }
    of-lists priority other (ToldValue located told) = cc (priority, located)

    pub of-location : IsNotNegotiable pair → value ≢ initial_of pair.feature → Origin w pair value → CameOfLocation w pair value
    of-location located other (Initial is) = absurd (other is)
    of-location located other (Reconciled servers clients priority one another is) = cc (priority, located)
    of-location located other (ToldValue same told) =
        record { place = told.index; frame = told.frame; is_sent = told.is_there; is_said = told.is_said }

  module _ (truthful : Truthful w) (side : Side) (index : ℕ) (frame : SentFrame) (ack n : ℕ) (bytes : List ℕ)
      (there : slice_get (half_of w side).frames index ≡ Some frame) (carries : CarriesVector frame ack bytes) where
    abbrev early : List ℕ
    early = processed_by (half_of w side) frame

    abbrev setting : Vectors
    setting = (half_of w side).end.config.vectors

    pub told-received : ack < 2 ^ 48 → n < 2 ^ 48 → is_received (state_at ack bytes n) ≡ true → Contains early n
    told-received fits small received =
        has-contains early n
        (heard-member (room_of setting) (has early) frame.floor ack n fits small
        (sym (ap (λ (vector : List ℕ). is_received (state_at ack vector n)) (truthful side index frame ack bytes there carries).is_vector) ∙ received))

    pub missing-none : (state : ℕ) → frame.floor < 2 ^ 48 → ack < 2 ^ 48 → n < 2 ^ 48 → state_at ack bytes n ≡ Some state
        → is_received (Some state) ≡ false → Contains early n → ⊥
    missing-none state floor_fits fits small told not_received has_it =
        let vector_told : state_at ack (vector_under (has early) frame.floor ack setting) n ≡ Some state =
        sym (ap (λ (vector : List ℕ). state_at ack vector n) (truthful side index frame ack bytes there carries).is_vector) ∙ told in
        let same : state ≡ set_states (has early) n =
        (told-there (room_of setting) (set_states (has early)) frame.floor ack n state (plain-set (has early)) floor_fits fits small vector_told).2 in
        let received : is_received (Some state) ≡ true =
        ap (λ (s : ℕ). is_received (Some s)) same ∙ ap (λ (b : Bool). is_received (Some (state_told b))) (contains-has early n has_it) in
        cc (received, not_received)

    pub all-told : is_whole_under (has early) frame.floor ack setting ≡ true → frame.floor < 2 ^ 48 → ack < 2 ^ 48 → n < 2 ^ 48 → IsFrom frame.floor ack
        → IsWithin n frame.floor ack → Contains early n → is_received (state_at ack bytes n) ≡ true
    all-told whole floor_fits fits small from inside has_it =
        ap (λ (vector : List ℕ). is_received (state_at ack vector n)) (truthful side index frame ack bytes there carries).is_vector
        ∙ ap is_received
        (whole-tells (room_of setting) (set_states (has early)) frame.floor ack n (plain-set (has early)) floor_fits fits small whole from inside)
        ∙ ap (λ (b : Bool). is_received (Some (state_told b))) (contains-has early n has_it)

    pub after-none : Contains early n → IsBefore ack n → ⊥
    after-none has_it before = (truthful side index frame ack bytes there carries).none_after n has_it before

  pub far-below : Told w → (side : Side) (iss count n : ℕ) → iss < 2 ^ 48 → 1 ≤ count → count + 2047 ≤ 2 ^ 47 → n ≡ number_of iss count
      → distance (half_of w side).end.marks.isr n < distance (half_of w side).end.marks.isr (half_of w side).end.received.set.floor
      → (ToldIn w side n → ⊥) → AreAmongFirst iss (count + 2047) (half_of w side).processed → ⊥
  far-below told side iss count n fits some early is below none among = by (told side n (number-small iss count n is) below) where
    by : NeedsNoReport w side n → ⊥
    by (Far q has_it before) =
        let q_is = among q has_it in
        far-not iss count q_is.count n q fits some early q_is.some q_is.early is q_is.same before
    by (WasTold was) = none was

  pub counts-below : Told w → (side : Side) (iss first count floor : ℕ) → iss < 2 ^ 48 → 1 ≤ first → first ≤ count → count < floor
      → floor ≤ 2 ^ 47 + 1 → count + 2047 ≤ 2 ^ 47 → (half_of w side).end.marks.isr ≡ number_of iss first
      → floor_of (half_of w side).end ≡ number_of iss floor → (ToldIn w side (number_of iss count) → ⊥)
      → AreAmongFirst iss (count + 2047) (half_of w side).processed → ⊥
  counts-below told side iss first count floor fits some from before early near isr_is floor_is none among =
      far-below told side iss count (number_of iss count) fits (omega (arith, some, from)) near refl
      (between-counts iss first count floor (half_of w side).end.marks.isr (floor_of (half_of w side).end) fits some from before early isr_is floor_is) none
      among

  module _ (once : Once w) (side : Side) where
    pub apart-so : (early n : ℕ) → Contains (take early (half_of w side).processed) n → Contains (drop early (half_of w side).processed) n → ⊥
    apart-so early n first later =
        let ns : List ℕ = (half_of w side).processed in
        let size : length (take early ns) ≡ min early (length ns) = length-take early ns in
        let rest = length-drop early ns in
        let one : slice_index ns first.0 ≡ n =
        sym (get_or-take early ns first.0 0 (omega (arith, first.1, size))) ∙ or-any (take early ns) first.0 0 n first.1 ∙ first.2 in
        let another : slice_index ns (early + later.0) ≡ n =
        sym (get_or-drop early ns later.0 0) ∙ or-any (drop early ns) later.0 0 n later.1 ∙ later.2 in
        let same =
        (once side).distinct first.0 (early + later.0) (omega (arith, first.1, size)) (omega (arith, later.1, rest)) (one ∙ sym another) in
        omega (arith, same, first.1, size)

    pub sent-so : (n : ℕ) → AreResets (half_of w (other side)).frames n → Contains (half_of w side).processed n → ⊥
    sent-so n resets has_it =
        let sent = (once side).sent has_it.0 has_it.1 in
        no-reset sent.packet.header.kind sent.is_no_reset
        (resets sent.index sent.frame sent.packet sent.is_there sent.is_packet
        (sent.is_numbered ∙ or-any (half_of w side).processed has_it.0 0 n has_it.1 ∙ has_it.2))

module _ {C : Type 0} (control : Control C) (w : ControlledWorld C) (heard : Heard control w) (side : Side) (n : ℕ) where
  pub reported-processed : Has (control.flight (congestion_of w side)) n Reported → Contains (half_of w.world (other side)).processed n
  reported-processed is = heard side n ((numbers_reported-exact (control.flight (congestion_of w side)) n).1 is)

  pub reported-sent : Once w.world → AreResets (half_of w.world side).frames n → Has (control.flight (congestion_of w side)) n Reported → ⊥
  reported-sent once resets is =
      sent-so w.world once (other side) n (subst (λ (s : Side). AreResets (half_of w.world s).frames n) (sym (other-twice side)) resets) (reported-processed is)
