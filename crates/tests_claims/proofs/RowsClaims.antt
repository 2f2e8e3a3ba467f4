-- Rows of the words that README's claims share with their laws: each row says what such a word means, and holds no longer if the word says less, or
-- more where it is a premise.
use Rattle.std.proofs.Common.{◌≡◌, refl, sym, ℕ, ◌^◌, ◌<◌, ◌≤◌, true, false, List, [], ◌∷◌, ◌++◌, Option, Some, None, Ok}
use Rattle.std.specs.Prelude.{Contains, codes, slice_get}
use Rattle.std.specs.List.Sorted.{IsStrictlySortedBy}
use Rattle.std.specs.Map.{keys_of}
use Rattle.ack_vectors.specs.Vector.{is_whole_under}
use Rattle.congestion_trait.specs.Control.{Control, IsLawful, KeepsWindow}
use Rattle.congestion_trait.specs.Flight.{Has, States, after_report, sent}
use Rattle.congestion_trait.specs.declared.flight.FlightEntry.{FlightEntry}
use Rattle.congestion_trait.specs.declared.flight.Standing.{Standing}
use Rattle.dccp_endpoint.specs.Drafts.{Fits}
use Rattle.dccp_endpoint.specs.declared.config.Config.{Config}
use Rattle.dccp_io.specs.Lines.{Line, text_of}
use Rattle.dccp_listener.specs.Chain.{Aborts, Calls, Closes, chain_step}
use Rattle.dccp_listener.specs.Listens.{AreInOrder}
use Rattle.dccp_listener.specs.Peers.{FlowEnd, Flows, peer_cmp}
use Rattle.dccp_listener.specs.Runs.{IsChain, PeerTurn, Stepped, WasBusy, peer_turns}
use Rattle.dccp_listener.specs.declared.config.ListenConfig.{ListenConfig}
use Rattle.dccp_listener.specs.declared.peer.Peer.{Peer}
use Rattle.dccp_options.specs.Vectors.{report_of}
use Rattle.dccp_packets.specs.Grammar.{Parts, packet_type}
use Rattle.dccp_packets.specs.declared.header.PacketType.TheVariants as types
use Rattle.dccp_states.specs.declared.outcome.Outcome.TheVariants as outcome
use Rattle.dccp_states.specs.declared.phase.Role.TheVariants as role
use Rattle.dccp_states.specs.declared.seen.Seen.TheVariants as seen
use Rattle.feature_lists.specs.Features.{initial_of}
use Rattle.feature_lists.specs.Lists.{IsFirstShared, SharesNothing}
use Rattle.feature_machine.specs.Lists.{IsLists}
use Rattle.feature_machine.specs.declared.row.Row.{Row}
use Rattle.feature_machine.specs.declared.stands.Stand.TheVariants.{Stable, Unstable}
use Rattle.run_list.specs.MarkedSet.{has}
use Rattle.seq_circle.specs.Circle.{IsFrom, IsWithin}
use Rattle.seq_circle.specs.Counts.{number_of}
use Rattle.tool_jobs.specs.Calls.{read_call}
use Rattle.tool_jobs.specs.PeerLines.{exchange_said, said_by_line, said_next}
use Rattle.tool_jobs.specs.Telling.{Exchange}
use Rattle.two_ends.specs.Asked.{KeepsInitialValues, SendsWhatIsAsked, row_for}
use Rattle.two_ends.specs.CameOf.{CameOfLists, CameOfLocation}
use Rattle.two_ends.specs.Controlled.{ControlledStep, ControlledWorld, begins_with, controlled_after, happens_to, plays}
use Rattle.two_ends.specs.Counted.{AreAmongFirst, AreResets}
use Rattle.two_ends.specs.Delivered.{delivered_by, frame_delivered, frames_delivered}
use Rattle.two_ends.specs.FeatureRows.{entries_of}
use Rattle.two_ends.specs.Frames.{options_in, packet_of}
use Rattle.two_ends.specs.Negotiated.{HasSent, IsServerPriority, last_list_sent, list_said, pair_was_negotiated, value_said}
use Rattle.two_ends.specs.Pairs.{FeatureAt, held_at, said_by}
use Rattle.two_ends.specs.Preferred.{WantsValues}
use Rattle.two_ends.specs.Reached.{ReachedByEvents}
use Rattle.two_ends.specs.Reported.{HasSentVector, IsSpokenOf, IsUntold, processed_by}
use Rattle.two_ends.specs.Shared.{IsShared, reconciled_for}
use Rattle.two_ends.specs.World.{Half, WorldState, half_of}
use Rattle.two_ends.specs.declared.frames.SentFrame.{SentFrame}
use Rattle.two_ends_progress.specs.Paired.{AreForEachOther}
use Rattle.world_events.specs.Actors.{other}
use Rattle.world_events.specs.declared.event.Event.{Event}
use Rattle.world_events.specs.declared.event.Event.TheVariants as event
use Rattle.world_events.specs.declared.event.Side.{Side}
use Rattle.world_events.specs.declared.event.Side.TheVariants.{Client, Server}

-- each turn of a chain has the frame and the answer of its step
turns_of_a_chain : (config : ListenConfig) (peer : Peer) (before after : Option FlowEnd) (now : PeerTurn) (later : List PeerTurn)
    → IsChain config peer before after (now ∷ later)
    → (now.frame ≡ (chain_step config peer before now.deed).frame) × (now.seen ≡ (chain_step config peer before now.deed).seen)
    × IsChain config peer (chain_step config peer before now.deed).after after later
turns_of_a_chain config peer before after now later is = is

abbrev here : Peer
here = record { address = 10 ∷ 0 ∷ 0 ∷ 1 ∷ []; port = 40000 }

-- a call without a flow is a turn of its peer; what was answered Busy is none
turns_of_a_peer :
    peer_turns here (record { peer = here; deed = Calls Closes; frame = None; told = Stepped None }
    ∷ record { peer = here; deed = Calls Aborts; frame = None; told = WasBusy } ∷ [])
    ≡ record { deed = Calls Closes; frame = None; seen = None } ∷ []
turns_of_a_peer = refl

-- the frame whose data an event delivers, from either side
frames_that_deliver :
    (frame_delivered (event.Deliver Client 2) (seen.Received (outcome.Took (Some (16, 20)))) ≡ (Client, 2) ∷ [])
    × (frame_delivered (event.Deliver Server 7) (seen.Received (outcome.Took (Some (24, 24)))) ≡ (Server, 7) ∷ [])
    × (frame_delivered (event.Deliver Client 2) (seen.Received (outcome.Took None)) ≡ [])
frames_that_deliver = (refl, refl, refl)

-- one event after another
frames_of_each_event : {C : Type 0} (control : Control C) (w : ControlledWorld C) (now : Event) (later : List Event) (step : ControlledStep C)
    → (delivered_by now (Ok step) ≡ frame_delivered now step.seen)
    × (frames_delivered control w (now ∷ later)
    ≡ delivered_by now (happens_to control w now) ++ frames_delivered control (controlled_after w (happens_to control w now)) later)
frames_of_each_event control w now later step = (refl, refl)

-- nothing else is asked of a world that events have led to
worlds_that_events_reach : {C : Type 0} (control : Control C) (client server : Config) (for_client for_server : C) (events : List Event)
    → client.role ≡ role.Client → server.role ≡ role.Server → Fits client → Fits server
    → ReachedByEvents control (plays control (begins_with control client server for_client for_server) events)
worlds_that_events_reach control client server for_client for_server events is_client is_server client_fits server_fits =
    record {
      client = client;
      server = server;
      for_client = for_client;
      for_server = for_server;
      is_client = is_client;
      is_server = is_server;
      client_fits = client_fits;
      server_fits = server_fits;
      events = events;
      same = refl;
    }

-- a number is untold if no whole vector that arrived covers it
what_is_untold : (w : WorldState) (side : Side) (n : ℕ)
    → ((frame : SentFrame) (ack : ℕ) (bytes : List ℕ) → HasSentVector (half_of w side) frame ack bytes
    → is_whole_under (has (processed_by (half_of w side) frame)) frame.floor ack (half_of w side).end.config.vectors ≡ true
    → IsWithin n frame.floor ack → Contains (half_of w (other side)).processed frame.number → ⊥)
    → IsUntold w side n
what_is_untold w side n none = none

numbers_among_the_first : (iss most : ℕ) (numbers : List ℕ)
    → ((number : ℕ) → Contains numbers number → (count : ℕ) × ((1 ≤ count) × ((count ≤ most) × (number ≡ number_of iss count))))
    → AreAmongFirst iss most numbers
numbers_among_the_first iss most numbers so = λ number has_it.
    let is = so number has_it in record { count = is.0; some = is.1.0; early = is.1.1.0; same = is.1.1.1 }

-- also if no frame has the number
frames_that_are_resets : (frames : List SentFrame) (number : ℕ)
    → ((index : ℕ) (frame : SentFrame) (packet : Parts) → slice_get frames index ≡ Some frame → packet_of frame.bytes ≡ Some packet
    → frame.number ≡ number → packet_type packet.header.kind ≡ types.Reset)
    → AreResets frames number
frames_that_are_resets frames number so = so

-- also the acknowledged number, and the floor
what_a_vector_covers : (frame : SentFrame) (ack n : ℕ) → frame.floor < 2 ^ 48 → ack < 2 ^ 48 → n < 2 ^ 48 → IsFrom frame.floor ack
    → IsWithin n frame.floor ack → IsSpokenOf frame ack n
what_a_vector_covers frame ack n floor_fits ack_fits fits in_order within =
    record { floor_fits = floor_fits; ack_fits = ack_fits; fits = fits; in_order = in_order; within = within }

where_a_value_came_from : (w : WorldState) (pair : FeatureAt) (value : ℕ) (is : CameOfLists w pair value)
    → (slice_get (half_of w Server).frames is.servers_place ≡ Some is.servers_frame)
    × (slice_get (half_of w Client).frames is.clients_place ≡ Some is.clients_frame)
    × (list_said (said_by pair Server is.servers_frame.bytes) ≡ Some is.servers)
    × (list_said (said_by pair Client is.clients_frame.bytes) ≡ Some is.clients) × IsFirstShared is.servers is.clients value
where_a_value_came_from w pair value is = (is.server_sent, is.client_sent, is.server_said, is.client_said, is.is_shared)

where_the_location_said_it : (w : WorldState) (pair : FeatureAt) (value : ℕ) (is : CameOfLocation w pair value)
    → (slice_get (half_of w pair.location).frames is.place ≡ Some is.frame)
    × (value_said (said_by pair pair.location is.frame.bytes) ≡ Some value)
where_the_location_said_it w pair value is = (is.is_sent, is.is_said)

what_a_congestion_control_owes : {S : Type 0} (control : Control S)
    → ((state : S) (ccid : ℕ) → control.flight (control.started state ccid) ≡ [])
    → ((state : S) (number : ℕ) → control.flight (control.with_sent state number) ≡ sent (control.flight state) number)
    → ((state : S) (states : States) (ratio : ℕ)
    → control.flight (control.with_report state states ratio) ≡ after_report states (control.flight state))
    → ((state : S) → control.flight (control.timed_out state) ≡ []) → KeepsWindow control → IsLawful control
what_a_congestion_control_owes control starts sends settles times keeps =
    record { start_empties = starts; sending_adds = sends; report_settles = settles; timeout_empties = times; keeps_window = keeps }

what_keeps_a_window : {S : Type 0} (control : Control S) → ((state : S) (ccid : ℕ) → 1 ≤ control.window (control.started state ccid))
    → ((state : S) (number : ℕ) → 1 ≤ control.window state → 1 ≤ control.window (control.with_sent state number))
    → ((state : S) (states : States) (ratio : ℕ) → 1 ≤ control.window state → 1 ≤ control.window (control.with_report state states ratio))
    → ((state : S) → 1 ≤ control.window (control.timed_out state)) → KeepsWindow control
what_keeps_a_window control starts sends reports times =
    record { start_opens = starts; sending_keeps = sends; report_keeps = reports; timeout_opens = times }

what_fits : (config : Config) → config.own_port < 2 ^ 16 → config.peer_port < 2 ^ 16 → config.service < 2 ^ 32 → config.iss < 2 ^ 48
    → IsLists config.lists → Fits config
what_fits config own peer service iss lists = record { own_port = own; peer_port = peer; service = service; iss = iss; lists = lists }

vectors_that_were_sent : (half : Half) (index : ℕ) (frame : SentFrame) (ack : ℕ) (bytes : List ℕ) → slice_get half.frames index ≡ Some frame
    → frame.ack ≡ Some ack → report_of ack (options_in frame.bytes) ≡ Some (record { ack = ack; bytes = bytes }) → HasSentVector half frame ack bytes
vectors_that_were_sent half index frame ack bytes there acknowledges carries =
    record { index = index; is_there = there; carries = record { acknowledges = acknowledges; carries = carries } }

-- the first entry of the server's list that is in the client's, also where later ones are
what_is_first_shared : (server client : List ℕ) (value : ℕ) (place : ℕ) → slice_get server place ≡ Some value → Contains client value
    → ((earlier other : ℕ) → earlier < place → slice_get server earlier ≡ Some other → Contains client other → ⊥) → IsFirstShared server client value
what_is_first_shared server client value place there shared first = record { place = place; stands = there; shared = shared; first = first }

what_no_list_shares : (server client : List ℕ) → ((value : ℕ) → Contains server value → Contains client value → ⊥) → SharesNothing server client
what_no_list_shares server client none = none

numbers_with_a_standing : (entries : List FlightEntry) (number : ℕ) (standing : Standing)
    → Contains entries (record { number = number; standing = standing }) → Has entries number standing
numbers_with_a_standing entries number standing is = is

flows_in_order : (flows : Flows) → AreInOrder flows → IsStrictlySortedBy peer_cmp (keys_of flows)
flows_in_order flows is = is

-- a line's exchange has its number, its peer and what happens
numbers_of_lines : (x : Exchange) (number : ℕ) (line : List ℕ)
    → (exchange_said x ≡ (x.number, x.peer, x.deed))
    × (said_by_line 7 (read_call (codes "10.0.0.1:40000 close")) ≡ (7, here, Calls Closes) ∷ [])
    × (said_next number (Line line) ≡ said_by_line number (read_call (text_of line)))
numbers_of_lines x number line = (refl, refl, refl)

ends_for_each_other : (client server : Config) → server.pseudo_in ≡ client.pseudo_out → client.own_port ≡ server.peer_port
    → client.peer_port ≡ server.own_port → client.pseudo_in ≡ server.pseudo_out → AreForEachOther client server
ends_for_each_other client server to_server from_client at_server to_client =
    record {
      there = record { addresses = to_server; source = from_client; target = at_server };
      back = record { addresses = to_client; source = sym at_server; target = sym from_client };
    }

-- a value that changes is the first that a side's active list and one of the other side share
how_a_listed_value_changes : (old new : WorldState) (pair : FeatureAt) (side : Side) (is : IsShared old new pair side)
    → HasSent old pair (other side) is.theirs
    × (reconciled_for side (entries_of (row_for old pair side).active) is.theirs ≡ Some (held_at new pair side).value)
how_a_listed_value_changes old new pair side is = (is.was_sent, is.is_first)

what_was_asked_is_sent : (w : WorldState) (pair : FeatureAt) (side : Side) (is : SendsWhatIsAsked w pair side)
    → (IsServerPriority pair → (list : List ℕ) → last_list_sent w pair side ≡ Some list → list ≡ entries_of (row_for w pair side).active)
    × ((held_at w pair side).stand ≡ Stable → (row_for w pair side).pending ≡ None)
what_was_asked_is_sent w pair side is = (is.last_is_active, is.nothing_waits)

what_a_row_wants : (row : Row) (values : List ℕ) (is : WantsValues row values)
    → ((row.stand ≡ Unstable → ⊥) → entries_of row.active ≡ values) × (row.stand ≡ Unstable → entries_of row.pending ≡ values)
what_a_row_wants row values is = (is.active, is.waiting)

what_no_frame_asks_for : (w : WorldState) → KeepsInitialValues w → (pair : FeatureAt) (side : Side) → pair_was_negotiated w pair ≡ false
    → (held_at w pair side).value ≡ initial_of pair.feature
what_no_frame_asks_for w keeps = keeps
