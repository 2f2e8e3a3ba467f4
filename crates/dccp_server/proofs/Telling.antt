-- What an owner is told of a call, put together.
use Rattle.std.proofs.Common.{◌≡◌, ap, ◌∙◌, ℕ, Bool, List, Option, None}
use Rattle.dccp_listener.specs.Runs.{CallTold}
use Rattle.dccp_listener.specs.declared.peer.Peer.{Peer}
use Rattle.dccp_server.specs.Events.{WatchedServer, called_on, events_arrived, flow_state, heard_on, leaver_life}
use Rattle.server_peers.specs.Events.{data_told, ending_heard, events_between, evicted_event}
use Rattle.dccp_server.specs.Rooms.{RuledRoom}
use Rattle.server_peers.specs.declared.flow_event.EndReason.{EndReason}
use Rattle.server_peers.specs.declared.flow_event.FlowEvent.{FlowEvent}
use Rattle.server_peers.specs.declared.flow_event.FlowEvents.{FlowEvents}
use Rattle.server_peers.specs.declared.flow_event.FlowState.{FlowState}
use Rattle.server_peers.specs.declared.life.Life.{Life}

-- the server was this before, and is that then, and its owner is told by what he saw before
pub called_as : (s t : WatchedServer) (after aim : RuledRoom) (peer : Peer) (was : Option FlowState) (ending wanted : EndReason)
    → t ≡ record s { server = after; events = events_between peer was (flow_state after.room peer) None ending None }
    → was ≡ flow_state s.server.room peer → ending ≡ wanted → after ≡ aim → t ≡ called_on s aim peer wanted
called_as s t after aim peer was ending wanted is is-was is-ending is-after =
    is
    ∙ ap (λ (w : Option FlowState). record s { server = after; events = events_between peer w (flow_state after.room peer) None ending None }) is-was
    ∙ ap (λ (e : EndReason). called_on s after peer e) is-ending
    ∙ ap (λ (a : RuledRoom). called_on s a peer wanted) is-after

-- the same of a server whose fields were lent one by one
pub is_rejoined : (s t : WatchedServer) (after : RuledRoom) (events : FlowEvents) (is-shut : Bool) → t ≡ record { server = after; events = events; is_shut = is-shut }
    → is-shut ≡ s.is_shut → t ≡ record s { server = after; events = events }
is_rejoined s t after events is-shut is same = is ∙ ap (λ (b : Bool). record { server = after; events = events; is_shut = b }) same

-- the server was this before a datagram, and is that after it; what its owner is told was put together from these
pub heard_as : (now : ℕ) (s : WatchedServer) (after : RuledRoom) (peer : Peer) (bytes : List ℕ) (told : Option CallTold) (maker whose : Option Peer) (anew begins : Bool)
    (was sees : Option FlowState) (place : Option (ℕ × ℕ)) (ending : EndReason) (life : Option Life) (evicted : Option FlowEvent) (events : FlowEvents)
    (is-shut : Bool) → events ≡ events_between peer was sees place ending evicted → was ≡ flow_state s.server.room peer → sees ≡ flow_state after.room peer
    → place ≡ data_told told → ending ≡ ending_heard was told begins → begins ≡ anew → evicted ≡ evicted_event life whose
    → life ≡ leaver_life now s.server peer bytes → whose ≡ maker → is-shut ≡ s.is_shut
    → record { server = after; events = events; is_shut = is-shut } ≡ heard_on now s after peer bytes told maker anew
heard_as now s after peer bytes told maker whose anew begins was sees place ending life evicted events is-shut
    is is-was is-sees is-place is-ending is-anew is-evicted is-life is-whose same =
    let before : Option FlowState = flow_state s.server.room peer in
    let then : Option FlowState = flow_state after.room peer in
    let all : events ≡ events_arrived now s.server after peer bytes told maker anew =
    is
    ∙ ap (λ (w : Option FlowState). events_between peer w sees place ending evicted) is-was
    ∙ ap (λ (x : Option FlowState). events_between peer before x place ending evicted) is-sees
    ∙ ap (λ (p : Option (ℕ × ℕ)). events_between peer before then p ending evicted) is-place
    ∙ ap (λ (e : EndReason). events_between peer before then (data_told told) e evicted)
    (is-ending ∙ ap (λ (w : Option FlowState). ending_heard w told begins) is-was ∙ ap (λ (b : Bool). ending_heard before told b) is-anew)
    ∙ ap (λ (v : Option FlowEvent). events_between peer before then (data_told told) (ending_heard before told anew) v)
    (is-evicted ∙ ap (λ (l : Option Life). evicted_event l whose) is-life
    ∙ ap (λ (m : Option Peer). evicted_event (leaver_life now s.server peer bytes) m) is-whose)
    in
    ap (λ (e : FlowEvents). record { server = after; events = e; is_shut = is-shut }) all
    ∙ ap (λ (b : Bool). record { server = after; events = events_arrived now s.server after peer bytes told maker anew; is_shut = b }) same
