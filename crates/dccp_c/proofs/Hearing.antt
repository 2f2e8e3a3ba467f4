-- What a server makes of a datagram, as C's own definitions have it.
use Rattle.std.proofs.Common.{◌≡◌, sym, ap, ◌∙◌, subst, ℕ, List, Bool, true, false, Option, Some, None, is_some, if◌then◌else◌, Result}
use Rattle.dccp_packets.specs.Outgoing.{Outgoing}
use Rattle.dccp_listener.specs.declared.calls.Heard.{Heard}
use Rattle.dccp_listener.specs.Peers.{end_of_peer}
use Rattle.dccp_listener.specs.declared.peer.Peer.{Peer}
use Rattle.seq_circle.specs.declared.memory.NoMemory.{NoMemory}
use Rattle.dccp_server.specs.Events.{WatchedServer, ends_old, entry_at, heard_on, is_shut_out, room_maker}
use Rattle.dccp_server.specs.FlowInboxes.{Inboxes, begun_fresh, flow_speaks}
use Rattle.dccp_server.specs.Meeting.{IsMet, may_meet}
use Rattle.server_peers.specs.Strangers.{told_of_arrival}
use Rattle.dccp_server.specs.declared.meeting.Way.{Way}
use Rattle.dccp_c.specs.Listening.{Forgets, HandsHeard, HasTakenIn, HearsAtServer, HearsDatagram, HearsIfOpen, OwnedServerState, MayDeliver, holds_forgotten, holds_met, inboxes_begun}
use Rattle.dccp_c.specs.Framing.{FrameFields}
use Rattle.dccp_c.specs.declared.told.Told.{Told}

-- where it is heard, and then its data come in
pub met_for_c : (now : ℕ) (s h f : OwnedServerState) (peer : Peer) (first : ℕ) (bytes : List ℕ) (had : Bool) (left out : Option Outgoing)
    (heard : Result (Option Heard) NoMemory) (evicted gone made_room : Option Peer) (anew : Bool) (way met_so : Way) (handed : FrameFields) (code : ℕ) (old new : Told)
    → is_shut_out s.watched peer bytes ≡ false
    → IsMet now s.watched.server h.watched.server peer first bytes left heard gone anew made_room met_so
    → may_meet (entry_at now s.watched peer first bytes) met_so ≡ true
    → h.watched ≡ heard_on now s.watched h.watched.server peer bytes (told_of_arrival heard) (room_maker made_room gone) (ends_old anew met_so)
    → h.inboxes ≡ s.inboxes → had ≡ is_some (end_of_peer s.watched.server.room.served.listening.flows peer)
    → HasTakenIn h f peer had bytes (told_of_arrival heard) made_room gone → f.watched ≡ h.watched
    → out ≡ flow_speaks f.inboxes f.watched.server peer left
    → HandsHeard heard f.arrival out handed code old new → evicted ≡ room_maker made_room gone → way ≡ met_so
    → HearsIfOpen now s f peer first bytes (is_shut_out s.watched peer bytes) handed evicted way code old new
met_for_c now s h f peer first bytes had left out heard evicted gone made_room anew way met_so handed code old new
    is-open met may told same-inboxes had-is taken same sent hands maker same-way =
    subst (λ (x : Bool). HearsIfOpen now s f peer first bytes x handed evicted way code old new) (sym is-open)
    (subst (λ (x : Way). HearsAtServer now s f peer first bytes handed evicted x code old new) (sym same-way)
    (record {
      heard = heard;
      frame = left;
      gone = gone;
      made_room = made_room;
      anew = anew;
      delivery = taken.0;
      met = subst (λ (w : WatchedServer). IsMet now s.watched.server w.server peer first bytes left heard gone anew made_room met_so) (sym same) met;
      may = may;
      watched = same ∙ told
          ∙ ap (λ (w : WatchedServer). heard_on now s.watched w.server peer bytes (told_of_arrival heard) (room_maker made_room gone) (ends_old anew met_so)) (sym same);
      delivers = subst (λ (w : WatchedServer). MayDeliver (inboxes_begun s w.server peer) w.server peer bytes (told_of_arrival heard) taken.0) (sym same)
          (subst (λ (b : Bool). MayDeliver (begun_fresh s.inboxes peer b (end_of_peer h.watched.server.room.served.listening.flows peer)) h.watched.server peer
          bytes (told_of_arrival heard) taken.0) had-is
          (subst (λ (i : Inboxes). MayDeliver (begun_fresh i peer had (end_of_peer h.watched.server.room.served.listening.flows peer)) h.watched.server peer
          bytes (told_of_arrival heard) taken.0) same-inboxes taken.1));
      held = taken.2 ∙ ap (λ (w : WatchedServer). holds_met w peer made_room gone taken.0) (sym same);
      maker = maker;
      handed = subst (λ (o : Option Outgoing). HandsHeard heard f.arrival o handed code old new) sent hands;
    }))

-- and as it is once the server has been taken out of its handle and put back
pub hears_so : (now : ℕ) (before after : Option OwnedServerState) (s t : OwnedServerState) (peer whose : Peer) (first number : ℕ) (bytes : List ℕ) (refusal : Option ℕ)
    (left : FrameFields) (evicted gone : Option Peer) (way met_so : Way) (code : ℕ) (old new : Told) → before ≡ Some s → after ≡ Some t → whose ≡ peer → number ≡ first
    → evicted ≡ gone → way ≡ met_so → refusal ≡ None → HearsIfOpen now s t whose number bytes (is_shut_out s.watched whose bytes) left gone met_so code old new
    → HearsDatagram now before after peer first bytes refusal left evicted way code old new
hears_so now before after s t peer whose first number bytes refusal left evicted gone way met_so code old new before-is after-is same-peer same-number same-gone same-way heard
    is =
    subst (λ (x : Option OwnedServerState). HearsDatagram now x after peer first bytes refusal left evicted way code old new) (sym before-is)
    (subst (λ (x : Option OwnedServerState). HearsDatagram now (Some s) x peer first bytes refusal left evicted way code old new) (sym after-is)
    (subst (λ (x : Option ℕ). HearsDatagram now (Some s) (Some t) peer first bytes x left evicted way code old new) (sym heard)
    (subst (λ (x : Way). HearsIfOpen now s t peer first bytes (is_shut_out s.watched peer bytes) left evicted x code old new) (sym same-way)
    (subst (λ (x : Option Peer). HearsIfOpen now s t peer first bytes (is_shut_out s.watched peer bytes) left x met_so code old new) (sym same-gone)
    (subst (λ (x : ℕ). HearsIfOpen now s t peer x bytes (is_shut_out s.watched peer bytes) left gone met_so code old new) same-number
    (subst (λ (x : Peer). HearsIfOpen now s t x number bytes (is_shut_out s.watched x bytes) left gone met_so code old new) same-peer is))))))

-- the same of a flow that is forgotten
pub forgets_so : (now : ℕ) (before after : Option OwnedServerState) (s t : OwnedServerState) (peer whose : Peer) (had : Bool) (code : ℕ) → before ≡ Some s → after ≡ Some t
    → whose ≡ peer → t ≡ holds_forgotten now s whose → had ≡ is_some (end_of_peer s.watched.server.room.served.listening.flows whose)
    → code ≡ (if had then 0 else 15) → Forgets now before after peer code
forgets_so now before after s t peer whose had code before-is after-is same-peer gone had-is code-is =
    subst (λ (x : Option OwnedServerState). Forgets now x after peer code) (sym before-is) (
      after-is ∙ ap (λ (x : OwnedServerState). Some x) (gone ∙ ap (λ (p : Peer). holds_forgotten now s p) same-peer),
      code-is
          ∙ ap (λ (b : Bool). if b then 0 else 15)
          (had-is ∙ ap (λ (p : Peer). is_some (end_of_peer s.watched.server.room.served.listening.flows p)) same-peer),
    )
