-- Each flow has a life, and a place for it.
use Rattle.std.proofs.Common.{◌≡◌, refl, sym, ap, ◌∙◌, subst, ℕ, [], Bool, Option, Some, None}
use Rattle.std.specs.Map.{keys_of}
use Rattle.dccp_listener.specs.Chain.{Calls, FlowCall}
use Rattle.dccp_listener.specs.Listens.{AreInOrder, listens_by}
use Rattle.dccp_listener.specs.Peers.{FlowEnd, ListenerState, end_of_peer}
use Rattle.dccp_listener.specs.declared.config.ListenConfig.{ListenConfig}
use Rattle.dccp_listener.specs.declared.peer.Peer.{Peer}
use Rattle.dccp_uses.specs.declared.pace.Pace.{Pace}
use Rattle.server_peers.specs.Lives.{Lives, life_of, life_then, lives_on, no_signs, user_written}
use Rattle.server_peers.specs.Places.{HasPlaceIf, IsPlaced}
use Rattle.dccp_server.specs.Rooms.{IsLiving, Room, as_room, room_does, room_then, signs_by, with_user}
use Rattle.dccp_server.specs.Serving.{Does, PeerDeed, Follows, ServedListener, Spends, call_due, deed_served, rule_followed, listening_if, serving_begins, upkeep_at}
use Rattle.server_peers.specs.declared.life.Life.{Life}
use Rattle.server_peers.specs.declared.life.Signs.{Signs}
use Rattle.server_peers.proofs.Placing.{then_placed}
use Rattle.dccp_server.proofs.Through.{spent_same}
use Rattle.dccp_server.proofs.Tying.{begun_tied, has_place, kept_same, place_if, tied_by, tied_does}

-- the peers that have a life, once a call that there may be was done
called-lives : (now : ℕ) (l : ListenerState) (lives : Lives) (peer : Peer) (call : Option FlowCall) (signs : Signs) (life : Life) (r : Room) → r.served.listening ≡ l
    → IsLiving r → keys_of lives ≡ keys_of l.flows
    → keys_of (life_then now lives peer (end_of_peer (listening_if l peer call).flows peer) signs life) ≡ keys_of (listening_if l peer call).flows
called-lives now l lives peer None signs life r same is tied =
    kept_same peer lives (λ e. lives_on now e signs life) l.flows (end_of_peer l.flows peer) refl tied
    (subst (λ (x : ListenerState). AreInOrder x.flows) same is.tied.ordered)
called-lives now l lives peer (Some call) signs life r same is tied =
    tied_by peer lives (λ e. lives_on now e signs life) l (end_of_peer l.flows peer) (Calls call) refl tied
    (subst (λ (x : ListenerState). AreInOrder x.flows) same is.tied.ordered)

pub living_does : (now : ℕ) (r : Room) (peer : Peer) (doing : PeerDeed) → IsLiving r → IsLiving (room_does now r peer doing)
living_does now r peer (Does deed) is =
    record {
      tied = tied_does now r.served peer (Does deed) is.tied;
      same_peers =
          tied_by peer r.lives (λ e. lives_on now e (signs_by r.served.listening peer deed) (life_of r.lives peer)) r.served.listening
          (end_of_peer r.served.listening.flows peer) deed refl is.same_peers is.tied.ordered;
    }
living_does now r peer (Spends bytes) is =
    record {
      tied = tied_does now r.served peer (Spends bytes) is.tied;
      same_peers =
          is.same_peers
          ∙ sym (ap (λ (l : ListenerState). keys_of l.flows)
          (spent_same now r.served peer bytes (upkeep_at r.served.pace r.served.upkeeps peer) (end_of_peer r.served.listening.flows peer)));
    }
living_does now r peer Follows is =
    record {
      tied = tied_does now r.served peer Follows is.tied;
      same_peers = called-lives now r.served.listening r.lives peer (call_due now r.served peer) no_signs (life_of r.lives peer) r refl is is.same_peers;
    }

pub living_then : (now : ℕ) (r t : Room) (peer : Peer) (doing : PeerDeed) → t ≡ room_does now r peer doing → IsLiving r → IsLiving t
living_then now r t peer doing same is = subst IsLiving (sym same) (living_does now r peer doing is)

-- whom a call leaves with an end had one, and so a life

life-by : (r : Room) (peer : Peer) (call : FlowCall) (found after : Option FlowEnd) → IsLiving r → end_of_peer r.served.listening.flows peer ≡ found
    → after ≡ end_of_peer (listens_by r.served.listening peer found (Calls call)).flows peer → HasPlaceIf after r.lives peer
life-by r peer call (Some e) after is found same =
    has_place after r.lives peer (subst (λ (x : Option FlowEnd). HasPlaceIf x r.lives peer) found (place_if r.served.listening.flows r.lives peer is.same_peers))
life-by r peer call None after is found same = subst (λ (x : Option FlowEnd). HasPlaceIf x r.lives peer) (sym (same ∙ found)) tt

pub called_has_life : (now : ℕ) (r : Room) (after : ServedListener) (peer : Peer) (call : FlowCall) → IsLiving r
    → after ≡ deed_served now r.served peer (Calls call) → HasPlaceIf (end_of_peer after.listening.flows peer) r.lives peer
called_has_life now r after peer call is same =
    life-by r peer call (end_of_peer r.served.listening.flows peer) (end_of_peer after.listening.flows peer) is refl
    (ap (λ (s : ServedListener). end_of_peer s.listening.flows peer) same)

ruled-life : (r : Room) (peer : Peer) (call : Option FlowCall) → IsLiving r → HasPlaceIf (end_of_peer (listening_if r.served.listening peer call).flows peer) r.lives peer
ruled-life r peer None is = place_if r.served.listening.flows r.lives peer is.same_peers
ruled-life r peer (Some call) is =
    life-by r peer call (end_of_peer r.served.listening.flows peer) (end_of_peer (listening_if r.served.listening peer (Some call)).flows peer) is refl refl

pub ruled_has_life : (now : ℕ) (r : Room) (after : ServedListener) (peer : Peer) → IsLiving r → after ≡ rule_followed now r.served peer
    → HasPlaceIf (end_of_peer after.listening.flows peer) r.lives peer
ruled_has_life now r after peer is same =
    subst (λ (s : ServedListener). HasPlaceIf (end_of_peer s.listening.flows peer) r.lives peer) (sym same) (ruled-life r peer (call_due now r.served peer) is)

-- The life goes on from its place as the definition says.
pub room_as : (now : ℕ) (before after next : ServedListener) (lives lives' : Lives) (peer : Peer) (signs wanted : Signs) (life : Life)
    → after ≡ next → lives' ≡ life_then now lives peer (end_of_peer after.listening.flows peer) signs life
    → signs ≡ wanted → life ≡ life_of lives peer
    → as_room after lives' ≡ room_then now (as_room before lives) peer next wanted
room_as now before after next lives lives' peer signs wanted life does is-lives is-signs is-life =
    ap (λ (l : Lives). as_room after l) is-lives
    ∙ ap (λ (s : ServedListener). as_room s (life_then now lives peer (end_of_peer s.listening.flows peer) signs life)) does
    ∙ ap (λ (x : Signs). as_room next (life_then now lives peer (end_of_peer next.listening.flows peer) x life)) is-signs
    ∙ ap (λ (x : Life). as_room next (life_then now lives peer (end_of_peer next.listening.flows peer) wanted x)) is-life

pub room_placed : (fresh : Life) (now : ℕ) (had : Bool) (before after next : ServedListener) (lives placed lives' : Lives) (peer : Peer) (signs wanted : Signs) (life : Life)
    → IsPlaced fresh had lives placed peer → after ≡ next
    → lives' ≡ life_then now placed peer (end_of_peer after.listening.flows peer) signs life
    → signs ≡ wanted → life ≡ life_of lives peer
    → as_room after lives' ≡ room_then now (as_room before lives) peer next wanted
room_placed fresh now had before after next lives placed lives' peer signs wanted life is-placed does is-lives is-signs is-life =
    room_as now before after next lives lives' peer signs wanted life does
    (is-lives ∙ then_placed fresh had lives placed peer (λ e. lives_on now e signs life) (end_of_peer after.listening.flows peer) is-placed) is-signs is-life

-- there is none at first
pub living_begins : (config : ListenConfig) (pace : Pace) (s : ServedListener) (lives : Lives) → s ≡ serving_begins config pace → lives ≡ []
    → IsLiving (as_room s lives)
living_begins config pace s lives begun none =
    subst (λ (x : ServedListener). IsLiving (as_room x lives)) (sym begun)
    (subst (λ (x : Lives). IsLiving (as_room (serving_begins config pace) x)) (sym none)
    (record { tied = begun_tied config pace; same_peers = refl }))

pub living_same : (r t : Room) → t ≡ r → IsLiving r → IsLiving t
living_same r t same is = subst IsLiving (sym same) is

-- a number that is written beside a flow takes no place and leaves none

user-keys : (r : Room) (peer : Peer) (user : ℕ) (found : Option FlowEnd) → end_of_peer r.served.listening.flows peer ≡ found → IsLiving r
    → keys_of (user_written user r.lives peer found) ≡ keys_of r.served.listening.flows
user-keys r peer user None found is = is.same_peers
user-keys r peer user (Some e) found is =
    kept_same peer r.lives (λ e. record (life_of r.lives peer) { user = user }) r.served.listening.flows (Some e) found is.same_peers is.tied.ordered

pub living_user : (r : Room) (peer : Peer) (user : ℕ) → IsLiving r → IsLiving (with_user user r peer)
living_user r peer user is =
    record { tied = is.tied; same_peers = user-keys r peer user (end_of_peer r.served.listening.flows peer) refl is }

pub user_place : (r : Room) (peer : Peer) → IsLiving r → HasPlaceIf (end_of_peer r.served.listening.flows peer) r.lives peer
user_place r peer is = place_if r.served.listening.flows r.lives peer is.same_peers
