-- What the rules make of a datagram is a list of doings.
use Rattle.std.proofs.Common.{◌≡◌, refl, sym, ap, ◌∙◌, ℕ, List, [], ◌∷◌, Bool, true, false, if◌then◌else◌, Option, Some, None}
use Rattle.dccp_listener.specs.Chain.{Aborts, Arrives, Calls, Deed, Fires}
use Rattle.dccp_listener.specs.Listens.{listens}
use Rattle.dccp_listener.specs.Runs.{CallTold, HadNoMemory, Stepped, WasBusy}
use Rattle.dccp_listener.specs.declared.peer.Peer.{Peer}
use Rattle.dccp_states.specs.declared.calls.Timer.TheVariants as timers
use Rattle.server_peers.specs.Lives.{life_of, signs_of}
use Rattle.dccp_server.specs.Rooms.{RoomStep, LivesChangeNothing, Room, RuledRoom, RulesAreDeeds, begun_anew, comes_by, comes_if, does_all, duty_done, heard_plainly, is_to_be_heard, room_does, room_made, who_leaves}
use Rattle.dccp_server.specs.Anew.{begins_anew, refuses_last_sync}
use Rattle.dccp_server.specs.Serving.{Does, PeerDeed, Follows, ServedListener, Spends, TimedDeed, served_by, served_through}
use Rattle.dccp_server.specs.declared.duty.Duty.{Duty}
use Rattle.dccp_server.specs.declared.duty.Duty.TheVariants.{Follow}
use Rattle.server_peers.specs.declared.rules.Rules.{Rules}
use Rattle.dccp_uses.specs.declared.rule.Rule.{Rule}

-- a list of doings has made this of a room
abbrev pub IsByDoings : Room → Room → Type 0
IsByDoings r after = (all : List TimedDeed) × (after ≡ does_all r all)

abbrev pub does : ℕ → Peer → Deed → TimedDeed
does now who deed = record { now = now; peer = who; doing = Does deed }

-- a token may be spent before
pub by_counting : (now : ℕ) (peer : Peer) (bytes : List ℕ) (made : Room → Room) → ((x : Room) → IsByDoings x (made x)) → (r : Room) (refuses : Bool)
    → IsByDoings r (made (if refuses then r else room_does now r peer (Spends bytes)))
by_counting now peer bytes made by r true = by r
by_counting now peer bytes made by r false =
    let rest = by (room_does now r peer (Spends bytes)) in
    (record { now = now; peer = peer; doing = Spends bytes } ∷ rest.0, rest.1)

module _ (now : ℕ) (rules : Rules) (peer : Peer) (iss : ℕ) (bytes : List ℕ) where
  abbrev heard : TimedDeed
  heard = does now peer (Arrives iss bytes)

  module _ (r : Room) where
    abbrev plain : RoomStep
    plain = heard_plainly now r peer iss bytes None

    by-leaving : (leaving : Option Peer) → IsByDoings r (room_made now plain.room peer iss bytes leaving plain).room
    by-leaving None = (heard ∷ [], refl)
    by-leaving (Some who) = (heard ∷ does now who (Calls Aborts) ∷ does now who (Calls (Fires timers.TimeWait)) ∷ heard ∷ [], refl)

    by-anew : (anew : Bool) → IsByDoings r (begun_anew now peer plain anew).room
    by-anew true = (heard ∷ does now peer (Calls Aborts) ∷ does now peer (Calls (Fires timers.TimeWait)) ∷ [], refl)
    by-anew false = (heard ∷ [], refl)

    by-told : (told : CallTold) → IsByDoings r (comes_by now rules r peer iss bytes plain told).room
    by-told WasBusy = by-leaving (who_leaves now rules plain.room)
    by-told HadNoMemory = (heard ∷ [], refl)
    by-told (Stepped it) = by-anew (begins_anew rules (life_of r.lives peer) bytes (signs_of (Stepped it)))

    by-hearing : (is : Bool) → IsByDoings r (comes_if now rules r peer iss bytes is).room
    by-hearing true = by-told (listens r.served.listening peer (Arrives iss bytes)).told
    by-hearing false = ([], refl)

pub rules_are_deeds : RulesAreDeeds
rules_are_deeds now rules r peer iss bytes =
    let is = is_to_be_heard now rules r peer bytes in
    by_counting now peer bytes (λ x. (comes_if now rules x peer iss bytes is).room) (λ x. by-hearing now rules peer iss bytes x is) r
    (refuses_last_sync rules (life_of r.lives peer) bytes)

served-same : (now : ℕ) (r : Room) (peer : Peer) (doing : PeerDeed) → (room_does now r peer doing).served ≡ served_by now r.served peer doing
served-same now r peer (Does deed) = refl
served-same now r peer (Spends bytes) = refl
served-same now r peer Follows = refl

pub lives_change_nothing : LivesChangeNothing
lives_change_nothing r [] = refl
lives_change_nothing r (it ∷ later) =
    lives_change_nothing (room_does it.now r it.peer it.doing) later
    ∙ ap (λ (s : ServedListener). served_through s later) (served-same it.now r it.peer it.doing)

-- to do a duty by which a rule is followed is to follow it
pub duty_as : (now : ℕ) (s after : RuledRoom) (duty : Duty) (peer : Peer) (rule : Rule) → duty ≡ Follow peer rule
    → after ≡ record s { room = room_does now s.room peer Follows } → after ≡ record s { room = duty_done now s.room (Some duty) }
duty_as now s after duty peer rule is does = does ∙ ap (λ (d : Duty). record s { room = duty_done now s.room (Some d) }) (sym is)
