-- What comes of a datagram, put together from what each step of hearing it did.
use Rattle.std.proofs.Common.{◌≡◌, refl, sym, ap, ◌∙◌, subst, ℕ, List, Bool, true, false, if◌then◌else◌, Option, Some, None, IfOk, Result, Ok, Err, OnOk, OnErr}
use Rattle.dccp_packets.specs.Outgoing.{Outgoing}
use Rattle.dccp_listener.specs.Chain.{Arrives}
use Rattle.dccp_listener.specs.Listens.{listens}
use Rattle.dccp_listener.specs.Runs.{CallTold, Stepped, WasBusy, told_of}
use Rattle.dccp_listener.specs.declared.calls.Heard.{Heard}
use Rattle.dccp_listener.specs.declared.calls.Heard.TheVariants as heard
use Rattle.dccp_listener.specs.declared.peer.Peer.{Peer}
use Rattle.dccp_states.specs.declared.outcome.Outcome.{Outcome}
use Rattle.seq_circle.specs.declared.memory.NoMemory.{NoMemory}
use Rattle.dccp_states.specs.declared.seen.Seen.TheVariants.{Received}
use Rattle.server_peers.specs.Lives.{life_of, signs_in}
use Rattle.dccp_server.specs.Rooms.{RoomStep, HasArrived, HasHeard, IsJudged, IsRoomMade, Room, begun_anew, comes_by, comes_heard, comes_if, counted_room, forgets, heard_or_fault, heard_plainly, is_to_be_heard, left_without_memory, room_does, room_made, unless_fault, who_leaves}
use Rattle.dccp_server.specs.Serving.{Does}
use Rattle.dccp_server.specs.Anew.{begins_anew}
use Rattle.server_peers.specs.declared.life.Life.{Life}
use Rattle.server_peers.specs.declared.life.Signs.{Signs}
use Rattle.server_peers.specs.declared.rules.Rules.{Rules}

abbrev coming : Room → Option Outgoing → Option CallTold → Option Peer → Bool → RoomStep
coming room frame told evicted anew = record { room = room; frame = frame; told = told; evicted = evicted; anew = anew }

same-coming : (r s : Room) (f g : Option Outgoing) (t u : Option CallTold) (evicted : Option Peer) (anew : Bool) → r ≡ s → f ≡ g → t ≡ u
    → coming r f t evicted anew ≡ coming s g u evicted anew
same-coming r s f g t u evicted anew same-room same-frame same-told =
    ap (λ (x : Room). coming x f t evicted anew) same-room ∙ ap (λ (x : Option Outgoing). coming s x t evicted anew) same-frame
    ∙ ap (λ (x : Option CallTold). coming s g x evicted anew) same-told

-- where the listener was busy, and a flow may have left
pub made_if : (now : ℕ) (busy mid after : Room) (peer : Peer) (iss : ℕ) (bytes : List ℕ) (leaving : Peer) (left frame : Option Outgoing)
    (result : Result Heard NoMemory) → mid ≡ forgets now busy leaving → OnOk result (after ≡ room_does now mid peer (Does (Arrives iss bytes)))
    → OnOk result (frame ≡ (listens mid.served.listening peer (Arrives iss bytes)).frame)
    → IfOk result (λ it. told_of (Ok it) ≡ (listens mid.served.listening peer (Arrives iss bytes)).told) → OnErr result (after ≡ mid)
    → IsRoomMade now busy after peer iss bytes (Some leaving) left frame result
made_if now busy mid after peer iss bytes leaving left frame (Ok it) gone does sent told same = (
  does ∙ ap (λ (r : Room). room_does now r peer (Does (Arrives iss bytes))) gone,
  sent ∙ ap (λ (r : Room). (listens r.served.listening peer (Arrives iss bytes)).frame) gone,
  told ∙ ap (λ (r : Room). (listens r.served.listening peer (Arrives iss bytes)).told) gone,
)
made_if now busy mid after peer iss bytes leaving left frame (Err fault) gone does sent told same = same ∙ gone

module _ (now : ℕ) (rules : Rules) (r : Room) (peer : Peer) (iss : ℕ) (bytes : List ℕ) where
  abbrev first : Room
  first = room_does now r peer (Does (Arrives iss bytes))

  abbrev plain : RoomStep
  plain = heard_plainly now r peer iss bytes None

  abbrev told-first : CallTold
  told-first = (listens r.served.listening peer (Arrives iss bytes)).told

  abbrev frame-first : Option Outgoing
  frame-first = (listens r.served.listening peer (Arrives iss bytes)).frame

  made-by : (after : Room) (frame : Option Outgoing) (it : Heard) (leaving : Option Peer) → WasBusy ≡ told-first
      → IsRoomMade now first after peer iss bytes leaving frame-first frame (Ok it)
      → coming after frame (Some (told_of (Ok it))) leaving false ≡ room_made now first peer iss bytes leaving plain
  made-by after frame it None busy is =
      same-coming after first frame frame-first (Some (told_of (Ok it))) (Some told-first) None false is.0 is.1
      (ap (λ (x : Result Heard NoMemory). Some (told_of x)) is.2 ∙ ap Some busy)
  made-by after frame it (Some leaving) busy is =
      let gone : Room = forgets now first leaving in
      same-coming after (room_does now gone peer (Does (Arrives iss bytes))) frame (listens gone.served.listening peer (Arrives iss bytes)).frame
      (Some (told_of (Ok it))) (Some (listens gone.served.listening peer (Arrives iss bytes)).told) (Some leaving) false is.0 is.1 (ap Some is.2)

  made-so : (after : Room) (frame : Option Outgoing) (result : Result Heard NoMemory) (leaving : Option Peer) → WasBusy ≡ told-first
      → leaving ≡ who_leaves now rules first → IsRoomMade now first after peer iss bytes leaving frame-first frame result
      → HasHeard now rules r after peer iss bytes frame result leaving false
  made-so after frame (Ok it) leaving busy leaves-so is =
      made-by after frame it leaving busy is
      ∙ ap (λ (x : Option Peer). room_made now first peer iss bytes x plain) leaves-so
      ∙ ap (λ (t : CallTold). comes_by now rules r peer iss bytes plain t) busy
  made-so after frame (Err fault) None busy leaves-so is = cc is.2
  made-so after frame (Err fault) (Some leaving) busy leaves-so is = (is, refl)

  pub arrived_busy : (between after : Room) (left frame : Option Outgoing) (result : Result Heard NoMemory) (leaving : Option Peer)
      → between ≡ first → left ≡ frame-first → WasBusy ≡ told-first
      → leaving ≡ who_leaves now rules between
      → IsRoomMade now between after peer iss bytes leaving left frame result
      → HasHeard now rules r after peer iss bytes frame result leaving false
  arrived_busy between after left frame result leaving does sent busy leaves-so is =
      made-so after frame result leaving busy
      (leaves-so ∙ ap (λ (x : Room). who_leaves now rules x) does)
      (subst (λ (x : Room). IsRoomMade now x after peer iss bytes leaving frame-first frame result) does
      (subst (λ (f : Option Outgoing). IsRoomMade now between after peer iss bytes leaving f frame result) sent is))

  -- where an end answered, and its peer may have begun anew
  anew-by : (after : Room) (frame : Option Outgoing) (told : CallTold) (anew : Bool) → told ≡ told-first
      → after ≡ (if anew then forgets now first peer else first) → frame ≡ (if anew then None else frame-first)
      → coming after frame (Some told) None anew ≡ begun_anew now peer plain anew
  anew-by after frame told true same-told does sent =
      same-coming after (forgets now first peer) frame None (Some told) (Some told-first) None true does sent (ap Some same-told)
  anew-by after frame told false same-told does sent =
      same-coming after first frame frame-first (Some told) (Some told-first) None false does sent (ap Some same-told)

  pub arrived_flow : (between after : Room) (left frame : Option Outgoing) (outcome : Outcome) (life : Life) (signs : Signs) (anew : Bool)
      → between ≡ first → left ≡ frame-first → Stepped (Some (Received outcome)) ≡ told-first → life ≡ life_of r.lives peer → signs ≡ signs_in outcome
      → anew ≡ begins_anew rules life bytes signs → after ≡ (if anew then forgets now between peer else between)
      → frame ≡ (if anew then None else left)
      → HasHeard now rules r after peer iss bytes frame (Ok (heard.Flow outcome)) None anew
  arrived_flow between after left frame outcome life signs anew does sent told life-is signs-are anew-is after-is frame-is =
      anew-by after frame (Stepped (Some (Received outcome))) anew told
      (after-is ∙ ap (λ (x : Room). if anew then forgets now x peer else x) does)
      (frame-is ∙ ap (λ (f : Option Outgoing). if anew then None else f) sent)
      ∙ ap (λ (b : Bool). begun_anew now peer plain b)
      (anew-is ∙ ap (λ (x : Life). begins_anew rules x bytes signs) life-is ∙ ap (λ (x : Signs). begins_anew rules (life_of r.lives peer) bytes x) signs-are)
      ∙ ap (λ (t : CallTold). comes_by now rules r peer iss bytes plain t) told

  -- so it is with what the rules made of it
  pub arrived_so : (between after : Room) (left frame : Option Outgoing) (life : Life) (it : Heard) (result : Result Heard NoMemory) (evicted : Option Peer)
      (anew : Bool) → between ≡ first → left ≡ frame-first → told_of (Ok it) ≡ told-first → life ≡ life_of r.lives peer
      → IsJudged now rules life between after peer iss bytes it left frame result evicted anew
      → HasHeard now rules r after peer iss bytes frame result evicted anew
  arrived_so between after left frame life heard.Busy result evicted anew does sent told life-is is =
      subst (λ (b : Bool). HasHeard now rules r after peer iss bytes frame result evicted b) (sym is.2)
      (arrived_busy between after left frame result evicted does sent told is.0 is.1)
  arrived_so between after left frame life (heard.Flow outcome) result evicted anew does sent told life-is is =
      subst (λ (x : Result Heard NoMemory). HasHeard now rules r after peer iss bytes frame x evicted anew) (sym is.4)
      (subst (λ (x : Option Peer). HasHeard now rules r after peer iss bytes frame (Ok (heard.Flow outcome)) x anew) (sym is.3)
      (arrived_flow between after left frame outcome life (signs_in outcome) anew does sent told life-is refl is.0 is.1 is.2))

  -- a datagram that is heard
  come-by : (upkeep_counted after : Room) (left : Option Outgoing) (result : Result Heard NoMemory) (evicted : Option Peer) (anew : Bool)
      → upkeep_counted ≡ counted_room now rules r peer bytes → true ≡ is_to_be_heard now rules r peer bytes
      → HasHeard now rules upkeep_counted after peer iss bytes left result evicted anew
      → HasArrived now rules r after peer iss bytes (unless_fault result left) (heard_or_fault result) evicted anew
  come-by upkeep_counted after left (Ok it) evicted anew is heard has =
      has ∙ ap (λ (x : Room). comes_heard now rules x peer iss bytes) is
      ∙ ap (λ (b : Bool). comes_if now rules (counted_room now rules r peer bytes) peer iss bytes b) heard
  come-by upkeep_counted after left (Err fault) evicted anew is heard has =
      (has.0 ∙ ap (λ (x : Room). left_without_memory now x peer iss bytes evicted) is, refl, has.1)

  pub come_as : (upkeep_counted after : Room) (left frame : Option Outgoing) (result : Result Heard NoMemory) (whole : Result (Option Heard) NoMemory)
      (evicted evicted' : Option Peer) (anew anew' : Bool)
      → upkeep_counted ≡ counted_room now rules r peer bytes → true ≡ is_to_be_heard now rules r peer bytes
      → HasHeard now rules upkeep_counted after peer iss bytes left result evicted anew
      → frame ≡ unless_fault result left → whole ≡ heard_or_fault result → evicted' ≡ evicted → anew' ≡ anew
      → HasArrived now rules r after peer iss bytes frame whole evicted' anew'
  come_as upkeep_counted after left frame result whole evicted evicted' anew anew' is heard has frame-is whole-is evicted-is anew-is =
      subst (λ (f : Option Outgoing). HasArrived now rules r after peer iss bytes f whole evicted' anew') (sym frame-is)
      (subst (λ (w : Result (Option Heard) NoMemory). HasArrived now rules r after peer iss bytes (unless_fault result left) w evicted' anew') (sym whole-is)
      (subst (λ (e : Option Peer). HasArrived now rules r after peer iss bytes (unless_fault result left) (heard_or_fault result) e anew') (sym evicted-is)
      (subst (λ (b : Bool). HasArrived now rules r after peer iss bytes (unless_fault result left) (heard_or_fault result) evicted b) (sym anew-is)
      (come-by upkeep_counted after left result evicted anew is heard has))))
