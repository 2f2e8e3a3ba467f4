-- What is kept of a server once a cookie was given or came back is what the definitions say.
use Rattle.std.proofs.Common.{◌≡◌, refl, sym, ap, ◌∙◌, subst, ℕ, Bool, true, List, Option, Some, Result, Ok, Err}
use Rattle.std.specs.Prelude.{IfOk, OnErr}
use Rattle.dccp_packets.specs.Outgoing.{Outgoing}
use Rattle.dccp_listener.specs.Greeting.{greets}
use Rattle.dccp_listener.specs.declared.calls.Heard.{Heard}
use Rattle.dccp_listener.specs.declared.calls.Heard.TheVariants as heard
use Rattle.dccp_listener.specs.declared.peer.Peer.{Peer}
use Rattle.dccp_states.specs.declared.outcome.Outcome.{Outcome}
use Rattle.dccp_uses.specs.Upkeeps.{is_taken}
use Rattle.init_cookies.specs.Openings.{OpeningState}
use Rattle.init_cookies.specs.declared.cookie.CookieKeys.{CookieKeys}
use Rattle.seq_circle.specs.declared.memory.NoMemory.{NoMemory}
use Rattle.dccp_server.specs.Meeting.{IsGreeted, IsMet, MovesNobody, cleared, entry_met, going_by, greeting_frame, heard_again, hurrying, maker_of, received_hurrying, request_at, unreceived_hurrying, unreopened}
use Rattle.dccp_server.specs.Rooms.{IsServed, Reception, RuledRoom, received_at, unreceived_at}
use Rattle.server_peers.specs.declared.asking.DatagramKind.{DatagramKind}
use Rattle.server_peers.specs.declared.asking.DatagramKind.TheVariants as entry
use Rattle.dccp_server.specs.declared.meeting.Way.{Way}
use Rattle.dccp_server.specs.declared.meeting.Way.TheVariants as way

-- a Request has arrived in haste, at a server whose rules were these before and are these again

module _ (now : ℕ) (s mid after last : RuledRoom) (peer : Peer) (iss : ℕ) (bytes : List ℕ) (frame : Option Outgoing) (evicted : Option Peer) (anew : Bool)
    (mid-is : mid ≡ hurrying s) (last-is : last ≡ going_by s.rules after) where
  pub hurried_open : (told : Result (Option Heard) NoMemory) → IsServed now mid after peer iss bytes frame told evicted anew
      → IfOk told (λ _. last ≡ received_hurrying now s peer iss bytes)
  hurried_open (Ok it) is =
      last-is ∙ ap (λ (x : Reception). going_by s.rules x.server) is ∙ ap (λ (x : RuledRoom). going_by s.rules (received_at now x peer iss bytes).server) mid-is
  hurried_open (Err fault) is = tt

  pub hurried_maker : (told : Result (Option Heard) NoMemory) → IsServed now mid after peer iss bytes frame told evicted anew
      → IfOk told (λ _. evicted ≡ (received_at now (hurrying s) peer iss bytes).evicted)
  hurried_maker (Ok it) is = ap (λ (x : Reception). x.evicted) is ∙ ap (λ (x : RuledRoom). (received_at now x peer iss bytes).evicted) mid-is
  hurried_maker (Err fault) is = tt

  pub hurried_shut : (told : Result (Option Heard) NoMemory) → IsServed now mid after peer iss bytes frame told evicted anew
      → OnErr told (last ≡ unreceived_hurrying now s peer iss bytes evicted)
  hurried_shut (Ok it) is = tt
  hurried_shut (Err fault) is =
      last-is ∙ ap (going_by s.rules) is.0 ∙ ap (λ (x : RuledRoom). going_by s.rules (unreceived_at now x peer iss bytes evicted)) mid-is

-- the Request of an opening has arrived again: as of its time, at the server without that flow

module _ (now : ℕ) (s mid last : RuledRoom) (peer : Peer) (o : OpeningState) (time iss : ℕ) (bytes : List ℕ) (evicted : Option Peer) where
  -- what is computed of these is computed of the opening
  alike : {A : Type 0} (f : ℕ → RuledRoom → ℕ → List ℕ → A) → time ≡ o.time → mid ≡ cleared now s peer → iss ≡ o.iss → bytes ≡ request_at s peer o
      → f time mid iss bytes ≡ f o.time (cleared now s peer) o.iss (request_at s peer o)
  alike f time-is mid-is iss-is bytes-is =
      ap (λ (x : ℕ). f x mid iss bytes) time-is
      ∙ ap (λ (x : RuledRoom). f o.time x iss bytes) mid-is
      ∙ ap (λ (x : ℕ). f o.time (cleared now s peer) x bytes) iss-is
      ∙ ap (λ (x : List ℕ). f o.time (cleared now s peer) o.iss x) bytes-is

  pub opened : (told : Result (Option Heard) NoMemory) → IfOk told (λ _. last ≡ received_hurrying time mid peer iss bytes) → time ≡ o.time
      → mid ≡ cleared now s peer → iss ≡ o.iss → bytes ≡ request_at s peer o → IfOk told (λ _. last ≡ heard_again now s peer o)
  opened (Ok it) is time-is mid-is iss-is bytes-is =
      is ∙ alike (λ (t : ℕ) (x : RuledRoom) (i : ℕ) (b : List ℕ). received_hurrying t x peer i b) time-is mid-is iss-is bytes-is
  opened (Err fault) is time-is mid-is iss-is bytes-is = tt

  pub opened_for : (told : Result (Option Heard) NoMemory) → IfOk told (λ _. evicted ≡ (received_at time (hurrying mid) peer iss bytes).evicted)
      → time ≡ o.time → mid ≡ cleared now s peer → iss ≡ o.iss → bytes ≡ request_at s peer o → IfOk told (λ _. evicted ≡ maker_of now s peer o)
  opened_for (Ok it) is time-is mid-is iss-is bytes-is =
      is ∙ alike (λ (t : ℕ) (x : RuledRoom) (i : ℕ) (b : List ℕ). (received_at t (hurrying x) peer i b).evicted) time-is mid-is iss-is bytes-is
  opened_for (Err fault) is time-is mid-is iss-is bytes-is = tt

  -- no memory was found
  pub unopened : (told : Result (Option Heard) NoMemory) → OnErr told (last ≡ unreceived_hurrying time mid peer iss bytes evicted) → time ≡ o.time
      → mid ≡ cleared now s peer → iss ≡ o.iss → bytes ≡ request_at s peer o → OnErr told (last ≡ unreopened now s peer o evicted)
  unopened (Ok it) is time-is mid-is iss-is bytes-is = tt
  unopened (Err fault) is time-is mid-is iss-is bytes-is =
      is ∙ alike (λ (t : ℕ) (x : RuledRoom) (i : ℕ) (b : List ℕ). unreceived_hurrying t x peer i b evicted) time-is mid-is iss-is bytes-is

-- a Request was greeted
pub greeted : (now : ℕ) (s : RuledRoom) (peer : Peer) (iss : ℕ) (bytes : List ℕ) (frame : Option Outgoing) (told : Result (Option Heard) NoMemory)
    (evicted : Option Peer) (anew : Bool) (made_room : Option Peer) (w : Way) (keys : CookieKeys) (o : OpeningState) (outcome : Outcome)
    → w ≡ way.Greeted → s.keys ≡ Some keys → entry_met now s peer iss bytes ≡ entry.Asks o → frame ≡ greeting_frame keys s peer o
    → told ≡ Ok (Some (heard.Flow outcome)) → outcome ≡ (greets s.room.served.listening peer o.iss (request_at s peer o)).answer
    → is_taken outcome ≡ true → MovesNobody evicted anew made_room → IsMet now s s peer iss bytes frame told evicted anew made_room w
greeted now s peer iss bytes frame told evicted anew made_room w keys o outcome way-is keys-are entry-is frame-is told-is outcome-is taken nobody =
    let inner : IsGreeted (Some keys) (entry.Asks o) s s peer frame told =
    (refl, frame-is, told-is ∙ ap (λ (x : Outcome). Ok (Some (heard.Flow x))) outcome-is, ap is_taken (sym outcome-is) ∙ taken) in
    subst (λ (x : Way). IsMet now s s peer iss bytes frame told evicted anew made_room x) (sym way-is) (
      subst (λ (k : Option CookieKeys). IsGreeted k (entry_met now s peer iss bytes) s s peer frame told) (sym keys-are)
          (subst (λ (e : DatagramKind). IsGreeted (Some keys) e s s peer frame told) (sym entry-is) inner),
      nobody,
    )
