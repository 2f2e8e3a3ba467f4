-- What a listener of C's is made from, and the result of its tick.
use Rattle.std.proofs.Common.{◌≡◌, refl, sym, ap, ◌∙◌, subst, ℕ, ◌≤◌, true, List, [], ◌∷◌, length, Option, Some, arith}
use Rattle.dccp_endpoint.specs.declared.config.Config.{Config}
use Rattle.dccp_listener.specs.Standing.{IsListening}
use Rattle.dccp_listener.specs.declared.config.ListenConfig.{ListenConfig}
use Rattle.dccp_server.specs.Rooms.{duty_frame, duty_in}
use Rattle.dccp_server.specs.declared.duty.Duty.{Duty}
use Rattle.feature_lists.specs.Lists.{is_distinct}
use Rattle.dccp_c.specs.Founding.{listening_at, services_by}
use Rattle.dccp_c.specs.Framing.{FrameFields}
use Rattle.dccp_c.specs.Listening.{DoesDuty, OwnedServerState, Ticks, duty_address, duty_code, duty_left, holds_ticked}
use Rattle.dccp_c.specs.declared.making.Settings.{Settings}
use Rattle.dccp_c.specs.declared.peer.PeerAddress.{PeerAddress}

services-some : (s : Settings) (given : List ℕ) → 1 ≤ length (services_by s given)
services-some s [] = omega arith
services-some s (one ∷ rest) = omega arith

services-distinct : (s : Settings) (given : List ℕ) → is_distinct given ≡ true → is_distinct (services_by s given) ≡ true
services-distinct s [] is = refl
services-distinct s (one ∷ rest) is = is

pub listens_soundly : (s : Settings) (given : List ℕ) (most : ℕ) (config : Config) (made : ListenConfig) → made ≡ listening_at s given most config
    → is_distinct given ≡ true → 1 ≤ most → most ≤ 1024 → IsListening made
listens_soundly s given most config made is distinct least high =
    subst IsListening (sym is)
    (record { some = services-some s given; distinct = services-distinct s given distinct; least = least; most = high })

-- a tick, once the server has been taken out of its handle and put back
pub ticks_so : (now : ℕ) (before after : Option OwnedServerState) (s t : OwnedServerState) (duty : Option Duty) (left : FrameFields) (old new : PeerAddress) (code : ℕ)
    → before ≡ Some s → after ≡ Some t → duty ≡ duty_in now s.watched.server.rules s.watched.server.room
    → t ≡ holds_ticked now s duty → left ≡ duty_left t duty (duty_frame now s.watched.server.room duty)
    → new ≡ duty_address duty old → code ≡ duty_code duty → Ticks now before after left old new code
ticks_so now before after s t duty left old new code before-is after-is same-duty ticked sent named answered =
    subst (λ (x : Option OwnedServerState). Ticks now x after left old new code) (sym before-is)
    (subst (λ (d : Option Duty). DoesDuty now s after d left old new code) same-duty (
      after-is ∙ ap (λ (x : OwnedServerState). Some x) ticked,
      sent ∙ ap (λ (x : OwnedServerState). duty_left x duty (duty_frame now s.watched.server.room duty)) ticked,
      named,
      answered,
    ))
