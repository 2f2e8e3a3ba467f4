-- What a server does with the first datagram of a peer (RFC 4340, section 8.1.2; own).
use Rattle.std.specs.Prelude.{◌≡◌, ℕ, List, Option}
use Rattle.congestion_trait.specs.Control.{Control}
use Rattle.dccp_endpoint.specs.declared.config.Config.{Config}
use Rattle.dccp_uses.specs.Handing.{Hands}
use Rattle.dccp_uses.specs.Holding.{HoldingState, without_inbox}
use Rattle.dccp_uses.specs.Sessions.{session_accepted, holding_hears}
use Rattle.dccp_uses.specs.Timed.{timed_begins}
use Rattle.dccp_uses.specs.declared.pace.Pace.{Pace}

-- A fresh end hears the datagram. Its answer is handed over, and it is a connection if it left LISTEN.
pub record Accepts {C N : Type 0} (sends : N → List ℕ → N → Type 0) (control : Control C) (now : ℕ) (config : Config) (congestion : C)
    (pace : Pace) (bytes : List ℕ) (before after : N) (made : Option (HoldingState C)) : Type 0 where
  pub made_is : made ≡ session_accepted (holding_hears control now (without_inbox (timed_begins control config congestion pace)) bytes)
  pub handed : Hands sends before (holding_hears control now (without_inbox (timed_begins control config congestion pace)) bytes).frame after
