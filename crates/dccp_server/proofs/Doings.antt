-- What the listener's own clauses say of a call, as it is computed.
use Rattle.std.proofs.Common.{◌≡◌, ap, ◌∙◌, Option}
use Rattle.dccp_packets.specs.Outgoing.{Outgoing}
use Rattle.dccp_listener.specs.Listens.{ListenerStep, listens}
use Rattle.dccp_listener.specs.Peers.{Flows, ListenerState}
use Rattle.dccp_listener.specs.Runs.{CallTold, CallTurn, IsTurn, IsTurnSo, Stepped, WasBusy, HadNoMemory}
use Rattle.dccp_listener.specs.declared.config.ListenConfig.{ListenConfig}
use Rattle.dccp_server.specs.Serving.{IsDone}

-- no call changes what the listener was made from
same-config : (before after : ListenerState) (turn : CallTurn) (told : CallTold) → IsTurnSo before after turn told → after.config ≡ before.config
same-config before after turn (Stepped it) is = is.same_config
same-config before after turn WasBusy is = ap (λ (l : ListenerState). l.config) is
same-config before after turn HadNoMemory is = ap (λ (l : ListenerState). l.config) is

abbrev listening : ListenConfig → Flows → ListenerState
listening config flows = record { config = config; flows = flows }

pub done_as : (before after : ListenerState) (turn : CallTurn) (frame : Option Outgoing) (told : CallTold) → IsTurn before after turn
    → record { flows = after.flows; frame = frame; told = told } ≡ listens before turn.peer turn.deed → IsDone before after turn.peer turn.deed frame told
done_as before after turn frame told turned is = (
  ap (λ (config : ListenConfig). listening config after.flows) (same-config before after turn turn.told turned)
      ∙ ap (λ (x : ListenerStep). listening before.config x.flows) is,
  ap (λ (x : ListenerStep). x.frame) is,
  ap (λ (x : ListenerStep). x.told) is,
)
