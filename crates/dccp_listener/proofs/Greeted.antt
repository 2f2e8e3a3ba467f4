-- A fresh end that hears a datagram and goes is the flow that the datagram opens.
use Rattle.std.proofs.Common.{◌≡◌, ℕ, Bool, true, false, List, Option, None, ap, ◌∙◌}
use Rattle.ccid_two.specs.Kinds.{Both}
use Rattle.dccp_endpoint.specs.Controlled.{EndStep}
use Rattle.dccp_endpoint.specs.Inputs.{EndAnswer}
use Rattle.dccp_endpoint.specs.End.{is_begun}
use Rattle.dccp_listener.specs.Chain.{Arrives, flow_step, fresh_end}
use Rattle.dccp_listener.specs.Greeting.{GreetingsOpen}
use Rattle.dccp_listener.specs.Listens.{ListenerStep, fresh_met, is_table_full, listens, listens_by}
use Rattle.dccp_listener.specs.Peers.{FlowEnd, ListenerState, end_of_peer}
use Rattle.dccp_listener.specs.declared.peer.Peer.{Peer}
use Rattle.dccp_listener.proofs.InOrder.{own_insert}

module _ (l : ListenerState) (peer : Peer) (iss : ℕ) (bytes : List ℕ) where
  abbrev step : EndStep Both EndAnswer
  step = flow_step (fresh_end l.config peer iss bytes) (Arrives iss bytes)

  -- the datagram opens a flow
  opened : end_of_peer l.flows peer ≡ None → is_table_full l ≡ false → is_begun step.after.state.phase ≡ true
      → listens l peer (Arrives iss bytes) ≡ fresh_met l peer iss bytes step true false
  opened none room stays =
      ap (λ (found : Option FlowEnd). listens_by l peer found (Arrives iss bytes)) none
      ∙ ap (λ (it : Bool). fresh_met l peer iss bytes step it (is_table_full l)) stays
      ∙ ap (λ (it : Bool). fresh_met l peer iss bytes step true it) room

pub greeted_opens : GreetingsOpen
greeted_opens l peer iss bytes none room stays =
    let is = opened l peer iss bytes none room stays in (
      ap (λ (it : ListenerStep). it.frame) is,
      ap (λ (it : ListenerStep). end_of_peer it.flows peer) is
          ∙ own_insert peer (step l peer iss bytes).after l.flows,
    )
