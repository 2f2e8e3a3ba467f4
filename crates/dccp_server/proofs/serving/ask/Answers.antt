use Rattle.dccp_listener.specs.Calls.{seen_if}
use Rattle.dccp_listener.specs.Chain.{asked}
use Rattle.dccp_listener.specs.Runs.{Stepped, call_turn}
use Rattle.dccp_server.proofs.Doings.{done_as}
use Rattle.dccp_server.proofs.serving.ask.Goals as goal

pub returns : goal.returns
returns c =
    done_as c.args.listener.now c.ask.new.self (call_turn c.args.peer (asked c.args.call) c.ask.new.out c.ask.result) c.ask.new.out
    (Stepped (seen_if c.ask.result))
    c.ask.ensures.turn c.ask.ensures.computed
