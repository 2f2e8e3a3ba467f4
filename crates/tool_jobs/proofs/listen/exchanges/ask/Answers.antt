-- What the listener's own clauses say of a call, taken apart.
use Rattle.std.proofs.Common.{ap}
use Rattle.dccp_listener.specs.Chain.{Calls, call_of}
use Rattle.dccp_listener.specs.Calls.{seen_if}
use Rattle.dccp_listener.specs.Listens.{ListenerStep}
use Rattle.dccp_listener.specs.Runs.{Stepped, call_turn}
use Rattle.tool_jobs.proofs.Tellable.{left_as, told_as}
use Rattle.tool_jobs.proofs.listen.exchanges.ask.Goals as goal

pub returns-clause-after : goal.returns-clause-after
returns-clause-after c =
    left_as c.args.listener.now c.act.new.self (call_turn c.args.peer (call_of c.args.act) c.act.new.out c.act.result) c.act.new.out
    (Stepped (seen_if c.act.result))
    c.act.ensures.turn c.act.ensures.computed

pub returns-clause-sent : goal.returns-clause-sent
returns-clause-sent c = ap (λ (x : ListenerStep). x.frame) c.act.ensures.computed

pub returns-clause-told : goal.returns-clause-told
returns-clause-told c = ap (λ (x : ListenerStep). x.told) c.act.ensures.computed

pub returns-clause-tellable : goal.returns-clause-tellable
returns-clause-tellable c =
    told_as c.args.listener.now c.args.peer (Calls (call_of c.args.act)) c.act.new.self.flows c.act.new.out
    (Stepped (seen_if c.act.result)) c.act.ensures.computed
