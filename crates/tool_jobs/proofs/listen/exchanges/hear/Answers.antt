-- What the listener's own clauses say of a datagram, taken apart.
use Rattle.tool_jobs.proofs.Tellable.{heard-after, heard-sent, heard-told, heard-tellable}
use Rattle.tool_jobs.proofs.listen.exchanges.hear.Goals as goal

pub returns-clause-after : goal.returns-clause-after
returns-clause-after c =
    heard-after c.args.listener.now c.arrive.new.self c.args.peer c.args.iss c.args.bytes.now c.arrive.new.out c.arrive.result c.arrive.ensures.turn
    c.arrive.ensures.computed

pub returns-clause-sent : goal.returns-clause-sent
returns-clause-sent c =
    heard-sent c.args.listener.now c.arrive.new.self c.args.peer c.args.iss c.args.bytes.now c.arrive.new.out c.arrive.result c.arrive.ensures.computed

pub returns-clause-told : goal.returns-clause-told
returns-clause-told c =
    heard-told c.args.listener.now c.arrive.new.self c.args.peer c.args.iss c.args.bytes.now c.arrive.new.out c.arrive.result c.arrive.ensures.computed

pub returns-clause-tellable : goal.returns-clause-tellable
returns-clause-tellable c =
    heard-tellable c.args.listener.now c.arrive.new.self c.args.peer c.args.iss c.args.bytes.now c.arrive.new.out c.arrive.result c.arrive.ensures.computed
