use Rattle.tests_claims.proofs.Received.{reset-so, synced-so, taken-so}
use Rattle.tests_claims.proofs.ends.received.Goals as goal

pub returns-clause-synced : goal.returns-clause-synced
returns-clause-synced g c = λ number is.
    synced-so c.args.end.now.state c.args.bytes.now c.receive.result c.receive.new.self.state c.receive.new.out _ c.receive.ensures.effect number is

pub returns-clause-reset : goal.returns-clause-reset
returns-clause-reset g c = λ code detail is.
    reset-so c.args.end.now.state c.args.bytes.now c.receive.result c.receive.new.self.state c.receive.new.out _ c.receive.ensures.effect code detail is

pub returns-clause-taken : goal.returns-clause-taken
returns-clause-taken g c = λ place is.
    taken-so c.args.end.now.state c.args.bytes.now c.receive.result c.receive.new.self.state c.receive.new.out _ c.receive.ensures.effect place is
