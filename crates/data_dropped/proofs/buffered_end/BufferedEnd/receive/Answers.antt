use Rattle.std.proofs.Common.{arith}
use Rattle.data_dropped.proofs.Places.{data_within}
use Rattle.data_dropped.proofs.buffered_end.BufferedEnd.receive.Goals as goal

pub settle-arrival-requires : goal.settle-arrival-requires
settle-arrival-requires g c = (
  omega arith,
  data_within c.self.inside.end.state c.args.bytes.now c.receive-outcome.result c.receive-outcome.ensures.cause,
)

pub returns-clause-within : goal.returns-clause-within
returns-clause-within g c = data_within c.self.inside.end.state c.args.bytes.now c.receive-outcome.result c.receive-outcome.ensures.cause
