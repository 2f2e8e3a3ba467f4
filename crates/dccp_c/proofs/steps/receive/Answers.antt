use Rattle.std.proofs.Common.{subst, ℕ, List}
use Rattle.data_dropped.specs.Intakes.{HasDataIfHeard}
use Rattle.dccp_uses.proofs.Delivering.{heard_within}
use Rattle.dccp_c.proofs.steps.receive.Goals as goal

pub settle_heard-arrival-requires : goal.settle_heard-arrival-requires
settle_heard-arrival-requires c =
    subst (λ (bytes : List ℕ). HasDataIfHeard bytes c.receive-heard.result) c.new-decoded.ensures
    (heard_within c.args.held.now.timed.end.state c.new-decoded.result c.receive-heard.result c.receive-heard.ensures.cause)
