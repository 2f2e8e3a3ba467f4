use Rattle.std.proofs.Common.{◌∙◌}
use Rattle.dccp_listener.proofs.Numbers.{in_order}
use Rattle.dccp_listener.proofs.peer.order.Goals as goal

pub returns : goal.returns
returns c =
    c.compare.ensures
    ∙ in_order c.args.one.address c.args.other.address c.args.one.port c.args.other.port c.number_of.result c.number_of-2.result c.number_of.ensures.digits
    c.number_of-2.ensures.digits c.number_of.ensures.value c.number_of-2.ensures.value
