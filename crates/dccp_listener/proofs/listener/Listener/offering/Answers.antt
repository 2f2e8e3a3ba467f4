use Rattle.std.proofs.Common.{subst, sym}
use Rattle.dccp_listener.proofs.EndsStand.{sound_fresh}
use Rattle.dccp_listener.specs.Peers.{Flows}
use Rattle.dccp_listener.specs.Standing.{IsSoundListener}
use Rattle.dccp_listener.proofs.listener.Listener.offering.Goals as goal

pub invariant_of-result : goal.invariant_of-result
invariant_of-result c =
    subst (λ (flows : Flows). IsSoundListener c.args.config flows) (sym c.new.ensures) (sound_fresh c.args.config c.wish-wish.ensures.lists)
