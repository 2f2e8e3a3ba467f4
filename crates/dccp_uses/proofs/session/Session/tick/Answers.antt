use Rattle.std.proofs.Common.{sym, subst}
use Rattle.dccp_uses.specs.Sessions.{NoneIsDue}
use Rattle.dccp_uses.specs.Holding.{HoldingState}
use Rattle.dccp_uses.specs.Upkeeps.{every_due}
use Rattle.dccp_uses.proofs.Dues.{RingsEachDue, nothing_due, rung_all}
use Rattle.dccp_uses.proofs.session.Session.tick.Given as given
use Rattle.dccp_uses.proofs.session.Session.tick.Goals as goal

-- what the seven calls left
all : (g : given.Over) (c : goal.After-ring-7 g)
    → RingsEachDue g.N.Network.sends g.C.Congestion.control c.args.now every_due c.args.self.now c.ring-7.new.self c.args.network.now c.ring-7.new.network
all g c =
    rung_all g.N.Network.sends g.C.Congestion.control c.args.now c.args.self.now c.ring.new.self c.ring-2.new.self c.ring-3.new.self c.ring-4.new.self
    c.ring-5.new.self c.ring-6.new.self c.ring-7.new.self c.args.network.now c.ring.new.network c.ring-2.new.network c.ring-3.new.network
    c.ring-4.new.network c.ring-5.new.network c.ring-6.new.network c.ring-7.new.network c.ring.result c.ring-2.result c.ring-3.result c.ring-4.result
    c.ring-5.result c.ring-6.result c.ring-7.result c.ring.ensures.does c.ring-2.ensures.does c.ring-3.ensures.does c.ring-4.ensures.does
    c.ring-5.ensures.does c.ring-6.ensures.does c.ring-7.ensures.does

pub returns-clause-session : goal.returns-clause-session
returns-clause-session g c = (all g c).session_is

pub returns-clause-handed : goal.returns-clause-handed
returns-clause-handed g c = (all g c).handed

pub returns-clause-once : goal.returns-clause-once
returns-clause-once g c =
    subst (λ (s : HoldingState _). NoneIsDue c.args.now s.timed) (sym (all g c).session_is)
    (nothing_due g.C.Congestion.control c.args.now c.args.self.now)
