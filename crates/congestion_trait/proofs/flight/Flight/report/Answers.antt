use Rattle.std.proofs.Common.{sym}
use Rattle.dccp_options.specs.Vectors.{state_at}
use Rattle.congestion_trait.proofs.Unheard.{none_reached}
use Rattle.congestion_trait.proofs.flight.Flight.report.Goals as goal

pub returns-then-is_unreached-clause-entries : goal.returns-then-is_unreached-clause-entries
returns-then-is_unreached-clause-entries c =
    rw (← c.self.view_is) (sym (none_reached (state_at c.args.report.now.ack c.args.report.now.bytes) c.args.mark c.self.inside.entries.items
    c.self.inside.counts.settled c.self.invariant.front (c.is_unreached.ensures c.if-is_unreached.true)).0)

pub returns-then-is_unreached-clause-acked : goal.returns-then-is_unreached-clause-acked
returns-then-is_unreached-clause-acked c =
    rw (← c.self.view_is) (sym (none_reached (state_at c.args.report.now.ack c.args.report.now.bytes) c.args.mark c.self.inside.entries.items
    c.self.inside.counts.settled c.self.invariant.front (c.is_unreached.ensures c.if-is_unreached.true)).1)

pub returns-then-is_unreached-clause-congested : goal.returns-then-is_unreached-clause-congested
returns-then-is_unreached-clause-congested c =
    rw (← c.self.view_is) (sym (none_reached (state_at c.args.report.now.ack c.args.report.now.bytes) c.args.mark c.self.inside.entries.items
    c.self.inside.counts.settled c.self.invariant.front (c.is_unreached.ensures c.if-is_unreached.true)).2)
