use Rattle.std.proofs.Common.{arith}
use Rattle.tool_jobs.proofs.AtPlaces.{flow_put}
use Rattle.tool_jobs.proofs.listen.flow_lines.put_each_flow.Goals as goal

pub loop-place-preserved : goal.loop-place-preserved
loop-place-preserved c = record {
  few = omega (arith, c.loop-place-test.true);
  same = flow_put c.args.listener.now.flows c.loop-place.place c.loop-place.text.items c.put_flow_at.new.text.items _ c.in_ok-put_flow_at.ensures
      c.loop-place.invariant.same;
}
