use Rattle.std.proofs.Common.{◌+◌, ◌≤◌, arith}
use Rattle.congestion_trait.proofs.Unheard.{out_from, unheard_after}
use Rattle.congestion_trait.proofs.walk.unheard_from.Goals as goal

pub loop-place-init : goal.loop-place-init
loop-place-init c =
    let kept = c.requires.kept in
    let is = c.max-place.ensures in
    let above : c.args.counts.now.heard ≤ c.max-place.result = omega (arith, is) in (
      omega (arith, is),
      omega (arith, is, kept.within, kept.reached),
      out_from c.args.counts.now.heard c.max-place.result c.args.entries.now.items above kept.unheard,
    )

pub loop-place-preserved : goal.loop-place-preserved
loop-place-preserved c = (
  omega arith,
  omega arith,
  out_from c.loop-place.place (c.loop-place.place + 1) c.args.entries.now.items (omega arith) c.loop-place.invariant.2,
)

pub returns-then-is_out_of_reach-clause-unheard : goal.returns-then-is_out_of_reach-clause-unheard
returns-then-is_out_of_reach-clause-unheard c =
    unheard_after c.args.report.now.ack c.args.report.now.bytes c.args.counts.now.span c.loop-place.place c.args.entries.now.items
    c.entry_at-entry.result c.requires.few c.entry_at-entry.ensures c.loop-place.invariant.2 c.requires.kept.near
    (c.is_out_of_reach.ensures.value c.if-is_out_of_reach.true)
