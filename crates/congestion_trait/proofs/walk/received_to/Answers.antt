use Rattle.std.proofs.Common.{◌+◌, refl, arith}
use Rattle.dccp_options.specs.Vectors.{state_at}
use Rattle.congestion_trait.proofs.Received.{out_at, received_none, received_more}
use Rattle.congestion_trait.proofs.Unheard.{out_from, unheard_after}
use Rattle.congestion_trait.proofs.walk.received_to.Goals as goal

pub loop-place-init : goal.loop-place-init
loop-place-init c =
    let settled = c.args.counts.now.settled in
    let old = c.args.entries.now.items in
    let kept = c.requires.kept in (
      omega arith,
      kept.within,
      out_from c.args.counts.now.heard settled old (omega arith) kept.unheard,
      received_none (state_at c.args.report.now.ack c.args.report.now.bytes) settled old,
    )

pub returns-then-is_out_of_reach : goal.returns-then-is_out_of_reach
returns-then-is_out_of_reach c = (
  c.loop-place.invariant.0,
  c.loop-place.invariant.1,
  unheard_after c.args.report.now.ack c.args.report.now.bytes c.args.counts.now.span c.loop-place.place c.args.entries.now.items
      c.entry_at-entry.result c.new-cursor.ensures.few c.entry_at-entry.ensures c.loop-place.invariant.2 c.requires.kept.near
      (c.is_out_of_reach.ensures.value c.if-is_out_of_reach.true),
  c.loop-place.invariant.3,
)

pub loop-place-preserved : goal.loop-place-preserved
loop-place-preserved c =
    let place = c.loop-place.place in
    let old = c.args.entries.now.items in
    let entry = c.entry_at-entry.result in
    let read = c.entry_at-entry.ensures in (
      omega arith,
      omega arith,
      out_from place (place + 1) old (omega arith) c.loop-place.invariant.2,
      received_more (state_at c.args.report.now.ack c.args.report.now.bytes) c.args.counts.now.settled place old entry c.loop-place.invariant.3 read
          (out_at place place old entry (omega arith) c.loop-place.invariant.2 read) (c.if-not-has_received.ensures refl),
    )
