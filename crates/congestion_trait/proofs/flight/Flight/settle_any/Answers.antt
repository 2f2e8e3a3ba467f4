use Rattle.std.proofs.Common.{take, ap, sym, subst, arith}
use Rattle.dccp_options.specs.Vectors.{state_at}
use Rattle.congestion_trait.specs.Walk.{AllReported}
use Rattle.seq_circle.specs.Near.{AreNear}
use Rattle.congestion_trait.proofs.Settled.{untouched_from_reported, front_stays}
use Rattle.congestion_trait.proofs.Settling.{length-after_report}
use Rattle.congestion_trait.proofs.Near.{numbers_after_report}
use Rattle.congestion_trait.proofs.Unheard.{out_after}
use Rattle.congestion_trait.proofs.flight.Flight.settle_any.Goals as goal

pub settled_from-self-inside-requires-clause-within : goal.settled_from-self-inside-requires-clause-within
settled_from-self-inside-requires-clause-within c =
    let same = length-after_report (state_at c.args.report.now.ack c.args.report.now.bytes) c.self.inside.entries.items in
    rw c.settle-walk.ensures.entries (omega (arith, same, c.self.invariant.within))

pub settled_from-self-inside-requires-clause-front : goal.settled_from-self-inside-requires-clause-front
settled_from-self-inside-requires-clause-front c =
    let told = state_at c.args.report.now.ack c.args.report.now.bytes in
    let old = c.self.inside.entries.items in
    let settled = c.self.inside.counts.settled in
    let front = untouched_from_reported told (take settled old) c.self.invariant.front in
    let stays = front_stays told c.args.mark old settled front c.self.invariant.within in
    rw c.settle-walk.ensures.entries (subst AllReported (sym stays) c.self.invariant.front)

pub invariant_of-self : goal.invariant_of-self
invariant_of-self c =
    let told = state_at c.args.report.now.ack c.args.report.now.bytes in
    let same = numbers_after_report told c.self.inside.entries.items in
    let long = length-after_report told c.self.inside.entries.items in
    rw c.settle-walk.ensures.entries (record {
      holds = c.self.invariant.holds;
      counted = c.settle-walk.ensures.out;
      within = rw (sym (ap (λ b. b.items) c.settle-walk.ensures.entries)) c.settled_from-self-inside.ensures.within;
      front = rw (sym (ap (λ b. b.items) c.settle-walk.ensures.entries)) c.settled_from-self-inside.ensures.front;
      reached = omega (arith, long, c.settle-walk.ensures.within);
      unheard = out_after told c.settle-walk.result.heard c.self.inside.entries.items c.settle-walk.ensures.unheard;
      near = λ small. subst (AreNear c.self.inside.counts.span) (sym same) (c.self.invariant.near small);
    })
