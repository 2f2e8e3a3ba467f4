use Rattle.std.proofs.Common.{take, sym, ◌∙◌, subst, arith}
use Rattle.dccp_options.specs.Vectors.{state_at}
use Rattle.congestion_trait.specs.Walk.{AllReported}
use Rattle.seq_circle.specs.Near.{AreNear}
use Rattle.congestion_trait.proofs.Settled.{acked_from, congested_from, front_stays, pipe_from, report_from, untouched_from_reported}
use Rattle.congestion_trait.proofs.Settling.{length-after_report}
use Rattle.congestion_trait.proofs.Near.{numbers_after_report}
use Rattle.congestion_trait.proofs.Unheard.{out_after}
use Rattle.congestion_trait.proofs.flight.Flight.settle_by.Goals as goal

pub returns-clause-entries : goal.returns-clause-entries
returns-clause-entries c =
    let told = state_at c.args.report.now.ack c.args.report.now.bytes in
    let old = c.self.inside.entries.items in
    let front = untouched_from_reported told (take c.self.inside.counts.settled old) c.self.invariant.front in
    let along = c.settle_received.ensures.along told c.args.mark c.in-Some.ensures.2 c.in-Some.ensures.3 in
    rw (sym c.self.view_is) (along.entries ∙ report_from told c.args.mark old c.self.inside.counts.settled front)

pub returns-clause-acked : goal.returns-clause-acked
returns-clause-acked c =
    let told = state_at c.args.report.now.ack c.args.report.now.bytes in
    let old = c.self.inside.entries.items in
    let front = untouched_from_reported told (take c.self.inside.counts.settled old) c.self.invariant.front in
    let along = c.settle_received.ensures.along told c.args.mark c.in-Some.ensures.2 c.in-Some.ensures.3 in
    rw (sym c.self.view_is) (along.acked ∙ acked_from told c.args.mark old c.self.inside.counts.settled front)

pub returns-clause-congested : goal.returns-clause-congested
returns-clause-congested c =
    let told = state_at c.args.report.now.ack c.args.report.now.bytes in
    let old = c.self.inside.entries.items in
    let front = untouched_from_reported told (take c.self.inside.counts.settled old) c.self.invariant.front in
    let along = c.settle_received.ensures.along told c.args.mark c.in-Some.ensures.2 c.in-Some.ensures.3 in
    rw (sym c.self.view_is) (along.congested ∙ congested_from told c.args.mark old c.self.inside.counts.settled front)

pub settled_from-self-inside-requires-clause-within : goal.settled_from-self-inside-requires-clause-within
settled_from-self-inside-requires-clause-within c =
    let told = state_at c.args.report.now.ack c.args.report.now.bytes in
    let old = c.self.inside.entries.items in
    let front = untouched_from_reported told (take c.self.inside.counts.settled old) c.self.invariant.front in
    let along = c.settle_received.ensures.along told c.args.mark c.in-Some.ensures.2 c.in-Some.ensures.3 in
    let items = along.entries ∙ report_from told c.args.mark old c.self.inside.counts.settled front in
    rw items (omega (arith, length-after_report told old, c.self.invariant.within))

pub settled_from-self-inside-requires-clause-front : goal.settled_from-self-inside-requires-clause-front
settled_from-self-inside-requires-clause-front c =
    let told = state_at c.args.report.now.ack c.args.report.now.bytes in
    let old = c.self.inside.entries.items in
    let settled = c.self.inside.counts.settled in
    let front = untouched_from_reported told (take settled old) c.self.invariant.front in
    let along = c.settle_received.ensures.along told c.args.mark c.in-Some.ensures.2 c.in-Some.ensures.3 in
    let items = along.entries ∙ report_from told c.args.mark old settled front in
    rw items (subst AllReported (sym (front_stays told c.args.mark old settled front c.self.invariant.within)) c.self.invariant.front)

pub invariant_of-self : goal.invariant_of-self
invariant_of-self c =
    let told = state_at c.args.report.now.ack c.args.report.now.bytes in
    let mark = c.args.mark in
    let old = c.self.inside.entries.items in
    let settled = c.self.inside.counts.settled in
    let front = untouched_from_reported told (take settled old) c.self.invariant.front in
    let along = c.settle_received.ensures.along told mark c.in-Some.ensures.2 c.in-Some.ensures.3 in
    let items = along.entries ∙ report_from told mark old settled front in
    let long = length-after_report told old in
    rw items (record {
      holds = c.settle_received.ensures.capacity ∙ c.self.invariant.holds;
      counted = rw c.len-len.ensures.len (along.out ∙ pipe_from told mark old settled front);
      within = rw (sym items) c.settled_from-self-inside.ensures.within;
      front = rw (sym items) c.settled_from-self-inside.ensures.front;
      reached = omega (arith, long, c.in-Some.ensures.1);
      unheard = out_after told c.in-Some.heard old c.in-Some.ensures.2;
      near = λ small. subst (AreNear c.self.inside.counts.span) (sym (numbers_after_report told old)) (c.self.invariant.near small);
    })
