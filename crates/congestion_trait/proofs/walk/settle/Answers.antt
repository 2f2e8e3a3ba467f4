use Rattle.std.proofs.Common.{◌≡◌, ◌-◌, take, drop, ap, subst, sym, ◌∙◌, refl, arith}
use Rattle.congestion_trait.specs.Flight.{after_report}
use Rattle.congestion_trait.proofs.Settled.{report_from, acked_from, congested_from, pipe_from, untouched_from_reported}
use Rattle.circular_buffer.specs.Buffer.{buffer}
use Rattle.dccp_options.specs.Vectors.{state_at}
use Rattle.congestion_trait.specs.Walk.{IsAlong}
use Rattle.congestion_trait.proofs.Settling.{turn, turn_reported, cut, few_yet, IsStep}
use Rattle.congestion_trait.proofs.Unheard.{begins_from}
use Rattle.congestion_trait.proofs.Near.{untouched_below, if_none}
use Rattle.congestion_trait.proofs.walk.settle.Goals as goal

pub loop-untouched-init : goal.loop-untouched-init
loop-untouched-init c =
    let told = state_at c.args.report.now.ack c.args.report.now.bytes in
    let old = c.args.entries.now.items in (
      begins_from told c.args.mark.now old c.unheard_from-heard.result _ c.unheard_from-heard.ensures.unheard (omega (arith, c.len.ensures.len)),
      c.new-cursor.ensures.stands,
      refl,
      c.unheard_from-heard.ensures.settled,
      c.unheard_from-heard.ensures.within,
      untouched_from_reported told (take c.args.counts.now.settled old) c.requires.kept.front,
      refl,
    )

pub step-standing-requires : goal.step-standing-requires
step-standing-requires c =
    few_yet (state_at c.args.report.now.ack c.args.report.now.bytes) c.args.mark.now c.args.entries.now.items c.loop-untouched.entries.items
    c.loop-untouched.index c.loop-untouched.walk (omega arith) (omega arith) (omega arith) c.loop-untouched.invariant.0

pub loop-untouched-preserved-then-ends_before : goal.loop-untouched-preserved-then-ends_before
loop-untouched-preserved-then-ends_before c =
    let told = state_at c.args.report.now.ack c.args.report.now.bytes in
    let old = c.args.entries.now.items in
    let written = c.set_standing.ensures c.entry_at-entry.result c.entry_at-entry.ensures in
    let entry = c.entry_at-entry.result in
    let step : IsStep c.state-state.result c.args.mark.now entry c.loop-untouched.walk c.step-standing.new.self c.step-standing.result =
    record {
      stands = c.step-standing.ensures.standing;
      acked = c.step-standing.ensures.acked;
      congested = c.step-standing.ensures.congested;
      reported = c.step-standing.ensures.reported;
      out = c.step-standing.ensures.out;
      seen = c.step-standing.ensures.seen;
    } in
    let along = turn told c.args.mark.now c.state-state.result old c.loop-untouched.entries.items c.loop-untouched.index (c.loop-untouched.index - 1) entry
    c.loop-untouched.walk c.step-standing.new.self c.step-standing.result (omega arith) (omega arith) c.loop-untouched.invariant.0
    c.entry_at-entry.ensures c.state-state.ensures.value step in
    let ends = c.ends_before.ensures c.if-ends_before.true in
    let cut = cut told c.args.mark.now old c.loop-untouched.entries.items c.loop-untouched.index (c.loop-untouched.index - 1) entry c.loop-untouched.walk
    (omega arith) (omega arith) c.loop-untouched.invariant.0 c.entry_at-entry.ensures in
    let below = untouched_below c.args.report.now.ack c.args.report.now.bytes c.args.counts.now.span (c.loop-untouched.index - 1) old
    (drop c.loop-untouched.index old) entry cut (c.requires.kept.near (omega (arith, ends.1))) (sym along.seen ∙ c.if-walk-counts-2.true ∙ c.requires.kept.counted)
    ends.1 (if_none c.state-state.result ends.0 c.state-state.ensures.none) in (
      rw written along,
      c.state-state.ensures.stands,
      rw written c.loop-untouched.invariant.2,
      omega arith,
      omega arith,
      below,
      c.step-standing.ensures.heard ∙ c.loop-untouched.invariant.6,
    )

pub loop-untouched-preserved-then-walk-counts : goal.loop-untouched-preserved-then-walk-counts
loop-untouched-preserved-then-walk-counts c = (
  turn_reported (state_at c.args.report.now.ack c.args.report.now.bytes) c.args.mark.now c.args.entries.now.items c.loop-untouched.entries.items
      c.loop-untouched.index (c.loop-untouched.index - 1) c.entry_at-entry.result c.loop-untouched.walk (omega arith) (omega arith)
      c.loop-untouched.invariant.0 c.entry_at-entry.ensures (sym c.is_reported.ensures ∙ c.if-is_reported.true),
  c.loop-untouched.invariant.1,
  c.loop-untouched.invariant.2,
  omega arith,
  omega arith,
  c.loop-untouched.invariant.5,
  c.loop-untouched.invariant.6,
)

pub loop-untouched-preserved : goal.loop-untouched-preserved
loop-untouched-preserved c =
    let told = state_at c.args.report.now.ack c.args.report.now.bytes in
    let old = c.args.entries.now.items in
    let written = c.set_standing.ensures c.entry_at-entry.result c.entry_at-entry.ensures in
    let entry = c.entry_at-entry.result in
    let step : IsStep c.state-state.result c.args.mark.now entry c.loop-untouched.walk c.step-standing.new.self c.step-standing.result =
    record {
      stands = c.step-standing.ensures.standing;
      acked = c.step-standing.ensures.acked;
      congested = c.step-standing.ensures.congested;
      reported = c.step-standing.ensures.reported;
      out = c.step-standing.ensures.out;
      seen = c.step-standing.ensures.seen;
    } in
    let along = turn told c.args.mark.now c.state-state.result old c.loop-untouched.entries.items c.loop-untouched.index (c.loop-untouched.index - 1) entry
    c.loop-untouched.walk c.step-standing.new.self c.step-standing.result (omega arith) (omega arith) c.loop-untouched.invariant.0
    c.entry_at-entry.ensures c.state-state.ensures.value step in (
      rw written along,
      c.state-state.ensures.stands,
      rw written c.loop-untouched.invariant.2,
      omega arith,
      omega arith,
      c.loop-untouched.invariant.5,
      c.step-standing.ensures.heard ∙ c.loop-untouched.invariant.6,
    )

pub returns : goal.returns
returns c =
    let told = state_at c.args.report.now.ack c.args.report.now.bytes in
    let mark = c.args.mark.now in
    let old = c.args.entries.now.items in
    let from = c.loop-untouched.untouched in
    let front = c.loop-untouched.invariant.5 in
    let reached : c.loop-untouched.index ≡ from = omega arith in
    let along = subst (λ i. IsAlong told mark old i c.loop-untouched.entries.items c.loop-untouched.walk) reached c.loop-untouched.invariant.0 in
    let items = along.entries ∙ report_from told mark old from front in
    record {
      entries = ap (λ l. buffer l c.loop-untouched.entries.capacity) items ∙ ap (λ n. buffer (after_report told old) n) c.loop-untouched.invariant.2;
      acked = along.acked ∙ acked_from told mark old from front;
      congested = along.congested ∙ congested_from told mark old from front;
      out = along.out ∙ pipe_from told mark old from front;
      within = rw c.loop-untouched.invariant.6 c.unheard_from-heard.ensures.within;
      unheard = rw c.loop-untouched.invariant.6 c.unheard_from-heard.ensures.unheard;
    }
