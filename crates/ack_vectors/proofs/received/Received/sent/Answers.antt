use Rattle.std.proofs.Common.{◌++◌, ◌∷◌, [], arith, ap, ◌∙◌, rules}
use Rattle.circular_buffer.specs.Buffer.{keep_last}
use Rattle.ack_vectors.specs.declared.received.VectorRecord.{VectorRecord}
use Rattle.ack_vectors.proofs.Near.{near_recorded}
use Rattle.ack_vectors.proofs.received.Received.sent.Goals as goal

pub invariant_of-self : goal.invariant_of-self
invariant_of-self c =
    let old = c.self.inside.records.items in
    let kept = c.self.invariant in
    let new : VectorRecord = record { number = c.args.number; ack = c.args.ack; whole = c.args.whole } in
    let items = ap (λ b. b.items) c.push_back.ensures.items ∙ ap (λ n. keep_last n (old ++ new ∷ [])) kept.holds in
    record {
      holds = search rules;
      near = λ small. rw (items, c.with_step-self-inside.ensures small)
          (near_recorded _ new old
          (c.step_from_newest-step.ensures.near c.self.inside.span (kept.near (omega (arith, small, c.with_step-self-inside.ensures small)))));
    }
