use Rattle.std.proofs.lemmas.Grind.{common_steps}
use Rattle.std.proofs.Common.{◌≤◌, ◌++◌, ◌∷◌, [], None, nat_lt, if◌then◌else◌, slice_get, length, rules, arith, ap, refl, ◌∙◌}
use Rattle.circular_buffer.specs.Buffer.{keep_last}
use Rattle.congestion_trait.specs.declared.flight.FlightEntry.{FlightEntry}
use Rattle.congestion_trait.specs.declared.flight.Standing.TheVariants.{Out}
use Rattle.congestion_trait.proofs.Settled.{front_sent}
use Rattle.congestion_trait.proofs.Near.{near_sent}
use Rattle.congestion_trait.proofs.Unheard.{out_sent}
use Rattle.congestion_trait.proofs.flight.Flight.sent.Goals as goal

pub invariant_of-self : goal.invariant_of-self
invariant_of-self c =
    let old = c.self.inside.entries.items in
    let kept = c.self.invariant in
    let entry : FlightEntry = record { number = c.args.number; standing = Out } in
    let pushed = c.push_back-driven_out.ensures in
    let items = ap (λ b. b.items) pushed.items ∙ ap (λ n. keep_last n (old ++ entry ∷ [])) kept.holds in
    let driven = pushed.value ∙ ap (λ n. if nat_lt (length old) n then None else slice_get (old ++ entry ∷ []) 0) kept.holds in
    let few : length old ≤ 2048 = omega (arith, kept.holds, c.len-len.ensures.len, c.len-len.ensures.within) in
    let counted = c.with_sent-self-inside.ensures in
    record {
      holds = search rules;
      counted = grind (arith, common_steps);
      within = grind (arith, common_steps);
      front = rw (items, counted.settled) (front_sent old entry c.self.inside.counts.settled c.push_back-driven_out.result driven few kept.within kept.front);
      reached = grind (arith, common_steps);
      unheard = rw (items, counted.heard)
          (out_sent old entry c.self.inside.counts.heard c.push_back-driven_out.result driven few kept.reached refl kept.unheard);
      near = λ small. rw (items, counted.span small)
          (near_sent _ c.args.number old
          (c.step_from_newest-step.ensures.near c.self.inside.counts.span (kept.near (omega (arith, small, counted.span small)))));
    }
