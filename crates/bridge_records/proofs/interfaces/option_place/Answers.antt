-- What is looked for from each place on is looked for in the whole list.
use Rattle.std.proofs.Common.{arith, rules, ◌≡◌, sym, ap, ◌∙◌, ℕ, ◌+◌, ◌*◌, ◌/◌, ◌≤◌, ◌<◌, ◌==◌, List, length, false}
use Rattle.std.proofs.lemmas.Bool.{ne_eqb}
use Rattle.capture_reader.specs.Format.{ordered_number_at}
use Rattle.bridge_records.proofs.Options.{sought, sought_nowhere, sought_on}
use Rattle.bridge_records.proofs.interfaces.option_place.Goals as goal

pub loop-place-preserved : goal.loop-place-preserved
loop-place-preserved c =
    let place : ℕ = c.loop-place.place in
    let options : List ℕ = c.args.options.now in
    let kind : ℕ = ordered_number_at c.args.order place 2 options in
    let room : place + 8 ≤ length options = omega (arith, c.loop-place-test.true) in
    let further : (kind == 0) ≡ false = ne_eqb kind 0 (λ is. c.if-kind-eq0.false (c.read_u16-kind.ensures ∙ is)) in
    let other : (kind == c.args.code) ≡ false = ne_eqb kind c.args.code (λ is. c.if-kind-code.false (c.read_u16-kind.ensures ∙ is)) in
    record {
      same =
          ap (λ (n : ℕ). sought c.args.order c.args.code (place + (4 + (n + 3) / 4 * 4)) options) c.read_u16-size.ensures
          ∙ sym (sought_on c.args.order c.args.code place options room further other)
          ∙ c.loop-place.invariant.same;
      near = search rules;
    }

pub returns-clause-value : goal.returns-clause-value
returns-clause-value c =
    let short : length c.args.options.now < c.loop-place.place + 8 = omega (arith, c.loop-place-test.false) in
    sym (sought_nowhere c.args.order c.args.code c.loop-place.place c.args.options.now short) ∙ c.loop-place.invariant.same
