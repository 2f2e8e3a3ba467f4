use Rattle.std.proofs.Common.{◌≡◌, ℕ, ◌<◌, ◌≤◌, ◌^◌, false, ◌∙◌, sym, ap, arith, rules}
use Rattle.std.proofs.lemmas.Bool.{ltb-true}
use Rattle.seq_circle.specs.Circle.{distance}
use Rattle.run_list.specs.MarkedSet.{MarkedSet, IsSound, has, raised, floor_under}
use Rattle.run_list.specs.Linked.{linked_runs}
use Rattle.run_list.proofs.Laid.{falling_numbers}
use Rattle.run_list.proofs.Sets.{marked-near, marked-far, answer_to-near, answer_to-far, raised_absent, far_absent, again_iff, marked-other}
use Rattle.run_list.proofs.list.RunList.mark.Goals as goal
use Rattle.run_list.proofs.list.RunList.mark.Goals.{then-place-gt-REACH, else-place-gt-REACH}

pub returns-clause-set : goal.returns-clause-set
returns-clause-set c =
    let sound : IsSound c.args.self.now = rw (← c.self.view_is) record {
      floor_fits = c.self.invariant.0;
      falling = falling_numbers c.self.inside.floor 2048
          (linked_runs c.self.inside.runs) c.self.invariant.0 c.self.invariant.1;
    } in
    let fits : c.args.n < 2 ^ 48 = search rules in
    let floor : c.self.inside.floor ≡ c.args.self.now.floor = ap (λ (s : MarkedSet). s.floor) c.self.view_is in
    let ahead : distance c.args.self.now.floor c.args.n < 2 ^ 47 =
    rw floor at (ltb-true (distance c.self.inside.floor c.args.n) (2 ^ 47) (sym c.if-not-is_from.ensures.value)) in
    let place : c.distance-place.result ≡ distance c.args.self.now.floor c.args.n = c.distance-place.ensures.value
    ∙ ap (λ (f : ℕ). distance f c.args.n) floor in
    elim c.if-place-gt-REACH.branch [
      | then-place-gt-REACH w ↦
          let far : 2047 < c.distance-place.result = w.if-place-gt-REACH.true in
          let set_is : c.if-place-gt-REACH.self ≡ raised c.args.self.now (floor_under c.args.n) = w.self-is ∙ w.raise.ensures
          ∙ ap (λ (t : ℕ). raised c.args.self.now t) w.sub.ensures in
          let absent : has (raised c.args.self.now (floor_under c.args.n)).numbers c.args.n ≡ false =
          raised_absent c.args.self.now (floor_under c.args.n) c.args.n (far_absent c.args.self.now c.args.n sound (omega arith)) in
          c.join.ensures.set ∙ rw (set_is, absent) (sym (marked-far c.args.self.now c.args.n sound fits (omega arith) ahead))
      | else-place-gt-REACH w ↦
          let near : c.distance-place.result ≤ 2047 = w.if-place-gt-REACH.false in
          c.join.ensures.set ∙ rw w.self-is (sym (marked-near c.args.self.now c.args.n sound.floor_fits fits (omega arith)))
    ]

pub returns-clause-answer : goal.returns-clause-answer
returns-clause-answer c =
    let sound : IsSound c.args.self.now = rw (← c.self.view_is) record {
      floor_fits = c.self.invariant.0;
      falling = falling_numbers c.self.inside.floor 2048
          (linked_runs c.self.inside.runs) c.self.invariant.0 c.self.invariant.1;
    } in
    let floor : c.self.inside.floor ≡ c.args.self.now.floor = ap (λ (s : MarkedSet). s.floor) c.self.view_is in
    let ahead : distance c.args.self.now.floor c.args.n < 2 ^ 47 =
    rw floor at (ltb-true (distance c.self.inside.floor c.args.n) (2 ^ 47) (sym c.if-not-is_from.ensures.value)) in
    let place : c.distance-place.result ≡ distance c.args.self.now.floor c.args.n = c.distance-place.ensures.value
    ∙ ap (λ (f : ℕ). distance f c.args.n) floor in
    elim c.if-place-gt-REACH.branch [
      | then-place-gt-REACH w ↦
          let far : 2047 < c.distance-place.result = w.if-place-gt-REACH.true in
          let set_is : c.if-place-gt-REACH.self ≡ raised c.args.self.now (floor_under c.args.n) = w.self-is ∙ w.raise.ensures
          ∙ ap (λ (t : ℕ). raised c.args.self.now t) w.sub.ensures in
          let absent : has (raised c.args.self.now (floor_under c.args.n)).numbers c.args.n ≡ false =
          raised_absent c.args.self.now (floor_under c.args.n) c.args.n (far_absent c.args.self.now c.args.n sound (omega arith)) in
          c.join.ensures.answer ∙ rw (set_is, absent) (sym (answer_to-far c.args.self.now c.args.n sound (omega arith) ahead))
      | else-place-gt-REACH w ↦
          let near : c.distance-place.result ≤ 2047 = w.if-place-gt-REACH.false in
          c.join.ensures.answer ∙ rw w.self-is (sym (answer_to-near c.args.self.now c.args.n (omega arith)))
    ]

pub returns-clause-again : goal.returns-clause-again
returns-clause-again c = rw (returns-clause-answer c) (again_iff c.args.self.now c.args.n)

pub returns-clause-unchanged : goal.returns-clause-unchanged
returns-clause-unchanged c = λ h. returns-clause-set c ∙ marked-other c.args.self.now c.args.n (λ e. h (returns-clause-answer c ∙ e))
