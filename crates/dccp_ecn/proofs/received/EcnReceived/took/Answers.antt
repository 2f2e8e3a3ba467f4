use Rattle.std.proofs.Common.{rules, ◌≡◌, ◌∙◌, ℕ, ap, sym, subst}
use Rattle.seq_circle.specs.Circle.{distance}
use Rattle.run_list.specs.MarkedSet.{MarkedSet, marked}
use Rattle.dccp_ecn.specs.Ring.{IsEmptied, IsMirror}
use Rattle.dccp_ecn.proofs.Taking.{Rewritten, arrivals-taken, mirror-taken}
use Rattle.dccp_ecn.proofs.received.EcnReceived.took.Goals as goal

pub invariant_of-self : goal.invariant_of-self
invariant_of-self c =
    let set : MarkedSet = c.self.inside.set in
    let rise : c.distance-rise.result ≡ distance set.floor (marked set c.args.n).floor =
    c.distance-rise.ensures.value ∙ ap (λ f. distance f c.floor.result) c.floor-floor.ensures.value
    ∙ ap (λ g. distance set.floor g) (c.floor.ensures.value ∙ ap (λ (s : MarkedSet). s.floor) c.mark-answer.ensures.set) in
    let written : Rewritten set c.args.n c.args.how c.self.inside.ring c.put.new.self = record {
      sound = c.floor-floor.ensures.sound;
      fits = search rules;
      is_new = sym c.mark-answer.ensures.answer ∙ c.in-New.is;
      mirror = c.self.invariant;
      between = c.empty.new.self;
      emptied = subst (λ (r : ℕ). IsEmptied set.floor r c.self.inside.ring c.empty.new.self) rise
          (subst (λ (f : ℕ). IsEmptied f c.distance-rise.result c.self.inside.ring c.empty.new.self) c.floor-floor.ensures.value c.empty.ensures);
      put = c.put.ensures;
    } in
    subst (λ (s : MarkedSet). IsMirror s c.put.new.self) (sym c.mark-answer.ensures.set)
    (mirror-taken set c.args.n c.args.how c.self.inside.ring c.put.new.self written)

pub returns-in-New-clause-value : goal.returns-in-New-clause-value
returns-in-New-clause-value c =
    let set : MarkedSet = c.self.inside.set in
    let rise : c.distance-rise.result ≡ distance set.floor (marked set c.args.n).floor =
    c.distance-rise.ensures.value ∙ ap (λ f. distance f c.floor.result) c.floor-floor.ensures.value
    ∙ ap (λ g. distance set.floor g) (c.floor.ensures.value ∙ ap (λ (s : MarkedSet). s.floor) c.mark-answer.ensures.set) in
    let written : Rewritten set c.args.n c.args.how c.self.inside.ring c.put.new.self = record {
      sound = c.floor-floor.ensures.sound;
      fits = search rules;
      is_new = sym c.mark-answer.ensures.answer ∙ c.in-New.is;
      mirror = c.self.invariant;
      between = c.empty.new.self;
      emptied = subst (λ (r : ℕ). IsEmptied set.floor r c.self.inside.ring c.empty.new.self) rise
          (subst (λ (f : ℕ). IsEmptied f c.distance-rise.result c.self.inside.ring c.empty.new.self) c.floor-floor.ensures.value c.empty.ensures);
      put = c.put.ensures;
    } in
    rw (← c.self.view_is)
    (rw c.mark-answer.ensures.set (arrivals-taken set c.args.n c.args.how c.self.inside.ring c.put.new.self written))
