use Rattle.std.proofs.Common.{◌≡◌, ◌∙◌, List, [], ◌++◌, ap, arith, length, subst, sym}
use Rattle.std.proofs.lemmas.List.{append-nil}
use Rattle.feature_machine.specs.Negotiating.{due_keys}
use Rattle.dccp_endpoint.specs.Speaking.{AreDue, asking, unconfirmed}
use Rattle.dccp_endpoint.specs.Turns.{Key}
use Rattle.dccp_endpoint.proofs.Asking.{asking_are_due}
use Rattle.dccp_endpoint.proofs.Room.{due-few}
use Rattle.dccp_endpoint.proofs.speaking.asking.Goals as goal

pub loop-feature-init : goal.loop-feature-init
loop-feature-init c =
    let none : c.none-keys.result ≡ [] = c.none-keys.ensures in
    let all : c.into_iter-feature-iterator.result ≡ due_keys c.args.rows.now = c.into_iter-feature-iterator.ensures.into_iter_gives
    ∙ c.due-feature-items.ensures in
    let few = due-few c.args.rows.now c.requires in
    let is : length c.into_iter-feature-iterator.result ≡ length (due_keys c.args.rows.now) = ap length all in
    let empty : length c.none-keys.result ≡ 0 = ap length none in
    record {
      few = omega arith;
      joins =
          ap (λ (keys : List Key). keys ++ unconfirmed c.args.confirms.now c.into_iter-feature-iterator.result) none
          ∙ ap (λ (keys : List Key). unconfirmed c.args.confirms.now keys) all;
    }

pub returns-clause-due : goal.returns-clause-due
returns-clause-due c =
    let none : c.loop-feature.feature-iterator ≡ [] = c.in-None.ensures.steps.0 in
    let joins = rw none at c.loop-feature.invariant.joins in
    let is : c.loop-feature.keys ≡ asking c.args.rows.now c.args.confirms.now = sym (append-nil c.loop-feature.keys) ∙ joins in
    subst (λ keys. AreDue c.args.rows.now keys) (sym is) (asking_are_due c.args.rows.now c.args.confirms.now c.requires)
