use Rattle.std.proofs.Common.{◌≡◌, ◌+◌, ◌∙◌, ℕ, List, [], ap, arith, drop, length, length-set, subst, sym}
use Rattle.std.proofs.lemmas.List.{drop_all}
use Rattle.feature_lists.specs.declared.features.Feature.TheVariants.{Ccid}
use Rattle.feature_lists.specs.declared.features.Place.TheVariants.{Here}
use Rattle.feature_machine.specs.Turns.{turned}
use Rattle.feature_machine.specs.declared.row.Row.{Row}
use Rattle.dccp_endpoint.specs.Speaking.{AreChanging, AreDue}
use Rattle.dccp_endpoint.specs.Turns.{Key, sendings}
use Rattle.dccp_endpoint.proofs.Asking.{changing_then, due-on, sent-on}
use Rattle.dccp_endpoint.proofs.speaking.send_all.Goals as goal

pub loop-feature-preserved : goal.loop-feature-preserved
loop-feature-preserved c =
    let rows : List Row = c.loop-feature.rows in
    let i : ℕ = c.loop-feature.feature-index in
    let keys : List Key = c.args.keys.now in
    record {
      size = ap length c.sent.ensures.rows ∙ length-set rows _ _ ∙ c.loop-feature.invariant.size;
      due =
          subst (λ (r : List Row). AreDue r (drop (i + 1) keys)) (sym c.sent.ensures.rows)
          (due-on rows c.args.number keys i (Ccid, Here) c.loop-feature-test.true c.loop-feature.invariant.size c.loop-feature.invariant.due);
      joins =
          ap (λ (r : List Row). turned r (sendings c.args.number (drop (i + 1) keys))) c.sent.ensures.rows
          ∙ sent-on rows c.args.number keys i (Ccid, Here) c.loop-feature-test.true ∙ c.loop-feature.invariant.joins;
    }

pub returns-clause-changing : goal.returns-clause-changing
returns-clause-changing c =
    let keys : List Key = c.args.keys.now in
    let done : drop c.loop-feature.feature-index keys ≡ [] = drop_all c.loop-feature.feature-index keys (let past = c.loop-feature-test.false in omega arith) in
    let is : c.loop-feature.rows ≡ turned c.args.rows.now (sendings c.args.number keys) =
    sym (ap (λ (ks : List Key). turned c.loop-feature.rows (sendings c.args.number ks)) done) ∙ c.loop-feature.invariant.joins in
    subst (λ (r : List Row). AreChanging r keys) (sym is) (changing_then c.args.rows.now c.args.number keys c.requires.sound.size c.requires.due)
