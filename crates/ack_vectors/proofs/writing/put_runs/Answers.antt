use Rattle.std.proofs.Common.{◌≡◌, ◌+◌, ◌-◌, ◌<◌, ◌++◌, ◌∷◌, [], ◌∙◌, ap, sym, take, arith}
use Rattle.std.proofs.lemmas.Bool.{cases_Bool, OnTrue_at, OnFalse_at}
use Rattle.std.proofs.Common.{inl, inr}
use Rattle.seq_circle.specs.Circle.{distance}
use Rattle.run_list.specs.Runs.{AreLaid, bound_below}
use Rattle.run_list.proofs.StretchFacts.{laid_wider}
use Rattle.ack_vectors.specs.Vector.{pieces}
use Rattle.ack_vectors.specs.ByRuns.{bytes_by_runs}
use Rattle.ack_vectors.proofs.Pieces.{take_fits}
use Rattle.ack_vectors.proofs.ByRuns.{step_joins, step_cut, step_passed}
use Rattle.ack_vectors.proofs.writing.put_runs.Goals as goal

pub returns-then-not-put_both-clause-bytes : goal.returns-then-not-put_both-clause-bytes
returns-then-not-put_both-clause-bytes g c =
    let cons : c.loop-run.run-iterator ≡ c.in-Some.run' ∷ c.next.new.self = c.in-Some.ensures.steps in
    let joins = rw cons at c.loop-run.invariant.joins in
    let top : c.distance-top.result + 1 ≡ distance c.args.floor c.in-Some.run'.hi + 1 = omega arith in
    let bottom : c.distance-top.result + 1 - c.from.result ≡ c.distance-top.result + 1 - c.in-Some.run'.count = omega arith in
    (step_cut c.args.room c.args.floor c.loop-run.left (c.distance-top.result + 1)
    (c.distance-top.result + 1 - c.from.result) c.min-top.result c.loop-run.out.items c.put_both.new.out.items
    (c.args.out.now.items ++ bytes_by_runs c.args.floor c.args.left c.args.runs) c.in-Some.run' c.next.new.self top bottom c.if-bottom-left.true c.min-top.ensures
    c.if-not-put_both.ensures.cut c.if-not-put_both.ensures.long joins).0

pub loop-run-preserved-then-bottom-left : goal.loop-run-preserved-then-bottom-left
loop-run-preserved-then-bottom-left g c =
    let cons : c.loop-run.run-iterator ≡ c.in-Some.run' ∷ c.next.new.self = c.in-Some.ensures.steps in
    let joins = rw cons at c.loop-run.invariant.joins in
    let laid : AreLaid c.args.floor 2048 (c.in-Some.run' ∷ c.next.new.self) = rw cons at c.loop-run.invariant.laid in
    let below : distance c.args.floor c.in-Some.run'.hi < 2048 = laid.0.below in
    let top : c.distance-top.result + 1 ≡ distance c.args.floor c.in-Some.run'.hi + 1 = omega arith in
    let bottom : c.distance-top.result + 1 - c.from.result ≡ c.distance-top.result + 1 - c.in-Some.run'.count = omega arith in
    record {
      can = tt;
      finite = tt;
      laid = laid_wider c.args.floor (bound_below c.args.floor c.in-Some.run') 2048 c.next.new.self (omega arith) laid.1;
      fits = c.if-not-put_both.ensures.fits;
      joins = step_joins c.args.floor c.loop-run.left (c.distance-top.result + 1)
          (c.distance-top.result + 1 - c.from.result) c.min-top.result c.loop-run.out.items c.put_both.new.out.items
          (c.args.out.now.items ++ bytes_by_runs c.args.floor c.args.left c.args.runs) c.in-Some.run' c.next.new.self top bottom c.if-bottom-left.true c.min-top.ensures
          c.if-not-put_both.ensures.whole joins;
    }

pub loop-run-preserved : goal.loop-run-preserved
loop-run-preserved g c =
    let cons : c.loop-run.run-iterator ≡ c.in-Some.run' ∷ c.next.new.self = c.in-Some.ensures.steps in
    let joins = rw cons at c.loop-run.invariant.joins in
    let laid : AreLaid c.args.floor 2048 (c.in-Some.run' ∷ c.next.new.self) = rw cons at c.loop-run.invariant.laid in
    let below : distance c.args.floor c.in-Some.run'.hi < 2048 = laid.0.below in
    let top : c.distance-top.result + 1 ≡ distance c.args.floor c.in-Some.run'.hi + 1 = omega arith in
    let bottom : c.distance-top.result + 1 - c.from.result ≡ c.distance-top.result + 1 - c.in-Some.run'.count = omega arith in
    record {
      can = tt;
      finite = tt;
      laid = laid_wider c.args.floor (bound_below c.args.floor c.in-Some.run') 2048 c.next.new.self (omega arith) laid.1;
      fits = c.loop-run.invariant.fits;
      joins = step_passed c.args.floor c.loop-run.left (c.distance-top.result + 1) (c.distance-top.result + 1 - c.from.result) c.loop-run.out.items
          (c.args.out.now.items ++ bytes_by_runs c.args.floor c.args.left c.args.runs) c.in-Some.run' c.next.new.self top bottom c.if-bottom-left.false joins;
    }

pub returns-clause-bytes : goal.returns-clause-bytes
returns-clause-bytes g c =
    let none : c.loop-run.run-iterator ≡ [] = c.in-None.ensures.steps.0 in
    let joins : c.loop-run.out.items ++ pieces 3 c.loop-run.left ≡ c.args.out.now.items ++ bytes_by_runs c.args.floor c.args.left c.args.runs = rw none at c.loop-run.invariant.joins in
    elim (cases_Bool c.put_run.result) [
      | inl whole ↦ let new = OnTrue_at whole c.put_run.ensures.whole in
          new ∙ joins ∙ sym (take_fits c.args.room (c.args.out.now.items ++ bytes_by_runs c.args.floor c.args.left c.args.runs) (rw (new ∙ joins) at c.put_run.ensures.fits))
      | inr cut ↦ OnFalse_at cut c.put_run.ensures.cut ∙ ap (λ xs. take c.args.room xs) joins
    ]
