use Rattle.std.proofs.Common.{◌≡◌, ℕ, List, ◌++◌, slice_get, Option, ap, sym, ◌∙◌}
use Rattle.std.specs.List.{concat}
use Rattle.ack_vectors.specs.Coding.{states_of}
use Rattle.data_dropped.specs.Drops.{code_at_place, drop_coding}
use Rattle.data_dropped.specs.Reports.{drop_data}
use Rattle.data_dropped.proofs.Reading.{code-after, code-within}
use Rattle.data_dropped.proofs.report.DropReport.code.Goals as goal

-- the option has the number
pub returns-in-Ok : goal.returns-in-Ok
returns-in-Ok c =
    let later : List ℕ = drop_data c.next_drops.new.options in
    let joined : drop_data c.loop-body.options ≡ c.in-Some.body.now ++ later = ap concat c.in-Some.ensures in
    sym (code-within c.in-Some.body.now later c.loop-body.below c.in-Ok.code c.in-Ok.ensures)
    ∙ ap (λ (bytes : List ℕ). code_at_place (slice_get (states_of drop_coding bytes) c.loop-body.below)) (sym joined) ∙ c.loop-body.invariant

-- it lies after it
pub loop-body-preserved : goal.loop-body-preserved
loop-body-preserved c =
    let later : List ℕ = drop_data c.next_drops.new.options in
    let joined : drop_data c.loop-body.options ≡ c.in-Some.body.now ++ later = ap concat c.in-Some.ensures in
    ap (λ (code : Option (Option ℕ)). code_at_place code) (sym (code-after c.in-Some.body.now later c.loop-body.below c.in-Err.left c.in-Err.ensures))
    ∙ ap (λ (bytes : List ℕ). code_at_place (slice_get (states_of drop_coding bytes) c.loop-body.below)) (sym joined) ∙ c.loop-body.invariant
