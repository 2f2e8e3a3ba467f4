-- The runs of a report and its list of states say the same.
use Rattle.std.proofs.Common.{◌≡◌, ℕ, zero, suc, ◌+◌, ◌-◌, ◌<◌, ◌≤◌, Bool, true, false, List, [], ◌∷◌, ◌++◌, Some, cond, ltb, replicate, slice_get, length, length-append, refl, sym, ◌∙◌, ap, arith}
use Rattle.std.proofs.lemmas.Bool.{false≢true}
use Rattle.std.proofs.lemmas.Bool.Decides.{nat_tests}
use Rattle.seq_circle.specs.Circle.{down}
use Rattle.dccp_options.specs.declared.report.Run.{Run}
use Rattle.dccp_options.specs.Vectors.{states, runs_of, state_of, run_length, numbers_covered, HavePassed}
use Rattle.congestion_trait.specs.Walk.{run_state, IsAt}

-- a front of equal elements is passed, or holds the place
slice_get-replicate : {X : Type 0} (n : ℕ) (x : X) (ys : List X) (place : ℕ)
    → slice_get (replicate n x ++ ys) place ≡ cond (ltb place n) (Some x) (slice_get ys (place - n))
slice_get-replicate zero x ys place = grind (arith, nat_tests)
slice_get-replicate (suc n) x ys zero = grind (arith, nat_tests)
slice_get-replicate (suc n) x ys (suc place) = let before = slice_get-replicate n x ys place in grind (arith, nat_tests)

pub run_state-runs_of : (bytes : List ℕ) (hi place : ℕ) → run_state (runs_of hi bytes) place ≡ slice_get (states bytes) place
run_state-runs_of [] hi place = refl
run_state-runs_of (byte ∷ rest) hi place =
    let next = down hi (run_length byte) in
    ap (λ other. cond (ltb place (run_length byte)) (Some (state_of byte)) other) (run_state-runs_of rest next (place - run_length byte))
    ∙ sym (slice_get-replicate (run_length byte) (state_of byte) (states rest) place)

first_state : (run : Run) (left : List Run) (place : ℕ) → place < run.count → run_state (run ∷ left) place ≡ Some run.state
first_state run left place to = grind (arith, nat_tests)

later_state : (run : Run) (left : List Run) (place : ℕ) → run.count ≤ place → run_state (run ∷ left) place ≡ run_state left (place - run.count)
later_state run left place from = grind (arith, nat_tests)

-- runs that are passed give no state to a place after them
state_past : (passed left : List Run) (place : ℕ) → numbers_covered passed ≤ place
    → run_state (passed ++ left) place ≡ run_state left (place - numbers_covered passed)
state_past [] left place from = let same : place - 0 ≡ place = omega arith in rw same refl
state_past (run ∷ passed) left place from =
    let same : place - run.count - numbers_covered passed ≡ place - (run.count + numbers_covered passed) = omega arith in
    later_state run (passed ++ left) place (omega arith)
    ∙ state_past passed left (place - run.count) (omega arith)
    ∙ ap (run_state left) same

none_left : (passed left : List Run) → passed ++ left ≡ [] → left ≡ []
none_left [] left is = is
none_left (run ∷ passed) left is = cc

-- between two runs, after some were passed
pub at_passed : (all : List ℕ) (start end numbers state : ℕ) (runs left : List Run) (ended : Bool) → HavePassed runs numbers left
    → IsAt all start end state runs ended → IsAt all (end + numbers) (end + numbers) state left ended
at_passed all start end numbers state runs left ended (passed, is, counts) at = record {
  inside = λ place from to. absurd (omega arith);
  following = λ place from.
      let same : place - end - numbers ≡ place - (end + numbers) = omega arith in
      at.following place (omega arith)
      ∙ ap (λ rs. run_state rs (place - end)) is
      ∙ state_past passed left (place - end) (omega (arith, counts))
      ∙ ap (λ k. run_state left (place - end - k)) (sym counts)
      ∙ ap (run_state left) same;
  over = λ said. none_left passed left (sym is ∙ at.over said);
}

-- what is left is no longer than all
pub shorter : (runs left : List Run) (numbers : ℕ) → HavePassed runs numbers left → length left ≤ length runs
shorter runs left numbers (passed, is, counts) = omega (arith, ap length is, length-append passed left)

-- at the first run
pub at_the_first : (bytes : List ℕ) (hi : ℕ) (run : Run) (left : List Run) → runs_of hi bytes ≡ run ∷ left
    → IsAt (states bytes) 0 run.count run.state left false
at_the_first bytes hi run left is =
    let told = λ (place : ℕ). sym (run_state-runs_of bytes hi place) ∙ ap (λ runs. run_state runs place) is in
    record {
      inside = λ place from to. told place ∙ first_state run left place to;
      following = λ place from. told place ∙ later_state run left place from;
      over = λ said. absurd (false≢true said);
    }

-- of a report without a run
pub at_no_run : (bytes : List ℕ) (hi state : ℕ) → runs_of hi bytes ≡ [] → IsAt (states bytes) 0 0 state [] true
at_no_run bytes hi state is = record {
  inside = λ place from to. grind arith;
  following = λ place from. sym (run_state-runs_of bytes hi place) ∙ ap (λ runs. run_state runs place) is;
  over = λ said. refl;
}
