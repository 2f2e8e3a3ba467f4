use Rattle.std.proofs.Common.{◌≡◌, ℕ, ◌+◌, ◌-◌, ◌<◌, ◌≤◌, List, length, take, get_or, Option, None, sym, subst, ◌∙◌, arith}
use Rattle.data_dropped.specs.Drops.{up_to_last_code}
use Rattle.data_dropped.proofs.LastCode.{none-from, shorter, some-from, stays}
use Rattle.data_dropped.proofs.drops.count_to_last.Goals as goal

-- the last place has no code
pub loop-count-preserved : goal.loop-count-preserved
loop-count-preserved c =
    let codes : List (Option ℕ) = c.args.codes.now in
    let count : ℕ = c.loop-count.count in
    let some : 0 < count = omega arith in
    let within : count ≤ length codes = c.loop-count.invariant.within in
    let back : count - 1 + 1 ≡ count = omega arith in
    let none : get_or codes (count - 1) None ≡ None = none-from (get_or codes (count - 1) None) c.is_none.result c.is_none.ensures c.if-is_none.true in
    record {
      within = omega arith;
      same = sym (shorter codes (count - 1) (omega arith) none)
          ∙ subst (λ (k : ℕ). up_to_last_code (take k codes) ≡ up_to_last_code codes) (sym back) c.loop-count.invariant.same;
    }

-- or has one
pub returns-else-is_none-clause-codes : goal.returns-else-is_none-clause-codes
returns-else-is_none-clause-codes c =
    let codes : List (Option ℕ) = c.args.codes.now in
    let count : ℕ = c.loop-count.count in
    let some : 0 < count = omega arith in
    let within : count ≤ length codes = c.loop-count.invariant.within in
    let back : count - 1 + 1 ≡ count = omega arith in
    let last = some-from (get_or codes (count - 1) None) c.is_none.result c.is_none.ensures c.if-is_none.false in
    sym (subst (λ (k : ℕ). up_to_last_code (take k codes) ≡ take k codes) back (stays codes (count - 1) last.0 (omega arith) last.1))
    ∙ c.loop-count.invariant.same
