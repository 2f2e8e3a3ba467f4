use Rattle.std.proofs.Common.{◌≡◌, sym, subst, ap, ◌∙◌, ℕ, ◌-◌, ◌<◌, Bool, Option, arith}
use Rattle.congestion_trait.specs.Flight.{is_past}
use Rattle.data_dropped.specs.Drops.{code_at}
use Rattle.dccp_uses.specs.Notice.{drops_told, drops_with_code}
use Rattle.dccp_uses.specs.declared.notice.Drops.{Drops}
use Rattle.dccp_uses.proofs.Numbering.{IsCounted, counted_none, counted_one_more}
use Rattle.dccp_uses.proofs.notice.drops_told.Goals as goal

pub loop-left-init : goal.loop-left-init
loop-left-init c =
    counted_none c.args.reader.now c.args.report.now c.none-drops.result c.new_reach-left.result c.args.ack c.none-drops.ensures
    c.new_reach-left.ensures.value c.requires c.new_reach-left.ensures.few

-- the code of one number more
pub loop-left-preserved : goal.loop-left-preserved
loop-left-preserved c =
    let whole : Drops = drops_told c.args.reader.now c.args.report.now in
    let mark : Option ℕ = c.args.reader.now.mark in
    let code : ℕ → Option ℕ = code_at c.args.report.now.ack c.args.report.now.bytes in
    let n : ℕ = c.loop-left.number in
    let left : ℕ = c.loop-left.left in
    let some : 0 < left = omega arith in
    let next = counted_one_more whole mark code c.loop-left.drops left n some c.loop-left.invariant in
    let drops_are : c.with_code-drops.result ≡ drops_with_code c.loop-left.drops (is_past mark n) (code n) =
    c.with_code-drops.ensures ∙ ap (λ (past : Bool). drops_with_code c.loop-left.drops past c.code.result) c.is_past.ensures
    ∙ ap (λ (it : Option ℕ). drops_with_code c.loop-left.drops (is_past mark n) it) c.code.ensures in
    subst (λ (it : Drops). IsCounted whole mark code it (left - 1) c.sub-number.result) (sym drops_are)
    (subst (λ (m : ℕ). IsCounted whole mark code (drops_with_code c.loop-left.drops (is_past mark n) (code n)) (left - 1) m) (sym c.sub-number.ensures) next)
