use Rattle.std.proofs.Common.{refl, sym, ap, ℕ, List, [], ◌∷◌, length, length-append, Option, arith}
use Rattle.std.specs.Borrow.{Bor}
use Rattle.schedule_text.specs.Numbers.{numbers_read}
use Rattle.tool_text.specs.Rest.{pieces_left}
use Rattle.schedule_text.proofs.ValueLists.{preceded, values_step}
use Rattle.schedule_text.proofs.numbers.values_of.Goals as goal

pub loop-rest-preserved : goal.loop-rest-preserved
loop-rest-preserved c =
    let put = c.if-not-push.ensures.put refl in
    let size = ap length put.1 in
    let pushed = ap (λ (values : List ℕ). preceded values (numbers_read (pieces_left 44 c.first_piece.result.1))) put.1 in
    let step = values_step c.loop-rest.values c.first_piece.result.0.now (pieces_left 44 c.first_piece.result.1) c.in_ok-number.number
    (sym c.in_ok-number.ensures.value) in
    let parts = ap (λ (texts : List (List ℕ)). preceded c.loop-rest.values (numbers_read texts)) c.first_piece.ensures.pieces in
    let was = ap (λ (rest : Option (Bor (List ℕ))). preceded c.loop-rest.values (numbers_read (pieces_left 44 rest))) c.in-Some.is in
    record {
      few = omega (arith, put.0, size, length-append c.loop-rest.values (c.in_ok-number.number ∷ []));
      same = cc (pushed, step, parts, was, c.loop-rest.invariant.same);
    }
