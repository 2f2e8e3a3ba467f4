use Rattle.std.proofs.Common.{◌≡◌, ◌<◌, ◌∙◌, ◌-◌, ◌∷◌, ◌++◌, List, ℕ, ap, sym, arith, append_assoc, length, min}
use Rattle.seq_circle.specs.Circle.{down}
use Rattle.ack_vectors.specs.Vector.{piece}
use Rattle.dccp_ecn.specs.EcnVector.{ecn_states}
use Rattle.dccp_ecn.proofs.ByPieces.{bytes_down, bytes_down-first, bytes_down-some, full-vector, whole-vector}
use Rattle.dccp_ecn.proofs.writing.put_states.Goals as goal

pub returns-then-len-eq-MOST_OPTION_BYTES-clause-bytes : goal.returns-then-len-eq-MOST_OPTION_BYTES-clause-bytes
returns-then-len-eq-MOST_OPTION_BYTES-clause-bytes c =
    let states = ecn_states c.args.received.now in
    let full : length c.loop-left.out.items ≡ 253 = omega (arith, c.len.ensures.value, c.if-len-eq-MOST_OPTION_BYTES.true) in
    let some : 0 < c.loop-left.left = omega (arith, c.loop-left-test.true) in
    (full-vector 253 c.loop-left.out.items (bytes_down states c.loop-left.left c.loop-left.top) _ full
    (bytes_down-some states c.loop-left.left c.loop-left.top some) c.loop-left.invariant.joins).0

pub returns-then-len-eq-MOST_OPTION_BYTES-clause-whole : goal.returns-then-len-eq-MOST_OPTION_BYTES-clause-whole
returns-then-len-eq-MOST_OPTION_BYTES-clause-whole c =
    let states = ecn_states c.args.received.now in
    let full : length c.loop-left.out.items ≡ 253 = omega (arith, c.len.ensures.value, c.if-len-eq-MOST_OPTION_BYTES.true) in
    let some : 0 < c.loop-left.left = omega (arith, c.loop-left-test.true) in
    sym (full-vector 253 c.loop-left.out.items (bytes_down states c.loop-left.left c.loop-left.top) _ full
    (bytes_down-some states c.loop-left.left c.loop-left.top some) c.loop-left.invariant.joins).1

pub loop-left-preserved : goal.loop-left-preserved
loop-left-preserved c =
    let states = ecn_states c.args.received.now in
    let top : ℕ = c.loop-left.top in
    let left : ℕ = c.loop-left.left in
    let state : ℕ = c.state-state.result in
    let count : ℕ = c.alike-count.result in
    let most : c.min.result ≡ min left 64 = c.min.ensures in
    let first : bytes_down states left top ≡ piece state count ∷ bytes_down states (left - count) (down top count) =
    bytes_down-first states state left count top c.loop-left.invariant.top c.alike-count.ensures.some (rw most at c.alike-count.ensures.few)
    c.alike-count.ensures.alike (rw most at c.alike-count.ensures.other) in
    record {
      fits = omega (arith, c.push.ensures.len, c.loop-left.invariant.fits, c.len.ensures.value, c.if-len-eq-MOST_OPTION_BYTES.false);
      top = rw c.sub-top.ensures (omega arith);
      joins =
          rw (c.push.ensures.items, c.sub-top.ensures, append_assoc c.loop-left.out.items _ _)
          (ap (λ (xs : List ℕ). c.loop-left.out.items ++ xs) (sym first) ∙ c.loop-left.invariant.joins);
    }

pub returns-clause-bytes : goal.returns-clause-bytes
returns-clause-bytes c =
    let states = ecn_states c.args.received.now in
    let none : c.loop-left.left ≡ 0 = omega (arith, c.loop-left-test.false) in
    (whole-vector 253 c.loop-left.out.items _ c.loop-left.invariant.fits
    (ap (λ (k : ℕ). c.loop-left.out.items ++ bytes_down states k c.loop-left.top) (sym none) ∙ c.loop-left.invariant.joins)).0
