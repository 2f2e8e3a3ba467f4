-- The checksum that was written is the one that a check computes.
use Rattle.std.proofs.Common.{◌≡◌, ℕ, List, arith, ap, ◌∙◌, sym}
use Rattle.dccp_sum.proofs.Sealing.{checked-sealed, checksum-zeroed, written-over}
use Rattle.dccp_sum.specs.Checksum.{checked, checksum, sealed_over, with_checksum}
use Rattle.dccp_sum.proofs.packet_sum.seal.Goals as goal

pub returns-clause-value : goal.returns-clause-value
returns-clause-value c =
    let bytes : List ℕ = c.args.bytes.now in
    c.write_checksum-2.ensures ∙ ap (λ (before : List ℕ). with_checksum c.sum_of_zeroed-sum.result before) c.write_checksum.ensures
    ∙ written-over bytes 0 c.sum_of_zeroed-sum.result c.requires.low
    ∙ ap (λ (sum : ℕ). with_checksum sum bytes)
    (c.sum_of_zeroed-sum.ensures ∙ ap (λ (zeroed : List ℕ). checksum c.args.pseudo.now zeroed c.in-Some.covered) c.write_checksum.ensures
    ∙ checksum-zeroed c.args.pseudo.now bytes c.in-Some.covered c.requires.low)
    ∙ ap (sealed_over c.args.pseudo.now bytes) (sym (sym c.covered.ensures ∙ c.in-Some.is))

pub returns-clause-accepted : goal.returns-clause-accepted
returns-clause-accepted c = λ _.
    let bytes : List ℕ = c.args.bytes.now in
    let sum : c.sum_of_zeroed-sum.result ≡ checksum c.args.pseudo.now bytes c.in-Some.covered =
    c.sum_of_zeroed-sum.ensures ∙ ap (λ (zeroed : List ℕ). checksum c.args.pseudo.now zeroed c.in-Some.covered) c.write_checksum.ensures
    ∙ checksum-zeroed c.args.pseudo.now bytes c.in-Some.covered c.requires.low in
    ap (checked c.args.pseudo.now)
    (c.write_checksum-2.ensures ∙ ap (λ (before : List ℕ). with_checksum c.sum_of_zeroed-sum.result before) c.write_checksum.ensures
    ∙ written-over bytes 0 c.sum_of_zeroed-sum.result c.requires.low)
    ∙ checked-sealed c.args.pseudo.now bytes c.in-Some.covered c.sum_of_zeroed-sum.result c.requires.low
    (sym c.covered.ensures ∙ c.in-Some.is) sum (omega arith)
