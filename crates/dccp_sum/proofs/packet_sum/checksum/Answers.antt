-- The sum over both parts is the sum over the whole.
use Rattle.std.proofs.Common.{◌-◌, ℕ, ap, ◌∙◌}
use Rattle.dccp_sum.proofs.Sums.{ones_complement-summed}
use Rattle.dccp_sum.proofs.packet_sum.checksum.Goals as goal

pub returns : goal.returns
returns c =
    ap (λ (s : ℕ). 65535 - s)
    (c.fold.ensures ∙ ones_complement-summed c.args.pseudo.now c.args.bytes.now c.args.covered c.add_pseudo_header-header.result c.add_covered.result
    c.add_pseudo_header-header.ensures.whole_words c.add_pseudo_header-header.ensures.value c.add_covered.ensures)
