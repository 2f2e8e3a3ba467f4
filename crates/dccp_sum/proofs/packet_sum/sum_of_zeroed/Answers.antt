-- All covered words are those of a packet whose checksum is zero.
use Rattle.std.proofs.Common.{◌-◌, ◌+◌, ℕ, List, ap, subst, sym, take, ◌∙◌}
use Rattle.dccp_sum.specs.Words.{word_sum, IsSameSum}
use Rattle.dccp_sum.proofs.Sums.{ones_complement-summed}
use Rattle.dccp_sum.proofs.packet_sum.sum_of_zeroed.Goals as goal

pub returns : goal.returns
returns c =
    ap (λ (s : ℕ). 65535 - s)
    (c.fold.ensures ∙ ones_complement-summed c.args.pseudo.now c.args.bytes.now c.args.covered c.add_pseudo_header-header.result c.add_words.result
    c.add_pseudo_header-header.ensures.whole_words c.add_pseudo_header-header.ensures.value
    (subst (λ (bytes : List ℕ). IsSameSum c.add_words.result (c.add_pseudo_header-header.result + word_sum (take c.args.covered bytes)))
    (sym c.requires.zero) c.add_words.ensures.value))
