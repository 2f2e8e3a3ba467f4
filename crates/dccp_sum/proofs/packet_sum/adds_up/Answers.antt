-- The covered words and those of the pseudo-header are those of the sum, and the checksum.
use Rattle.std.proofs.Common.{arith}
use Rattle.dccp_sum.proofs.Zero.{adds-to-zero}
use Rattle.dccp_sum.proofs.packet_sum.adds_up.Goals as goal

pub returns : goal.returns
returns c =
    adds-to-zero c.args.pseudo.now c.args.bytes.now c.args.covered c.add_pseudo_header-header.result c.add_words.result (omega arith) c.requires.low
    c.type_inv.bytes c.add_pseudo_header-header.ensures.whole_words c.add_pseudo_header-header.ensures.value c.add_words.ensures.value
