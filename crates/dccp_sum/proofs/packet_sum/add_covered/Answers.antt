-- The covered bytes in their parts before and after the checksum.
use Rattle.std.proofs.Common.{arith}
use Rattle.dccp_sum.proofs.Sums.{same-short, same-long}
use Rattle.dccp_sum.proofs.packet_sum.add_covered.Goals as goal

pub returns-then-covered-lt-AFTER_CHECKSUM : goal.returns-then-covered-lt-AFTER_CHECKSUM
returns-then-covered-lt-AFTER_CHECKSUM c =
    same-short c.args.bytes.now c.args.covered c.min.result c.args.start c.add_words.result c.requires.whole (omega arith)
    (omega arith) c.add_words.ensures.value

pub returns : goal.returns
returns c =
    same-long c.args.bytes.now c.args.covered c.args.start c.add_words-before.result c.add_words-2.result c.requires.whole
    (omega arith) c.add_words-before.ensures.value c.add_words-2.ensures.value
