use Rattle.std.proofs.Common.{arith}
use Rattle.dccp_packets.proofs.Lengths.{detail_of_fits, length-header_bytes}
use Rattle.dccp_packets.proofs.writing.put_header.Goals as goal

pub returns-clause-long : goal.returns-clause-long
returns-clause-long c =
    grind (arith, length-header_bytes c.args.header.now c.args.words (detail_of_fits c.args.header.now.kind c.requires.fits.kind) c.requires.valid)
