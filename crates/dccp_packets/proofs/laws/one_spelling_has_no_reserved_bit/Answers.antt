use Rattle.dccp_packets.proofs.OneSpelling.{one_spelling}
use Rattle.dccp_packets.proofs.laws.one_spelling_has_no_reserved_bit.Goals as goal

pub returns : goal.returns
returns c = one_spelling
