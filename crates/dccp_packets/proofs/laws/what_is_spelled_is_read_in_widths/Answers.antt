use Rattle.dccp_packets.proofs.ReadBack.{reads_in_widths, header-kept}
use Rattle.dccp_packets.proofs.laws.what_is_spelled_is_read_in_widths.Goals as goal

pub returns-clause-read : goal.returns-clause-read
returns-clause-read c = reads_in_widths

pub returns-clause-kept : goal.returns-clause-kept
returns-clause-kept c = header-kept
