use Rattle.dccp_io.proofs.LineList.{next-first}
use Rattle.dccp_io.proofs.laws.the_first_line_stands_next.Goals as goal

pub returns : goal.returns
returns c = next-first
