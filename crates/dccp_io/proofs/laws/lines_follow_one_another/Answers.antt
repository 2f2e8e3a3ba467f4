use Rattle.dccp_io.proofs.LineList.{lines-cut}
use Rattle.dccp_io.proofs.laws.lines_follow_one_another.Goals as goal

pub returns : goal.returns
returns c = lines-cut
