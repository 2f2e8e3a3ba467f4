use Rattle.tool_text.proofs.LineLaws.{line-refused}
use Rattle.tool_jobs.specs.Calls.{peer_row}
use Rattle.tool_jobs.proofs.RowsAre.{peer-row-is}
use Rattle.tool_jobs.proofs.listen.laws.the_first_fault_of_a_peer_line_is_answered.Goals as goal

pub returns : goal.returns
returns c = line-refused peer_row peer-row-is
