use Rattle.tool_text.proofs.LineLaws.{line-refused}
use Rattle.tool_jobs.specs.Forms.{ecn_row}
use Rattle.tool_jobs.proofs.EcnRow.{row-is}
use Rattle.tool_jobs.proofs.ecn.laws.the_first_fault_of_an_ecn_line_is_answered.Goals as goal

pub returns : goal.returns
returns c = line-refused ecn_row row-is
