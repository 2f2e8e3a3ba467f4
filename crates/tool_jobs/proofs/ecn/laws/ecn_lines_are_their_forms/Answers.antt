use Rattle.tool_text.proofs.LineLaws.{line-accepted}
use Rattle.tool_jobs.specs.Forms.{ecn_row}
use Rattle.tool_jobs.proofs.EcnRow.{row-is}
use Rattle.tool_jobs.proofs.ecn.laws.ecn_lines_are_their_forms.Goals as goal

pub returns : goal.returns
returns c = line-accepted ecn_row row-is
