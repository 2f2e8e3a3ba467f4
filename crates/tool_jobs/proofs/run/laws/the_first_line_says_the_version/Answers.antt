use Rattle.tool_jobs.proofs.Versions.{version-first}
use Rattle.tool_jobs.proofs.run.laws.the_first_line_says_the_version.Goals as goal

pub returns : goal.returns
returns c = version-first
