use Rattle.tool_jobs.proofs.Short.{read-short}
use Rattle.tool_jobs.proofs.ecn.reading.read_ecn_line.Goals as goal

pub returns-clause-short : goal.returns-clause-short
returns-clause-short c = read-short c.args.line.now c.read_line.result c.read_line.ensures
