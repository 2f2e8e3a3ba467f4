use Rattle.tool_text.proofs.LineLaws.{line-accepted, line-idle}
use Rattle.tool_jobs.specs.Calls.{peer_row}
use Rattle.tool_jobs.proofs.RowsAre.{peer-row-is}
use Rattle.tool_jobs.proofs.listen.laws.lines_of_peers_are_their_forms.Goals as goal

pub returns : goal.returns
returns c = record { said = λ text said. line-accepted peer_row peer-row-is text said; idle = λ text. line-idle peer_row.said text }
