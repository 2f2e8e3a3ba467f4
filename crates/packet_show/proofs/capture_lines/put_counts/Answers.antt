use Rattle.std.proofs.Common.{rules, append_assoc}
use Rattle.std.proofs.lemmas.Result.{IfOk-equal}
use Rattle.packet_show.proofs.capture_lines.put_counts.Goals as goal

pub returns : goal.returns
returns c = search (rules, IfOk-equal, append_assoc)
