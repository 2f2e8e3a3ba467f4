use Rattle.std.proofs.Common.{rules, append_assoc}
use Rattle.std.proofs.lemmas.Result.{IfOk-equal}
use Rattle.tool_text.proofs.Keeping.{keeps_through}
use Rattle.schedule_text.proofs.printing.put_sending.Goals as goal

pub returns-clause-ok : goal.returns-clause-ok
returns-clause-ok c = search (rules, IfOk-equal, append_assoc)

pub returns-in_err-put-clause-front : goal.returns-in_err-put-clause-front
returns-in_err-put-clause-front c = search keeps_through

pub returns-clause-front : goal.returns-clause-front
returns-clause-front c = search keeps_through
