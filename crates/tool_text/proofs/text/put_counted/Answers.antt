use Rattle.tool_text.proofs.Keeping.{keeps_through}
use Rattle.tool_text.proofs.text.put_counted.Goals as goal

pub returns-clause-front : goal.returns-clause-front
returns-clause-front c = search keeps_through
