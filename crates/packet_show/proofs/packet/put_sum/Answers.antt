use Rattle.tool_text.proofs.Keeping.{keeps_through}
use Rattle.packet_show.proofs.packet.put_sum.Goals as goal

pub returns-then-there-clause-front : goal.returns-then-there-clause-front
returns-then-there-clause-front c = search keeps_through

pub returns-clause-front : goal.returns-clause-front
returns-clause-front c = search keeps_through
