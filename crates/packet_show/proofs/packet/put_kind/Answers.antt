use Rattle.tool_text.proofs.Keeping.{keeps_through}
use Rattle.packet_show.proofs.packet.put_kind.Goals as goal

pub returns-in_ok-put_ack-in-Response-clause-front : goal.returns-in_ok-put_ack-in-Response-clause-front
returns-in_ok-put_ack-in-Response-clause-front c = search keeps_through

pub returns-in_ok-put_ack-in-Reset-clause-front : goal.returns-in_ok-put_ack-in-Reset-clause-front
returns-in_ok-put_ack-in-Reset-clause-front c = search keeps_through
