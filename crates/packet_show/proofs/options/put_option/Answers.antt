use Rattle.tool_text.proofs.Keeping.{keeps_through}
use Rattle.packet_show.proofs.options.put_option.Goals as goal

pub returns-in_err-put-in-Data-2-clause-front : goal.returns-in_err-put-in-Data-2-clause-front
returns-in_err-put-in-Data-2-clause-front c = search keeps_through

pub returns-in_ok-put-in-Data-2-clause-front : goal.returns-in_ok-put-in-Data-2-clause-front
returns-in_ok-put-in-Data-2-clause-front c = search keeps_through
