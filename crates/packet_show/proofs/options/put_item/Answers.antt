use Rattle.tool_text.proofs.Keeping.{keeps_through}
use Rattle.packet_show.proofs.options.put_item.Goals as goal

pub returns-in_err-put_mark-in-Ok-clause-front : goal.returns-in_err-put_mark-in-Ok-clause-front
returns-in_err-put_mark-in-Ok-clause-front c = search keeps_through

pub returns-in_err-put_option-in-Ok-clause-front : goal.returns-in_err-put_option-in-Ok-clause-front
returns-in_err-put_option-in-Ok-clause-front c = search keeps_through

pub returns-in_ok-put_option-in-Ok-clause-front : goal.returns-in_ok-put_option-in-Ok-clause-front
returns-in_ok-put_option-in-Ok-clause-front c = search keeps_through
