use Rattle.tool_text.proofs.Decimals.{four_dotted}
use Rattle.tool_text.proofs.Keeping.{keeps_through}
use Rattle.tool_text.proofs.text.put_v4.Goals as goal

pub returns-clause-ok : goal.returns-clause-ok
returns-clause-ok c =
    four_dotted c.args.text.now.items c.put_byte.new.text.items c.put_dotted.new.text.items c.put_dotted-2.new.text.items c.put_dotted-3.new.text.items
    c.args.address
    c.in_ok-put_byte.ensures.ok c.in_ok-put_dotted.ensures.ok c.in_ok-put_dotted-2.ensures.ok c.in_ok-put_dotted-3.ensures.ok

pub returns-in_err-put_dotted-clause-front : goal.returns-in_err-put_dotted-clause-front
returns-in_err-put_dotted-clause-front c = search keeps_through

pub returns-in_err-put_dotted-2-clause-front : goal.returns-in_err-put_dotted-2-clause-front
returns-in_err-put_dotted-2-clause-front c = search keeps_through

pub returns-in_err-put_dotted-3-clause-front : goal.returns-in_err-put_dotted-3-clause-front
returns-in_err-put_dotted-3-clause-front c = search keeps_through

pub returns-clause-front : goal.returns-clause-front
returns-clause-front c = search keeps_through
