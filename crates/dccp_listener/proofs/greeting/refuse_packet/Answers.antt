use Rattle.std.proofs.Common.{◌∙◌, ap, sym}
use Rattle.dccp_listener.specs.Calls.{reset_for}
use Rattle.dccp_listener.proofs.greeting.refuse_packet.Goals as goal

-- the packet is that of the bytes
pub returns : goal.returns
returns c = c.refuse_number.ensures ∙ sym (ap (reset_for c.args.code c.args.config.now) c.requires.read)
