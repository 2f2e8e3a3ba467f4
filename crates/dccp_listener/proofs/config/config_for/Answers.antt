use Rattle.std.proofs.Common.{◌∙◌, ap, sym}
use Rattle.dccp_listener.specs.Chain.{asked_service, config_asked}
use Rattle.dccp_listener.proofs.config.config_for.Goals as goal

-- the packet is that of the bytes
pub returns : goal.returns
returns c =
    c.config_asked.ensures
    ∙ ap (config_asked c.args.config.now c.args.peer c.args.iss) (c.requested.ensures ∙ sym (ap asked_service c.requires))
