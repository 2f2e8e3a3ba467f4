use Rattle.fault_campaign.proofs.Fields.{parts-add}
use Rattle.fault_campaign.proofs.laws.parts_of_a_campaign_add_up.Goals as goal

pub returns : goal.returns
returns c = λ first some more events. parts-add first events some more
