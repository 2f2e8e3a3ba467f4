use Rattle.fault_campaign.proofs.Short.{report-size}
use Rattle.fault_campaign.proofs.laws.reports_count_little.Goals as goal

pub returns : goal.returns
returns c = report-size
