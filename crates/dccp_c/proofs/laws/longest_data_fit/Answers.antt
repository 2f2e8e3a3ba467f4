use Rattle.dccp_c.proofs.Fitting.{longest_data_fit}
use Rattle.dccp_c.proofs.laws.longest_data_fit.Goals as goal

pub returns : goal.returns
returns c = longest_data_fit
