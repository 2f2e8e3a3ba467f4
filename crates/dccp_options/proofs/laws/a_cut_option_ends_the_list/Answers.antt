use Rattle.dccp_options.proofs.ReadBack.{options_of-cut}
use Rattle.dccp_options.proofs.laws.a_cut_option_ends_the_list.Goals as goal

pub returns : goal.returns
returns c = options_of-cut
