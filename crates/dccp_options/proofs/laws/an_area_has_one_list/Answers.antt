use Rattle.dccp_options.proofs.Listings.{options_of-is_listed, options_of-only}
use Rattle.dccp_options.proofs.laws.an_area_has_one_list.Goals as goal

pub returns-clause-is_listed : goal.returns-clause-is_listed
returns-clause-is_listed c = options_of-is_listed

pub returns-clause-only : goal.returns-clause-only
returns-clause-only c = options_of-only
