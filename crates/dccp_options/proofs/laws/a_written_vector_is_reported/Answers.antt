use Rattle.dccp_options.proofs.ReadVectors.{reported-written}
use Rattle.dccp_options.proofs.laws.a_written_vector_is_reported.Goals as goal

pub returns : goal.returns
returns c = reported-written
