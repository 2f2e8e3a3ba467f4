use Rattle.dccp_ecn.proofs.Checks.{vector-summed}
use Rattle.dccp_ecn.proofs.laws.every_vector_has_its_nonce.Goals as goal

pub returns : goal.returns
returns c = vector-summed
