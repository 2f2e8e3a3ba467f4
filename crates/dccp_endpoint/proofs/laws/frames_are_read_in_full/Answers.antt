use Rattle.dccp_endpoint.proofs.InFull.{read-in-full}
use Rattle.dccp_endpoint.proofs.laws.frames_are_read_in_full.Goals as goal

pub returns : goal.returns
returns c = read-in-full
