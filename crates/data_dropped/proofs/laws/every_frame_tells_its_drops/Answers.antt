use Rattle.dccp_endpoint.specs.Inputs.{Arrives}
use Rattle.dccp_endpoint.specs.Receiving.{receives}
use Rattle.data_dropped.specs.Buffering.{buffers}
use Rattle.data_dropped.proofs.Telling.{calls-tell, silent-stay}
use Rattle.data_dropped.proofs.laws.every_frame_tells_its_drops.Goals as goal

pub returns-clause-calls : goal.returns-clause-calls
returns-clause-calls g c = λ b given own proper is. calls-tell b.end.state b.inbox given own proper is

pub returns-clause-tells : goal.returns-clause-tells
returns-clause-tells g c =
    λ b bytes own proper is. calls-tell b.end.state (buffers g.C.Congestion.control b bytes).after.inbox (Arrives bytes) own proper is

pub returns-clause-silent : goal.returns-clause-silent
returns-clause-silent g c =
    λ b bytes is.
    silent-stay (receives b.end.state bytes).after.config.pseudo_out (buffers g.C.Congestion.control b bytes).after.inbox (receives b.end.state bytes).frame is
