use Rattle.std.proofs.Common.{subst, ℕ, List}
use Rattle.dccp_server.specs.Events.{is_shut_out}
use Rattle.dccp_c.specs.Framing.{handed_in}
use Rattle.dccp_c.specs.Listening.{HearsIfOpen, holding_of}
use Rattle.dccp_c.proofs.listener_calls.serve.Goals as goal

pub returns : goal.returns
returns c =
    subst
    (λ (bytes : List ℕ). HearsIfOpen c.args.now (holding_of c.args.serving.now) (holding_of c.serve_decoded.new.serving) c.args.peer c.args.iss bytes
    (is_shut_out c.args.serving.now.server c.args.peer bytes) (handed_in c.serve_decoded.new.frame) c.serve_decoded.new.serving.evicted
    c.serve_decoded.new.serving.way c.serve_decoded.result c.args.told.now c.serve_decoded.new.told)
    c.new-decoded.ensures c.serve_decoded.ensures
