use Rattle.std.proofs.Common.{◌∙◌, List, ℕ, ap}
use Rattle.dccp_sum.specs.Checksum.{sealed}
use Rattle.dccp_endpoint.specs.Drafts.{framed, own_header}
use Rattle.dccp_endpoint.proofs.outgoing.end_frame.Goals as goal

pub returns : goal.returns
unfolding framed
returns c =
    λ short number kind area begins. c.seal_frame.ensures
    ∙ ap (λ (bytes : List ℕ). sealed c.args.config.now.pseudo_out bytes)
    (c.finish.ensures.written (own_header c.args.config.now short number kind) area begins)
