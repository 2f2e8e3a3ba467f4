-- The bytes are lent whole, and as many come back.
use Rattle.std.proofs.Common.{◌≡◌, ◌∙◌, ap, length}
use Rattle.dccp_sum.specs.Checksum.{sealed}
use Rattle.dccp_endpoint.proofs.Frames.{refill-same}
use Rattle.dccp_endpoint.proofs.sealing.seal_frame.Goals as goal

pub returns : goal.returns
returns c =
    let lent = c.bytes_mut-bytes.ensures.value in
    let same : length c.seal.new.bytes ≡ length c.args.frame.now = c.seal.auto.bytes ∙ ap length lent in
    refill-same c.args.frame.now c.seal.new.bytes same ∙ c.seal.ensures.value ∙ ap (sealed c.args.pseudo.now) lent
