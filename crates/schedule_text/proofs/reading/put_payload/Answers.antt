-- The bytes are lent whole, and as many come back.
use Rattle.std.proofs.Common.{◌≡◌, ◌∙◌, ap, length}
use Rattle.schedule_text.proofs.Lent.{refill-same}
use Rattle.schedule_text.proofs.reading.put_payload.Goals as goal

pub returns : goal.returns
returns c =
    let lent = c.bytes_mut-bytes.ensures.value in
    let same : length c.put.new.room ≡ length c.resize.new.self = c.put.auto.room ∙ ap length lent in
    refill-same c.resize.new.self c.put.new.room same ∙ c.put.ensures
