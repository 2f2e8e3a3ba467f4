use Rattle.two_ends.proofs.facts.records_are_of_own_frames.Goals as goal

pub returns : goal.returns
returns c = λ w facts side r has_it.
    let it = facts.recorded side r has_it in
    (it.index, it.frame, it.packet, it.is_there, it.is_packet, it.is_ack, it.is_numbered, it.acknowledges, it.tells_whole, it.floor_rises)
