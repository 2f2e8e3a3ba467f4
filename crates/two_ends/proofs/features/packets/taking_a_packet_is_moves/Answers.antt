use Rattle.two_ends.proofs.OfFeatures.Taking.{replied, silent, asks, offers}
use Rattle.two_ends.proofs.features.packets.taking_a_packet_is_moves.Goals as goal

pub returns-clause-replied : goal.returns-clause-replied
returns-clause-replied c = λ p is. replied p.iss p.greatest p.count p.row p.there p.frames is.newer is.sound is.begun p.events is.heard

pub returns-clause-silent : goal.returns-clause-silent
returns-clause-silent c = λ p is. silent p.iss p.greatest p.count p.row p.there p.frames is.newer is.sound is.begun p.events is.heard

pub returns-clause-asks : goal.returns-clause-asks
returns-clause-asks c = λ p fits few is. asks p.iss p.greatest p.count p.row p.there p.frames is.newer is.sound is.begun p.events is.heard fits few

pub returns-clause-offers : goal.returns-clause-offers
returns-clause-offers c =
    λ p confirmed fits few is. offers p.iss p.greatest p.count p.row p.there p.frames is.newer is.sound is.begun p.events is.heard confirmed fits few
