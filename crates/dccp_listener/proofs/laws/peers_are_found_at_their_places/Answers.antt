use Rattle.dccp_listener.proofs.Places.{found_at_places}
use Rattle.dccp_listener.proofs.laws.peers_are_found_at_their_places.Goals as goal

pub returns : goal.returns
returns c = found_at_places
