-- Who is at a place is found there.
use Rattle.std.proofs.lemmas.Map.Entries.{lookup_from_place}
use Rattle.std.proofs.lemmas.Map.Keys.{IsDistinct-from_sorted}
use Rattle.std.specs.Map.{keys_of}
use Rattle.dccp_listener.specs.Listens.{PeersAtPlaces}
use Rattle.dccp_listener.specs.Peers.{peer_cmp}
use Rattle.dccp_listener.proofs.OnePeer.{peers_alike}

pub found_at_places : PeersAtPlaces
found_at_places flows ordered place peer e is =
    lookup_from_place peers_alike flows place peer e (IsDistinct-from_sorted peer_cmp (keys_of flows) ordered) is
