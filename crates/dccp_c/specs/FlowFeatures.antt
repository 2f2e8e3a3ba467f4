-- What C gets about the features of a listener's flows (own).
use Rattle.std.specs.Prelude.{ℕ, Option, Some, None}
use Rattle.std.specs.Option.{option_map}
use Rattle.dccp_listener.specs.Peers.{end_of_peer}
use Rattle.dccp_listener.specs.declared.peer.Peer.{Peer}
use Rattle.dccp_server.specs.Rooms.{RuledRoom}
use Rattle.feature_lists.specs.declared.features.Feature.{Feature}
use Rattle.feature_lists.specs.declared.features.Place.{Place}
use Rattle.dccp_c.specs.Listening.{flow_code}
use Rattle.dccp_c.specs.Seeing.{seen_feature}
use Rattle.dccp_c.specs.declared.readers.FeatureState.{FeatureState}

-- what the end of a peer holds for a feature, if there is a listener and the peer has an end
abbrev pub feature_at_peer : Feature → Place → Option RuledRoom → Peer → Option FeatureState
feature_at_peer feature place None peer = None
feature_at_peer feature place (Some s) peer = option_map (seen_feature feature place) (end_of_peer s.room.served.listening.flows peer)

-- the same, if a feature has this number
abbrev pub flow_feature : Option Feature → Place → Option RuledRoom → Peer → Option FeatureState
flow_feature None place held peer = None
flow_feature (Some feature) place held peer = feature_at_peer feature place held peer

-- the code of reading a feature of a flow
abbrev pub flow_feature_code : Option Feature → Place → Option RuledRoom → Peer → ℕ
flow_feature_code None place held peer = 11
flow_feature_code (Some feature) place held peer = flow_code held (feature_at_peer feature place held peer)
