use Rattle.std.proofs.Common.{◌≡◌, ◌++◌, drop, flat_map}
use Rattle.bridge_pictures.specs.Peers.{lane_drawn}
use Rattle.bridge_pictures.proofs.ladder.peers.Peers.put_lanes.Given as goal

abbrev pub invariant-loop-lane : goal.invariant-loop-lane
invariant-loop-lane l =
    l.text.items ++ flat_map (lane_drawn l.row) (drop l.lane-index l.self.lanes) ≡ l.initial.text.items ++ flat_map (lane_drawn l.row) l.self.lanes
