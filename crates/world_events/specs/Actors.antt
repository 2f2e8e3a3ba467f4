-- Which side acts in an event (own).
use Rattle.world_events.specs.declared.event.Side.{Side}
use Rattle.world_events.specs.declared.event.Side.TheVariants.{Client, Server}
use Rattle.world_events.specs.declared.event.Event.{Event}
use Rattle.world_events.specs.declared.event.Event.TheVariants as event

-- the peer of a side
abbrev pub other : Side → Side
other Client = Server
other Server = Client

-- `open` is the client's call, and in a delivery the receiving side acts
abbrev pub actor : Event → Side
actor event.Open = Client
actor (event.Deliver from index) = other from
actor (event.Send side payload) = side
actor (event.SendEarly side payload) = side
actor (event.Prefer side feature place values) = side
actor (event.Timer side timer) = side
actor (event.Close side) = side
actor (event.Abort side) = side
