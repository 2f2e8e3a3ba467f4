-- Worked values of the definitions in the claims on two ends: a world of the usual ends, whose Ack Vectors report what they processed, and the
-- rule of each feature. The frames are those of the usual connection with data.
use Rattle.std.proofs.Common.{◌≡◌, refl, ℕ, true, false, List, [], ◌∷◌, map, codes, Some}
use Prim.Native.String.{String}
use Rattle.dccp_endpoint.specs.Calling.{opens, sends_payload}
use Rattle.dccp_endpoint.specs.Drafts.{framed}
use Rattle.dccp_endpoint.specs.Receiving.{receives}
use Rattle.dccp_endpoint.specs.Usual.{usual}
use Rattle.dccp_states.specs.declared.phase.Role.TheVariants as role
use Rattle.feature_lists.specs.declared.features.Feature.TheVariants as feature
use Rattle.world_events.specs.declared.event.Event.{Event}
use Rattle.world_events.specs.declared.event.Event.TheVariants as event
use Rattle.world_events.specs.declared.event.Side.TheVariants.{Client, Server}
use Rattle.two_ends.specs.Negotiated.{IsNotNegotiable, IsServerPriority}
use Rattle.two_ends.specs.Reported.{CarriesVector}
use Rattle.two_ends.specs.World.{Occurrence, WorldState, at_start, half_of, world_after_all}
use Rattle.two_ends.specs.declared.frames.SentFrame.{SentFrame}
use Rattle.tests_ends.proofs.rows.RowsSeen.{bytes}

-- the window has room, and no timer is asked for
abbrev now : Event → Occurrence
now e = record { event = e; said = record { may_send = true; in_flight = false } }

-- The usual ends meet, and of three packets of data the first and the third arrive.
abbrev told : WorldState
told =
    world_after_all
    (at_start (usual role.Client) (usual role.Server))
    (map now
    (event.Open ∷ event.Deliver Client 0 ∷ event.Deliver Server 0 ∷ event.Deliver Client 1 ∷ event.Deliver Server 1
    ∷ event.Send Client (170 ∷ []) ∷ event.Send Client (187 ∷ []) ∷ event.Send Client (204 ∷ []) ∷ event.Deliver Client 2 ∷ event.Deliver Client 4 ∷ []))

-- a frame's bytes, how many numbers its sender had processed, and its floor
abbrev kept : SentFrame → List ℕ × ℕ × ℕ
kept frame = (frame.bytes, frame.processed, frame.floor)

abbrev frame : String → ℕ → ℕ → List ℕ × ℕ × ℕ
frame digits processed floor = (bytes (codes digits), processed, floor)

-- The last vector reports 1004 received, 1003 not and 1002 received, and ends at the floor, which rose after the acknowledged 1001.
vectors_of_a_world :
    (map kept (half_of told Server).frames
    ≡ frame "13899c400d00a1c303000000000007d000000000000003e80000002a230604010100210606010100012004040101220406010000" 1 1000
    ∷ frame "13899c400700fb3807000000000007d100000000000003e926030100" 2 1000
    ∷ frame "13899c400800fa6e07000000000007d200000000000003ec260500c000000000" 4 1002 ∷ [])
    × ((half_of told Server).processed ≡ 1000 ∷ 1001 ∷ 1002 ∷ 1004 ∷ [])
    × ((half_of told Client).processed ≡ 2000 ∷ 2001 ∷ [])
unfolding receives opens sends_payload framed
vectors_of_a_world = (refl, refl, refl)

-- that frame, by its numbers
abbrev third : SentFrame
third = record { bytes = bytes (codes "13899c400800fa6e07000000000007d200000000000003ec260500c000000000"); number = 2002; ack = Some 1004; processed = 4; floor = 1002 }

a_frame_with_a_vector : CarriesVector third 1004 (0 ∷ 192 ∷ 0 ∷ [])
a_frame_with_a_vector = record { acknowledges = refl; carries = refl }

-- lists decide seven features, and their location two
features_by_their_rule :
    IsServerPriority (record { feature = feature.Ccid; location = Client })
    × IsServerPriority (record { feature = feature.ShortSeqnos; location = Client })
    × IsServerPriority (record { feature = feature.EcnIncapable; location = Server })
    × IsServerPriority (record { feature = feature.SendAckVector; location = Server })
    × IsServerPriority (record { feature = feature.SendNdpCount; location = Client })
    × IsServerPriority (record { feature = feature.MinCsCov; location = Server })
    × IsServerPriority (record { feature = feature.CheckDataChecksum; location = Client })
    × IsNotNegotiable (record { feature = feature.SequenceWindow; location = Client })
    × IsNotNegotiable (record { feature = feature.AckRatio; location = Server })
features_by_their_rule = (refl, refl, refl, refl, refl, refl, refl, refl, refl)
