-- The IP packet of a record.
use Rattle.std.specs.Prelude.{ℕ, List}
use Rattle.bridge_links.specs.declared.packets.IpPacket.{IpPacket}
use Rattle.bridge_links.specs.declared.packets.IpPacket.TheVariants.{Captured, Shortened}

-- its bytes
abbrev pub packet_bytes : IpPacket → List ℕ
packet_bytes (Captured bytes) = bytes.now
packet_bytes (Shortened bytes) = bytes.items
