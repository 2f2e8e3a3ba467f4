-- What a reader of captures finds in the record of a frame.
use Rattle.std.specs.Prelude.{◌<◌, ◌≤◌, ◌^◌, true, length}
use Rattle.byteorder.specs.Endian.{big_bytes}
use Rattle.dccp_sum.specs.declared.pseudo_header.Pseudo.{Pseudo}
use Rattle.dccp_sum.specs.declared.pseudo_header.Pseudo.TheVariants.{V4}
use Rattle.packet_show.specs.Network.{DatagramParts}
use Rattle.bridge_command.specs.FrameRecords.{TimedFrame}
use Rattle.bridge_command.specs.declared.capture.records.Travel.{Travel}

-- a time of 32 bits, and a frame of at most 2,044 bytes
pub record FitsFrame (f : TimedFrame) : Type 0 where
  pub time : f.seconds < 2 ^ 32
  pub size : length f.frame ≤ 2044

-- the addresses that a frame travels between
abbrev pub travels : Travel → Pseudo
travels t = V4 (big_bytes 4 t.from) (big_bytes 4 t.to)

-- a whole DCCP packet between these addresses, which is the frame
abbrev pub whole_frame : TimedFrame → DatagramParts
whole_frame f = record { pseudo = travels f.travel; bytes = f.frame; whole = true }
