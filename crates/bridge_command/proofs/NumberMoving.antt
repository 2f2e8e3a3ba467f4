-- A moved header keeps its form and the widths of its fields.
use Rattle.std.proofs.Common.{◌≡◌, refl, ap, ℕ, ◌%◌, ◌^◌, ◌<◌, ◌&&◌, nat_lt, arith, Bool}
use Rattle.seq_circle.specs.Circle.{distance}
use Rattle.dccp_packets.specs.Grammar.{HeaderFits, KindFits, NumberFits, has_forms, is_long, is_valid}
use Rattle.dccp_packets.specs.declared.header.Header.{Header}
use Rattle.dccp_packets.specs.declared.header.Kind.{Kind}
use Rattle.dccp_packets.specs.declared.header.Kind.TheVariants.{Request, Response, Data, Ack, DataAck, CloseReq, Close, Reset, Sync, SyncAck}
use Rattle.dccp_packets.specs.declared.header.Number.{Number}
use Rattle.dccp_packets.specs.declared.header.Number.TheVariants.{Long, Short}
use Rattle.world_events.specs.declared.event.Side.{Side}
use Rattle.world_events.specs.declared.event.Side.TheVariants.{Client, Server}
use Rattle.bridge_command.specs.Mapping.{moved_ack, moved_header, moved_kind, moved_number, usual_end}
use Rattle.bridge_command.specs.declared.frames.mapping.UsualEnd.{UsualEnd}

-- the numbers have the forms that they had
forms-kept : (long : Bool) (end : UsualEnd) (initial : ℕ) (k : Kind) → has_forms long (moved_kind end initial k) ≡ has_forms long k
forms-kept long end initial (Ack (Long ack)) = refl
forms-kept long end initial (DataAck (Long ack)) = refl
forms-kept long end initial _ = refl

-- a valid header stays valid
pub moved_valid : (end : UsualEnd) (initial : ℕ) (h : Header) → is_valid (moved_header end initial h) ≡ is_valid h
moved_valid end initial h = ap (λ (forms : Bool). nat_lt h.ccval 16 && nat_lt h.cscov 16 && forms) (forms-kept (is_long h.number) end initial h.kind)

-- numbers on the circle fit
ack-fits : (end : UsualEnd) (initial ack : ℕ) → moved_ack end initial ack < 2 ^ 48
ack-fits end initial ack = omega arith

number-fits : (end : UsualEnd) (initial : ℕ) (ack : Number) → NumberFits (moved_number end initial ack)
number-fits end initial (Long ack) = ack-fits end initial ack
number-fits end initial (Short ack) = omega arith

kind-fits : (end : UsualEnd) (initial : ℕ) (k : Kind) → end.service < 2 ^ 32 → KindFits k → KindFits (moved_kind end initial k)
kind-fits end initial (Request service) small fits = small
kind-fits end initial (Response ack service) small fits = (ack-fits end initial ack, small)
kind-fits end initial Data small fits = tt
kind-fits end initial (Ack ack) small fits = number-fits end initial ack
kind-fits end initial (DataAck ack) small fits = number-fits end initial ack
kind-fits end initial (CloseReq ack) small fits = ack-fits end initial ack
kind-fits end initial (Close ack) small fits = ack-fits end initial ack
kind-fits end initial (Reset ack code detail) small fits = (ack-fits end initial ack, fits.1, fits.2)
kind-fits end initial (Sync ack) small fits = ack-fits end initial ack
kind-fits end initial (SyncAck ack) small fits = ack-fits end initial ack

-- what fits, fits the usual ends' fields
pub header-fits : (side : Side) (initial : ℕ) (h : Header) → HeaderFits h → HeaderFits (moved_header (usual_end side) initial h)
header-fits Client initial h fits = record {
  from = omega arith;
  to = omega arith;
  checksum = omega arith;
  number = fits.number;
  kind = kind-fits (usual_end Client) initial h.kind (omega arith) fits.kind;
}
header-fits Server initial h fits = record {
  from = omega arith;
  to = omega arith;
  checksum = omega arith;
  number = fits.number;
  kind = kind-fits (usual_end Server) initial h.kind (omega arith) fits.kind;
}

-- the distance from the initial number stays
pub distance-kept : (side : Side) (initial ack : ℕ) → initial < 2 ^ 48 → ack < 2 ^ 48
    → distance (usual_end side).iss (moved_ack (usual_end side) initial ack) ≡ distance initial ack
distance-kept Client initial ack from to = omega arith
distance-kept Server initial ack from to = omega arith

-- and so do the low bits of a number
pub short-kept : (side : Side) (initial ack : ℕ) → initial < 2 ^ 48 → ack < 2 ^ 48
    → moved_ack (usual_end side) initial (ack % 2 ^ 24) % 2 ^ 24 ≡ moved_ack (usual_end side) initial ack % 2 ^ 24
short-kept Client initial ack from to = omega arith
short-kept Server initial ack from to = omega arith
