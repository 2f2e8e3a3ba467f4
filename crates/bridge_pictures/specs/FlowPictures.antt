-- What is drawn in a picture of one flow of a capture, classic or pcapng (own).
use Rattle.std.specs.Prelude.{ℕ, List, [], Option, Some, None, Result, Ok, Err}
use Rattle.bridge_records.specs.Recording.{RecordStep, RecordWork}
use Rattle.capture_reader.specs.Records.{RecordParts}
use Rattle.dccp_packets.specs.Grammar.{Parts, decoded}
use Rattle.dccp_packets.specs.declared.reading.Malformed.{Malformed}
use Rattle.packet_show.specs.Network.{DatagramParts, carried}
use Rattle.bridge_pictures.specs.Walk.{WalkParts, first_walk, flow_walked, record_after_link, step_in_flow}
use Rattle.bridge_pictures.specs.declared.walk.FlowStep.{FlowStep}

-- A kind of picture: what it is after one more packet of its flow, and its text at the end.
pub record PictureKind (V : Type 0) : Type 0 where
  pub drawn : V → FlowStep → RecordParts → Parts → V
  pub text : V → List ℕ

-- A flow while it is drawn: the walk over its packets, and the picture.
pub record FlowDrawing (V : Type 0) : Type 0 where
  pub walk : WalkParts
  pub picture : V

-- before the first record
abbrev pub drawing_of : {V : Type 0} → ℕ → V → FlowDrawing V
drawing_of flow picture = record { walk = first_walk flow; picture = picture }

-- a packet, which is drawn if it is of the flow
abbrev pub step_drawn_if : {V : Type 0} → PictureKind V → FlowDrawing V → Option FlowStep → RecordParts → Parts → FlowDrawing V
step_drawn_if kind f None e packet = f
step_drawn_if kind f (Some step) e packet = record f { picture = kind.drawn f.picture step e packet }

-- a packet between these addresses, which is drawn if it is of the flow
unfoldable pub packet_walked : {V : Type 0} → PictureKind V → FlowDrawing V → RecordParts → DatagramParts → Parts → FlowDrawing V
packet_walked kind f e there packet =
    step_drawn_if kind (record f { walk = flow_walked f.walk there packet.header }) (step_in_flow f.walk there packet.header) e packet

-- the result of bytes of DCCP
abbrev pub decoded_drawn : {V : Type 0} → PictureKind V → FlowDrawing V → RecordParts → DatagramParts → Result Parts Malformed → FlowDrawing V
decoded_drawn kind f e there (Ok packet) = packet_walked kind f e there packet
decoded_drawn kind f e there (Err why) = f

-- the result of a record of raw IP that carries these bytes of DCCP, or none
abbrev pub carried_drawn : {V : Type 0} → PictureKind V → FlowDrawing V → RecordParts → Option DatagramParts → FlowDrawing V
carried_drawn kind f e None = f
carried_drawn kind f e (Some there) = decoded_drawn kind f e there (decoded there.bytes)

-- What a record of raw IP draws.
unfoldable pub ip_drawn : {V : Type 0} → PictureKind V → FlowDrawing V → RecordParts → FlowDrawing V
ip_drawn kind f e = carried_drawn kind f e (carried e.link e.bytes)

-- a record writes nothing until the end
abbrev pub silent : {V : Type 0} → FlowDrawing V → RecordStep (Unit {0}) (FlowDrawing V)
silent f = record { deed = None; next = f }

-- What a picture's job does with the records of a capture: it draws each, and the picture comes after the last.
abbrev pub flow_work : {V : Type 0} → PictureKind V → RecordWork (Unit {0}) (FlowDrawing V)
flow_work kind = record {
  begun = λ f nanos. silent f;
  passed = λ f e. silent (ip_drawn kind f (record_after_link e));
  told = λ _. [];
  closing = λ f untold records end. kind.text f.picture;
}
