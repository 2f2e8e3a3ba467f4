-- What `ladder --flow` draws of a capture, classic or pcapng: the packets of one flow (own).
use Rattle.std.specs.Prelude.{ℕ, ◌==◌, Bool, is_some, if◌then◌else◌, List, codes}
use Rattle.bridge_records.specs.Pieces.{PiecesResult, text_of_pieces}
use Rattle.bridge_records.specs.Recording.{RecordsState, records_of, records_work}
use Rattle.capture_reader.specs.Records.{RecordParts}
use Rattle.dccp_packets.specs.Grammar.{Parts, packet_type}
use Rattle.dccp_packets.specs.declared.header.Header.{Header}
use Rattle.world_events.specs.Actors.{other}
use Rattle.world_events.specs.declared.event.Side.{Side}
use Rattle.bridge_pictures.specs.FlowPictures.{FlowDrawing, PictureKind, drawing_of, flow_work}
use Rattle.bridge_pictures.specs.Phases.{phase_came, phase_sent}
use Rattle.bridge_pictures.specs.Scene.{Drawing, first_drawing, gone_straight, phase_of, picture, row_told, turned_to}
use Rattle.bridge_pictures.specs.Stamps.{record_words}
use Rattle.bridge_pictures.specs.Walk.{is_later}
use Rattle.bridge_pictures.specs.declared.ladder.phases.Fate.TheVariants as comes
use Rattle.bridge_pictures.specs.declared.walk.FlowStep.{FlowStep}

-- how an arrow looks: that of a packet with the latest number, with a later one, or with an earlier one
abbrev pub seen_class : ℕ → List ℕ
seen_class ahead = if ahead == 0 then codes "again" else if is_later ahead then codes "took" else codes "late"

-- the phases of both ends when a packet comes
abbrev pub phases_moved : Drawing → Side → Header → Drawing
phases_moved d from header = turned_to d (other from) (phase_came (phase_of d (other from)) (packet_type header.kind) comes.Took)

-- the sender's phase when a packet goes
abbrev pub sender_moved : Drawing → Side → Header → Drawing
sender_moved d from header = turned_to d from (phase_sent (phase_of d from) header.kind)

-- A packet was seen on its way.
unfoldable pub packet_drawn : Drawing → Side → List ℕ → Header → List ℕ → Drawing
packet_drawn d from class header words = phases_moved (sender_moved (gone_straight (row_told d from words) from class words) from header) from header

-- a packet of the flow
unfoldable pub step_drawn : Drawing → FlowStep → RecordParts → Parts → Drawing
step_drawn d step e packet = packet_drawn d step.from (seen_class step.ahead) packet.header (record_words e packet)

-- A ladder as a picture of a flow.
abbrev pub ladder_kind : PictureKind Drawing
ladder_kind = record { drawn = step_drawn; text = picture }

-- the result of the pieces of an input
abbrev pub flow_ladder_pieces : ℕ → List ℕ → PiecesResult (Unit {0}) (RecordsState (FlowDrawing Drawing))
flow_ladder_pieces flow input = records_of (flow_work ladder_kind) (drawing_of flow first_drawing) input

-- What `ladder --flow` writes for an input.
abbrev pub flow_ladder_text : ℕ → List ℕ → List ℕ
flow_ladder_text flow input = text_of_pieces (records_work (flow_work ladder_kind)) (flow_ladder_pieces flow input)

-- The capture has a fault.
abbrev pub is_flow_ladder_faulty : ℕ → List ℕ → Bool
is_flow_ladder_faulty flow input = is_some (flow_ladder_pieces flow input).refusal
