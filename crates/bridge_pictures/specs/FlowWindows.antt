-- What `windows --flow` draws of a capture, classic or pcapng: the windows of one flow (own).
use Rattle.std.specs.Prelude.{ℕ, ◌==◌, ◌||◌, ◌++◌, nat_lt, Bool, is_some, if◌then◌else◌, List, [], length, flat_map, codes, Result, Ok, Err}
use Rattle.bridge_records.specs.Pieces.{PiecesResult, text_of_pieces}
use Rattle.bridge_records.specs.Recording.{RecordsState, records_of, records_work}
use Rattle.capture_reader.specs.Records.{RecordParts}
use Rattle.ccid_two.specs.Window.{State, first_state}
use Rattle.dccp_options.specs.Grammar.{Entry, options_of}
use Rattle.dccp_options.specs.Kinds.{confirm_l, confirm_r}
use Rattle.dccp_options.specs.declared.option.OptFault.{OptFault}
use Rattle.dccp_packets.specs.Grammar.{Parts, packet_type}
use Rattle.dccp_packets.specs.Kinds.{is_data}
use Rattle.packet_show.specs.Text.{option_text}
use Rattle.schedule_text.specs.Names.{side_name}
use Rattle.world_events.specs.declared.event.Side.{Side}
use Rattle.world_events.specs.declared.event.Side.TheVariants.{Client, Server}
use Rattle.bridge_pictures.specs.FlowPictures.{FlowDrawing, PictureKind, drawing_of, flow_work}
use Rattle.bridge_pictures.specs.Graph.{GraphParts, counts_drawn, first_graph, graph_picture, noted_below}
use Rattle.bridge_pictures.specs.Senders.{counts_seen, report_seen, send_seen}
use Rattle.bridge_pictures.specs.Stamps.{record_words, stamp}
use Rattle.bridge_pictures.specs.Walk.{is_later}
use Rattle.bridge_pictures.specs.declared.walk.FlowStep.{FlowStep}

-- The windows of a flow while they are drawn: what CCID 2 counts for each side, and the graph.
pub record FlowWindowsParts : Type 0 where
  pub client : State
  pub server : State
  pub graph : GraphParts

-- before the first record
abbrev pub first_flow_windows : FlowWindowsParts
first_flow_windows = record { client = first_state; server = first_state; graph = first_graph }

-- an option that confirms a feature's value
abbrev pub is_confirm : ℕ → Bool
is_confirm kind = kind == confirm_l || kind == confirm_r

-- what an option confirms, if anything
abbrev pub confirm_words : Result Entry OptFault → List ℕ
confirm_words (Ok o) = if is_confirm o.kind then codes " " ++ option_text o.kind o.body else []
confirm_words (Err fault) = []

-- what options confirm
abbrev pub all_confirms : List (Result Entry OptFault) → List ℕ
all_confirms items = flat_map confirm_words items

-- what a packet confirms
abbrev pub confirms_of : Parts → List ℕ
confirms_of packet = all_confirms (options_of packet.options (is_data (packet_type packet.header.kind)))

-- the record in which a side confirmed features, and what it confirmed
unfoldable pub confirms_note : Side → RecordParts → List ℕ → List ℕ
confirms_note from e said = stamp e ++ codes " " ++ side_name from ++ said

-- both senders note a packet that this side sent
unfoldable pub senders_told : FlowWindowsParts → Side → Parts → FlowWindowsParts
senders_told f Client packet = record f { client = send_seen f.client packet.header; server = report_seen f.server packet }
senders_told f Server packet = record f { client = report_seen f.client packet; server = send_seen f.server packet.header }

-- the column of a packet
unfoldable pub packet_column : FlowWindowsParts → RecordParts → Parts → FlowWindowsParts
packet_column f e packet =
    record f { graph = counts_drawn f.graph (counts_seen f.client) (counts_seen f.server) (record_words e packet) }

-- what a packet confirms is written below the charts
unfoldable pub confirms_told : FlowWindowsParts → Side → RecordParts → Parts → FlowWindowsParts
confirms_told f from e packet =
    if nat_lt 0 (length (confirms_of packet)) then record f { graph = noted_below f.graph (confirms_note from e (confirms_of packet)) } else f

-- the senders note a packet with a later number
abbrev pub told_if_later : FlowWindowsParts → FlowStep → Parts → FlowWindowsParts
told_if_later f step packet = if is_later step.ahead then senders_told f step.from packet else f

-- a packet of the flow
unfoldable pub step_charted : FlowWindowsParts → FlowStep → RecordParts → Parts → FlowWindowsParts
step_charted f step e packet = confirms_told (packet_column (told_if_later f step packet) e packet) step.from e packet

-- what is noted below the charts
abbrev pub confirms_heading : List ℕ
confirms_heading = codes "record, its time, end, and what it confirms of features"

-- The windows as a picture of a flow.
abbrev pub windows_kind : PictureKind FlowWindowsParts
windows_kind = record { drawn = step_charted; text = λ f. graph_picture f.graph confirms_heading [] [] }

-- the result of the pieces of an input
abbrev pub flow_windows_pieces : ℕ → List ℕ → PiecesResult (Unit {0}) (RecordsState (FlowDrawing FlowWindowsParts))
flow_windows_pieces flow input = records_of (flow_work windows_kind) (drawing_of flow first_flow_windows) input

-- What `windows --flow` writes for an input.
abbrev pub flow_windows_text : ℕ → List ℕ → List ℕ
flow_windows_text flow input = text_of_pieces (records_work (flow_work windows_kind)) (flow_windows_pieces flow input)

-- The capture has a fault.
abbrev pub is_flow_windows_faulty : ℕ → List ℕ → Bool
is_flow_windows_faulty flow input = is_some (flow_windows_pieces flow input).refusal
