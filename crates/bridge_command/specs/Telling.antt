-- What `json` writes of a capture, classic or pcapng: an object for each record, one a line (own).
use Rattle.std.specs.Prelude.{ℕ, Bool, is_some, List, [], ◌∷◌, codes, Option, Some, None}
use Rattle.capture_reader.specs.Records.{RecordParts}
use Rattle.packet_show.specs.Flows.{Flow}
use Rattle.bridge_links.specs.Links.{ip_bytes}
use Rattle.bridge_records.specs.Pieces.{PiecesResult, text_of_pieces}
use Rattle.bridge_records.specs.declared.pieces.fault.PieceFault.{PieceFault}
use Rattle.bridge_records.specs.Recording.{RecordWork, RecordsState, records_of, records_work}
use Rattle.bridge_command.specs.Unwrapping.{piece_fault_name}
use Rattle.bridge_command.specs.Judging.{RecordReading, flow_number_of, judged_ip, flows_after}
use Rattle.bridge_command.specs.Members.{object_line, with_number_named, with_text_named}
use Rattle.bridge_command.specs.Objects.{record_members}
use Rattle.serde_json.specs.Data.{Members, no_members}

-- the object of a fault, with how many records come before it
unfoldable pub fault_members : ℕ → PieceFault → Members
fault_members records fault = with_text_named (codes "fault") (piece_fault_name fault) (with_number_named (codes "records") records no_members)

-- what follows the last record: nothing, or the line of the fault
abbrev pub json_closing : ℕ → Option PieceFault → List ℕ
json_closing records None = []
json_closing records (Some fault) = object_line (fault_members records fault)

-- A record as it is written: with the bytes of data or without them, and the number of its flow.
pub record JsonRecord : Type 0 where
  pub payload : Bool
  pub flow : ℕ
  pub entry : RecordParts

-- the members of a record's object
abbrev pub told_members : JsonRecord → Members
told_members t = record_members t.payload t.flow t.entry

-- the line of a record
abbrev pub told_line : JsonRecord → List ℕ
told_line t = object_line (told_members t)

-- What is known while records are written: whether the bytes of data are asked for, and the flows that were seen.
pub record JsonParts : Type 0 where
  pub payload : Bool
  pub seen : List Flow

-- before the first record
abbrev pub first_telling : Bool → JsonParts
first_telling payload = record { payload = payload; seen = [] }

-- a record as it is written when this is known
abbrev pub record_told : JsonParts → RecordParts → JsonRecord
record_told s e = record { payload = s.payload; flow = flow_number_of s.seen (judged_ip (ip_bytes e.link e.bytes)); entry = e }

-- what is known after what a record holds
abbrev pub telling_with : JsonParts → RecordReading → JsonParts
telling_with s judged = record { payload = s.payload; seen = flows_after s.seen judged }

-- what is known after a record
abbrev pub telling_after : JsonParts → RecordParts → JsonParts
telling_after s e = telling_with s (judged_ip (ip_bytes e.link e.bytes))

-- records as they are written, one after the other
abbrev pub all_told : JsonParts → List RecordParts → List JsonRecord
all_told s [] = []
all_told s (e ∷ entries) = record_told s e ∷ all_told (telling_after s e) entries

-- What `json` makes of the records of a capture: it writes each, and keeps the flows.
abbrev pub json_work : RecordWork JsonRecord JsonParts
json_work = record {
  begun = λ s nanos. record { deed = None; next = s };
  passed = λ s e. record { deed = Some (record_told s e); next = telling_after s e };
  told = told_line;
  closing = λ s untold records end. json_closing records end;
}

-- the result of the pieces of an input
abbrev pub json_pieces : Bool → List ℕ → PiecesResult JsonRecord (RecordsState JsonParts)
json_pieces payload input = records_of json_work (first_telling payload) input

-- What `json` writes for an input.
abbrev pub json_text : Bool → List ℕ → List ℕ
json_text payload input = text_of_pieces (records_work json_work) (json_pieces payload input)

-- The capture has a fault.
abbrev pub is_json_faulty : Bool → List ℕ → Bool
is_json_faulty payload input = is_some (json_pieces payload input).refusal
