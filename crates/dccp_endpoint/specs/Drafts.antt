-- What an end writes: a packet before it has a number, and the frame that it becomes (RFC 4340, sections 5 and 9).
--
-- `framed` is shut, and takes the configuration and not the end: a shut definition over a whole end would not reduce
-- after a change of any of its fields.
use Rattle.std.specs.Prelude.{◌≡◌, ℕ, ◌+◌, ◌^◌, ◌<◌, ◌≤◌, Bool, true, List, [], length, map, Ok}
use Rattle.std.specs.List.{All}
use Rattle.dccp_options.specs.Grammar.{options_of}
use Rattle.dccp_options.specs.Written.{Item, IsWritable, written, entries_at}
use Rattle.dccp_packets.specs.Forms.{in_form, number_in_form}
use Rattle.dccp_packets.specs.Grammar.{decoded, fixed_length, has_forms, packet_type, padded, spelling}
use Rattle.dccp_packets.specs.Outgoing.{Outgoing}
use Rattle.dccp_packets.specs.Widths.{HasDetail, kind_in_widths}
use Rattle.dccp_packets.specs.declared.header.Header.{Header}
use Rattle.dccp_packets.specs.declared.header.Kind.{Kind}
use Rattle.dccp_sum.specs.Checksum.{checked, sealed}
use Rattle.dccp_sum.specs.declared.pseudo_header.Pseudo.{Pseudo}
use Rattle.dccp_packets.specs.Kinds.{ack_of, is_data}
use Rattle.feature_machine.specs.Lists.{IsLists}
use Rattle.dccp_endpoint.specs.declared.config.Config.{Config}

-- a packet that is to be sent: its type with its fields, in the long form, its options and its data
pub record Draft : Type 0 where
  pub kind : Kind
  pub options : List Item
  pub payload : List ℕ

-- a type with its fields, and nothing else
abbrev pub alone : Kind → Draft
alone kind = record { kind = kind; options = []; payload = [] }

-- a type with its fields, and data
abbrev pub carrying : Kind → List ℕ → Draft
carrying kind payload = record { kind = kind; options = []; payload = payload }

-- the header of an end's own packets, with short numbers or with long ones: all of the packet is covered, and the
-- checksum follows
abbrev pub own_header : Config → Bool → ℕ → Kind → Header
own_header config short number kind =
    record {
      from = config.own_port;
      to = config.peer_port;
      ccval = 0;
      cscov = 0;
      checksum = 0;
      number = number_in_form short number;
      kind = in_form short kind;
    }

-- a packet as it goes out, with its checksum
unfoldable pub framed : Config → Bool → ℕ → Kind → List ℕ → List ℕ → List ℕ
framed config short number kind area payload = sealed config.pseudo_out (spelling (own_header config short number kind) area payload)

-- the frame of a draft, in which the form of its numbers is chosen
abbrev pub frame_of : Config → Bool → ℕ → Draft → List ℕ
frame_of config short number draft = framed config short number draft.kind (written draft.options) draft.payload

-- bytes that go out under a number, with the number that their type acknowledges, in the width of its field
abbrev pub sent_as : ℕ → Kind → List ℕ → Outgoing
sent_as number kind bytes = record { bytes = bytes; number = number; ack = ack_of (kind_in_widths kind) }

-- a draft as it goes out: its frame, with its numbers
abbrev pub sent_of : Config → Bool → ℕ → Draft → Outgoing
sent_of config short number draft = sent_as number draft.kind (frame_of config short number draft)

-- the widths of the fields (RFC 4340, section 5) and the order of the lists, which every configuration of the program
-- keeps
pub record Fits (config : Config) : Type 0 where
  pub own_port : config.own_port < 2 ^ 16
  pub peer_port : config.peer_port < 2 ^ 16
  pub service : config.service < 2 ^ 32
  pub iss : config.iss < 2 ^ 48
  -- there is a wish and an offer for each feature at each place
  pub lists : IsLists config.lists

-- A draft that has a frame: numbers in the long form, and an option area and data that fit. A Data packet has no
-- options.
pub record IsSendable (draft : Draft) : Type 0 where
  pub is_long : has_forms true draft.kind ≡ true
  pub detail : HasDetail draft.kind
  pub items : All IsWritable draft.options
  pub on_data : is_data (packet_type draft.kind) ≡ true → draft.options ≡ []
  pub area : fixed_length true (packet_type draft.kind) + length (padded (written draft.options)) ≤ 1020
  pub data_fits : length draft.payload ≤ 1024

-- The bytes are read as a packet with this header except for the checksum, and with the draft's options and data; the checksum is right.
pub record ReadsAs (header : Header) (pseudo : Pseudo) (draft : Draft) (bytes : List ℕ) : Type 0 where
  pub sum : ℕ
  pub is_packet : decoded bytes
      ≡ Ok (record { header = record header { checksum = sum }; options = padded (written draft.options); payload = draft.payload })
  pub are_listed : options_of (padded (written draft.options)) (is_data (packet_type header.kind)) ≡ map Ok (entries_at 0 draft.options)
  pub is_accepted : checked pseudo bytes ≡ Ok tt
