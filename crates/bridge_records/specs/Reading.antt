-- How the pieces of a capture, classic or pcapng, are read, and which records they hold (own; the savefile format of
-- libpcap and draft-ietf-opsawg-pcapng).
use Rattle.std.specs.Prelude.{◌≡◌, ◌≤◌, ⊤, ℕ, ◌+◌, ◌-◌, ◌%◌, ◌==◌, ◌||◌, not, nat_le, nat_lt, Bool, true, false, if◌then◌else◌, List, [], ◌∷◌, ◌++◌, length, min, drop, take, slice_get, Option, Some, None, IfSome, Result, Ok, Err}
use Rattle.capture_reader.specs.Format.{is_link, ordered_number_at}
use Rattle.capture_reader.specs.declared.fault.FormatFault.{FormatFault}
use Rattle.capture_reader.specs.declared.fault.FormatFault.TheVariants as fault
use Rattle.capture_reader.specs.declared.format.Format.{Format}
use Rattle.capture_reader.specs.declared.format.Order.{Order}
use Rattle.capture_reader.specs.declared.format.Order.TheVariants.{Big}
use Rattle.capture_reader.specs.declared.record.RecordHeader.{RecordHeader}
use Rattle.bridge_records.specs.Pieces.{Goes, Judgement, Stops}
use Rattle.bridge_records.specs.declared.pieces.fault.PieceError.{PieceError}
use Rattle.bridge_records.specs.declared.pieces.fault.PieceError.TheVariants as piece_error
use Rattle.bridge_records.specs.declared.pieces.fault.PieceFault.{PieceFault}
use Rattle.bridge_records.specs.declared.pieces.fault.PieceFault.TheVariants as why
use Rattle.capture_reader.specs.Records.{record_header}
use Rattle.bridge_records.specs.Links.{classic_format, known_links}
use Rattle.bridge_records.specs.Skips.{no_skips, tally_with}
use Rattle.bridge_records.specs.declared.skips.Skips.{Skips}
use Rattle.bridge_records.specs.Blocks.{block_head, block_order, ends_block, enhanced_block, interface_block, is_passed_over, is_read_block, is_section_version, length_fault, packet_block, section_block, section_order, simple_block}
use Rattle.bridge_records.specs.Interfaces.{front_of, interface_of, needs_nanos}
use Rattle.bridge_records.specs.Packets.{enhanced_head, simple_head}
use Rattle.bridge_records.specs.declared.blocks.BlockHead.{BlockHead}
use Rattle.bridge_records.specs.declared.content.Content.{Content}
use Rattle.bridge_records.specs.declared.content.Content.TheVariants.{Begins, Holds}
use Rattle.bridge_records.specs.declared.interfaces.Interface.{Interface}
use Rattle.bridge_records.specs.declared.reading.FilePlace.{FilePlace}
use Rattle.bridge_records.specs.declared.reading.FilePlace.TheVariants as place

-- How far reading is: which piece is next, the interfaces of the section, whether fractions are nanoseconds (once a pcapng file's first
-- interface was read), and what was skipped.
pub record FileState : Type 0 where
  pub place : FilePlace
  pub interfaces : List Interface
  pub nanos : Option Bool
  pub skips : Skips

-- each piece has some bytes, and not too many
abbrev pub FitsPlace : FilePlace → Type 0
FitsPlace place.Start = ⊤
FitsPlace (place.Header format) = ⊤
FitsPlace (place.Body format head) = (1 ≤ head.captured) × (head.captured ≤ 262144)
FitsPlace (place.Section order total) = (28 ≤ total) × (total ≤ 524288)
FitsPlace (place.Block order) = ⊤
FitsPlace (place.Rest order head) = (16 ≤ head.total) × (head.total ≤ 524288)
FitsPlace (place.Passing order total left) = (4 ≤ left) × (left % 4 ≡ 0)

-- before the first piece
abbrev pub first_file : FileState
first_file = record { place = place.Start; interfaces = []; nanos = None; skips = no_skips }

-- the same state at another piece
abbrev pub at : FileState → FilePlace → FileState
at file there = record file { place = there }

-- the same with one packet more whose link type is not known
abbrev pub link_noted : FileState → ℕ → FileState
link_noted file link =
    if is_link known_links link then file else record file { skips = record { links = tally_with file.skips.links link; long = file.skips.long; blocks = file.skips.blocks } }

-- the same with one packet more that is too long
abbrev pub long_noted : FileState → ℕ → FileState
long_noted file size = record file { skips = record { links = file.skips.links; long = tally_with file.skips.long size; blocks = file.skips.blocks } }

-- the same with one block more that is not read
abbrev pub block_noted : FileState → ℕ → FileState
block_noted file kind = record file { skips = record { links = file.skips.links; long = file.skips.long; blocks = tally_with file.skips.blocks kind } }

-- the same with a block that is skipped piece by piece: a packet's, or another
abbrev pub passing_noted : FileState → BlockHead → FileState
passing_noted file head = if is_read_block head.kind then long_noted file head.total else block_noted file head.kind

-- how many bytes the next piece has
abbrev pub next_length : FilePlace → ℕ
next_length place.Start = 24
next_length (place.Header format) = 16
next_length (place.Body format head) = head.captured
next_length (place.Section order total) = total - 24
next_length (place.Block order) = 12
next_length (place.Rest order head) = head.total - 12
next_length (place.Passing order total left) = min left 524288

-- the input may end between two records or blocks
abbrev pub is_between : FilePlace → Bool
is_between place.Start = false
is_between (place.Header format) = true
is_between (place.Body format head) = false
is_between (place.Section order total) = false
is_between (place.Block order) = true
is_between (place.Rest order head) = false
is_between (place.Passing order total left) = false

-- blocks are read, and no interface said whether fractions are nanoseconds
abbrev pub untold_at : FilePlace → Option Bool → Bool
untold_at (place.Block order) None = true
untold_at (place.Block order) (Some nanos) = false
untold_at place.Start nanos = false
untold_at (place.Header format) nanos = false
untold_at (place.Body format head) nanos = false
untold_at (place.Section order total) nanos = false
untold_at (place.Rest order head) nanos = false
untold_at (place.Passing order total left) nanos = false

-- the same of a file at a place where it may end
abbrev pub is_untold : FileState → Bool
is_untold file = untold_at file.place file.nanos

-- why a capture is refused whose file header has this fault
abbrev pub format_fault : FormatFault → PieceFault
format_fault fault.BadMagic = why.BadMagic
format_fault fault.BadVersion = why.BadVersion
format_fault fault.BadLink = why.BadLink

-- the file header of a classic capture
abbrev pub by_format : FileState → Result Format FormatFault → Judgement Content FileState
by_format file (Err fault) = Stops (format_fault fault)
by_format file (Ok format) = Goes (Some (Begins format.nanos)) (at file (place.Header format))

-- the first section, from its length: the rest of its first block comes next
abbrev pub by_section_length : FileState → Order → List ℕ → ℕ → Option PieceFault → Judgement Content FileState
by_section_length file order piece total (Some fault) = Stops fault
by_section_length file order piece total None =
    if not (is_section_version order 12 piece) then Stops why.BadVersion
    else Goes None (at file (place.Section order total))

-- the first section, from its byte order
abbrev pub by_section : FileState → List ℕ → Option Order → Judgement Content FileState
by_section file piece None = Stops why.BadMagic
by_section file piece (Some order) =
    by_section_length file order piece (ordered_number_at order 4 4 piece) (length_fault 28 (ordered_number_at order 4 4 piece))

-- the first bytes of a file: those of a section, or the file header of a classic capture
abbrev pub by_start : FileState → List ℕ → Judgement Content FileState
by_start file piece =
    if ordered_number_at Big 0 4 piece == section_block then by_section file piece (section_order piece)
    else by_format file (classic_format piece)

-- a record's header in a classic capture: too many captured bytes are refused, no captured bytes are a record at once, and else they are the
-- next piece
abbrev pub by_header : FileState → Format → RecordHeader → Judgement Content FileState
by_header file format head =
    if nat_lt 262144 head.captured then Stops why.TooLong
    else if head.captured == 0 then Goes (Some (Holds format.link head 0)) (at file (place.Header format))
    else Goes None (at file (place.Body format head))

-- the end of the first section's first block
abbrev pub by_section_end : FileState → Order → ℕ → List ℕ → Judgement Content FileState
by_section_end file order total piece =
    if not (ends_block order total piece) then Stops why.BadBlock
    else Goes None (at file (place.Block order))

-- a block without a body is skipped, if its type needs no body
abbrev pub by_empty : FileState → Order → BlockHead → Judgement Content FileState
by_empty file order head =
    if is_read_block head.kind || not (head.first == 12) then Stops why.BadBlock
    else Goes None (at (block_noted file head.kind) (place.Block order))

-- the first bytes of a block, from its length: the rest comes next
abbrev pub by_block_length : FileState → Order → BlockHead → Option PieceFault → Judgement Content FileState
by_block_length file order head (Some fault) = Stops fault
by_block_length file order head None =
    if not (head.total == 12) then Goes None (at file (place.Rest order head))
    else by_empty file order head

-- the first bytes of a block: a long one that is not needed is skipped
abbrev pub by_block_head : FileState → Order → BlockHead → Judgement Content FileState
by_block_head file order head =
    if is_passed_over head then Goes None (at (passing_noted file head) (place.Passing order head.total (head.total - 12)))
    else by_block_length file order head (length_fault 12 head.total)

-- the first bytes of a block, from its byte order
abbrev pub by_block : FileState → List ℕ → Option Order → Judgement Content FileState
by_block file piece None = Stops why.BadBlock
by_block file piece (Some order) = by_block_head file order (block_head order piece)

-- a further section has its own interfaces
abbrev pub by_new_section : FileState → Order → List ℕ → Judgement Content FileState
by_new_section file order piece =
    if nat_lt (length piece) 16 then Stops why.BadBlock
    else if not (is_section_version order 0 piece) then Stops why.BadVersion
    else Goes None (record file { place = place.Block order; interfaces = [] })

-- the first interface of the file says what fractions are
abbrev pub begun_nanos : Option Bool → Interface → Bool
begun_nanos (Some nanos) i = nanos
begun_nanos None i = needs_nanos i.resolution

-- so the first interface begins the capture
abbrev pub begun_capture : Option Bool → Interface → Option Content
begun_capture (Some nanos) i = None
begun_capture None i = Some (Begins (needs_nanos i.resolution))

-- an interface after those of the section
abbrev pub by_interface : FileState → Order → Result Interface PieceFault → Judgement Content FileState
by_interface file order (Err fault) = Stops fault
by_interface file order (Ok i) =
    Goes (begun_capture file.nanos i) (record file { place = place.Block order; interfaces = file.interfaces ++ (i ∷ []); nanos = Some (begun_nanos file.nanos i) })

-- the most interfaces of a section that are kept; packets of others are refused
abbrev pub most_interfaces : ℕ
most_interfaces = 256

-- a block of an interface
abbrev pub by_interface_block : FileState → Order → ℕ → List ℕ → Judgement Content FileState
by_interface_block file order first piece =
    if nat_le most_interfaces (length file.interfaces) then Goes None (at file (place.Block order))
    else by_interface file order (interface_of order first piece)

-- a packet is a record if its bytes come before the block's last four, and are not too many
abbrev pub by_packet : FileState → Order → ℕ → RecordHeader → ℕ → List ℕ → Judgement Content FileState
by_packet file order link head start piece =
    if nat_lt (length piece) (start + head.captured + 4) then Stops why.BadBlock
    else if nat_lt 262144 head.captured then Goes None (at (long_noted file head.captured) (place.Block order))
    else Goes (Some (Holds link head start)) (at (link_noted file link) (place.Block order))

-- the result of a packet from what its record says, if its time is known
abbrev pub by_head : FileState → Order → ℕ → ℕ → List ℕ → Option RecordHeader → Judgement Content FileState
by_head file order link start piece None = Stops why.BadBlock
by_head file order link start piece (Some head) = by_packet file order link head start piece

-- fractions are nanoseconds
abbrev pub is_nanos : Option Bool → Bool
is_nanos None = false
is_nanos (Some nanos) = nanos

-- a packet with its interface and time
abbrev pub by_enhanced : FileState → Order → List ℕ → Option Interface → Judgement Content FileState
by_enhanced file order piece None = Stops why.BadBlock
by_enhanced file order piece (Some i) =
    if nat_lt (length piece) 20 then Stops why.BadBlock
    else by_head file order i.link 16 piece (enhanced_head i (is_nanos file.nanos) order piece)

-- a packet of the first interface, without a time
abbrev pub by_simple : FileState → Order → ℕ → List ℕ → Option Interface → Judgement Content FileState
by_simple file order original piece None = Stops why.BadBlock
by_simple file order original piece (Some i) = by_packet file order i.link (simple_head i.most original) 0 piece

-- a block by its type
abbrev pub by_kind : FileState → Order → BlockHead → List ℕ → Judgement Content FileState
by_kind file order head piece =
    if head.kind == section_block then by_new_section file order piece
    else if head.kind == interface_block then by_interface_block file order head.first piece
    else if head.kind == simple_block then by_simple file order head.first piece (slice_get file.interfaces 0)
    else if head.kind == enhanced_block then by_enhanced file order piece (slice_get file.interfaces head.first)
    else if head.kind == packet_block then by_enhanced file order piece (slice_get file.interfaces (front_of order head.first))
    else Goes None (at (block_noted file head.kind) (place.Block order))

-- the rest of a block
abbrev pub by_rest : FileState → Order → BlockHead → List ℕ → Judgement Content FileState
by_rest file order head piece =
    if not (ends_block order head.total piece) then Stops why.BadBlock
    else by_kind file order head piece

-- a piece of a block that is skipped: the next, or the last, in which the block ends
abbrev pub by_passing : FileState → Order → ℕ → ℕ → List ℕ → Judgement Content FileState
by_passing file order total left piece =
    if nat_lt 524288 left then Goes None (at file (place.Passing order total (left - 524288)))
    else if not (ends_block order total piece) then Stops why.BadBlock
    else Goes None (at file (place.Block order))

-- the result of a piece, by its place
abbrev pub judged_at : FilePlace → FileState → List ℕ → Judgement Content FileState
judged_at place.Start file piece = by_start file piece
judged_at (place.Header format) file piece = by_header file format (record_header format.order piece)
judged_at (place.Body format head) file piece = Goes (Some (Holds format.link head 0)) (at file (place.Header format))
judged_at (place.Section order total) file piece = by_section_end file order total piece
judged_at (place.Block order) file piece = by_block file piece (block_order order piece)
judged_at (place.Rest order head) file piece = by_rest file order head piece
judged_at (place.Passing order total left) file piece = by_passing file order total left piece

-- The result of a piece of a capture: its deed is the capture's beginning, or a record.
abbrev pub file_judged : FileState → List ℕ → Judgement Content FileState
file_judged file piece = judged_at file.place file piece

-- the bytes of a record are in its piece
abbrev pub IsInside : Content → List ℕ → Type 0
IsInside (Begins nanos) piece = ⊤
IsInside (Holds link head start) piece = (start + head.captured ≤ length piece) × (head.captured ≤ 262144)

-- the bytes of a record that are in its piece
abbrev pub bytes_held : RecordHeader → ℕ → List ℕ → List ℕ
bytes_held head start piece = take head.captured (drop start piece)

-- A piece was read: the state is that of its result, or the piece is refused and nothing changed.
abbrev pub ReadsPiece : Judgement Content FileState → List ℕ → FileState → FileState → Result (Option Content) PieceFault → Type 0
ReadsPiece judged piece old new (Ok found) = (judged ≡ Goes found new) × IfSome found (λ f. IsInside f piece)
ReadsPiece judged piece old new (Err fault) = (judged ≡ Stops fault) × (new ≡ old)

-- The same for a piece that may need memory for an interface. If none was left, nothing is said.
abbrev pub ReadsOrLacks : Judgement Content FileState → List ℕ → FileState → FileState → Result (Option Content) PieceError → Type 0
ReadsOrLacks judged piece old new (Ok found) = ReadsPiece judged piece old new (Ok found)
ReadsOrLacks judged piece old new (Err (piece_error.Refused fault)) = ReadsPiece judged piece old new (Err fault)
ReadsOrLacks judged piece old new (Err piece_error.NoMemory) = Unit {0}
