-- The packets of blocks (draft-ietf-opsawg-pcapng, 4.3 and 4.4).
use Rattle.std.specs.Prelude.{ℕ, ◌+◌, ◌*◌, ◌^◌, ◌==◌, Bool, if◌then◌else◌, min, List, Option, Some, None}
use Rattle.capture_reader.specs.Format.{ordered_number_at}
use Rattle.capture_reader.specs.declared.format.Order.{Order}
use Rattle.capture_reader.specs.declared.record.RecordHeader.{RecordHeader}
use Rattle.bridge_records.specs.Interfaces.{fraction_of, seconds_of, units_of}
use Rattle.bridge_records.specs.declared.interfaces.Interface.{Interface}

-- the time of a packet in units of its interface, the more significant half first
abbrev pub ticks_in : Order → List ℕ → ℕ
ticks_in order bytes = ordered_number_at order 0 4 bytes * 2 ^ 32 + ordered_number_at order 4 4 bytes

-- what a record of a packet says, for an interface whose second has this many units; none if these are too many
abbrev pub enhanced_by : Option ℕ → ℕ → Bool → Order → List ℕ → Option RecordHeader
enhanced_by None offset nanos order bytes = None
enhanced_by (Some units) offset nanos order bytes = Some (record {
  seconds = seconds_of units offset (ticks_in order bytes);
  fraction = fraction_of nanos units (ticks_in order bytes);
  captured = ordered_number_at order 8 4 bytes;
  original = ordered_number_at order 12 4 bytes;
})

-- what a record of a packet says, for this interface, from the bytes after the interface's number
abbrev pub enhanced_head : Interface → Bool → Order → List ℕ → Option RecordHeader
enhanced_head i nanos order bytes = enhanced_by (units_of i.resolution) i.offset nanos order bytes

-- how many bytes of a packet of this length are there, if this many are captured at most, or any number if that is 0
abbrev pub captured_of : ℕ → ℕ → ℕ
captured_of most original = if most == 0 then original else min original most

-- what a record of a packet without a time says
abbrev pub simple_head : ℕ → ℕ → RecordHeader
simple_head most original = record { seconds = 0; fraction = 0; captured = captured_of most original; original = original }
