-- The interfaces of a section, and how they count time (draft-ietf-opsawg-pcapng, 3.5 and 4.2).
use Rattle.std.specs.Prelude.{ℕ, zero, suc, ◌+◌, ◌-◌, ◌*◌, ◌/◌, ◌%◌, ◌^◌, ◌==◌, ◌&&◌, not, nat_lt, Bool, if◌then◌else◌, List, [], ◌∷◌, length, drop, slice_index, Option, Some, None, Result, Ok, Err}
use Rattle.capture_reader.specs.Format.{ordered_number_at}
use Rattle.capture_reader.specs.declared.format.Order.{Order}
use Rattle.capture_reader.specs.declared.format.Order.TheVariants.{Big, Little}
use Rattle.bridge_records.specs.declared.pieces.fault.PieceFault.{PieceFault}
use Rattle.bridge_records.specs.declared.pieces.fault.PieceFault.TheVariants as why
use Rattle.bridge_records.specs.declared.interfaces.Interface.{Interface}

-- the option that begins here is the one that is looked for, or the list ends: at code 0, or if no option has room before the block's last four
-- bytes
abbrev pub by_option : Order → ℕ → ℕ → List ℕ → Option ℕ → Option ℕ
by_option order code place bytes later =
    if nat_lt (length bytes) 8 then None
    else if ordered_number_at order 0 2 bytes == 0 then None
    else if ordered_number_at order 0 2 bytes == code then Some place
    else later

-- the bytes of an option: its code, its length, and its value, filled up to whole words of four
abbrev pub option_size : Order → List ℕ → ℕ
option_size order bytes = 4 + (ordered_number_at order 2 2 bytes + 3) / 4 * 4

-- the place of the first option of this code, where the first `skip` bytes belong to the option before
abbrev pub option_from : Order → ℕ → ℕ → ℕ → List ℕ → Option ℕ
option_from order code place skip [] = None
option_from order code place (suc skip) (byte ∷ bytes) = option_from order code (place + 1) skip bytes
option_from order code place zero (byte ∷ bytes) =
    by_option order code place (byte ∷ bytes) (option_from order code (place + 1) (option_size order (byte ∷ bytes) - 1) bytes)

-- the place of the first option of this code in a whole list of options
abbrev pub option_place : Order → ℕ → List ℕ → Option ℕ
option_place order code options = option_from order code 0 0 options

-- the value of an option at a place has this many bytes, and all of them are there
abbrev pub has_value : Order → ℕ → ℕ → List ℕ → Bool
has_value order size place options = ordered_number_at order (place + 2) 2 options == size && not (nat_lt (length options) (place + (size + 8)))

-- how time is counted by the option at this place, or in microseconds if there is none
abbrev pub resolution_at : Order → Option ℕ → List ℕ → ℕ
resolution_at order None options = 6
resolution_at order (Some place) options = if has_value order 1 place options then slice_index options (place + 4) else 6

-- the seconds that come before all times by the option at this place, a number of 64 bits with a sign, or 0 if there is none
abbrev pub offset_at : Order → Option ℕ → List ℕ → ℕ
offset_at order None options = 0
offset_at order (Some place) options = if has_value order 8 place options then ordered_number_at order (place + 4) 8 options else 0

-- the number in the first two bytes of this one: a link type, or an interface
abbrev pub front_of : Order → ℕ → ℕ
front_of Big first = first / 65536
front_of Little first = first % 65536

-- an interface, by what follows its link type: the most captured bytes of a packet, and options
abbrev pub interface_in : Order → ℕ → List ℕ → Interface
interface_in order link bytes = record {
  link = link;
  most = ordered_number_at order 0 4 bytes;
  resolution = resolution_at order (option_place order 9 (drop 4 bytes)) (drop 4 bytes);
  offset = offset_at order (option_place order 14 (drop 4 bytes)) (drop 4 bytes);
}

-- the interface of a block, or what is wrong with it
abbrev pub interface_of : Order → ℕ → List ℕ → Result Interface PieceFault
interface_of order first bytes =
    if nat_lt (length bytes) 8 then Err why.BadBlock
    else Ok (interface_in order (front_of order first) bytes)

-- microseconds are too coarse for an interface's times
abbrev pub needs_nanos : ℕ → Bool
needs_nanos resolution = if nat_lt resolution 128 then nat_lt 6 resolution else nat_lt 134 resolution

-- how many units a second has: a power of ten, or of two for numbers from 128 on, if it has at most 64 bits
abbrev pub units_of : ℕ → Option ℕ
units_of resolution =
    if nat_lt resolution 20 then Some (10 ^ resolution)
    else if nat_lt resolution 128 then None
    else if nat_lt resolution 192 then Some (2 ^ (resolution - 128))
    else None

-- the seconds of a time of this many units
abbrev pub seconds_of : ℕ → ℕ → ℕ → ℕ
seconds_of units offset ticks = (ticks / units + offset) % 2 ^ 64 % 2 ^ 32

-- the nanoseconds after them
abbrev pub nanos_of : ℕ → ℕ → ℕ
nanos_of units ticks = ticks % units * 1000000000 / units

-- the nanoseconds or microseconds after them
abbrev pub fraction_of : Bool → ℕ → ℕ → ℕ
fraction_of nanos units ticks = if nanos then nanos_of units ticks else nanos_of units ticks / 1000
