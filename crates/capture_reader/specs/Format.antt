-- The file header of a classic capture (the savefile format of libpcap).
use Rattle.std.specs.Prelude.{ℕ, ◌&&◌, ◌==◌, not, true, false, Bool, nat_lt, if◌then◌else◌, List, [], ◌∷◌, length, take, drop, Option, Some, None, Result, Ok, Err}
use Rattle.std.specs.List.{list_any}
use Rattle.byteorder.specs.Endian.{big_number, little_number}
use Rattle.capture_reader.specs.declared.fault.CaptureFault.{CaptureFault}
use Rattle.capture_reader.specs.declared.fault.CaptureFault.TheVariants.{BadMagic, BadVersion, BadLink, CutShort}
use Rattle.capture_reader.specs.declared.fault.FormatFault.{FormatFault}
use Rattle.capture_reader.specs.declared.fault.FormatFault.TheVariants as fault
use Rattle.capture_reader.specs.declared.format.Order.{Order}
use Rattle.capture_reader.specs.declared.format.Order.TheVariants.{Big, Little}
use Rattle.capture_reader.specs.declared.format.Format.{Format}

-- the number in some bytes from a place on, in the capture's byte order
abbrev pub ordered_number_at : Order → ℕ → ℕ → List ℕ → ℕ
ordered_number_at Big place count bytes = big_number count (drop place bytes)
ordered_number_at Little place count bytes = little_number count (drop place bytes)

-- the magic number a1b2c3d4: fractions are microseconds
abbrev pub microseconds : ℕ
microseconds = 2712847316

-- a1b23c4d: fractions are nanoseconds
abbrev pub nanoseconds : ℕ
nanoseconds = 2712812621

-- the magic number, in the first four bytes
abbrev pub magic_in : Order → List ℕ → ℕ
magic_in order bytes = ordered_number_at order 0 4 bytes

-- the version is 2.4
abbrev pub is_version : Order → List ℕ → Bool
is_version order bytes = ordered_number_at order 4 2 bytes == 2 && ordered_number_at order 6 2 bytes == 4

-- the link types that a reader of captures takes: 1 is Ethernet, 101 raw IP
abbrev pub shown_links : List ℕ
shown_links = 1 ∷ 101 ∷ []

-- a link type is one of these
abbrev pub is_link : List ℕ → ℕ → Bool
is_link links link = list_any (λ known. known == link) links

-- a header in this byte order, by its version and its link type, which has to be one of these
abbrev pub format_in : List ℕ → Order → Bool → List ℕ → Result Format FormatFault
format_in links order nanos bytes =
    if not (is_version order bytes) then Err fault.BadVersion
    else if not (is_link links (ordered_number_at order 20 4 bytes)) then Err fault.BadLink
    else Ok (record { order = order; nanos = nanos; link = ordered_number_at order 20 4 bytes })

-- the byte order in which the first four bytes are a magic number, which is the order of all further numbers, and
-- whether it is that of nanoseconds
abbrev pub magic_of : List ℕ → Option (Order × Bool)
magic_of bytes =
    if magic_in Big bytes == microseconds then Some (Big, false)
    else if magic_in Big bytes == nanoseconds then Some (Big, true)
    else if magic_in Little bytes == microseconds then Some (Little, false)
    else if magic_in Little bytes == nanoseconds then Some (Little, true)
    else None

-- a whole header by its magic number
abbrev pub format_by : List ℕ → Option (Order × Bool) → List ℕ → Result Format FormatFault
format_by links None bytes = Err fault.BadMagic
format_by links (Some magic) bytes = format_in links magic.0 magic.1 bytes

-- a whole header, if these link types are known
abbrev pub format_of : List ℕ → List ℕ → Result Format FormatFault
format_of links bytes = format_by links (magic_of bytes) bytes

-- the fault of a capture whose file header has this fault
abbrev pub header_fault : FormatFault → CaptureFault
header_fault fault.BadMagic = BadMagic
header_fault fault.BadVersion = BadVersion
header_fault fault.BadLink = BadLink

-- the format that was read, or the capture's fault
abbrev pub or_fault : Result Format FormatFault → Result Format CaptureFault
or_fault (Ok format) = Ok format
or_fault (Err why) = Err (header_fault why)

-- the format of an input, whose first 24 bytes are the file header
abbrev pub opened : List ℕ → Result Format CaptureFault
opened bytes = if nat_lt (length bytes) 24 then Err CutShort else or_fault (format_of shown_links (take 24 bytes))
