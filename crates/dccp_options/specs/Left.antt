-- What the readers of options have left to give.
use Rattle.std.specs.Prelude.{ℕ, Bool, false, List, ◌++◌, Result, Ok, Err}
use Rattle.dccp_options.specs.declared.option.Opt.{Opt}
use Rattle.dccp_options.specs.declared.option.OptFault.{OptFault}
use Rattle.dccp_options.specs.declared.cursor.RawOpt.{RawOpt}
use Rattle.dccp_options.specs.declared.cursor.Cursor.{Cursor}
use Rattle.dccp_options.specs.declared.joined.JoinedBytes.{JoinedBytes}
use Rattle.dccp_options.specs.Grammar.{Entry, RawOption, raw_options, counted_options, marked_entries, options_of}
use Rattle.dccp_options.specs.Vectors.{vector_bytes}

-- an option without its borrow
abbrev pub raw_of : RawOpt → RawOption
raw_of raw = record { place = raw.place; kind = raw.kind; body = raw.body.now }

-- an option as the list has it, with the bytes of its data in place of their borrow
abbrev pub entry_of_option : Opt → Entry
entry_of_option option =
    record { place = option.place; mandatory = option.mandatory; kind = option.kind; body = option.body.now }

-- a reader gives an option of the list or the fault that ends it
abbrev pub item_of : Result Opt OptFault → Result Entry OptFault
item_of (Ok option) = Ok (entry_of_option option)
item_of (Err fault) = Err fault

-- all options that a cursor has left
abbrev pub raws_left : Cursor → List RawOption
raws_left cursor = raw_options cursor.place 0 cursor.rest.now

-- those of them that count on the packet
abbrev pub counted_left : Cursor → List RawOption
counted_left cursor = counted_options cursor.on_data (raws_left cursor)

-- the list that it has left, after a Mandatory or not
abbrev pub entries_left : Bool → Cursor → List (Result Entry OptFault)
entries_left marked cursor = marked_entries marked (counted_left cursor)

-- the bytes of Ack Vectors that are left
abbrev pub bytes_left : JoinedBytes → List ℕ
bytes_left joined = joined.vector.now ++ vector_bytes (options_of joined.area.now false)
