-- What `show` writes for a capture: the lines of its records, and then how many there were, or the fault that ended them (own).
use Rattle.std.specs.Prelude.{ℕ, ◌+◌, ◌<◌, ◌^◌, ◌++◌, Bool, is_some, List, [], ◌∷◌, length, codes, Option, Some, None}
use Rattle.capture_reader.specs.declared.fault.CaptureFault.{CaptureFault}
use Rattle.capture_reader.specs.declared.fault.CaptureFault.TheVariants as fault
use Rattle.capture_reader.specs.Records.{RecordParts, captured}
use Rattle.packet_show.specs.declared.flows.Shown.{Shown}
use Rattle.packet_show.specs.declared.flows.Shown.TheVariants.{Line, Skipped}
use Rattle.packet_show.specs.Flows.{Flow}
use Rattle.packet_show.specs.Lines.{shows}
use Rattle.tool_text.specs.Text.{labelled_number}
use Rattle.packet_show.specs.declared.show.Tally.{Tally}

-- the word for the fault that ended a capture
abbrev pub fault_name : CaptureFault → List ℕ
fault_name fault.BadMagic = codes "BadMagic"
fault_name fault.BadVersion = codes "BadVersion"
fault_name fault.BadLink = codes "BadLink"
fault_name fault.CutShort = codes "CutShort"
fault_name fault.RecordTooLong = codes "RecordTooLong"
fault_name fault.ReadFault = codes "ReadFault"
fault_name fault.NoMemory = codes "NoMemory"
fault_name fault.TooLarge = codes "TooLarge"

-- the tally before the first record
abbrev pub first_tally : Tally
first_tally = record { shown = 0; skipped = 0; flows = [] }

-- The number of all records is below 2^64.
abbrev pub CountsFit : Tally → Type 0
CountsFit tally = tally.shown + tally.skipped < 2 ^ 64

-- one record more can be counted
abbrev pub CanCount : Tally → Type 0
CanCount tally = tally.shown + tally.skipped + 1 < 2 ^ 64

-- the tally with one more record, with a line or skipped, and the flows that were seen then
abbrev pub counted_record : Tally → Shown → List Flow → Tally
counted_record tally Line flows = record { shown = tally.shown + 1; skipped = tally.skipped; flows = flows }
counted_record tally Skipped flows = record { shown = tally.shown; skipped = tally.skipped + 1; flows = flows }

-- the tally once this record was looked at, with its flow if that is new
abbrev pub tallied : Tally → RecordParts → Tally
tallied tally entry = counted_record tally (shows tally.flows entry).shown (shows tally.flows entry).flows

-- a record's line, or nothing if it is skipped
abbrev pub record_text : Tally → RecordParts → List ℕ
record_text tally entry = (shows tally.flows entry).text

-- the last line of a capture without a fault: how many records it has, shown and skipped, and how many flows
abbrev pub counts_line : Tally → List ℕ
counts_line tally =
    labelled_number (codes "records ") (tally.shown + tally.skipped) ++ labelled_number (codes " shown ") tally.shown
    ++ labelled_number (codes " skipped ") tally.skipped ++ labelled_number (codes " flows ") (length tally.flows) ++ codes "\n"

-- a fault's line says how many whole records come before it
abbrev pub fault_line : Tally → CaptureFault → List ℕ
fault_line tally why =
    codes "capture " ++ fault_name why ++ codes " after " ++ labelled_number (codes "record ") (tally.shown + tally.skipped) ++ codes "\n"

-- what follows the lines of a capture's records: the counts, or the fault that ended them
abbrev pub last_line : Tally → Option CaptureFault → List ℕ
last_line tally None = counts_line tally
last_line tally (Some why) = fault_line tally why

-- the text of these records, and of what ended them, after those that were tallied
abbrev pub text_from : Tally → List RecordParts → Option CaptureFault → List ℕ
text_from tally [] end = last_line tally end
text_from tally (entry ∷ entries) end = record_text tally entry ++ text_from (tallied tally entry) entries end

-- what `show` writes of an input
abbrev pub capture_text : List ℕ → List ℕ
capture_text input = text_from first_tally (captured input).records (captured input).end

-- the capture has a fault
abbrev pub is_faulty : List ℕ → Bool
is_faulty input = is_some (captured input).end

-- how many bytes these records take, each with its header of 16
abbrev pub size_of : List RecordParts → ℕ
size_of [] = 0
size_of (entry ∷ entries) = (16 + length entry.bytes) + size_of entries

-- where the last of these records ends in an input, whose file header has 24 bytes; 0 if there is none
abbrev pub end_of_records : List RecordParts → ℕ
end_of_records [] = 0
end_of_records (entry ∷ entries) = 24 + size_of (entry ∷ entries)

-- where the last whole record of an input ends; 0 if it has none
abbrev pub records_end : List ℕ → ℕ
records_end input = end_of_records (captured input).records
