-- What a record of a capture says, as words of a picture (own).
use Rattle.std.specs.Prelude.{ℕ, ◌+◌, ◌/◌, ◌%◌, ◌++◌, Bool, min, if◌then◌else◌, List, [], ◌∷◌, codes, decimal}
use Rattle.std.specs.List.{concat}
use Rattle.capture_reader.specs.Records.{RecordParts}
use Rattle.dccp_packets.specs.Grammar.{Parts}
use Rattle.packet_show.specs.Lines.{words_text}

-- a fraction of a second in milliseconds
abbrev pub milliseconds : Bool → ℕ → ℕ
milliseconds nanos fraction = if nanos then min (fraction / 1000000) 999 else min (fraction / 1000) 999

-- three digits of a number below 1,000
abbrev pub three_digits : ℕ → List ℕ
three_digits number = (48 + number / 100) ∷ (48 + number / 10 % 10) ∷ (48 + number % 10) ∷ []

-- a record's number and its time, down to milliseconds
unfoldable pub stamp : RecordParts → List ℕ
stamp e = concat (decimal e.number ∷ codes " " ∷ decimal e.seconds ∷ codes "." ∷ three_digits (milliseconds e.nanos e.fraction) ∷ [])

-- a record's number and time, and what the packet in the record says
unfoldable pub record_words : RecordParts → Parts → List ℕ
record_words e packet = stamp e ++ words_text packet
