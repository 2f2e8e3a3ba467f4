-- Names that more than one of the tool's texts has (own).
use Rattle.std.specs.Prelude.{ℕ, List, codes}
use Rattle.dccp_packets.specs.declared.reading.Malformed.{Malformed}
use Rattle.dccp_packets.specs.declared.reading.Malformed.TheVariants as malformed

-- the word for why bytes are no packet
abbrev pub malformed_name : Malformed → List ℕ
malformed_name malformed.Short = codes "Short"
malformed_name malformed.ReservedType = codes "ReservedType"
malformed_name malformed.OffsetSmall = codes "OffsetSmall"
malformed_name malformed.OffsetLarge = codes "OffsetLarge"
malformed_name malformed.ShortNumbers = codes "ShortNumbers"
