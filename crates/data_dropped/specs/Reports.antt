-- What the Data Dropped options of a packet report (RFC 4340, section 11.7).
use Rattle.std.specs.Prelude.{ℕ, ◌==◌, List, [], ◌∷◌, ◌++◌, Option, Result, Ok, Err, if◌then◌else◌}
use Rattle.std.specs.List.{concat}
use Rattle.dccp_options.specs.Grammar.{Entry}
use Rattle.dccp_options.specs.Kinds.{data_dropped}
use Rattle.dccp_options.specs.Vectors.{VectorReport, joined_report}
use Rattle.dccp_options.specs.declared.option.OptFault.{OptFault}

-- the data of an item of the list, if it is a Data Dropped option
abbrev pub dropped_in : Result Entry OptFault → List (List ℕ)
dropped_in (Err _) = []
dropped_in (Ok entry) = if entry.kind == data_dropped then entry.body ∷ [] else []

-- the data of the Data Dropped options, in their order
abbrev pub drop_options : List (Result Entry OptFault) → List (List ℕ)
drop_options [] = []
drop_options (item ∷ rest) = dropped_in item ++ drop_options rest

-- several options of a packet continue each other (RFC 4340, section 11.7)
abbrev pub drop_data : List (Result Entry OptFault) → List ℕ
drop_data items = concat (drop_options items)

-- what the options of a packet with this acknowledgement number report; none if there is no Data Dropped
abbrev pub drop_report : ℕ → List (Result Entry OptFault) → Option VectorReport
drop_report ack items = joined_report ack (drop_options items)
