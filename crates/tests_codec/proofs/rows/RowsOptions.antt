-- Options, and what Ack Vectors report (RFC 4340, sections 5.8 and 11.4), computed from the definitions. The lengths and what a Data
-- packet ignores are those of table 3 of section 5.8; the areas and vectors were written by hand.
use Rattle.std.specs.Prelude.{◌≡◌, refl, ℕ, ◌+◌, ◌-◌, Bool, true, false, List, [], ◌∷◌, ◌++◌, map, replicate, Option, None, Some, Result, Ok, Err}
use Rattle.std.specs.List.{range_with_len}
use Prim.Native.String.{String}
use Rattle.seq_circle.specs.Circle.{down}
use Rattle.dccp_options.specs.Grammar.{Entry, options_of}
use Rattle.dccp_options.specs.Kinds.{is_understood}
use Rattle.dccp_options.specs.Vectors.{VectorReport, report_of, run_length, runs_of, state_at, state_of}
use Rattle.dccp_options.specs.Written.{spelled}
use Rattle.dccp_options.specs.declared.option.OptFault.{OptFault}
use Rattle.dccp_options.specs.declared.option.OptFault.TheVariants as faults
use Rattle.dccp_options.specs.declared.report.Run.{Run}
use Rattle.tests_codec.proofs.rows.RowsSeen.{bytes}

-- a run by its highest number, how many numbers it has, and their state
abbrev pub run : ℕ → ℕ → ℕ → Run
run hi count state = record { hi = hi; count = count; state = state }

-- what the options of a packet report by their Ack Vectors, with its acknowledgement number: run by run, and at numbers this far below that
abbrev pub runs_in : Option VectorReport → List Run
runs_in None = []
runs_in (Some report) = runs_of report.ack report.bytes

abbrev pub runs : ℕ → String → Bool → List Run
runs ack digits on_data = runs_in (report_of ack (options_of (bytes digits) on_data))

abbrev pub states_in : List ℕ → Option VectorReport → Option (List (Option ℕ))
states_in below None = None
states_in below (Some report) = Some (map (λ steps. state_at report.ack report.bytes (down report.ack steps)) below)

abbrev pub reports : ℕ → String → Bool → List ℕ → Option (List (Option ℕ))
reports ack digits on_data below = states_in below (report_of ack (options_of (bytes digits) on_data))

reports_by_vectors :
    -- The numbers and states of a report by the Ack Vectors in options, run by run, and at numbers this far below the acknowledgement
    (runs 100 "260700c003400500" false ≡ run 100 1 0 ∷ run 99 1 3 ∷ run 98 4 0 ∷ run 94 1 1 ∷ run 93 6 0 ∷ [])
    × (reports 100 "260700c003400500" false (0 ∷ 1 ∷ 2 ∷ 5 ∷ 6 ∷ 7 ∷ 12 ∷ 13 ∷ 281474976710655 ∷ []) ≡ Some (Some 0 ∷ Some 3 ∷ Some 0 ∷ Some 0 ∷ Some 1 ∷ Some 0 ∷ Some 0 ∷ None ∷ None ∷ []))
    -- Around the circle's end, with an empty vector, another option between them, and a reserved state
    × (reports 2 "260301260202270480410000" false (0 ∷ 1 ∷ 2 ∷ 3 ∷ 4 ∷ 5 ∷ []) ≡ Some (Some 0 ∷ Some 0 ∷ Some 3 ∷ Some 1 ∷ Some 1 ∷ None ∷ []))
    -- An empty vector, no vector, and a packet that ignores Ack Vectors
    × (reports 2 "26020000" false (0 ∷ []) ≡ Some (None ∷ []))
    × (reports 2 "02000000" false [] ≡ None)
    × (reports 2 "260301260202270480410000" true [] ≡ None)
reports_by_vectors = (refl, refl, refl, refl, refl, refl)

-- the first and the last byte of each state, the reserved one among them, and how many numbers they cover (section 11.4)
states_and_lengths :
    (map state_of (0 ∷ 63 ∷ 64 ∷ 127 ∷ 128 ∷ 191 ∷ 192 ∷ 255 ∷ []) ≡ 0 ∷ 0 ∷ 1 ∷ 1 ∷ 3 ∷ 3 ∷ 3 ∷ 3 ∷ [])
    × (map run_length (0 ∷ 63 ∷ 64 ∷ 127 ∷ 128 ∷ 191 ∷ 192 ∷ 255 ∷ []) ≡ 1 ∷ 64 ∷ 1 ∷ 64 ∷ 1 ∷ 64 ∷ 1 ∷ 64 ∷ [])
states_and_lengths = (refl, refl)

-- an option by its place, its mark, its type and its data
abbrev pub option : ℕ → Bool → ℕ → List ℕ → Result Entry OptFault
option place mandatory kind body = Ok (record { place = place; mandatory = mandatory; kind = kind; body = body })

-- the lists of areas, on Data packets (true) and on others
options_of_areas :
    -- Two options as they are written: where each begins, whether it is mandatory, its type and its data
    (options_of (bytes "2603050120040601") false ≡ option 0 false 38 (5 ∷ []) ∷ option 4 true 32 (6 ∷ 1 ∷ []) ∷ [])
    -- No length, and one that is too long
    × (options_of (bytes "0226") false ≡ option 0 false 2 [] ∷ [])
    × (options_of (bytes "260400") false ≡ [])
    -- The same after Mandatory
    × (options_of (bytes "01260400") false ≡ Err faults.MandatoryAtEnd ∷ [])
    × (options_of (bytes "01260400") true ≡ [])
    -- Mandatory at the end, and Padding between two
    × (options_of (bytes "00000001") false ≡ Err faults.MandatoryAtEnd ∷ [])
    × (options_of (bytes "01000101") false ≡ Err faults.MandatoryTwice ∷ [])
    -- Too long, of a type that Data packets ignore
    × (options_of (bytes "2609250301") true ≡ [])
options_of_areas = (refl, refl, refl, refl, refl, refl, refl, refl)

-- from one number to another
abbrev pub from_to : ℕ → ℕ → List ℕ
from_to first last = range_with_len first (last + 1 - first)

-- something of each type from one to another
abbrev pub each : {Told : Type 0} → ℕ → ℕ → (ℕ → Told) → List Told
each first last told = map told (from_to first last)

abbrev pub Listed : Type 0
Listed = List (Result Entry OptFault)

-- the zeros after an option, which are Padding or its data
abbrev pub zeros : List ℕ
zeros = replicate 10 0

-- the lists of areas with one option of a length from 0 to 12, for each type from one to another: by itself, and after Mandatory
abbrev pub plain : Bool → ℕ → ℕ → List (List Listed)
plain on_data first last =
    each first last (λ kind. map (λ count. options_of (kind ∷ count ∷ zeros) on_data) (from_to 0 12))

abbrev pub marked : Bool → ℕ → ℕ → List (List Listed)
marked on_data first last =
    each first last (λ kind. map (λ count. options_of (1 ∷ kind ∷ count ∷ zeros) on_data) (from_to 0 12))

-- nothing is listed at any length
abbrev pub unlisted : ℕ → List Listed
unlisted kind = replicate 13 []

-- only the option, with this many zeros as its data
abbrev pub alone : ℕ → Bool → ℕ → ℕ → Listed
alone place mandatory kind size = option place mandatory kind (replicate size 0) ∷ []

-- by a length from 2 on; below is what is listed at 0 and 1
abbrev pub by_length : Listed → ℕ → Bool → ℕ → List Listed
by_length short place mandatory kind = short ∷ short ∷ map (alone place mandatory kind) (from_to 0 10)

-- lists of one option
every_kind_at_every_length :
    -- Padding is left out, and takes a mark away
    (options_of (0 ∷ zeros) false ≡ [])
    × (options_of (1 ∷ 0 ∷ zeros) false ≡ [])
    × (options_of (0 ∷ zeros) true ≡ [])
    × (options_of (1 ∷ 0 ∷ zeros) true ≡ [])
    -- Mandatory before Padding marks nothing, twice in a row it is a fault, and a Data packet passes it over
    × (options_of (1 ∷ zeros) false ≡ [])
    × (options_of (1 ∷ 1 ∷ zeros) false ≡ Err faults.MandatoryTwice ∷ [])
    × (options_of (1 ∷ zeros) true ≡ [])
    × (options_of (1 ∷ 1 ∷ zeros) true ≡ [])
    -- The other types of one byte, 2 to 31, have no length
    × (each 2 31 (λ kind. options_of (kind ∷ zeros) false) ≡ each 2 31 (λ kind. option 0 false kind [] ∷ []))
    × (each 2 31 (λ kind. options_of (1 ∷ kind ∷ zeros) false) ≡ each 2 31 (λ kind. option 1 true kind [] ∷ []))
    × (each 2 31 (λ kind. options_of (kind ∷ zeros) true) ≡ each 2 31 (λ kind. option 0 false kind [] ∷ []))
    × (each 2 31 (λ kind. options_of (1 ∷ kind ∷ zeros) true) ≡ each 2 31 (λ kind. option 1 false kind [] ∷ []))
    -- The others end the list at a length of 0 and 1, after Mandatory with its fault, and have their data from 2 on
    × (plain false 32 255 ≡ each 32 255 (by_length [] 0 false))
    × (marked false 32 255 ≡ each 32 255 (by_length (Err faults.MandatoryAtEnd ∷ []) 1 true))
    -- On Data Mandatory counts nowhere, and the types that Data packets ignore are left out
    × (plain true 32 33 ≡ each 32 33 unlisted)
    × (marked true 32 33 ≡ each 32 33 unlisted)
    × (plain true 34 35 ≡ each 34 35 unlisted)
    × (marked true 34 35 ≡ each 34 35 unlisted)
    × (plain true 36 36 ≡ each 36 36 unlisted)
    × (marked true 36 36 ≡ each 36 36 unlisted)
    × (plain true 37 37 ≡ each 37 37 (by_length [] 0 false))
    × (marked true 37 37 ≡ each 37 37 (by_length [] 1 false))
    × (plain true 38 39 ≡ each 38 39 unlisted)
    × (marked true 38 39 ≡ each 38 39 unlisted)
    × (plain true 40 40 ≡ each 40 40 unlisted)
    × (marked true 40 40 ≡ each 40 40 unlisted)
    × (plain true 41 42 ≡ each 41 42 (by_length [] 0 false))
    × (marked true 41 42 ≡ each 41 42 (by_length [] 1 false))
    × (plain true 43 43 ≡ each 43 43 unlisted)
    × (marked true 43 43 ≡ each 43 43 unlisted)
    × (plain true 44 44 ≡ each 44 44 (by_length [] 0 false))
    × (marked true 44 44 ≡ each 44 44 (by_length [] 1 false))
    × (plain true 45 127 ≡ each 45 127 (by_length [] 0 false))
    × (marked true 45 127 ≡ each 45 127 (by_length [] 1 false))
    × (plain true 128 255 ≡ each 128 255 (by_length [] 0 false))
    × (marked true 128 255 ≡ each 128 255 (by_length [] 1 false))
every_kind_at_every_length = (refl, refl, refl, refl, refl, refl, refl, refl, refl, refl, refl, refl, refl, refl, refl, refl, refl, refl, refl, refl, refl, refl, refl, refl, refl, refl, refl, refl, refl, refl, refl, refl, refl, refl, refl, refl)

-- whether a type is understood with each size of its data, from none to 253 bytes
abbrev pub sizes : ℕ → List Bool
sizes kind = map (is_understood kind) (from_to 0 253)

-- the types of table 3, and all others; those below 32 have no data
understood_types_and_lengths :
    (map (λ kind. is_understood kind 0) (from_to 0 2) ≡ replicate 3 true)
    × (map (λ kind. is_understood kind 0) (from_to 3 31) ≡ replicate 29 false)
    × (sizes 32 ≡ false ∷ replicate 253 true)
    × (sizes 33 ≡ false ∷ replicate 253 true)
    × (sizes 34 ≡ false ∷ replicate 253 true)
    × (sizes 35 ≡ false ∷ replicate 253 true)
    × (sizes 36 ≡ replicate 254 false)
    × (sizes 37 ≡ false ∷ replicate 6 true ++ replicate 247 false)
    × (sizes 38 ≡ replicate 254 true)
    × (sizes 39 ≡ replicate 254 true)
    × (sizes 40 ≡ replicate 254 true)
    × (sizes 41 ≡ replicate 4 false ++ true ∷ replicate 249 false)
    × (sizes 42 ≡ replicate 4 false ++ true ∷ false ∷ true ∷ false ∷ true ∷ replicate 245 false)
    × (sizes 43 ≡ replicate 2 false ++ true ∷ false ∷ true ∷ replicate 249 false)
    × (sizes 44 ≡ replicate 4 false ++ true ∷ replicate 249 false)
    × (each 45 127 sizes ≡ replicate 83 (replicate 254 false))
    × (each 128 255 sizes ≡ replicate 128 (replicate 254 false))
understood_types_and_lengths = (refl, refl, refl, refl, refl, refl, refl, refl, refl, refl, refl, refl, refl, refl, refl, refl, refl)

-- two options, of which the second is mandatory
written_options :
    (spelled false 38 (5 ∷ []) ++ spelled true 32 (6 ∷ 1 ∷ []) ≡ 38 ∷ 3 ∷ 5 ∷ 1 ∷ 32 ∷ 4 ∷ 6 ∷ 1 ∷ [])
written_options = refl
