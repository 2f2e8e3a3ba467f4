-- The records that a reader of captures finds are unwrapped by `unwrap`, and written by `json`, one by one.
use Rattle.std.proofs.Common.{◌≡◌, refl, ap, ◌∙◌, ℕ, Bool, List, [], ◌∷◌, None, Ok}
use Rattle.std.specs.Prelude.{map}
use Rattle.capture_reader.specs.Format.{opened}
use Rattle.capture_reader.specs.Records.{RecordParts, captured}
use Rattle.capture_reader.specs.declared.format.Format.{Format}
use Rattle.bridge_records.proofs.Passing.{deeds_along, records-passed}
use Rattle.bridge_command.specs.Telling.{JsonRecord, JsonParts, all_told, first_telling, json_pieces, json_work, telling_after, record_told}
use Rattle.bridge_command.specs.Unwrapping.{Begins, CapturePart, Holds, unwrap_work, unwrapped_entry, unwrapped_parts, unwrapped_pieces}

all-unwrapped : (entries : List RecordParts) → deeds_along unwrap_work tt entries ≡ map (λ e. Holds (unwrapped_entry e)) entries
all-unwrapped [] = refl
all-unwrapped (entry ∷ entries) = ap (λ (more : List CapturePart). Holds (unwrapped_entry entry) ∷ more) (all-unwrapped entries)

pub records-unwrapped : (input : List ℕ) (format : Format) → opened input ≡ Ok format → (captured input).end ≡ None
    → ((unwrapped_pieces input).refusal ≡ None) × ((unwrapped_pieces input).deeds ≡ unwrapped_parts format.nanos (captured input).records)
records-unwrapped input format told whole =
    let are = records-passed unwrap_work tt input format told whole in
    (are.0, are.1 ∙ ap (λ (more : List CapturePart). Begins format.nanos ∷ more) (all-unwrapped (captured input).records))

are-told : (s : JsonParts) (entries : List RecordParts) → deeds_along json_work s entries ≡ all_told s entries
are-told s [] = refl
are-told s (entry ∷ entries) = ap (λ (more : List JsonRecord). record_told s entry ∷ more) (are-told (telling_after s entry) entries)

pub records-told : (payload : Bool) (input : List ℕ) (format : Format) → opened input ≡ Ok format → (captured input).end ≡ None
    → ((json_pieces payload input).refusal ≡ None) × ((json_pieces payload input).deeds ≡ all_told (first_telling payload) (captured input).records)
records-told payload input format told whole =
    let are = records-passed json_work (first_telling payload) input format told whole in
    (are.0, are.1 ∙ are-told (first_telling payload) (captured input).records)
