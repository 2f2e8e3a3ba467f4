-- What the words after the second tool's name ask for (own).
use Rattle.std.specs.Prelude.{◌≡◌, ◌||◌, ◌==◌, ◌^◌, ◌≤◌, not, nat_lt, ℕ, Bool, true, false, List, [], ◌∷◌, drop, length, take, codes, Option, Some, None, option_and_then, if◌then◌else◌, String, string_bytes}
use Rattle.std.specs.Str.{bytes_eq}
use Rattle.std.specs.declared.alloc.Global.{Global}
use Rattle.bridge_command.specs.declared.words.BridgeForm.{BridgeForm}
use Rattle.bridge_command.specs.declared.words.BridgeForm.TheVariants as form
use Rattle.bridge_command.specs.declared.words.Picture.{Picture}
use Rattle.bridge_command.specs.declared.words.Picture.TheVariants as pictures
use Rattle.tool_forms.specs.BridgeWords.{IsFlowWithinBounds, IsRangeWithinBounds, IsRunWithinBounds, flow_side_of, seed_range_of, seed_run_of}
use Rattle.tool_forms.specs.Words.{is_word}
use Rattle.tool_text.specs.Numbers.{number_below}

-- No word may follow `capture` and `unwrap`.
abbrev pub stands_alone : BridgeForm → List (String Global) → Option BridgeForm
stands_alone form [] = Some form
stands_alone form (word ∷ words) = None

-- The words after `seed`.
abbrev pub asked_seed : List (String Global) → Option BridgeForm
asked_seed words = option_and_then (λ run. Some (form.Seed run)) (seed_run_of words)

-- The words after `seeds`.
abbrev pub asked_seeds : List (String Global) → Option BridgeForm
asked_seeds words = option_and_then (λ range. Some (form.Seeds range)) (seed_range_of words)

-- The words after `frames`.
abbrev pub asked_flow : List (String Global) → Option BridgeForm
asked_flow words = option_and_then (λ asked. Some (form.Frames asked)) (flow_side_of words)

-- The words after `json`: none, or `--payload`.
abbrev pub asked_json : List (String Global) → Option BridgeForm
asked_json [] = Some (form.Json false)
asked_json (word ∷ []) = if is_word word (codes "--payload") then Some (form.Json true) else None
asked_json _ = None

-- the picture of a flow, which is numbered from 1
abbrev pub numbered_picture : Picture → Option ℕ → Option BridgeForm
numbered_picture picture None = None
numbered_picture picture (Some flow) = if flow == 0 then None else Some (form.FlowPicture picture flow)

-- the picture of the flow whose number this text is: decimal, without sign or leading zero, 1 to 2^64 - 1
abbrev pub flow_picture : Picture → List ℕ → Option BridgeForm
flow_picture picture text = numbered_picture picture (number_below (2 ^ 64) text)

-- the picture of the flow in one word, `--flow=F`
abbrev pub joined_picture : Picture → List ℕ → Option BridgeForm
joined_picture picture word =
    if nat_lt (length word) 7 || not (bytes_eq (take 7 word) (codes "--flow=")) then None else flow_picture picture (drop 7 word)

-- The words after `ladder` or `windows`: none, or `--flow` and a number.
abbrev pub asked_picture : Picture → List (String Global) → Option BridgeForm
asked_picture picture [] = Some (form.Picture picture)
asked_picture picture (word ∷ []) = joined_picture picture (string_bytes word)
asked_picture picture (name ∷ flow ∷ []) = if is_word name (codes "--flow") then flow_picture picture (string_bytes flow) else None
asked_picture picture _ = None

-- The form of a first word and those after it: `capture`, `unwrap`, `seed`, `seeds`, `frames`, `json`, `ladder`
-- or `windows`.
unfoldable pub form_after : String Global → List (String Global) → Option BridgeForm
form_after first words =
    if is_word first (codes "capture") then stands_alone form.Capture words
    else if is_word first (codes "unwrap") then stands_alone form.Unwrap words
    else if is_word first (codes "seed") then asked_seed words
    else if is_word first (codes "seeds") then asked_seeds words
    else if is_word first (codes "frames") then asked_flow words
    else if is_word first (codes "json") then asked_json words
    else if is_word first (codes "ladder") then asked_picture pictures.Ladder words
    else if is_word first (codes "windows") then asked_picture pictures.Windows words
    else None

-- The form that the words have.
abbrev pub asked_form : List (String Global) → Option BridgeForm
asked_form [] = None
asked_form (first ∷ words) = form_after first words

-- the numbers of a form are within their bounds
abbrev pub IsBridgeFormWithinBounds : BridgeForm → Type 0
IsBridgeFormWithinBounds form.Capture = Unit {0}
IsBridgeFormWithinBounds form.Unwrap = Unit {0}
IsBridgeFormWithinBounds (form.Seed run) = IsRunWithinBounds run
IsBridgeFormWithinBounds (form.Seeds range) = IsRangeWithinBounds range
IsBridgeFormWithinBounds (form.Frames asked) = IsFlowWithinBounds asked
IsBridgeFormWithinBounds (form.Json payload) = Unit {0}
IsBridgeFormWithinBounds (form.Picture picture) = Unit {0}
IsBridgeFormWithinBounds (form.FlowPicture picture flow) = 1 ≤ flow

-- Only the words after `seed`, `seeds` and `frames` are settings.
abbrev pub has_settings_after : String Global → Bool
has_settings_after first = (is_word first (codes "seed") || is_word first (codes "seeds")) || is_word first (codes "frames")

-- Some word may be a setting.
abbrev pub has_bridge_settings : List (String Global) → Bool
has_bridge_settings [] = false
has_bridge_settings (first ∷ words) = has_settings_after first

-- The line that is written for all other words.
abbrev pub bridge_usage : List ℕ
bridge_usage = codes "usage: dccp_bridge capture | unwrap | seed --seed S --events E | seeds --first F --seeds N --events E | frames --flow F --side server|client | json [--payload] | ladder [--flow F] | windows [--flow F]\n"

-- For any form that the words have, something holds of it.
abbrev pub OnAsked : List (String Global) → (BridgeForm → Type 0) → Type 0
OnAsked words Holds = (form : BridgeForm) → asked_form words ≡ Some form → Holds form
