-- The lines that are accepted, by their words (own).
use Rattle.std.specs.Prelude.{◌≡◌, ℕ, ◌≤◌, Bool, true, if◌then◌else◌, List, [], ◌∷◌, length, codes, Option, Some, None}
use Rattle.std.specs.List.{list_all}
use Rattle.world_events.specs.declared.event.Event.TheVariants as event
use Rattle.schedule_text.specs.declared.line.FrameLine.{FrameLine}
use Rattle.schedule_text.specs.declared.line.Line.{Line}
use Rattle.schedule_text.specs.declared.line.Line.TheVariants as line
use Rattle.schedule_text.specs.declared.names.Form.TheVariants as form
use Rattle.schedule_text.specs.Names.{form_name, side_name}
use Rattle.tool_text.specs.Words.{joined}
use Rattle.tool_text.specs.Digits.{AreDigitsOf, AreDigitsOrDash}
use Rattle.schedule_text.specs.Printing.{line_words}
use Rattle.schedule_text.specs.Range.{IsSayable}
use Rattle.tool_text.specs.Lines.{is_text, says_nothing}

-- the digits of the data that are sent, in the text of their line
pub record IsSendLine (text : List ℕ) (side : List ℕ) (payload : List ℕ) : Type 0 where
  pub digits : List ℕ
  pub spells : AreDigitsOrDash digits payload
  pub words : text ≡ joined (form_name form.Send ∷ (side ∷ (digits ∷ [])))
  pub few : length payload ≤ 2042

-- a text is a line that says this: the words for it, separated by one space, with digits of either case
abbrev pub IsLine : List ℕ → Line → Type 0
IsLine text line.Nothing = (says_nothing text ≡ true) × (length text ≤ 4096) × (list_all is_text text ≡ true)
IsLine text (line.Version number) = (text ≡ joined (line_words (line.Version number))) × IsSayable (line.Version number)
IsLine text line.Plain = text ≡ joined (line_words line.Plain)
IsLine text (line.Iss side number) = (text ≡ joined (line_words (line.Iss side number))) × IsSayable (line.Iss side number)
IsLine text (line.Set side place feature values) =
    (text ≡ joined (line_words (line.Set side place feature values))) × IsSayable (line.Set side place feature values)
IsLine text (line.Offer side place feature mandatory) =
    (text ≡ joined (line_words (line.Offer side place feature mandatory))) × IsSayable (line.Offer side place feature mandatory)
IsLine text (line.Event event.Open) = text ≡ joined (line_words (line.Event event.Open))
IsLine text (line.Event (event.Deliver from index)) =
    (text ≡ joined (line_words (line.Event (event.Deliver from index)))) × IsSayable (line.Event (event.Deliver from index))
IsLine text (line.Event (event.Send side payload)) = IsSendLine text (side_name side) payload
IsLine text (line.Event (event.SendEarly side payload)) = ⊥
IsLine text (line.Event (event.Prefer side feature place values)) =
    (text ≡ joined (line_words (line.Event (event.Prefer side feature place values))))
    × IsSayable (line.Event (event.Prefer side feature place values))
IsLine text (line.Event (event.Timer side timer)) = text ≡ joined (line_words (line.Event (event.Timer side timer)))
IsLine text (line.Event (event.Close side)) = text ≡ joined (line_words (line.Event (event.Close side)))
IsLine text (line.Event (event.Abort side)) = text ≡ joined (line_words (line.Event (event.Abort side)))

-- The words of a line with a frame: `seal` if its checksum is to be set, then its digits.
abbrev pub frame_words : Bool → List ℕ → List (List ℕ)
frame_words seal digits = if seal then codes "seal" ∷ (digits ∷ []) else digits ∷ []

-- a text is a frame's words: digits of 1 to 2,044 bytes, and of at least 8 if the checksum is to be set
pub record IsFrameOf (text : List ℕ) (frame : FrameLine) : Type 0 where
  pub digits : List ℕ
  pub spells : AreDigitsOf digits frame.bytes
  pub words : text ≡ joined (frame_words frame.seal digits)
  pub some : 1 ≤ length frame.bytes
  pub few : length frame.bytes ≤ 2044
  pub covered : frame.seal ≡ true → 8 ≤ length frame.bytes

-- a text is a replay's line that has this frame, or one without a frame: an empty line or a comment
abbrev pub IsFrameLine : List ℕ → Option FrameLine → Type 0
IsFrameLine text None = (says_nothing text ≡ true) × (length text ≤ 4096) × (list_all is_text text ≡ true)
IsFrameLine text (Some frame) = IsFrameOf text frame
