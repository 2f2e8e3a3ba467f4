-- The lines as they are printed, word by word (own).
use Rattle.std.specs.Prelude.{ℕ, ◌++◌, Bool, List, [], ◌∷◌, map, codes, decimal, if◌then◌else◌}
use Rattle.std.specs.List.{join_with_byte}
use Rattle.tool_text.specs.Text.{hex_or_dash}
use Rattle.tool_text.specs.Words.{joined}
use Rattle.feature_lists.specs.Features.{feature_number}
use Rattle.world_events.specs.declared.event.Side.{Side}
use Rattle.world_events.specs.declared.event.Side.TheVariants.{Client, Server}
use Rattle.world_events.specs.declared.event.Event.{Event}
use Rattle.world_events.specs.declared.event.Event.TheVariants as event
use Rattle.schedule_text.specs.declared.line.Line.{Line}
use Rattle.schedule_text.specs.declared.line.Line.TheVariants as line
use Rattle.schedule_text.specs.declared.names.Form.TheVariants as form
use Rattle.schedule_text.specs.Names.{form_name, side_name, place_name, timer_name}

-- numbers, separated by commas
abbrev pub values_text : List ℕ → List ℕ
values_text values = join_with_byte 44 (map decimal values)

-- the letter of a sender, with which a frame's name begins
abbrev pub side_letter : Side → List ℕ
side_letter Client = codes "c"
side_letter Server = codes "s"

-- the name of a frame in a line, such as `c12` for the client's frame with index 12
abbrev pub frame_name : Side → ℕ → List ℕ
frame_name from index = side_letter from ++ decimal index

-- The words that a schedule has for an event, its form first. It has none for early data: the words for these are for people, and no program
-- reads them.
abbrev pub event_words : Event → List (List ℕ)
event_words event.Open = form_name form.Open ∷ []
event_words (event.Deliver from index) = form_name form.Deliver ∷ frame_name from index ∷ []
event_words (event.Send side payload) = form_name form.Send ∷ side_name side ∷ hex_or_dash payload ∷ []
event_words (event.SendEarly side payload) = codes "early" ∷ side_name side ∷ hex_or_dash payload ∷ []
event_words (event.Prefer side feature place values) =
    form_name form.Prefer ∷ side_name side ∷ place_name place ∷ decimal (feature_number feature) ∷ values_text values ∷ []
event_words (event.Timer side timer) = form_name form.Timer ∷ side_name side ∷ timer_name timer ∷ []
event_words (event.Close side) = form_name form.Close ∷ side_name side ∷ []
event_words (event.Abort side) = form_name form.Abort ∷ side_name side ∷ []

-- the further word of an offer that is marked with Mandatory
abbrev pub mandatory_words : Bool → List (List ℕ)
mandatory_words mandatory = if mandatory then codes "mandatory" ∷ [] else []

-- the words of a line that says this; one that says nothing has none
abbrev pub line_words : Line → List (List ℕ)
line_words line.Nothing = []
line_words (line.Version number) = form_name form.Version ∷ decimal number ∷ []
line_words line.Plain = form_name form.Plain ∷ []
line_words (line.Iss side number) = form_name form.Iss ∷ side_name side ∷ decimal number ∷ []
line_words (line.Set side place feature values) =
    form_name form.Set ∷ side_name side ∷ place_name place ∷ decimal (feature_number feature) ∷ values_text values ∷ []
line_words (line.Offer side place feature mandatory) =
    form_name form.Offer ∷ side_name side ∷ place_name place ∷ decimal (feature_number feature) ∷ mandatory_words mandatory
line_words (line.Event event) = event_words event

-- an event as its line has it
abbrev pub event_text : Event → List ℕ
event_text event = joined (event_words event)
