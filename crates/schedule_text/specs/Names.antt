-- The words of the tool's lines (own).
use Rattle.std.specs.Prelude.{ℕ, List, [], ◌∷◌, codes, Option}
use Rattle.feature_lists.specs.declared.features.Place.{Place}
use Rattle.feature_lists.specs.declared.features.Place.TheVariants as place
use Rattle.world_events.specs.declared.event.Side.{Side}
use Rattle.world_events.specs.declared.event.Side.TheVariants as side
use Rattle.dccp_states.specs.declared.calls.Timer.{Timer}
use Rattle.dccp_states.specs.declared.calls.Timer.TheVariants as timer
use Rattle.tool_text.specs.Kinds.{named_in}
use Rattle.schedule_text.specs.declared.names.Form.{Form}
use Rattle.schedule_text.specs.declared.names.Form.TheVariants as form

-- the first word of a line, which decides what the line is
abbrev pub form_name : Form → List ℕ
form_name form.Version = codes "version"
form_name form.Plain = codes "plain"
form_name form.Iss = codes "iss"
form_name form.Set = codes "set"
form_name form.Offer = codes "offer"
form_name form.Open = codes "open"
form_name form.Deliver = codes "deliver"
form_name form.Send = codes "send"
form_name form.Prefer = codes "prefer"
form_name form.Timer = codes "timer"
form_name form.Close = codes "close"
form_name form.Abort = codes "abort"

-- the word for the end that a line is about
abbrev pub side_name : Side → List ℕ
side_name side.Client = codes "client"
side_name side.Server = codes "server"

-- the word for where a feature is located: at the side that the line names, or at its peer
abbrev pub place_name : Place → List ℕ
place_name place.Here = codes "here"
place_name place.There = codes "there"

-- the word for the timer that runs out
abbrev pub timer_name : Timer → List ℕ
timer_name timer.Request = codes "request"
timer_name timer.Ack = codes "ack"
timer_name timer.Negotiate = codes "negotiate"
timer_name timer.Rto = codes "rto"
timer_name timer.Close = codes "close"
timer_name timer.TimeWait = codes "timewait"

-- the first words of lines
abbrev pub all_forms : List Form
all_forms =
    form.Version ∷ form.Plain ∷ form.Iss ∷ form.Set ∷ form.Offer ∷ form.Open ∷ form.Deliver ∷ form.Send ∷ form.Prefer ∷ form.Timer
    ∷ form.Close ∷ form.Abort ∷ []

-- all timers of an end
abbrev pub all_timers : List Timer
all_timers = timer.Request ∷ timer.Ack ∷ timer.Negotiate ∷ timer.Rto ∷ timer.Close ∷ timer.TimeWait ∷ []

-- what a word names, if it names anything of its kind
abbrev pub form_named : List ℕ → Option Form
form_named word = named_in form_name all_forms word

-- one of two sides; a word in another case names none
abbrev pub side_named : List ℕ → Option Side
side_named word = named_in side_name (side.Client ∷ side.Server ∷ []) word

-- one of the two places that a feature can have
abbrev pub place_named : List ℕ → Option Place
place_named word = named_in place_name (place.Here ∷ place.There ∷ []) word

-- the timer with this name, if there is one
abbrev pub timer_of : List ℕ → Option Timer
timer_of word = named_in timer_name all_timers word
