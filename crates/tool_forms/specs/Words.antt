-- What the words after the program's name ask for (own).
use Rattle.std.specs.Prelude.{◌≡◌, ◌≤◌, ◌||◌, ℕ, Bool, false, List, [], ◌∷◌, codes, Option, Some, None, is_some, option_and_then, if◌then◌else◌, String, string_bytes, IfOk, Result}
use Rattle.std.specs.Str.{bytes_eq}
use Rattle.std.specs.declared.alloc.Global.{Global}
use Rattle.world_events.specs.declared.event.Side.{Side}
use Rattle.tool_forms.specs.declared.settings.Table.TheVariants as table
use Rattle.tool_forms.specs.declared.settings.Setting.TheVariants as setting
use Rattle.tool_forms.specs.Given.{Value}
use Rattle.tool_forms.specs.Given as value
use Rattle.tool_forms.specs.Settings.{given_once, words_give}
use Rattle.tool_forms.specs.CampaignWords.{IsWithinBounds, campaign_of}
use Rattle.tool_forms.specs.declared.words.Form.{Form}
use Rattle.tool_forms.specs.declared.words.Form.TheVariants as form

-- A word is this text.
abbrev pub is_word : String Global → List ℕ → Bool
is_word word text = bytes_eq (string_bytes word) text

-- the words say this, if there was memory to read them
abbrev pub WordsSay : {A E : Type 0} → Result A E → A → Type 0
WordsSay result said = IfOk result (λ read. read ≡ said)

-- the side that `--side` is given
abbrev pub side_given : Option (Option Value) → Option Side
side_given (Some (Some (value.End side))) = Some side
side_given _ = None

-- the number of a setting that may be left out
abbrev pub number_given : Option Value → Option ℕ
number_given (Some (value.Number n)) = Some n
number_given _ = None

-- a replay without a receive buffer, or with one for this many packets
abbrev pub replay_with : Side → Bool → Option ℕ → Form
replay_with side plain None = form.Replay side plain
replay_with side plain (Some capacity) = form.Buffered side plain capacity

-- a replay of this side, without its offers if `--plain` is given, and with a receive buffer if `--buffer` is
abbrev pub replays : Option (Option Value) → Option Side → Option (Option Value) → Option Form
replays (Some plain) (Some side) (Some buffer) = Some (replay_with side (is_some plain) (number_given buffer))
replays _ _ _ = None

-- The words after `replay`: the side once, and `--plain` and `--buffer` at most once.
abbrev pub replay_of : List (String Global) → Option Form
replay_of words =
    replays (words_give table.Replay setting.Plain words) (side_given (words_give table.Replay setting.Side words)) (words_give table.Replay setting.Buffer words)

-- The words after `campaign`.
abbrev pub campaigns : List (String Global) → Option Form
campaigns words = option_and_then (λ campaign. Some (form.Campaign campaign)) (campaign_of words)

-- a listener of at most this many flows
abbrev pub listener_for : Option ℕ → Option Form
listener_for most = option_and_then (λ most. Some (form.Listen most)) most

-- The words after `listen`: the most flows, given once.
abbrev pub listen_of : List (String Global) → Option Form
listen_of words = listener_for (given_once table.Listen setting.Most words)

-- No word may follow `run`, `show` and `ecn`.
abbrev pub takes_no_word : Form → List (String Global) → Option Form
takes_no_word form [] = Some form
takes_no_word form (word ∷ words) = None

-- The form that the words have: `run`, `replay`, `campaign`, `show`, `listen` or `ecn`.
unfoldable pub form_of : List (String Global) → Option Form
form_of [] = None
form_of (first ∷ words) =
    if is_word first (codes "run") then takes_no_word form.Run words
    else if is_word first (codes "replay") then replay_of words
    else if is_word first (codes "campaign") then campaigns words
    else if is_word first (codes "show") then takes_no_word form.Show words
    else if is_word first (codes "listen") then listen_of words
    else if is_word first (codes "ecn") then takes_no_word form.Ecn words
    else None

-- the numbers of a form are within their bounds
abbrev pub IsFormWithinBounds : Form → Type 0
IsFormWithinBounds form.Run = Unit {0}
IsFormWithinBounds (form.Replay side plain) = Unit {0}
IsFormWithinBounds (form.Buffered side plain capacity) = (1 ≤ capacity) × (capacity ≤ 1024)
IsFormWithinBounds (form.Campaign campaign) = IsWithinBounds campaign
IsFormWithinBounds form.Show = Unit {0}
IsFormWithinBounds (form.Listen most) = (1 ≤ most) × (most ≤ 1024)
IsFormWithinBounds form.Ecn = Unit {0}

-- Only the words after `replay`, `campaign` and `listen` are settings.
abbrev pub has_settings : List (String Global) → Bool
has_settings [] = false
has_settings (first ∷ words) = is_word first (codes "replay") || (is_word first (codes "campaign") || is_word first (codes "listen"))

-- The line that answers all other words.
abbrev pub usage : List ℕ
usage = codes "usage: dccp run | replay --side server|client [--plain] [--buffer C] | campaign --first F --seeds N --events E --workers W | show | listen --most M | ecn\n"

-- For `run`, over a source whose bytes are known, something holds of these bytes.
abbrev pub OnRun : List (String Global) → Option (List ℕ) → (List ℕ → Type 0) → Type 0
OnRun words told Holds = form_of words ≡ Some form.Run → (bytes : List ℕ) → told ≡ Some bytes → Holds bytes
