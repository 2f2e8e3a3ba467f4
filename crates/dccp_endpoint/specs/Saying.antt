-- What a packet says to a row of the end that it reaches, and what an end's own packets say of its rows (RFC 4340,
-- section 6).
use Rattle.std.specs.Prelude.{◌≡◌, ◌≢◌, ◌==◌, ◌&&◌, ◌≤◌, if◌then◌else◌, ℕ, ◌+◌, Bool, true, false, List, [], ◌∷◌, ◌++◌, drop, filter, length, map, Option, Some, None, Result, Ok, Err, AllPairs}
use Rattle.std.specs.List.{list_any}
use Rattle.dccp_options.specs.Grammar.{Entry}
use Rattle.dccp_options.specs.Kinds.{is_understood}
use Rattle.dccp_options.specs.Written.{Item, entries_at}
use Rattle.dccp_options.specs.declared.option.OptFault.{OptFault}
use Rattle.feature_lists.specs.Features.{feature_number}
use Rattle.feature_machine.specs.Negotiating.{IsNegotiation, row_at, opposite}
use Rattle.feature_machine.specs.Rows.{RowEvent, Change, Confirm}
use Rattle.feature_machine.specs.Turns.{events_of, reply_due}
use Rattle.feature_machine.specs.declared.row.Row.{Row}
use Rattle.run_list.specs.MarkedSet.{MarkedSet}
use Rattle.dccp_endpoint.specs.Heeding.{DueConfirm, ReadingState, event_of, heard_turns, heeds, is_change, is_left, is_of_negotiation, unheeded}
use Rattle.ack_vectors.specs.declared.room.Vectors.{Vectors}
use Rattle.dccp_endpoint.specs.Reporting.{vector_items}
use Rattle.dccp_endpoint.specs.Speaking.{HaveRoom, change_items, confirm_items, is_confirmed, is_for, is_of_place, wish_bytes}
use Rattle.dccp_endpoint.specs.Turns.{Key}

-- the data begin with this feature number
abbrev pub begins_with_number : ℕ → List ℕ → Bool
begins_with_number number [] = false
begins_with_number number (first ∷ rest) = first == number

-- The option speaks to the row: it is a Change or a Confirm for the row's feature, by L for a feature at the peer and
-- by R for one here.
abbrev pub speaks_to : Key → Entry → Bool
speaks_to k entry = is_of_negotiation entry.kind && (begins_with_number (feature_number k.0) entry.body && is_of_place (is_left entry.kind) (opposite k.1))

-- what the row hears of the option
abbrev pub event_in : Option ℕ → Entry → RowEvent
event_in ack entry = event_of ack entry (is_change entry.kind) (drop 1 entry.body)

-- What a packet with these options and this acknowledgement number says to a row: what the first option for it says, and nothing if there is
-- none or if such options do not count.
abbrev pub said_to : Bool → Option ℕ → Key → List (Result Entry OptFault) → List RowEvent
said_to count ack k [] = []
said_to count ack k (Err _ ∷ rest) = said_to count ack k rest
said_to count ack k (Ok entry ∷ rest) = if count && speaks_to k entry then event_in ack entry ∷ [] else said_to count ack k rest

-- the data of the Confirm that is due for a row, if one is
abbrev pub body_if : Bool → List ℕ → Option (List ℕ) → Option (List ℕ)
body_if true body later = Some body
body_if false body later = later

-- of several Confirms for the row, the data of the first
abbrev pub confirm_for : Key → List DueConfirm → Option (List ℕ)
confirm_for k [] = None
confirm_for k (due ∷ rest) = body_if (is_for k due) due.body (confirm_for k rest)

-- the data begin with some feature number
abbrev pub has_feature_number : List ℕ → Bool
has_feature_number [] = false
has_feature_number (number ∷ rest) = true

-- the option is understood, and is a Change or a Confirm with some feature number
abbrev pub negotiates_by : Entry → Bool
negotiates_by entry = is_understood entry.kind (length entry.body) && (is_of_negotiation entry.kind && has_feature_number entry.body)

-- the item is a Change, of any feature, whether it is the first for that or not
abbrev pub is_change_item : Result Entry OptFault → Bool
is_change_item (Ok entry) = negotiates_by entry && is_change entry.kind
is_change_item (Err fault) = false

-- how many Changes there are
abbrev pub changes_among : List (Result Entry OptFault) → ℕ
changes_among options = length (filter is_change_item options)

-- Of a packet that was read whole each row hears what the packet says to it, and nothing else, and the Confirm that is due for it is the row's
-- answer. The packet has at most 64 Changes, so that all of them count.
abbrev pub RowsHearThePacket : Type 0
RowsHearThePacket =
    (count : Bool) (ack : Option ℕ) (rows : List Row) (options : List (Result Entry OptFault)) (h : ReadingState) (k : Key) → IsNegotiation rows
    → changes_among options ≤ 64 → heeds count ack (unheeded rows) options ≡ Ok h
    → (events_of k.0 k.1 (heard_turns count ack (unheeded rows) options) ≡ said_to count ack k options)
    × (confirm_for k h.confirms ≡ reply_due (row_at rows k.0 k.1) (said_to count ack k options))

-- The Confirms that are due for a packet that was read whole leave room for the rest.
abbrev pub ConfirmsHaveRoom : Type 0
ConfirmsHaveRoom =
    (count : Bool) (ack : Option ℕ) (rows : List Row) (options : List (Result Entry OptFault)) (h : ReadingState) → IsNegotiation rows
    → heeds count ack (unheeded rows) options ≡ Ok h → HaveRoom h.confirms

-- whether a row is one of these
abbrev pub is_key : Key → Key → Bool
is_key one other = feature_number one.0 == feature_number other.0 && is_of_place (is_of_place true one.1) other.1

-- one of these rows is this row
abbrev pub has_key : Key → List Key → Bool
has_key k keys = list_any (is_key k) keys

-- the options of an end's own packet: its Ack Vector, if it has one, the Confirms and the Changes
abbrev pub own_options : Bool → Vectors → MarkedSet → ℕ → List DueConfirm → List Row → List Key → List Item
own_options has_vector vectors set greatest confirms rows keys =
    vector_items has_vector vectors set greatest ++ (confirm_items confirms ++ change_items rows keys)

-- What an end's own packet says of its row: the Confirm for it, or else its Change, or else nothing.
abbrev pub change_if : Bool → Key → Row → List RowEvent
change_if true k row = Change (wish_bytes k.0 row.active) row.mandatory ∷ []
change_if false k row = []

-- a Confirm for the row takes the place of its Change
abbrev pub said_of : Option (List ℕ) → Bool → Option ℕ → Key → Row → List RowEvent
said_of (Some body) asks ack k row = Confirm body ack ∷ []
said_of None asks ack k row = change_if asks k row

-- to the peer's row of the same feature
abbrev pub OwnPacketsSayOfARow : Type 0
OwnPacketsSayOfARow =
    (ack : Option ℕ) (has_vector : Bool) (vectors : Vectors) (set : MarkedSet) (greatest : ℕ) (confirms : List DueConfirm) (rows : List Row) (keys : List Key) (k : Key)
    → said_to true ack (k.0, opposite k.1) (map Ok (entries_at 0 (own_options has_vector vectors set greatest confirms rows keys)))
    ≡ said_of (confirm_for k confirms) (has_key k keys) ack k (row_at rows k.0 k.1)

-- How often: once if it is so, otherwise never.
abbrev pub once_if : Bool → ℕ
once_if true = 1
once_if false = 0

-- how many of the Confirms are for the row
abbrev pub times_confirmed : Key → List DueConfirm → ℕ
times_confirmed k [] = 0
times_confirmed k (due ∷ rest) = once_if (is_for k due) + times_confirmed k rest

-- how many options of a packet speak to the row
abbrev pub times_said_to : Key → List (Result Entry OptFault) → ℕ
times_said_to k [] = 0
times_said_to k (Err _ ∷ rest) = times_said_to k rest
times_said_to k (Ok entry ∷ rest) = once_if (speaks_to k entry) + times_said_to k rest

-- Of a packet of at most 64 Changes that was read whole no row has two Confirms that are due.
abbrev pub ConfirmsAreSingle : Type 0
ConfirmsAreSingle =
    (count : Bool) (ack : Option ℕ) (rows : List Row) (options : List (Result Entry OptFault)) (h : ReadingState) (k : Key) → IsNegotiation rows
    → changes_among options ≤ 64 → heeds count ack (unheeded rows) options ≡ Ok h → times_confirmed k h.confirms ≤ 1

-- So an end's own packet speaks to a row of the peer at most once: no row's Change goes out twice, nor together with a Confirm for it.
abbrev pub OwnPacketsSpeakOnce : Type 0
OwnPacketsSpeakOnce =
    (has_vector : Bool) (vectors : Vectors) (set : MarkedSet) (greatest : ℕ) (confirms : List DueConfirm) (rows : List Row) (keys : List Key) (k : Key) → times_confirmed k confirms ≤ 1
    → AllPairs (λ one other. one ≢ other) keys → (has_key k keys ≡ true → is_confirmed confirms k ≡ false)
    → times_said_to (k.0, opposite k.1) (map Ok (entries_at 0 (own_options has_vector vectors set greatest confirms rows keys))) ≤ 1
