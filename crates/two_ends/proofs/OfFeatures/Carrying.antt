-- What the frames of a side say of a feature, read from their bytes, is what its log carries for its row.
use Rattle.std.proofs.Common.{◌≡◌, refl, ap, sym, ◌∙◌, subst, ℕ, zero, suc, ◌==◌, ◌&&◌, ◌||◌, Bool, true, false, if◌then◌else◌, List, [], ◌∷◌, drop, map, Option, Some, None, Result, Ok, Err, slice_get, arith}
use Rattle.std.specs.List.{list_any}
use Rattle.std.proofs.lemmas.Option.{same_Some}
use Rattle.dccp_options.specs.Grammar.{Entry}
use Rattle.dccp_options.specs.declared.option.OptFault.{OptFault}
use Rattle.dccp_options.specs.Written.{entries_at}
use Rattle.dccp_packets.specs.Kinds.{ack_of}
use Rattle.dccp_endpoint.specs.Heeding as heeding
use Rattle.dccp_endpoint.specs.Heeding.{event_of, is_left, is_of_negotiation}
use Rattle.dccp_endpoint.specs.Saying.{begins_with_number, said_to}
use Rattle.dccp_endpoint.specs.Speaking.{is_of_place}
use Rattle.dccp_endpoint.specs.Turns.{Key}
use Rattle.dccp_endpoint.specs.declared.config.Config.{Config}
use Rattle.feature_machine.specs.Negotiating.{opposite}
use Rattle.feature_lists.specs.Features.{feature_number}
use Rattle.feature_lists.specs.declared.features.Feature.{Feature}
use Rattle.feature_lists.specs.declared.features.Place.{Place}
use Rattle.feature_lists.specs.declared.features.Place.TheVariants.{Here, There}
use Rattle.feature_machine.specs.Rows as row
use Rattle.feature_machine.specs.Rows.{RowEvent}
use Rattle.two_ends.specs.Frames.{options_in}
use Rattle.two_ends.specs.Lists.{last_some, some_or}
use Rattle.two_ends.specs.declared.frames.SentFrame.{SentFrame}
use Rattle.two_ends.specs.Pairs.{PairStatement, Nothing, Change, Confirm, change_or_confirm, change_option, confirm_option, said_in, said_then, values_for}
use Rattle.two_ends.proofs.OfWorlds.Logged.{Logged, IsLogged, IsUnlogged, AreLogged, NoFrames, Numbered, Unnumbered}
use Rattle.two_ends.proofs.OfWorlds.ReadBack.{logged-options, unlogged-options}
use Rattle.two_ends.proofs.OfFeatures.Viewing.{said_by}

-- what an option says, as a reader of frames finds it
abbrev pub saying_of : List RowEvent → PairStatement
saying_of [] = Nothing
saying_of (row.Change body mandatory ∷ rest) = Change body
saying_of (row.Confirm body ack ∷ rest) = Confirm body
saying_of (_ ∷ rest) = Nothing

-- the types of a place are those of the negotiation by its letter
pub types-placed : (place : Place) (kind : ℕ)
    → (is_of_negotiation kind && is_of_place (is_left kind) (opposite (opposite place))) ≡ (kind == change_option place || kind == confirm_option place)
types-placed Here kind = grind arith
types-placed There kind = grind arith

types-change : (place : Place) (kind : ℕ) → (is_of_negotiation kind && is_of_place (is_left kind) (opposite (opposite place))) ≡ true
    → heeding.is_change kind ≡ (kind == change_option place)
types-change Here kind of_pair = grind arith
types-change There kind of_pair = grind arith

said-event : (ack : Option ℕ) (entry : Entry) (change is_change : Bool) (values : List ℕ) → change ≡ is_change
    → change_or_confirm is_change values ≡ saying_of (event_of ack entry change values ∷ [])
said-event ack entry true true values same = refl
said-event ack entry false false values same = refl
said-event ack entry true false values same = cc same
said-event ack entry false true values same = cc same

-- the first option of the pair is what is said, for both readers
picked : (ack : Option ℕ) (entry : Entry) (typed named placed change is_change : Bool) (values : List ℕ) (later : PairStatement) (rest : List RowEvent)
    → ((typed && placed) ≡ true → change ≡ is_change) → later ≡ saying_of rest
    → (if typed && placed then said_then (if named then Some values else None) is_change later else later)
    ≡ saying_of (if typed && (named && placed) then event_of ack entry change values ∷ [] else rest)
picked ack entry true true true change is_change values later rest same is = said-event ack entry change is_change values (same refl)
picked ack entry true true false change is_change values later rest same is = is
picked ack entry true false true change is_change values later rest same is = is
picked ack entry true false false change is_change values later rest same is = is
picked ack entry false true placed change is_change values later rest same is = is
picked ack entry false false placed change is_change values later rest same is = is

-- values are for a feature where they begin with its number
pub values-named : (number : ℕ) (body : List ℕ) → values_for number body ≡ (if begins_with_number number body then Some (drop 1 body) else None)
values-named number [] = refl
values-named number (first ∷ values) = refl

-- A packet says of a pair what it says to the row of the peer.
pub said-as : (feature : Feature) (place : Place) (ack : Option ℕ) (options : List (Result Entry OptFault))
    → said_in (feature_number feature) place options ≡ saying_of (said_to true ack (feature, opposite place) options)
said-as feature place ack [] = refl
said-as feature place ack (Err fault ∷ rest) = said-as feature place ack rest
said-as feature place ack (Ok entry ∷ rest) =
    let number : ℕ = feature_number feature in
    let later : PairStatement = said_in number place rest in
    let change : Bool = entry.kind == change_option place in
    ap (λ of_pair. if of_pair then said_then (values_for number entry.body) change later else later) (sym (types-placed place entry.kind))
    ∙ ap (λ values. if is_of_negotiation entry.kind && is_of_place (is_left entry.kind) (opposite (opposite place)) then said_then values change later
    else later)
    (values-named number entry.body)
    ∙ picked ack entry (is_of_negotiation entry.kind) (begins_with_number number entry.body) (is_of_place (is_left entry.kind) (opposite (opposite place)))
    (heeding.is_change entry.kind) change (drop 1 entry.body) later _ (types-change place entry.kind) (said-as feature place ack rest)

-- what a logged packet says of its sender's row
abbrev pub says : Key → Logged → PairStatement
says k l = saying_of (said_by k l)

-- A frame's bytes say of a pair what its packet says of the row, and an unlogged frame says nothing.
pub frame-says : (config : Config) (k : Key) (number : ℕ) (frame : SentFrame) (l : Logged) → IsLogged config number frame l
    → said_in (feature_number k.0) k.1 (options_in frame.bytes) ≡ says k l
frame-says config k number frame l is =
    ap (said_in (feature_number k.0) k.1) (logged-options config number frame l is)
    ∙ said-as k.0 k.1 (ack_of l.draft.kind) (map Ok (entries_at 0 l.draft.options))

unlogged-says : (config : Config) (k : Key) (frame : SentFrame) → IsUnlogged config frame
    → said_in (feature_number k.0) k.1 (options_in frame.bytes) ≡ Nothing
unlogged-says config k frame is = ap (said_in (feature_number k.0) k.1) (unlogged-options config frame is)

some-or-none : {B : Type 0} (o : Option B) → some_or o None ≡ o
some-or-none None = refl
some-or-none (Some b) = refl

module _ (config : Config) (k : Key) where
  -- what the last frame shows that shows something, the last logged packet shows
  pub last-logged : {B : Type 0} (shows : PairStatement → Option B) → shows Nothing ≡ None → {first : ℕ} {frames : List SentFrame} {log : List Logged}
      → AreLogged config first frames log
      → last_some (λ (frame : SentFrame). shows (said_in (feature_number k.0) k.1 (options_in frame.bytes))) frames ≡ last_some (λ l. shows (says k l)) log
  last-logged shows none NoFrames = refl
  last-logged shows none (Numbered {frame = frame} {l = l} {log = log} number same here rest) =
      ap (λ later. some_or later (shows (said_in (feature_number k.0) k.1 (options_in frame.bytes)))) (last-logged shows none rest)
      ∙ ap (λ own. some_or (last_some (λ l. shows (says k l)) log) (shows own)) (frame-says config k number frame l here)
  last-logged shows none (Unnumbered {frame = frame} {log = log} here rest) =
      ap (λ later. some_or later (shows (said_in (feature_number k.0) k.1 (options_in frame.bytes)))) (last-logged shows none rest)
      ∙ ap (λ own. some_or (last_some (λ l. shows (says k l)) log) own) (ap shows (unlogged-says config k frame here) ∙ none)
      ∙ some-or-none _

  -- some frame passes a test if some logged packet does
  pub any-logged : (test : PairStatement → Bool) → test Nothing ≡ false → {first : ℕ} {frames : List SentFrame} {log : List Logged}
      → AreLogged config first frames log
      → list_any (λ (frame : SentFrame). test (said_in (feature_number k.0) k.1 (options_in frame.bytes))) frames ≡ list_any (λ l. test (says k l)) log
  any-logged test none NoFrames = refl
  any-logged test none (Numbered {frame = frame} {l = l} {log = log} number same here rest) =
      ap (λ later. test (said_in (feature_number k.0) k.1 (options_in frame.bytes)) || later) (any-logged test none rest)
      ∙ ap (λ own. test own || list_any (λ l. test (says k l)) log) (frame-says config k number frame l here)
  any-logged test none (Unnumbered {frame = frame} {log = log} here rest) =
      ap (λ later. test (said_in (feature_number k.0) k.1 (options_in frame.bytes)) || later) (any-logged test none rest)
      ∙ ap (λ own. own || list_any (λ l. test (says k l)) log) (ap test (unlogged-says config k frame here) ∙ none)

-- the frame of a logged packet
pub record IsSentIn (config : Config) (frames : List SentFrame) (l : Logged) : Type 0 where
  pub index : ℕ
  pub number : ℕ
  pub frame : SentFrame
  pub is_there : slice_get frames index ≡ Some frame
  pub is_logged : IsLogged config number frame l

sent-later : (config : Config) (first : SentFrame) (frames : List SentFrame) (l : Logged) → IsSentIn config frames l → IsSentIn config (first ∷ frames) l
sent-later config first frames l s =
    record { index = suc s.index; number = s.number; frame = s.frame; is_there = s.is_there; is_logged = s.is_logged }

-- the frame of a place of the log
pub frame-at : (config : Config) {first : ℕ} {frames : List SentFrame} {log : List Logged} (place : ℕ) (l : Logged) → AreLogged config first frames log
    → slice_get log place ≡ Some l → IsSentIn config frames l
frame-at config place l NoFrames there = cc there
frame-at config {first} {frames} zero l (Numbered number same here rest) there =
    subst (IsSentIn config frames) (same_Some _ l there) (record { index = 0; number = number; frame = _; is_there = refl; is_logged = here })
frame-at config (suc place) l (Numbered number same here rest) there = sent-later config _ _ l (frame-at config place l rest there)
frame-at config place l (Unnumbered here rest) there = sent-later config _ _ l (frame-at config place l rest there)
