-- What a row hears of a packet that arrives: what the peer said to it, where the packet is newest, and nothing else.
use Rattle.std.proofs.Common.{◌≡◌, refl, ap, sym, ◌∙◌, subst, ℕ, suc, ◌+◌, ◌<◌, ◌≤◌, ◌&&◌, Bool, true, false, List, [], ◌∷◌, Option, Some, None, Result, Ok, Err, if◌then◌else◌, length, map, arith}
use Rattle.std.specs.Prelude.{slice_index_or, drop}
use Rattle.std.specs.List.{All}
use Rattle.std.proofs.lemmas.List.{get_or-map, length-map}
use Rattle.std.proofs.lemmas.Option.{get_or_from_slice_get, slice_get_within}
use Rattle.dccp_options.specs.Grammar.{Entry}
use Rattle.dccp_options.specs.Written.{Item, entries_at, spelled}
use Rattle.dccp_options.specs.declared.option.OptFault.{OptFault}
use Rattle.dccp_packets.specs.Grammar.{Parts, has_forms}
use Rattle.dccp_packets.specs.Kinds.{ack_of}
use Rattle.dccp_packets.specs.Widths.{kind_in_widths}
use Rattle.dccp_packets.specs.declared.header.Kind.{Kind}
use Rattle.dccp_endpoint.specs.Causes.{AreHeard, Came, Deaf, Heeds, counts_in, turns_in}
use Rattle.dccp_endpoint.specs.Effects.{HeardNumber, Heard, Taken}
use Rattle.dccp_endpoint.specs.End.{EndState, phase_entered}
use Rattle.dccp_endpoint.specs.Faults.{counts}
use Rattle.dccp_endpoint.specs.Heeding.{DueConfirm, event_of, is_change}
use Rattle.dccp_endpoint.specs.Incoming.{Incoming, incoming}
use Rattle.dccp_endpoint.specs.Inputs.{Input, Arrives}
use Rattle.dccp_endpoint.specs.Receiving.{read_number}
use Rattle.dccp_states.specs.declared.outcome.Why.{Why}
use Rattle.dccp_endpoint.proofs.FirstFaults.{changes-few}
use Rattle.dccp_endpoint.proofs.OneConfirm.{rows_hear_the_packet}
use Rattle.dccp_endpoint.specs.Saying.{confirm_for, event_in, said_to, speaks_to, times_said_to}
use Rattle.dccp_endpoint.specs.Turns.{Key}
use Rattle.two_ends.specs.FeaturePackets.{IsHeardOf}
use Rattle.two_ends.specs.FeatureView.{FeatureNews, carried_at}
use Rattle.two_ends.specs.FeatureView.FeatureNews.{Nothing}
use Rattle.feature_lists.specs.declared.features.Feature.{Feature}
use Rattle.feature_lists.specs.declared.features.Place.{Place}
use Rattle.feature_lists.specs.declared.features.Place.TheVariants.{Here, There}
use Rattle.feature_machine.specs.Negotiating.{IsNegotiation, row_at, opposite}
use Rattle.feature_machine.specs.Rows.{RowEvent, Change, Confirm, Prefers, Offers, Sends}
use Rattle.feature_machine.specs.Turns.{Turn, events_of, reply_due}
use Rattle.feature_machine.specs.declared.row.Row.{Row}
use Rattle.two_ends.proofs.OfWorlds.Acting.{Act, config_of, end_of}
use Rattle.two_ends.proofs.OfFeatures.FewOptions.{changes-as-read, changes_in, changes_read}
use Rattle.two_ends.proofs.OfWorlds.HeardTo.{HeardSo, NothingNew, Old, Newest}
use Rattle.two_ends.proofs.OfWorlds.Logged.{Logged, at-place}
use Rattle.two_ends.proofs.OfFeatures.Moving.{Hears, HearsNothing, HearsNewest}
use Rattle.two_ends.proofs.OfWorlds.ReadBack.{IsFromLog, ack-kept}
use Rattle.two_ends.proofs.OfFeatures.Viewing.{IsWellSaid, carried_by, carried_of, said_by}

-- one packet comes in a step
pub came-one : (e : EndState) (given : Input) (a b : Incoming) → Came e given a → Came e given b → a ≡ b
came-one e given a b one two =
    let arrives : Input.Arrives one.bytes ≡ Arrives two.bytes = sym one.is_given ∙ two.is_given in
    let bytes : one.bytes ≡ two.bytes = cc arrives in
    let first = one.is_packet in
    let second = two.is_packet in
    let packet : one.packet ≡ two.packet = cc (bytes, first, second) in
    let reads : ◌≡◌ {A = Result ℕ Why} (Ok one.number) (Ok two.number) =
    sym one.reads ∙ ap (λ (p : Parts). read_number e p.header.number) packet ∙ two.reads in
    let number : one.number ≡ two.number = cc reads in
    one.same ∙ ap (λ (bs : List ℕ). incoming e bs one.packet one.number) bytes
    ∙ ap (λ (p : Parts). incoming e two.bytes p one.number) packet
    ∙ ap (incoming e two.bytes two.packet) number ∙ sym two.same

-- The same options on a packet with another acknowledgement number.
abbrev with_ack : Option ℕ → RowEvent → RowEvent
with_ack ack (Change body mandatory) = Change body mandatory
with_ack ack (Confirm body _) = Confirm body ack
with_ack ack (Prefers wish) = Prefers wish
with_ack ack (Offers confirmed) = Offers confirmed
with_ack ack (Sends number) = Sends number

event-ack : (other ack : Option ℕ) (entry : Entry) (change : Bool) (body : List ℕ)
    → event_of other entry change body ≡ with_ack other (event_of ack entry change body)
event-ack other ack entry true body = refl
event-ack other ack entry false body = refl

said-ack : (other ack : Option ℕ) (k : Key) (options : List (Result Entry OptFault))
    → said_to true other k options ≡ map (with_ack other) (said_to true ack k options)
said-ack other ack k [] = refl
said-ack other ack k (Err _ ∷ rest) = said-ack other ack k rest
said-ack other ack k (Ok entry ∷ rest) = by (speaks_to k entry) (said-ack other ack k rest) where
  by : (speaks : Bool) → said_to true other k rest ≡ map (with_ack other) (said_to true ack k rest)
      → (if true && speaks then event_in other entry ∷ [] else said_to true other k rest)
      ≡ map (with_ack other) (if true && speaks then event_in ack entry ∷ [] else said_to true ack k rest)
  by true again = ap (λ (event : RowEvent). event ∷ []) (event-ack other ack entry (is_change entry.kind) (drop 1 entry.body))
  by false again = again

-- where options do not count, nothing is said
pub said-uncounted : (ack : Option ℕ) (k : Key) (options : List (Result Entry OptFault)) → said_to false ack k options ≡ []
said-uncounted ack k [] = refl
said-uncounted ack k (Err _ ∷ rest) = said-uncounted ack k rest
said-uncounted ack k (Ok entry ∷ rest) = said-uncounted ack k rest

-- What is well said, is heard so.
well-heard : (iss count : ℕ) (row : Row) (there : List FeatureNews) (events : List RowEvent) → count ≤ length there
    → carried_at there count ≡ carried_by iss row.feature events → IsWellSaid iss (row.feature, opposite row.place) events
    → IsHeardOf iss row there count events
well-heard iss count row there [] inside carries well = inside
well-heard iss count row there (Change body mandatory ∷ []) inside carries well = (carries, well)
well-heard iss count row there (Confirm body (Some ack) ∷ []) inside carries well = (well.0, carries, well.1)
well-heard iss count row there (_ ∷ []) inside carries well = absurd well
well-heard iss count row there (first ∷ (second ∷ rest)) inside carries well = absurd well

-- It is read with the acknowledgement that it was said with.
kept-said : (iss : ℕ) (k : Key) (kd : Kind) (events : List RowEvent) → has_forms true kd ≡ true → map (with_ack (ack_of kd)) events ≡ events
    → IsWellSaid iss k events
    → map (with_ack (ack_of (kind_in_widths kd))) events ≡ events
kept-said iss k kd [] long is well = refl
kept-said iss k kd (Change body mandatory ∷ []) long is well = refl
kept-said iss k kd (Confirm body (Some ack) ∷ []) long is well =
    let own : ack_of kd ≡ Some ack = cc is in
    ap (λ (a : Option ℕ). Confirm body a ∷ []) (ack-kept kd ack long own well.0.fits)
kept-said iss k kd (_ ∷ []) long is well = absurd well
kept-said iss k kd (first ∷ (second ∷ rest)) long is well = absurd well

-- the opposite of the opposite place is the place
pub opposite-twice : (p : Place) → opposite (opposite p) ≡ p
opposite-twice Here = refl
opposite-twice There = refl

-- the peer's row of the same feature
abbrev pub across : Key → Key
across k = (k.0, opposite k.1)

-- A packet says of each row of its sender nothing, a valid Change or a whole Confirm, and this once. It has few options;
-- its numbers have the long form.
pub record IsWell (peer_iss : ℕ) (l : Logged) : Type 0 where
  pub each : (k : Key) → IsWellSaid peer_iss k (said_by k l)
  pub once : (k : Key) → times_said_to (across k) (map Ok (entries_at 0 l.draft.options)) ≤ 1
  pub changes : changes_in l.draft.options ≤ 18
  pub few : length l.draft.options ≤ 38
  pub long : has_forms true l.draft.kind ≡ true

carried-next : (frames : List FeatureNews) (place : ℕ) → carried_at frames (place + 1) ≡ slice_index_or frames place Nothing
carried-next frames place =
    let next : place + 1 ≡ suc place = omega arith in
    ap (carried_at frames) next

pub entries-length : (place : ℕ) (items : List Item) → length (entries_at place items) ≡ length items
entries-length place [] = refl
entries-length place (item ∷ items) = ap suc (entries-length (place + length (spelled item.mandatory item.kind item.body)) items)

module _ (iss peer_iss : ℕ) (log : List Logged) (well : All (IsWell iss) log) (a : Incoming) (from : IsFromLog peer_iss log a) where
  abbrev l : Logged
  l = from.logged

  l-well : IsWell iss l
  l-well = at-place (IsWell iss) log from.place l well from.is_there

  -- what the packet says to a row is what its sender said of the peer's row
  said-same : (k : Key) → said_to true a.ack k a.options ≡ said_by (across k) l
  said-same k =
      let place : (k.0, opposite (opposite k.1)) ≡ k = ap (λ (p : Place). (k.0, p)) (opposite-twice k.1) in
      let own : map (with_ack (ack_of l.draft.kind)) (said_by (across k) l) ≡ said_by (across k) l =
      sym (said-ack (ack_of l.draft.kind) (ack_of l.draft.kind) (k.0, opposite (opposite k.1)) (map Ok (entries_at 0 l.draft.options))) in
      ap (λ (options : List (Result Entry OptFault)). said_to true a.ack k options) from.read.options
      ∙ ap (λ (ack : Option ℕ). said_to true ack k (map Ok (entries_at 0 l.draft.options))) from.read.ack
      ∙ ap (λ (key : Key). said_to true (ack_of (kind_in_widths l.draft.kind)) key (map Ok (entries_at 0 l.draft.options))) (sym place)
      ∙ said-ack (ack_of (kind_in_widths l.draft.kind)) (ack_of l.draft.kind) (k.0, opposite (opposite k.1)) (map Ok (entries_at 0 l.draft.options))
      ∙ kept-said iss (across k) l.draft.kind (said_by (across k) l) l-well.long own (l-well.each (across k))

  pub few-changes : changes_read a.options ≤ 18
  few-changes =
      let same : changes_read a.options ≡ changes_in l.draft.options =
      ap changes_read from.read.options ∙ changes-as-read 0 l.draft.options in
      omega (arith, same, l-well.changes)

  pub few-options : length a.options ≤ 64
  few-options =
      let size : length a.options ≡ length l.draft.options =
      ap length from.read.options ∙ length-map {B = Result Entry OptFault} (entries_at 0 l.draft.options) Ok ∙ entries-length 0 l.draft.options in
      omega (arith, size, l-well.few)

  inside : from.place < length log
  inside = slice_get_within log from.place l from.is_there

  carried-there : (k : Key) → carried_at (map (carried_of iss (across k)) log) (from.place + 1) ≡ carried_by iss k.0 (said_by (across k) l)
  carried-there k =
      carried-next (map (carried_of iss (across k)) log) from.place
      ∙ get_or-map (carried_of iss (across k)) log from.place l Nothing inside
      ∙ ap (carried_of iss (across k)) (get_or_from_slice_get log from.place l l from.is_there)

  -- What a row hears of it.
  pub packet-heard : (k : Key) (row : Row) (count : Bool) → row.feature ≡ k.0 → row.place ≡ k.1
      → IsHeardOf iss row (map (carried_of iss (across k)) log) (from.place + 1) (said_to count a.ack k a.options)
  packet-heard k row count feature place = by count where
    there : List FeatureNews
    there = map (carried_of iss (across k)) log

    within : from.place + 1 ≤ length there
    within = omega (arith, inside, length-map log (carried_of iss (across k)))

    by : (count : Bool) → IsHeardOf iss row there (from.place + 1) (said_to count a.ack k a.options)
    by false = subst (IsHeardOf iss row there (from.place + 1)) (sym (said-uncounted a.ack k a.options)) within
    by true =
        subst (IsHeardOf iss row there (from.place + 1)) (sym (said-same k))
        (well-heard iss (from.place + 1) row there (said_by (across k) l) within
        (subst (λ (x : Feature). carried_at there (from.place + 1) ≡ carried_by iss x (said_by (across k) l)) (sym feature) (carried-there k))
        (subst (λ (x : Feature). IsWellSaid iss (x, opposite row.place) (said_by (across k) l)) (sym feature)
        (subst (λ (p : Place). IsWellSaid iss (k.0, opposite p) (said_by (across k) l)) (sym place) (l-well.each (across k)))))

-- what the acting side's row hears
abbrev pub KeyHears : Act → ℕ → ℕ → Key → List RowEvent → Option (List ℕ) → Type 0
KeyHears act greatest later k events reply =
    Hears (config_of act.side).iss greatest (row_at (end_of act.side).rows k.0 k.1) (map (carried_of (config_of act.side).iss (across k)) act.peer.log) later
    events reply

-- What a row hears in a step, with the Confirm that is due for it.
pub key-hears : (act : Act) (greatest later : ℕ) → HeardSo act greatest later act.effect.hearing
    → All (IsWell (config_of act.side).iss) act.peer.log → IsNegotiation (end_of act.side).rows
    → (k : Key) (heard : List Turn) (confirms : List DueConfirm) → AreHeard (end_of act.side) act.given act.effect.hearing heard confirms
    → KeyHears act greatest later k (events_of k.0 k.1 heard) (confirm_for k confirms)
key-hears act greatest later so well rows k _ _ Deaf = by act.effect.hearing so where
  by : (h : HeardNumber) → HeardSo act greatest later h
      → KeyHears act greatest later k [] None
  by _ (NothingNew same) = HearsNothing same
  by _ (Old a first how came same old from) = HearsNothing same
  by _ (Newest a first how came above from same) =
      HearsNewest [] above (omega (
        arith,
        same,
        slice_get_within act.peer.log from.place from.logged from.is_there,
        length-map act.peer.log (carried_of (config_of act.side).iss (across k)),
      ))
key-hears act greatest later so well rows k _ _ (Heeds a h was heeded) = by act.effect.hearing so was.is_heard where
  e : EndState
  e = end_of act.side

  row : Row
  row = row_at e.rows k.0 k.1

  there : List FeatureNews
  there = map (carried_of (config_of act.side).iss (across k)) act.peer.log

  -- by what the packet says to the row
  told : (from : IsFromLog (config_of act.peer).iss act.peer.log a)
      → KeyHears act greatest later k (said_to (counts_in e a) a.ack k a.options) (reply_due row (said_to (counts_in e a) a.ack k a.options))
      → KeyHears act greatest later k (events_of k.0 k.1 (turns_in e a)) (confirm_for k h.confirms)
  told from is =
      let few = few-options (config_of act.side).iss (config_of act.peer).iss act.peer.log well a from in
      let law = rows_hear_the_packet (counts_in e a) a.ack e.rows a.options h k rows (omega (arith, changes-few a.options, few)) heeded in
      subst (λ (events : List RowEvent). KeyHears act greatest later k events (confirm_for k h.confirms)) (sym law.0)
      (subst (λ (reply : Option (List ℕ)). KeyHears act greatest later k (said_to (counts_in e a) a.ack k a.options) reply) (sym law.1) is)

  by : (hearing : HeardNumber) → HeardSo act greatest later hearing → hearing ≡ Heard was.first a.number Taken
      → KeyHears act greatest later k (events_of k.0 k.1 (turns_in e a)) (confirm_for k h.confirms)
  by _ (NothingNew same) is = cc is
  by _ (Old b first how came same old from) is =
      let one : b ≡ a = came-one e act.given b a came was.came in
      let older : a.newest ≡ false = ap (λ (x : Incoming). x.newest) (sym one) ∙ old in
      let uncounted : counts_in e a ≡ false = ap (λ (n : Bool). n && counts (phase_entered e.phase) a.kind) older in
      let nothing : said_to (counts_in e a) a.ack k a.options ≡ [] =
      ap (λ (c : Bool). said_to c a.ack k a.options) uncounted ∙ said-uncounted a.ack k a.options in
      told (subst (λ (x : Incoming). IsFromLog (config_of act.peer).iss act.peer.log x) one from)
      (subst (λ (events : List RowEvent). KeyHears act greatest later k events (reply_due row events)) (sym nothing) (HearsNothing same))
  by _ (Newest b first how came above from same) is =
      let one : b ≡ a = came-one e act.given b a came was.came in
      let its = rows.each k.0 k.1 in
      let heard = packet-heard (config_of act.side).iss (config_of act.peer).iss act.peer.log well b from k row (counts_in e a) its.feature_is its.place_is in
      told (subst (λ (x : Incoming). IsFromLog (config_of act.peer).iss act.peer.log x) one from)
      (HearsNewest (said_to (counts_in e a) a.ack k a.options) above
      (subst (λ (n : ℕ). IsHeardOf (config_of act.side).iss row there n (said_to (counts_in e a) a.ack k a.options)) (sym same)
      (subst (λ (x : Incoming). IsHeardOf (config_of act.side).iss row there (from.place + 1) (said_to (counts_in e a) x.ack k x.options)) one heard)))
