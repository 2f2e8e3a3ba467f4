-- What goes out in a step says of each row what is due: the Confirm of what it heard, or its Change, or nothing.
use Rattle.std.proofs.Common.{◌≡◌, ◌≢◌, ◌⊎◌, inl, inr, refl, ap, sym, ◌∙◌, subst, ℕ, ◌+◌, ◌<◌, ◌≤◌, ◌&&◌, not, Bool, true, false, List, [], ◌∷◌, ◌++◌, Option, Some, None, Ok, length, map, arith}
use Rattle.std.proofs.lemmas.List.Elements.{All-append, All-cons, All-nil}
use Rattle.std.specs.List.{All}
use Rattle.std.proofs.lemmas.Option.{slice_get_within}
use Rattle.dccp_options.specs.Written.{Item, entries_at}
use Rattle.dccp_packets.specs.Grammar.{packet_type}
use Rattle.dccp_packets.specs.Kinds.{ack_of}
use Rattle.dccp_packets.specs.declared.header.Kind.{Kind}
use Rattle.dccp_endpoint.proofs.FirstFaults.{changes-few}
use Rattle.dccp_endpoint.proofs.Keys.{apart-so}
use Rattle.dccp_endpoint.proofs.Room.{asking-few, due-few}
use Rattle.dccp_endpoint.proofs.OneConfirm.{confirms_are_single}
use Rattle.dccp_endpoint.proofs.OwnPackets.{own_packets_say, own_packets_speak}
use Rattle.dccp_endpoint.specs.Causes.{AcknowledgesHeard, AreHeard, Deaf, Heeds, HasFrame, Occasion, Plain, Offering, Repeating, PrefersNow as OccasionNow, PrefersLater as OccasionLater, Says, SaysNothing, SaysAll, SaysApart, counts_in, vector_of}
use Rattle.dccp_endpoint.specs.Drafts.{Draft}
use Rattle.dccp_endpoint.specs.Effects.{Effect, HeardNumber, Heard, Taken, Transmission, end_after, greatest_by, rows_by, told_by}
use Rattle.dccp_endpoint.specs.End.{EndState, IsProper, floor_of}
use Rattle.dccp_endpoint.specs.Heeding.{DueConfirm, unheeded}
use Rattle.dccp_endpoint.specs.Incoming.{Incoming}
use Rattle.dccp_endpoint.specs.Reporting.{is_acking, sends_vectors}
use Rattle.dccp_endpoint.specs.Saying.{times_confirmed, times_said_to, confirm_for, has_key, said_of, said_to}
use Rattle.dccp_endpoint.specs.Speaking.{change_items, confirm_items, wish_bytes}
use Rattle.dccp_endpoint.specs.Steps.{next_number}
use Rattle.dccp_endpoint.specs.Turns.{Key}
use Rattle.two_ends.proofs.OfFeatures.Saying.{change_carries, change_understood, confirm_whole, wish_valid}
use Rattle.two_ends.proofs.OfFeatures.Taking.{heard_same, heard_sound}
use Rattle.seq_circle.specs.Counts.{IsNumber, count_of}
use Rattle.two_ends.specs.FeaturePackets.{IsHeardOf}
use Rattle.two_ends.specs.FeatureRows.{change_data, change_in, entries_of, is_valid_change, is_whole_confirm}
use Rattle.two_ends.specs.FeatureView.{FeatureNews}
use Rattle.two_ends.specs.FeatureView.FeatureNews.{Change as CarriedChange}
use Rattle.feature_lists.specs.Wishes.{is_ours, is_wish}
use Rattle.feature_lists.specs.declared.features.Feature.{Feature}
use Rattle.feature_lists.specs.declared.features.Place.{Place}
use Rattle.feature_lists.specs.declared.wishes.Wanted.{Wanted}
use Rattle.feature_lists.specs.declared.wishes.Wanted.TheVariants as wanted
use Rattle.feature_machine.proofs.Turning.{turned-row}
use Rattle.feature_machine.specs.Negotiating.{IsNegotiation, row_at, opposite}
use Rattle.feature_machine.specs.Rows.{Change, Confirm, Confirmed, Confirms, Offered, Offers, Opens, Preferred, Prefers, RowAnswer, RowEvent, Sending, Sends, row_line, row_step}
use Rattle.feature_machine.specs.Sound.{IsRowOf, IsSoundRow, is_active}
use Rattle.feature_machine.specs.Turns.{Turn, events_of, row_turned, confirm_of, reply_due}
use Rattle.feature_machine.specs.declared.judging.Confirmation.{Confirmation}
use Rattle.feature_machine.specs.declared.offers.Offer.{Offer}
use Rattle.feature_machine.specs.declared.row.Row.{Row}
use Rattle.feature_machine.specs.declared.stands.Stand.{Stand}
use Rattle.feature_machine.specs.declared.stands.Stand.TheVariants.{Stable}
use Rattle.run_list.specs.MarkedSet.{MarkedSet}
use Rattle.two_ends.proofs.OfWorlds.Acting.{Act, acted, config_of, drafted_by, end_of, logged_by, processed_by}
use Rattle.two_ends.proofs.OfFeatures.FewOptions.{changes_in, heeded-few, vector-changes, vector-length, written-changes, written-length}
use Rattle.two_ends.proofs.OfWorlds.HeardTo.{HeardSo, NothingNew, Old, Newest, is-number}
use Rattle.two_ends.proofs.OfFeatures.KeyHearing.{IsWell, KeyHears, across, came-one, few-changes, few-options, key-hears}
use Rattle.two_ends.proofs.OfFeatures.KeyStep.{RowsHeard, key-does, keys-distinct, offered-rows, step-events}
use Rattle.two_ends.proofs.OfWorlds.Logged.{Logged}
use Rattle.two_ends.proofs.OfFeatures.Moving.{Does, Rests, Asks, OfferOpens, OfferDrops, PrefersNow, PrefersLater, Hears, HearsNothing, HearsNewest, sends_if}
use Rattle.two_ends.proofs.OfWorlds.Numbering.{IsOrdered, few-logged}
use Rattle.two_ends.proofs.OfWorlds.ReadBack.{IsFromLog}
use Rattle.two_ends.proofs.OfFeatures.Turning.{turned-append}
use Rattle.two_ends.proofs.OfFeatures.Viewing.{IsWellSaid, said_by}

-- a Confirm is answered by none
confirm-none : (row : Row) (s : Stand) (c : Confirmation) → confirm_of (row_line row s (Confirmed c)).answer ≡ None
confirm-none row s c = grind arith

confirm-is : (a : RowAnswer) (body : List ℕ) → confirm_of a ≡ Some body → a ≡ Confirms body
confirm-is (Confirms other) body is = (let same : other ≡ body = cc is in ap Confirms same)
confirm-is _ body is = cc is

-- The Confirm that is due is whole.
reply-whole : (iss count : ℕ) (row : Row) (there : List FeatureNews) (events : List RowEvent) (body : List ℕ) → IsSoundRow row
    → IsHeardOf iss row there count events
    → reply_due row events ≡ Some body → is_whole_confirm row.feature body ≡ true
reply-whole iss count row there [] body sound heard due = cc due
reply-whole iss count row there (Change change mandatory ∷ []) body sound heard due =
    confirm_whole row change body mandatory sound ((change_understood row change).0 heard.1)
    (confirm-is (row_step row (Change change mandatory)).answer body due)
reply-whole iss count row there (Confirm confirm (Some ack) ∷ []) body sound heard due =
    let none : reply_due row (Confirm confirm (Some ack) ∷ []) ≡ None = confirm-none row row.stand _ in
    cc (due, none)
reply-whole iss count row there (_ ∷ []) body sound heard due = absurd heard
reply-whole iss count row there (first ∷ (second ∷ rest)) body sound heard due = absurd heard

-- the same of what a row hears, and that it was a newest packet
pub record IsReply (row : Row) (greatest later : ℕ) (body : List ℕ) : Type 0 where
  pub newer : greatest < later
  pub whole : is_whole_confirm row.feature body ≡ true

hears-reply : (iss greatest : ℕ) (row : Row) (there : List FeatureNews) (later : ℕ) (events : List RowEvent) (reply : Option (List ℕ)) (body : List ℕ)
    → IsSoundRow row → Hears iss greatest row there later events reply → reply ≡ Some body → IsReply row greatest later body
hears-reply iss greatest row there later _ _ body sound (HearsNothing same) is = cc is
hears-reply iss greatest row there later events _ body sound (HearsNewest _ newer heard) is =
    record { newer = newer; whole = reply-whole iss later row there events body sound heard is }

-- what a row heard leaves it its own
hears-its : (iss greatest : ℕ) (row : Row) (there : List FeatureNews) (later : ℕ) (events : List RowEvent) (reply : Option (List ℕ)) (feature : Feature)
    (place : Place)
    → IsRowOf feature place row → Hears iss greatest row there later events reply → IsRowOf feature place (row_turned row events)
hears-its iss greatest row there later _ _ feature place its (HearsNothing same) = its
hears-its iss greatest row there later events _ feature place its (HearsNewest _ newer heard) =
    let same = heard_same iss later row there events heard in
    record {
      feature_is = same.feature ∙ its.feature_is;
      place_is = same.place ∙ its.place_is;
      sound = heard_sound iss later row there events heard its.sound;
    }

-- A row whose Change goes out is busy then.
sends-busy : (row : Row) (s : Stand) (number : ℕ) (opened : Option ℕ) → row.stand ≡ s → s ≢ Stable
    → (row_line row s (Sending number opened)).row.stand ≢ Stable
sends-busy row s number opened is busy stable = grind arith

offer-busy : (row : Row) (s : Stand) (confirmed : Bool) (o : Offer) → (row_line row s (Offered confirmed o)).answer ≡ Opens
    → (row_line row s (Offered confirmed o)).row.stand ≢ Stable
offer-busy row s confirmed o opens stable = grind arith

preference-busy : (row : Row) (s : Stand) (wish : Wanted) → (row_line row s (Preferred wish)).row.stand ≢ Stable
preference-busy row s wish stable = grind arith

does-busy : (row : Row) (events : List RowEvent) (asks : Bool) (number : ℕ) → Does row events asks → asks ≡ true
    → (row_turned row (events ++ sends_if asks number)).stand ≢ Stable
does-busy row _ _ number Rests is = cc is
does-busy row _ _ number (Asks busy) is = sends-busy row row.stand number row.opened refl busy
does-busy row _ _ number (OfferOpens confirmed opens) is =
    let next : Row = (row_step row (Offers confirmed)).row in
    sends-busy next next.stand number next.opened refl (offer-busy row row.stand confirmed row.offer opens)
does-busy row _ true number (OfferDrops confirmed _ closed busy) is =
    let next : Row = (row_step row (Offers confirmed)).row in
    sends-busy next next.stand number next.opened refl (busy refl)
does-busy row _ false number (OfferDrops confirmed _ closed busy) is = cc is
does-busy row _ _ number (PrefersNow wish wished stable) is =
    let next : Row = (row_step row (Prefers wish)).row in
    sends-busy next next.stand number next.opened refl (preference-busy row row.stand wish)
does-busy row _ _ number (PrefersLater wish busy) is = cc is

-- A row that is busy has its own wish.
pub record HasWish (feature : Feature) (place : Place) (row : Row) : Type 0 where
  pub wish : Wanted
  pub is_active : row.active ≡ Some wish
  pub is_own : is_wish feature place wish ≡ true

ours : (row : Row) (b : Bool) → IsSoundRow row → row.stand ≢ Stable → is_ours row.feature row.place ≡ b → b ≡ true
ours row true sound busy is = refl
ours row false sound busy is = absurd (busy (sound.quiet is).stand)

active-wish : (feature : Feature) (place : Place) (active : Option Wanted) → is_active feature place active ≡ true → is_ours feature place ≡ true
    → (wish : Wanted) × (active ≡ Some wish) × (is_wish feature place wish ≡ true)
active-wish feature place None is own =
    let none : not (is_ours feature place) ≡ false = ap not own in
    cc (is, none)
active-wish feature place (Some wish) is own = (wish, refl, is)

-- a row that is not in STABLE has a wish
pub busy-wish : (feature : Feature) (place : Place) (row : Row) → IsRowOf feature place row → row.stand ≢ Stable → HasWish feature place row
busy-wish feature place row its busy =
    let own : is_ours row.feature row.place ≡ true = ours row (is_ours row.feature row.place) its.sound busy refl in
    let w = active-wish row.feature row.place row.active its.sound.active own in
    record {
      wish = w.0;
      is_active = w.1;
      is_own =
          subst (λ (f : Feature). is_wish f place w.0 ≡ true) its.feature_is (subst (λ (p : Place). is_wish row.feature p w.0 ≡ true) its.place_is w.2);
    }

data-same : (feature : Feature) (wish : Wanted) → wish_bytes feature (Some wish) ≡ change_data feature wish
data-same feature (wanted.List list) = refl
data-same feature (wanted.Number number) = refl

-- its Change is valid and carries it
pub busy-valid : (feature : Feature) (place : Place) (row : Row) → HasWish feature place row
    → is_valid_change feature place (wish_bytes feature row.active) ≡ true
busy-valid feature place row w =
    ap (λ (a : Option Wanted). is_valid_change feature place (wish_bytes feature a)) w.is_active
    ∙ ap (is_valid_change feature place) (data-same feature w.wish) ∙ wish_valid feature place w.wish w.is_own

-- its Change carries the values of that wish
pub busy-carries : (feature : Feature) (place : Place) (row : Row) → HasWish feature place row
    → change_in feature (wish_bytes feature row.active) ≡ CarriedChange (entries_of row.active)
busy-carries feature place row w =
    ap (λ (a : Option Wanted). change_in feature (wish_bytes feature a)) w.is_active
    ∙ ap (change_in feature) (data-same feature w.wish)
    ∙ change_carries feature place w.wish w.is_own
    ∙ ap (λ (a : Option Wanted). CarriedChange (entries_of a)) (sym w.is_active)

-- The Confirm's acknowledgement is the number of the packet that was heard.
pub record IsAnswer (peer_iss later : ℕ) (ack : Option ℕ) : Type 0 where
  pub number : ℕ
  pub same : ack ≡ Some number
  pub is_number : IsNumber peer_iss number
  pub counts : count_of peer_iss number ≡ later

pub record AreFew (confirms : List DueConfirm) : Type 0 where
  pub few : length confirms ≤ 18
  pub single : (k : Key) → times_confirmed k confirms ≤ 1

-- A step of a side, with what is known of it: the facts of the numbers, how the count of the greatest number heard goes on, that the
-- peer's packets are well said, and that the end stays proper.
pub record KnownStep : Type 0 where
  pub act : Act
  pub own : IsOrdered act.side
  pub peer : IsOrdered act.peer
  pub greatest : ℕ
  pub later : ℕ
  pub so : HeardSo act greatest later act.effect.hearing
  pub well : All (IsWell (config_of act.side).iss) act.peer.log
  pub after : IsProper (end_after (end_of act.side) act.effect)

module _ (s : KnownStep) where
  abbrev act : Act
  act = s.act

  abbrev greatest : ℕ
  greatest = s.greatest

  abbrev later : ℕ
  later = s.later

  abbrev iss : ℕ
  iss = (config_of act.side).iss

  abbrev peer_iss : ℕ
  peer_iss = (config_of act.peer).iss

  abbrev e : EndState
  e = end_of act.side

  abbrev f : Effect
  f = act.effect

  abbrev heard : List Turn
  heard = act.because.turns.heard

  abbrev due : List DueConfirm
  due = act.because.turns.confirms

  abbrev keys : List Key
  keys = act.because.turns.keys

  abbrev row : Key → Row
  row k = row_at e.rows k.0 k.1

  abbrev row-heard : Key → Row
  row-heard k = row_turned (row k) (events_of k.0 k.1 heard)

  abbrev row-after : Key → Row
  row-after k = row_at (rows_by e.rows f) k.0 k.1

  -- what else happens to the row
  abbrev more : Key → List RowEvent
  more k = events_of k.0 k.1 act.because.turns.offered ++ events_of k.0 k.1 act.because.turns.preferred

  abbrev rows : IsNegotiation e.rows
  rows = s.own.proper.rows.sound

  pub this-hears : (k : Key) → KeyHears act greatest later k (events_of k.0 k.1 heard) (confirm_for k due)
  this-hears k = key-hears act greatest later s.so s.well rows k heard due act.because.turns.hears

  pub rows-heard : RowsHeard e.rows heard
  rows-heard k = hears-its iss greatest (row k) _ later _ _ k.0 k.1 (rows.each k.0 k.1) (this-hears k)

  pub row-is : (k : Key) → row-after k ≡ row_turned (row-heard k) (more k ++ sends_if (has_key k keys) (next_number e))
  row-is k =
      turned-row k.0 k.1 f.turns e.rows rows.size
      ∙ ap (row_turned (row k))
      (step-events e act.given rows heard due rows-heard k f.hearing f.turns act.because.turns.offered act.because.turns.preferred keys
      act.because.turns.occasion act.because.turns.in_order)
      ∙ turned-append (row k) (events_of k.0 k.1 heard) (more k ++ sends_if (has_key k keys) (next_number e))

  pub this-does : (k : Key) → confirm_for k due ≡ None → Does (row-heard k) (more k) (has_key k keys)
  this-does k none =
      key-does e act.given rows heard due rows-heard k act.because.turns.offered act.because.turns.preferred keys act.because.turns.occasion none

  pub this-wish : (k : Key) → confirm_for k due ≡ None → has_key k keys ≡ true → HasWish k.0 k.1 (row-after k)
  this-wish k none asks =
      busy-wish k.0 k.1 (row-after k) (s.after.rows.sound.each k.0 k.1)
      (subst (λ (r : Row). r.stand ≢ Stable) (sym (row-is k)) (does-busy (row-heard k) (more k) (has_key k keys) (next_number e) (this-does k none) asks))

  pub this-reply : (k : Key) (body : List ℕ) → confirm_for k due ≡ Some body → IsReply (row k) greatest later body
  this-reply k body some =
      hears-reply iss greatest (row k) _ later _ _ body (rows.each k.0 k.1).sound (this-hears k) some

  pub this-answer : (k : Key) (body : List ℕ) (ack : Option ℕ) → confirm_for k due ≡ Some body → (due ≡ []) ⊎ AcknowledgesHeard f.hearing ack
      → IsAnswer peer_iss later ack
  this-answer k body ack some (inl none) =
      let nothing : confirm_for k due ≡ None = ap (confirm_for k) none in
      cc (some, nothing)
  this-answer k body ack some (inr answers) = by f.hearing s.so answers where
    by : (h : HeardNumber) → HeardSo act greatest later h → AcknowledgesHeard h ack → IsAnswer peer_iss later ack
    by _ (NothingNew same) is = absurd is
    by _ (Old a first how came same old from) is = absurd (let newer = (this-reply k body some).newer in omega (arith, same, newer))
    by _ (Newest a first how came above from same) is =
        let inside : from.place < length act.peer.log = slice_get_within act.peer.log from.place from.logged from.is_there in
        let n = is-number peer_iss from.place a.number s.peer.fits.iss (omega (arith, inside, few-logged act.peer s.peer)) from.read.number in
        record { number = a.number; same = is; is_number = n.0; counts = n.1 ∙ sym same }

  -- what a packet of this type is to carry
  abbrev has-vector : Kind → Bool
  has-vector kind = is_acking (packet_type kind) && sends_vectors (rows_by e.rows f)

  abbrev told : MarkedSet
  told = (told_by e.received f).set

  abbrev acked : ℕ
  acked = greatest_by e.marks.gsr f.hearing

  abbrev negotiated : List Item
  negotiated = confirm_items due ++ change_items (rows_by e.rows f) keys

  abbrev written-by : Kind → List Item
  written-by kind = vector_of e f kind ++ negotiated

  -- What goes out says of a row:
  pub this-says : (k : Key) (packet : Draft) (processed floor : ℕ) → packet.options ≡ written-by packet.kind
      → said_by k (record { draft = packet; processed = processed; floor = floor }) ≡ said_of (confirm_for k due) (has_key k keys) (ack_of packet.kind) k
      (row-after k)
  this-says k packet processed floor is =
      ap (λ (items : List Item). said_to true (ack_of packet.kind) (k.0, opposite k.1) (map Ok (entries_at 0 items))) is
      ∙ own_packets_say (ack_of packet.kind) (has-vector packet.kind) e.config.vectors told acked due (rows_by e.rows f) keys k

  well-said : (k : Key) (ack : Option ℕ) → (due ≡ []) ⊎ AcknowledgesHeard f.hearing ack
      → IsWellSaid peer_iss k (said_of (confirm_for k due) (has_key k keys) ack k (row-after k))
  well-said k ack answers = by (confirm_for k due) (has_key k keys) refl refl where
    by : (reply : Option (List ℕ)) (asks : Bool) → confirm_for k due ≡ reply → has_key k keys ≡ asks
        → IsWellSaid peer_iss k (said_of reply asks ack k (row-after k))
    by (Some body) asks some is =
        let a = this-answer k body ack some answers in
        subst (λ (n : Option ℕ). IsWellSaid peer_iss k (Confirm body n ∷ [])) (sym a.same)
        (a.is_number, subst (λ (f : Feature). is_whole_confirm f body ≡ true) (rows.each k.0 k.1).feature_is (this-reply k body some).whole)
    by None true none is = busy-valid k.0 k.1 (row-after k) (this-wish k none is)
    by None false none is = tt

  -- how many options it has
  keys-few : (offered preferred : List Turn) (ks : List Key) → Occasion e act.given heard due offered preferred ks → length ks ≤ 18
  keys-few _ _ _ Plain = omega arith
  keys-few _ _ _ Offering = asking-few _ due (offered-rows e act.given rows heard due rows-heard)
  keys-few _ _ _ (Repeating in_flight fired deaf quiet) = due-few e.rows rows
  keys-few _ _ _ (OccasionNow other values wish called is asks deaf quiet) = omega arith
  keys-few _ _ _ (OccasionLater other values wish called is waits deaf quiet) = omega arith

  -- the Confirms are few, and one for each row
  confirms-few : (turns : List Turn) (ds : List DueConfirm) → AreHeard e act.given f.hearing turns ds → AreFew ds
  confirms-few _ _ Deaf = record { few = omega arith; single = λ k. omega arith }
  confirms-few _ _ (Heeds a h was heeded) = by f.hearing s.so was.is_heard where
    told : IsFromLog peer_iss act.peer.log a → AreFew h.confirms
    told from =
        let adds = heeded-few (counts_in e a) a.ack (unheeded e.rows) h a.options heeded in
        record {
          few = omega (arith, adds, few-changes iss peer_iss act.peer.log s.well a from);
          single =
              λ k. confirms_are_single (counts_in e a) a.ack e.rows a.options h k rows
              (omega (arith, changes-few a.options, few-options iss peer_iss act.peer.log s.well a from)) heeded;
        }

    by : (hearing : HeardNumber) → HeardSo act greatest later hearing → hearing ≡ Heard was.first a.number Taken → AreFew h.confirms
    by _ (NothingNew same) is = cc is
    by _ (Old b first how came same old from) is =
        told (subst (λ (x : Incoming). IsFromLog peer_iss act.peer.log x) (came-one e act.given b a came was.came) from)
    by _ (Newest b first how came above from same) is =
        told (subst (λ (x : Incoming). IsFromLog peer_iss act.peer.log x) (came-one e act.given b a came was.came) from)

  -- What goes out speaks once of each row.
  said-once : (kind : Kind) (k : Key) → times_said_to (across k) (map Ok (entries_at 0 (written-by kind))) ≤ 1
  said-once kind k =
      own_packets_speak (has-vector kind) e.config.vectors told acked due (rows_by e.rows f) keys k ((confirms-few heard due act.because.turns.hears).single k)
      (keys-distinct e act.given rows heard due rows-heard act.because.turns.offered act.because.turns.preferred keys act.because.turns.occasion)
      (λ asks. apart-so due keys k act.because.turns.apart asks)

  sent-well : (what : Transmission) (processed floor : ℕ) → Says e f due keys what → HasFrame what → All (IsWell peer_iss) (logged_by processed floor what)
  sent-well _ processed floor (SaysNothing none no_keys) framed = All-nil (IsWell peer_iss)
  sent-well _ processed floor (SaysApart number packet none no_keys) framed = All-nil (IsWell peer_iss)
  sent-well _ processed floor (SaysAll packet is answers) framed =
      let l : Logged = record { draft = packet; processed = processed; floor = floor } in
      let keyed = keys-few _ _ keys act.because.turns.occasion in
      let confirmed = confirms-few heard due act.because.turns.hears in
      let changes : changes_in packet.options ≡ length keys =
      ap changes_in is ∙ vector-changes (has-vector packet.kind) e.config.vectors told acked negotiated ∙ written-changes due (rows_by e.rows f) keys in
      let size : length packet.options ≡ length (written-by packet.kind) = ap length is in
      let more = vector-length (has-vector packet.kind) e.config.vectors told acked negotiated in
      let both : length negotiated ≡ length due + length keys = written-length due (rows_by e.rows f) keys in
      All-cons (IsWell peer_iss) l []
      (record {
        each =
            λ k. subst (IsWellSaid peer_iss k) (sym (this-says k packet processed floor is)) (well-said k (ack_of packet.kind) answers);
        once = λ k. subst (λ (items : List Item). times_said_to (across k) (map Ok (entries_at 0 items)) ≤ 1) (sym is) (said-once packet.kind k);
        changes = omega (arith, changes, keyed);
        few = omega (arith, size, more, both, keyed, confirmed.few);
        long = framed.is_long;
      })
      (All-nil (IsWell peer_iss))

  -- So the log stays well.
  pub stays-well : All (IsWell peer_iss) act.side.log → All (IsWell peer_iss) (acted act).log
  stays-well before =
      All-append (IsWell peer_iss) act.side.log (drafted_by act.side.half act.arrived f) before
      (sent-well f.sending (length (processed_by act.side.half act.arrived act.effect)) (floor_of (end_after e f)) act.because.says act.because.framed)
