-- What an end says has room on its packets: a vector of 510 bytes at most, Confirms of 354, and 18 Changes of 12 each.
use Rattle.std.proofs.Common.{◌≡◌, ℕ, ◌+◌, ◌*◌, ◌-◌, ◌%◌, ◌≤◌, ◌<◌, nat_lt, ◌==◌, Bool, true, false, not, ◌&&◌, ◌||◌, if◌then◌else◌, List, [], ◌∷◌, ◌++◌, zero, suc, length, map, replicate, Option, Some, None, Result, Ok, Err, refl, ap, sym, ◌∙◌, subst, arith, eqb-true, get_or-set_same, length-set}
use Rattle.std.specs.Prelude.{slice_index_or, slice_set, filter}
use Rattle.std.specs.List.{All}
use Rattle.std.proofs.lemmas.Bool.{and_parts, false≢true}
use Rattle.byteorder.specs.Numbers.{length-bytes_high_first}
use Rattle.std.proofs.lemmas.List.{append-nil, length-append, length-map, length-replicate, map-append}
use Rattle.std.proofs.lemmas.List.Elements.{All-append, All-cons, All-head, All-map, All-nil, All-tail}
use Rattle.std.proofs.lemmas.List.Sums.{count_by-le-length, length-filter}
use Rattle.byteorder.specs.Endian.{big_bytes}
use Rattle.dccp_options.specs.Grammar.{Entry}
use Rattle.dccp_options.specs.Kinds as options
use Rattle.dccp_options.specs.Kinds.{is_understood}
use Rattle.dccp_options.specs.Written.{Item, IsWritable, mark, spelled, written}
use Rattle.dccp_options.specs.declared.option.OptFault.{OptFault}
use Rattle.dccp_packets.specs.Grammar.{has_forms, packet_type, padded}
use Rattle.dccp_packets.specs.Kinds.{is_data}
use Rattle.dccp_packets.specs.Widths.{HasDetail}
use Rattle.dccp_packets.specs.declared.header.Kind.{Kind}
use Rattle.dccp_packets.specs.declared.reset_code.ResetCode.TheVariants as codes
use Rattle.dccp_states.specs.declared.phase.Role.TheVariants as role
use Rattle.feature_lists.specs.Features.{described, feature_number, feature_numbered}
use Rattle.feature_lists.specs.Wishes.{is_allowed}
use Rattle.feature_lists.specs.declared.features.Feature.{Feature}
use Rattle.feature_lists.specs.declared.features.Feature.TheVariants as f
use Rattle.feature_lists.specs.declared.features.Place.{Place}
use Rattle.feature_lists.specs.declared.features.Place.TheVariants.{Here, There}
use Rattle.feature_lists.specs.declared.wishes.Wanted.TheVariants as wanted
use Rattle.feature_lists.specs.declared.wishes.Wanted.{Wanted}
use Rattle.feature_lists.proofs.Allowed.{allowed_says}
use Rattle.feature_machine.specs.Answers.{answered, settling_of}
use Rattle.feature_machine.specs.Negotiating.{IsNegotiation, changes, changes_known, confirmed, confirms_known, due_keys, every_place, is_due, place_of, row_at}
use Rattle.feature_machine.specs.Rows.{Change, Confirm, RowAnswer, Confirms, Ignored, Settled, Fatal, Opens, Waits, Quiet, Proposed, confirm_body, entries, holding, is_server_priority, proposal, row_line, width}
use Rattle.feature_machine.specs.Sound.{is_active}
use Rattle.feature_machine.specs.declared.answers.Settling.{Settling}
use Rattle.feature_machine.specs.declared.answers.Settling.TheVariants as settling
use Rattle.feature_machine.specs.declared.judging.Proposal.{Proposal}
use Rattle.feature_machine.specs.declared.judging.Proposal.TheVariants as p
use Rattle.feature_machine.specs.declared.row.Row.{Row}
use Rattle.feature_machine.specs.declared.stands.Stand.{Stand}
use Rattle.feature_machine.specs.declared.stands.Stand.TheVariants as stand
use Rattle.feature_machine.proofs.Steps.{stepped_negotiation}
use Rattle.dccp_endpoint.specs.Causes.{is_code_without_connection}
use Rattle.dccp_endpoint.specs.Drafts.{IsSendable}
use Rattle.dccp_endpoint.specs.Heeding.{DueConfirm, ReadingState, by_answered, by_settling, counted, fault_of, heeds, heeds_body, heeds_change, heeds_confirm, heeds_feature, heeds_item, heeds_then, is_change, is_left, is_of_negotiation, met, misunderstood, place_in_used, unheeded}
use Rattle.dccp_endpoint.specs.Reporting.{vector_item, vector_items}
use Rattle.dccp_endpoint.specs.Saying.{ConfirmsHaveRoom, once_if}
use Rattle.dccp_endpoint.specs.Speaking.{HaveRoom, asking, change_item, change_items, change_type, confirm_item, confirm_items, confirm_type, confirming, is_confirmed, saying, wish_bytes}
use Rattle.dccp_endpoint.specs.Turns.{Key}
use Rattle.dccp_states.specs.declared.outcome.Fault.{Fault}
use Rattle.dccp_endpoint.proofs.Frames.{fixed_part_is_short}
use Rattle.dccp_endpoint.proofs.OneRow.{found, letter_to, spot, spot-below}
use Rattle.ack_vectors.specs.Vector.{most_options, option_data, room_of, set_states, vector_under}
use Rattle.ack_vectors.specs.declared.room.Vectors.{Vectors}
use Rattle.ack_vectors.specs.declared.room.Vectors.TheVariants.{One, Two}
use Rattle.ack_vectors.proofs.Options.{most-room, options-few, options-fit}
use Rattle.ack_vectors.proofs.Telling.{room-vector}
use Rattle.run_list.specs.MarkedSet.{MarkedSet, has}

-- The data of an answer are a value and at most eight more, or one number.

width-few : (feature : Feature) → (described feature).width ≤ 6
width-few f.SequenceWindow = omega arith
width-few f.AckRatio = omega arith
width-few _ = omega arith

big-length : (count number : ℕ) → length (big_bytes count number) ≡ count
big-length count number = length-bytes_high_first count number

-- an active list has at most eight entries
entries-few : (feature : Feature) (place : Place) (active : Option Wanted) → is_active feature place active ≡ true → length (entries active) ≤ 8
entries-few feature place None is = omega arith
entries-few feature place (Some (wanted.Number number)) is = omega arith
entries-few feature place (Some (wanted.List list)) is =
    ((allowed_says feature place list).0 (and_parts (described feature).is_server_priority (is_allowed feature place list) is).1).few

body-short : (row : Row) → is_active row.feature row.place row.active ≡ true → length (confirm_body row) ≤ 9
body-short row is = by (is_server_priority row) where
  by : (listed : Bool) → length (if listed then row.value ∷ entries row.active else big_bytes (width row) row.value) ≤ 9
  by true = let few = entries-few row.feature row.place row.active is in omega (arith, few)
  by false = let few = width-few row.feature in let long = big-length (width row) row.value in omega (arith, few, long)

-- the data of the Confirm that an answer is
abbrev IsShort : ℕ → RowAnswer → Type 0
IsShort most (Confirms body) = length body ≤ most
IsShort most Ignored = Unit {0}
IsShort most Settled = Unit {0}
IsShort most (Fatal code) = Unit {0}
IsShort most Opens = Unit {0}
IsShort most Waits = Unit {0}
IsShort most Quiet = Unit {0}

line-short : (row : Row) (s : Stand) (proposed : Proposal) (mandatory : Bool) → is_active row.feature row.place row.active ≡ true
    → IsShort 9 (row_line row s (Proposed proposed mandatory)).answer
line-short row s p.Invalid false is = omega arith
line-short row s p.Invalid true is = tt
line-short row stand.Unstable p.Unshared mandatory is = tt
line-short row stand.Stable (p.Shared value) mandatory is = body-short (holding row value) is
line-short row stand.Changing (p.Shared value) mandatory is = body-short (holding row value) is
line-short row stand.Stable (p.Told value) mandatory is = body-short (holding row value) is
line-short row stand.Changing (p.Told value) mandatory is = body-short (holding row value) is
line-short row stand.Stable p.Unshared false is = body-short row is
line-short row stand.Changing p.Unshared false is = body-short row is
line-short row stand.Stable p.Unshared true is = tt
line-short row stand.Changing p.Unshared true is = tt
line-short row stand.Unstable _ mandatory is = tt

-- a feature that is known has a row
abbrev rows_of : Option Feature → ℕ
rows_of None = 0
rows_of (Some feature) = 1

rows-few : (known : Option Feature) → rows_of known ≤ 1
rows-few None = omega arith
rows-few (Some feature) = omega arith

-- what a Change and a Confirm leave of the rows, and answer
change-sound : (rows : List Row) (known : Option Feature) (left : Bool) (body : List ℕ) (mandatory : Bool) → IsNegotiation rows
    → IsNegotiation (changes_known rows known (place_of left) body mandatory).rows × IsShort (9 * rows_of known) (changes_known rows known (place_of left) body mandatory).answer
change-sound rows None left body true sound = (sound, tt)
change-sound rows None left body false sound = (sound, omega arith)
change-sound rows (Some known) left body mandatory sound =
    let place : Place = place_of left in
    let row : Row = row_at rows known place in (
      stepped_negotiation rows known place (Change body mandatory) sound tt,
      line-short row row.stand (proposal row body) mandatory (sound.each known place).sound.active,
    )

confirm-sound : (rows : List Row) (known : Option Feature) (left : Bool) (body : List ℕ) (ack : Option ℕ) → IsNegotiation rows
    → IsNegotiation (confirms_known rows known (place_of left) body ack).rows
confirm-sound rows None left body ack sound = sound
confirm-sound rows (Some known) left body ack sound = stepped_negotiation rows known (place_of left) (Confirm body ack) sound tt

-- How many of these rows the options spoke of.
abbrev rows_used : List Bool → List Key → ℕ
rows_used used [] = 0
rows_used used (k ∷ keys) = once_if (slice_index_or used (spot k) false) + rows_used used keys

once-few : (b : Bool) → once_if b ≤ 1
once-few true = omega arith
once-few false = omega arith

used-few : (used : List Bool) (keys : List Key) → rows_used used keys ≤ length keys
used-few used [] = omega arith
used-few used (k ∷ keys) =
    let one = once-few (slice_index_or used (spot k) false) in let rest = used-few used keys in omega (arith, one, rest)

-- an option more takes no place away
stays-used : (used : List Bool) (place other : ℕ) → once_if (slice_index_or used other false) ≤ once_if (slice_index_or (slice_set used place true) other false)
stays-used [] place other = omega arith
stays-used (b ∷ used) zero zero = once-few b
stays-used (b ∷ used) zero (suc other) = omega arith
stays-used (b ∷ used) (suc place) zero = omega arith
stays-used (b ∷ used) (suc place) (suc other) = stays-used used place other

more-used : (used : List Bool) (place : ℕ) (keys : List Key) → rows_used used keys ≤ rows_used (slice_set used place true) keys
more-used used place [] = omega arith
more-used used place (k ∷ keys) =
    let one = stays-used used place (spot k) in let rest = more-used used place keys in omega (arith, one, rest)

-- the place is that of one of the rows
abbrev has_spot : ℕ → List Key → Bool
has_spot place [] = false
has_spot place (k ∷ keys) = spot k == place || has_spot place keys

-- and the first option for a row adds the row
one-used : (used : List Bool) (place : ℕ) (keys : List Key) → place < length used → slice_index_or used place false ≡ false → has_spot place keys ≡ true
    → rows_used used keys + 1 ≤ rows_used (slice_set used place true) keys
one-used used place [] inside free its = absurd (false≢true its)
one-used used place (k ∷ keys) inside free its = by (spot k == place) refl (λ more. one-used used place keys inside free more) where
  by : (same : Bool) → (spot k == place) ≡ same → (has_spot place keys ≡ true → rows_used used keys + 1 ≤ rows_used (slice_set used place true) keys)
      → rows_used used (k ∷ keys) + 1 ≤ rows_used (slice_set used place true) (k ∷ keys)
  by true is later =
      let at : spot k ≡ place = eqb-true (spot k) place is in
      let old : once_if (slice_index_or used (spot k) false) ≡ 0 =
      ap once_if (ap (λ (there : ℕ). slice_index_or used there false) at ∙ free) in
      let new : once_if (slice_index_or (slice_set used place true) (spot k) false) ≡ 1 =
      ap once_if (ap (λ (there : ℕ). slice_index_or (slice_set used place true) there false) at ∙ get_or-set_same used place true false inside) in
      let rest = more-used used place keys in
      omega (arith, old, new, rest)
  by false is later =
      let one = stays-used used place (spot k) in
      let rest = later (ap (λ (c : Bool). c || has_spot place keys) (sym is) ∙ its) in
      omega (arith, one, rest)

-- each feature has a row at each place
has-row : (feature : Feature) (place : Place) → has_spot (spot (feature, place)) every_place ≡ true
has-row f.Ccid Here = refl
has-row f.Ccid There = refl
has-row _ Here = refl
has-row _ There = refl

letter-kept : (left : Bool) → letter_to (place_of left) ≡ left
letter-kept true = refl
letter-kept false = refl

feature-used : (used : List Bool) (left : Bool) (number : ℕ) (known : Option Feature) → feature_numbered number ≡ known → length used ≡ 512
    → slice_index_or used (place_in_used left number) false ≡ false
    → rows_used used every_place + rows_of known ≤ rows_used (slice_set used (place_in_used left number) true) every_place
feature-used used left number None is size free = let more = more-used used (place_in_used left number) every_place in omega (arith, more)
feature-used used left number (Some feature) is size free =
    let k : Key = (feature, place_of left) in
    let at : spot k ≡ place_in_used left number =
    ap (λ (l : Bool). place_in_used l (feature_number feature)) (letter-kept left) ∙ ap (place_in_used left) (found number feature is) in
    let below = spot-below k in
    one-used used (place_in_used left number) every_place (omega (arith, below, at, size)) free
    (ap (λ (place : ℕ). has_spot place every_place) (sym at) ∙ has-row feature (place_of left))

-- Of each reading: rows are sound, Confirms few and short, and shorter where no row answers; a fault has code 5 or 6.
pub record IsBounded (h : ReadingState) : Type 0 where
  pub rows : IsNegotiation h.rows
  pub size : length h.used ≡ 512
  pub few : length h.confirms ≤ h.changes
  pub most : h.changes ≤ 64
  pub short : All (λ due. length due.body ≤ 9) h.confirms
  pub room : length (written (confirm_items h.confirms)) ≤ 3 * h.changes + 9 * rows_used h.used every_place

abbrev pub IsBoundedReading : Result ReadingState Fault → Type 0
IsBoundedReading (Ok h) = IsBounded h
IsBoundedReading (Err fault) = is_code_without_connection role.Server fault.code ≡ false

counted-more : (n : ℕ) (change : Bool) → n ≤ 64 → (n ≤ counted n change) × (counted n change ≤ 64)
counted-more n false most = (omega arith, most)
counted-more n true most = by (nat_lt n 64) refl where
  by : (few : Bool) → nat_lt n 64 ≡ few → (n ≤ (if few then n + 1 else n)) × ((if few then n + 1 else n) ≤ 64)
  by true is = (omega arith, grind arith)
  by false is = (omega arith, most)

met-bounded : (h : ReadingState) (place : ℕ) (change : Bool) (rows : List Row) → IsBounded h → IsNegotiation rows → IsBounded (met h place change rows h.confirms)
met-bounded h place change rows b sound =
    let more = counted-more h.changes change b.most in
    let used = more-used h.used place every_place in
    record {
      rows = sound;
      size = length-set h.used place true ∙ b.size;
      few = (let few = b.few in omega (arith, few, more.0));
      most = more.1;
      short = b.short;
      room = (let room = b.room in omega (arith, room, more.0, used));
    }

-- the bytes of a Confirm more
length-written : (items : List Item) (more : List Item) → length (written (items ++ more)) ≡ length (written items) + length (written more)
length-written [] more = omega arith
length-written (item ∷ rest) more =
    let one : List ℕ = spelled item.mandatory item.kind item.body in
    let all = length-append one (written (rest ++ more)) in
    let old = length-append one (written rest) in
    let later = length-written rest more in
    omega (arith, all, old, later)

length-confirm : (due : DueConfirm) → length (written (confirm_items (due ∷ []))) ≡ 3 + length due.body
length-confirm due =
    let alone = ap length (append-nil (spelled false (confirm_type due.left) (due.number ∷ due.body))) in omega (arith, alone)

length-confirms : (confirms : List DueConfirm) (due : DueConfirm)
    → length (written (confirm_items (confirms ++ due ∷ []))) ≡ length (written (confirm_items confirms)) + (3 + length due.body)
length-confirms confirms due =
    let joined : confirm_items (confirms ++ due ∷ []) ≡ confirm_items confirms ++ confirm_items (due ∷ []) = map-append confirm_item confirms (due ∷ []) in
    let all = ap (λ (items : List Item). length (written items)) joined in
    let parts = length-written (confirm_items confirms) (confirm_items (due ∷ [])) in
    let one = length-confirm due in
    omega (arith, all, parts, one)

-- a Change, by what its row answers, if there is one
answered-bounded : (h : ReadingState) (place : ℕ) (rows : List Row) (entry : Entry) (left : Bool) (number : ℕ) (answer : RowAnswer) (its : ℕ) → its ≤ 1
    → rows_used h.used every_place + its ≤ rows_used (slice_set h.used place true) every_place → IsBounded h → nat_lt h.changes 64 ≡ true → IsNegotiation rows
    → IsShort (9 * its) answer → IsBoundedReading (by_answered h place rows entry (answered left number answer))
answered-bounded h place rows entry left number (Confirms body) its one used b few sound short =
    let due : DueConfirm = record { left = not left; number = number; body = body } in
    let more : counted h.changes true ≡ h.changes + 1 = rw few refl in
    record {
      rows = sound;
      size = length-set h.used place true ∙ b.size;
      few = (let long = length-append h.confirms (due ∷ []) in let old = b.few in omega (arith, long, old, more));
      most = (counted-more h.changes true b.most).1;
      short = All-append (λ (d : DueConfirm). length d.body ≤ 9) h.confirms (due ∷ []) b.short
          (All-cons (λ (d : DueConfirm). length d.body ≤ 9) due [] (omega (arith, short, one)) (All-nil (λ (d : DueConfirm). length d.body ≤ 9)));
      room = (let long = length-confirms h.confirms due in let old = b.room in omega (arith, long, old, more, used, short));
    }
answered-bounded h place rows entry left number (Fatal code) its one used b few sound short = refl
answered-bounded h place rows entry left number _ its one used b few sound short = met-bounded h place true rows b sound

settling-bounded : (h : ReadingState) (place : ℕ) (rows : List Row) (entry : Entry) (x : Settling) → IsBounded h → IsNegotiation rows
    → IsBoundedReading (by_settling h place rows entry x)
settling-bounded h place rows entry settling.Settled b sound = met-bounded h place false rows b sound
settling-bounded h place rows entry settling.Ignored b sound = met-bounded h place false rows b sound
settling-bounded h place rows entry settling.Fatal b sound = refl

used-bounded : (h : ReadingState) (change : Bool) → IsBounded h → IsBounded (record h { changes = counted h.changes change })
used-bounded h change b =
    let more = counted-more h.changes change b.most in
    record {
      rows = b.rows;
      size = b.size;
      few = (let few = b.few in omega (arith, few, more.0));
      most = more.1;
      short = b.short;
      room = (let room = b.room in omega (arith, room, more.0));
    }

feature-bounded : (ack : Option ℕ) (h : ReadingState) (entry : Entry) (change left : Bool) (number : ℕ) (body : List ℕ) → IsBounded h
    → IsBoundedReading (heeds_feature ack h entry change left number body)
feature-bounded ack h entry true left number body b = by (slice_index_or h.used (place_in_used left number) false) (nat_lt h.changes 64) refl refl where
  by : (used few : Bool) → slice_index_or h.used (place_in_used left number) false ≡ used → nat_lt h.changes 64 ≡ few
      → IsBoundedReading (if used then Ok (record h { changes = counted h.changes true })
      else if few then heeds_change h entry left number body else Ok (met h (place_in_used left number) true h.rows h.confirms))
  by true few was is = used-bounded h true b
  by false true free is =
      let known : Option Feature = feature_numbered number in
      let changed = change-sound h.rows known left body entry.mandatory b.rows in
      answered-bounded h (place_in_used left number) (changes h.rows left number body entry.mandatory).rows entry left number
      (changes h.rows left number body entry.mandatory).answer (rows_of known) (rows-few known) (feature-used h.used left number known refl b.size free) b is
      changed.0 changed.1
  by false false free is = met-bounded h (place_in_used left number) true h.rows b b.rows
feature-bounded ack h entry false left number body b = by (slice_index_or h.used (place_in_used left number) false) where
  by : (used : Bool) → IsBoundedReading (if used then Ok (record h { changes = counted h.changes false }) else heeds_confirm ack h entry left number body)
  by true = used-bounded h false b
  by false =
      settling-bounded h (place_in_used left number) (confirmed h.rows left number body ack).rows entry (settling_of (confirmed h.rows left number body ack).answer) b
      (confirm-sound h.rows (feature_numbered number) left body ack b.rows)

body-bounded : (ack : Option ℕ) (h : ReadingState) (entry : Entry) (body : List ℕ) → IsBounded h → IsBoundedReading (heeds_body ack h entry body)
body-bounded ack h entry [] b = b
body-bounded ack h entry (number ∷ body) b = feature-bounded ack h entry (is_change entry.kind) (is_left entry.kind) number body b

item-bounded : (count : Bool) (ack : Option ℕ) (h : ReadingState) (item : Result Entry OptFault) → IsBounded h → IsBoundedReading (heeds_item count ack h item)
item-bounded count ack h (Err _) b = refl
item-bounded count ack h (Ok entry) b = by (is_understood entry.kind (length entry.body)) (count && is_of_negotiation entry.kind) where
  wrong : (mandatory : Bool) → IsBoundedReading (if mandatory then Err (fault_of codes.MandatoryError entry) else Ok h)
  wrong true = refl
  wrong false = b

  by : (known its : Bool) → IsBoundedReading (if not known then misunderstood h entry else if its then heeds_body ack h entry entry.body else Ok h)
  by false its = wrong entry.mandatory
  by true true = body-bounded ack h entry entry.body b
  by true false = b

heeds-bounded : (count : Bool) (ack : Option ℕ) (h : ReadingState) (items : List (Result Entry OptFault)) → IsBounded h → IsBoundedReading (heeds count ack h items)
heeds-bounded count ack h [] b = b
heeds-bounded count ack h (item ∷ rest) b =
    joined (heeds_item count ack h item) (item-bounded count ack h item b) (λ next more. heeds-bounded count ack next rest more) where
      joined : (r : Result ReadingState Fault) → IsBoundedReading r → ((next : ReadingState) → IsBounded next → IsBoundedReading (heeds count ack next rest))
          → IsBoundedReading (heeds_then r (λ next. heeds count ack next rest))
      joined (Ok next) bounded more = more next bounded
      joined (Err fault) numbered more = numbered

pub reading-bounded : (count : Bool) (ack : Option ℕ) (rows : List Row) (items : List (Result Entry OptFault)) → IsNegotiation rows
    → IsBoundedReading (heeds count ack (unheeded rows) items)
reading-bounded count ack rows items sound =
    heeds-bounded count ack (unheeded rows) items
    (record {
      rows = sound;
      size = length-replicate 512 false;
      few = omega arith;
      most = omega arith;
      short = All-nil (λ (due : DueConfirm). length due.body ≤ 9);
      room = omega arith;
    })

-- the Confirms that are due after a packet's options
pub record AreShort (confirms : List DueConfirm) : Type 0 where
  pub few : length confirms ≤ 64
  pub short : All (λ due. length due.body ≤ 9) confirms
  pub room : HaveRoom confirms

pub no-confirms : AreShort []
no-confirms = record { few = omega arith; short = All-nil (λ (due : DueConfirm). length due.body ≤ 9); room = omega arith }

pub confirms-short : (count : Bool) (ack : Option ℕ) (rows : List Row) (items : List (Result Entry OptFault)) (read : ReadingState) → IsNegotiation rows
    → heeds count ack (unheeded rows) items ≡ Ok read → AreShort read.confirms
confirms-short count ack rows items read sound is =
    let bounded : IsBounded read = subst IsBoundedReading is (reading-bounded count ack rows items sound) in
    let most = bounded.most in
    let used : rows_used read.used every_place ≤ 18 = used-few read.used every_place in
    record {
      few = (let few = bounded.few in omega (arith, few, most));
      short = bounded.short;
      room = (let room = bounded.room in omega (arith, room, most, used));
    }

-- as it is stated
pub confirms_have_room : ConfirmsHaveRoom
confirms_have_room count ack rows options h sound is = (confirms-short count ack rows options h sound is).room

-- The options of a packet and their bytes.

-- an option that can be written, in at most 12 bytes
record IsSmall (item : Item) : Type 0 where
  writable : IsWritable item
  short : length (spelled item.mandatory item.kind item.body) ≤ 12

mark-short : (mandatory : Bool) → length (mark mandatory) ≤ 1
mark-short true = omega arith
mark-short false = omega arith

small-by : (item : Item) → 32 ≤ item.kind → item.kind < 256 → length (mark item.mandatory) + length item.body ≤ 10 → IsSmall item
small-by item least most short =
    let long = length-append (mark item.mandatory) (item.kind ∷ (length item.body + 2) ∷ item.body) in
    record { writable = record { has_length = least; is_byte = most; fits = omega (arith, short) }; short = omega (arith, short, long) }

confirm-small : (due : DueConfirm) → length due.body ≤ 9 → IsSmall (confirm_item due)
confirm-small due short = small-by (confirm_item due) (least due.left) (most due.left) (omega (arith, short)) where
  least : (left : Bool) → 32 ≤ confirm_type left
  least true = omega arith
  least false = omega arith

  most : (left : Bool) → confirm_type left < 256
  most true = omega arith
  most false = omega arith

wish-short : (feature : Feature) (place : Place) (active : Option Wanted) → is_active feature place active ≡ true → length (wish_bytes feature active) ≤ 8
wish-short feature place None is = omega arith
wish-short feature place (Some (wanted.List list)) is = entries-few feature place (Some (wanted.List list)) is
wish-short feature place (Some (wanted.Number number)) is =
    let few = width-few feature in let long = big-length (described feature).width number in omega (arith, few, long)

change-small : (rows : List Row) → IsNegotiation rows → (k : Key) → IsSmall (change_item k (row_at rows k.0 k.1))
change-small rows sound k =
    let row : Row = row_at rows k.0 k.1 in
    let its = sound.each k.0 k.1 in
    let active : is_active k.0 k.1 row.active ≡ true =
    subst (λ (place : Place). is_active k.0 place row.active ≡ true) its.place_is
    (subst (λ (feature : Feature). is_active feature row.place row.active ≡ true) its.feature_is its.sound.active) in
    let body = wish-short k.0 k.1 row.active active in
    let one = mark-short row.mandatory in
    small-by (change_item k row) (least k.1) (most k.1) (omega (arith, body, one)) where
      least : (place : Place) → 32 ≤ change_type place
      least Here = omega arith
      least There = omega arith

      most : (place : Place) → change_type place < 256
      most Here = omega arith
      most There = omega arith

all-so : {X : Type 0} (P : X → Type 0) → ((x : X) → P x) → (xs : List X) → All P xs
all-so P every [] = All-nil P
all-so P every (x ∷ xs) = All-cons P x xs (every x) (all-so P every xs)

written-room : (items : List Item) → All IsSmall items → length (written items) ≤ 12 * length items
written-room [] small = omega arith
written-room (item ∷ rest) small =
    let first = (All-head IsSmall item rest small).short in
    let more = written-room rest (All-tail IsSmall item rest small) in
    let long = length-append (spelled item.mandatory item.kind item.body) (written rest) in
    omega (arith, first, more, long)

all-writable : (items : List Item) → All IsSmall items → All IsWritable items
all-writable [] small = All-nil IsWritable
all-writable (item ∷ rest) small =
    All-cons IsWritable item rest (All-head IsSmall item rest small).writable (all-writable rest (All-tail IsSmall item rest small))

confirms-small : (confirms : List DueConfirm) → All (λ due. length due.body ≤ 9) confirms → All IsSmall (confirm_items confirms)
confirms-small [] short = All-nil IsSmall
confirms-small (due ∷ rest) short =
    All-cons IsSmall (confirm_item due) (confirm_items rest) (confirm-small due (All-head (λ (d : DueConfirm). length d.body ≤ 9) due rest short))
    (confirms-small rest (All-tail (λ (d : DueConfirm). length d.body ≤ 9) due rest short))

-- options of this many bytes can be sent on every type but Data
padded-room : (area : List ℕ) → length area ≤ 984 → length (padded area) ≤ 984
padded-room area fits =
    let long = length-append area (replicate ((4 - length area % 4) % 4) 0) in
    let pad : length (replicate {A = ℕ} ((4 - length area % 4) % 4) 0) ≡ (4 - length area % 4) % 4 = length-replicate ((4 - length area % 4) % 4) 0 in
    omega (arith, fits, long, pad)

items-sendable : (k : Kind) (items : List Item) → has_forms true k ≡ true → HasDetail k → is_data (packet_type k) ≡ false → All IsWritable items
    → length (written items) ≤ 984 → IsSendable (record { kind = k; options = items; payload = [] })
items-sendable k items long detail other writable room =
    let whole = padded-room (written items) room in
    let short = fixed_part_is_short true (packet_type k) in
    record {
      is_long = long;
      detail = detail;
      items = writable;
      on_data = λ is. cc (is, other);
      area = omega (arith, whole, short);
      data_fits = omega arith;
    }

-- options of at most 510 bytes, as those of an Ack Vector are
pub record IsFront (items : List Item) : Type 0 where
  writable : All IsWritable items
  short : length (written items) ≤ 510

no-front : IsFront []
no-front = record { writable = All-nil IsWritable; short = omega arith }

vector-item-writable : (part : List ℕ) → length part ≤ 253 → IsWritable (vector_item part)
vector-item-writable part fits = record { has_length = omega arith; is_byte = omega arith; fits = fits }

-- at most two options of at most 253 bytes each
parts-front : (parts : List (List ℕ)) → All (λ part. length part ≤ 253) parts → (length (written (map vector_item parts)) ≤ 255 * length parts) × All IsWritable (map vector_item parts)
parts-front [] fit = (omega arith, All-nil IsWritable)
parts-front (part ∷ parts) fit =
    let here : length part ≤ 253 = All-head (λ (part : List ℕ). length part ≤ 253) part parts fit in
    let rest = parts-front parts (All-tail (λ (part : List ℕ). length part ≤ 253) part parts fit) in
    let long = length-append (spelled false options.ack_vector_0 part) (written (map vector_item parts)) in (
      omega (arith, here, long, rest.0),
      All-cons IsWritable (vector_item part) (map vector_item parts) (vector-item-writable part here) rest.1,
    )

pub vector-front : (has_vector : Bool) (vectors : Vectors) (set : MarkedSet) (greatest : ℕ) → IsFront (vector_items has_vector vectors set greatest)
vector-front false vectors set greatest = no-front
vector-front true vectors set greatest =
    let bytes : List ℕ = vector_under (has set.numbers) set.floor greatest vectors in
    let fits = room-vector (room_of vectors) (set_states (has set.numbers)) set.floor greatest in
    let most = most-room vectors in
    let few = options-few vectors bytes fits in
    let two = most-two vectors in
    let parts = parts-front (option_data bytes) (options-fit bytes (omega (arith, fits, most))) in
    record { writable = parts.1; short = omega (arith, parts.0, few, two) }
  where
    most-two : (vectors : Vectors) → most_options vectors ≤ 2
    most-two One = omega arith
    most-two Two = omega arith

-- such options, and after them others
front-sendable : (k : Kind) (front items : List Item) → has_forms true k ≡ true → HasDetail k → is_data (packet_type k) ≡ false → IsFront front
    → All IsWritable items → length (written items) ≤ 474 → IsSendable (record { kind = k; options = front ++ items; payload = [] })
front-sendable k front items long detail other first writable room =
    items-sendable k (front ++ items) long detail other (All-append IsWritable front items first.writable writable)
    (let all = length-written front items in let short = first.short in omega (arith, all, short, room))

-- the Changes of at most eighteen rows
changes-fit : (rows : List Row) (keys : List Key) → IsNegotiation rows → length keys ≤ 18 → All IsWritable (change_items rows keys) × (length (written (change_items rows keys)) ≤ 216)
changes-fit rows keys sound few =
    let changes : List Item = change_items rows keys in
    let small : All IsSmall changes =
    All-map IsSmall (λ (k : Key). change_item k (row_at rows k.0 k.1)) keys
    (all-so (λ (k : Key). IsSmall (change_item k (row_at rows k.0 k.1))) (change-small rows sound) keys) in
    let more = written-room changes small in
    let count = length-map keys (λ (k : Key). change_item k (row_at rows k.0 k.1)) in
    (all-writable changes small, omega (arith, more, count, few))

-- options in front, and Changes alone: beside two options of an Ack Vector there is no room for Confirms, too
pub front-asking-sendable : (k : Kind) (front : List Item) (rows : List Row) (keys : List Key) → has_forms true k ≡ true → HasDetail k
    → is_data (packet_type k) ≡ false → IsFront front → IsNegotiation rows → length keys ≤ 18
    → IsSendable (record { kind = k; options = front ++ change_items rows keys; payload = [] })
front-asking-sendable k front rows keys long detail other first sound few =
    let changes = changes-fit rows keys sound few in
    front-sendable k front (change_items rows keys) long detail other first changes.0 (let room = changes.1 in omega (arith, room))

-- Confirms and Changes, and nothing in front
pub saying-sendable : (k : Kind) (confirms : List DueConfirm) (rows : List Row) (keys : List Key) → has_forms true k ≡ true → HasDetail k
    → is_data (packet_type k) ≡ false → AreShort confirms → IsNegotiation rows → length keys ≤ 18 → IsSendable (saying k confirms rows keys)
saying-sendable k confirms rows keys long detail other short sound few =
    let changes = changes-fit rows keys sound few in
    let all = length-written (confirm_items confirms) (change_items rows keys) in
    let room = short.room in
    items-sendable k (confirm_items confirms ++ change_items rows keys) long detail other
    (All-append IsWritable (confirm_items confirms) (change_items rows keys) (all-writable (confirm_items confirms) (confirms-small confirms short.short)) changes.0)
    (let more = changes.1 in omega (arith, all, room, more))

-- options in front, and Confirms alone
pub front-confirming-sendable : (k : Kind) (front : List Item) (confirms : List DueConfirm) → has_forms true k ≡ true → HasDetail k → is_data (packet_type k) ≡ false
    → IsFront front → AreShort confirms → IsSendable (record { kind = k; options = front ++ confirm_items confirms; payload = [] })
front-confirming-sendable k front confirms long detail other first short =
    front-sendable k front (confirm_items confirms) long detail other first (all-writable (confirm_items confirms) (confirms-small confirms short.short))
    (let room = short.room in omega (arith, room))

pub confirming-sendable : (k : Kind) (confirms : List DueConfirm) → has_forms true k ≡ true → HasDetail k → is_data (packet_type k) ≡ false → AreShort confirms
    → IsSendable (confirming k confirms)
confirming-sendable k confirms long detail other short = front-confirming-sendable k [] confirms long detail other no-front short

-- no more rows ask than there are
pub due-few : (rows : List Row) → IsNegotiation rows → length (due_keys rows) ≤ 18
due-few rows sound =
    let key_of : (Row → Key) = λ row. (row.feature, row.place) in
    let long = length-map (filter is_due rows) key_of in
    let passed = length-filter is_due rows in
    let fewer = count_by-le-length is_due rows in
    let size = sound.size in
    omega (arith, long, passed, fewer, size)

pub asking-few : (rows : List Row) (confirms : List DueConfirm) → IsNegotiation rows → length (asking rows confirms) ≤ 18
asking-few rows confirms sound =
    let test : (Key → Bool) = λ k. not (is_confirmed confirms k) in
    let long = length-filter test (due_keys rows) in
    let fewer = count_by-le-length test (due_keys rows) in
    let few = due-few rows sound in
    omega (arith, long, fewer, few)
