-- An exchange of an Ack that asks and one that answers it, by what it makes of the rows of both ends.
use Rattle.std.proofs.Common.{◌≡◌, ◌≢◌, inl, inr, refl, ap, sym, ◌∙◌, subst, ℕ, suc, ◌+◌, ◌≤◌, List, [], ◌∷◌, ◌++◌, length, map, Bool, true, false, if◌then◌else◌, Option, Some, None, Result, Ok, arith}
use Rattle.std.proofs.lemmas.List.{length-map}
use Rattle.ack_vectors.specs.declared.room.Vectors.{Vectors}
use Rattle.run_list.specs.MarkedSet.{MarkedSet}
use Rattle.dccp_options.specs.Grammar.{Entry}
use Rattle.dccp_options.specs.Written.{Item, entries_at, spelled}
use Rattle.dccp_options.specs.declared.option.OptFault.{OptFault}
use Rattle.feature_lists.specs.declared.features.Place.{Place}
use Rattle.feature_lists.specs.declared.features.Place.TheVariants.{Here, There}
use Rattle.feature_machine.proofs.Turning.{turned-row}
use Rattle.feature_machine.specs.Negotiating.{IsNegotiation, due_keys, is_due, opposite, row_at}
use Rattle.feature_machine.specs.Rows.{RowEvent, Change, Confirm, Sends, answers_opening, row_step}
use Rattle.feature_machine.specs.Turns.{reply_due, row_turned, turned}
use Rattle.feature_machine.specs.declared.row.Row.{Row}
use Rattle.feature_machine.specs.declared.stands.Stand.{Stand}
use Rattle.feature_machine.specs.declared.stands.Stand.TheVariants as stand
use Rattle.dccp_endpoint.proofs.Asking.{sent-changing}
use Rattle.dccp_endpoint.proofs.FirstFaults.{changes-few}
use Rattle.dccp_endpoint.proofs.Heard.{heeds-turns}
use Rattle.dccp_endpoint.proofs.Keys.{events-sendings, has-due}
use Rattle.dccp_endpoint.proofs.Room.{due-few}
use Rattle.feature_machine.proofs.DueKeys.{due_distinct}
use Rattle.dccp_endpoint.proofs.OwnPackets.{own_packets_say}
use Rattle.dccp_endpoint.specs.Heeding.{DueConfirm, ReadingState, heard_turns, heeds, unheeded}
use Rattle.dccp_endpoint.specs.Saying.{change_if, changes_among, confirm_for, own_options, said_of, said_to}
use Rattle.dccp_endpoint.specs.Speaking.{change_items, confirm_items, wish_bytes}
use Rattle.dccp_endpoint.specs.Turns.{Key, sendings}
use Rattle.two_ends.proofs.OfFeatures.KeyHearing.{entries-length}
use Rattle.two_ends.proofs.OfFeatures.FewOptions.{changes_read, changes-as-read, heeded-few, vector-changes, vector-length, written-changes, written-length}
use Rattle.dccp_endpoint.proofs.OneConfirm.{whole-heard}
use Rattle.two_ends_progress.proofs.RowSteps.{Ends, change-answered, change-stays, confirm-settles}

-- the peer's row of the same feature
abbrev pub over : Key → Key
over k = (k.0, opposite k.1)

pub over-twice : (k : Key) → over (over k) ≡ k
over-twice k = by k.1 refl where
  by : (p : Place) → k.1 ≡ p → over (over k) ≡ k
  by Here is = ap (λ (p : Place). (k.0, opposite (opposite p))) is ∙ ap (λ (p : Place). (k.0, p)) (sym is)
  by There is = ap (λ (p : Place). (k.0, opposite (opposite p))) is ∙ ap (λ (p : Place). (k.0, p)) (sym is)

-- own options are few
own-few : (has_vector : Bool) (vectors : Vectors) (set : MarkedSet) (greatest : ℕ) (confirms : List DueConfirm) (rows : List Row) (keys : List Key)
    → length confirms + length keys ≤ 62
    → changes_among (map Ok (entries_at 0 (own_options has_vector vectors set greatest confirms rows keys))) ≤ 64
own-few has_vector vectors set greatest confirms rows keys few =
    let items : List Item = own_options has_vector vectors set greatest confirms rows keys in
    let one = changes-few (map Ok (entries_at 0 items)) in
    let two = length-map {B = Result Entry OptFault} (entries_at 0 items) Ok in
    let three = entries-length 0 items in
    let four = vector-length has_vector vectors set greatest (confirm_items confirms ++ change_items rows keys) in
    let five = written-length confirms rows keys in
    omega (arith, few, one, two, three, four, five)

-- a stand that asks for nothing is STABLE
pub quiet-stable : (row : Row) → is_due row ≡ false → row.stand ≡ stand.Stable
quiet-stable row quiet = by row.stand refl where
  by : (s : Stand) → row.stand ≡ s → s ≡ stand.Stable
  by stand.Stable is = refl
  by stand.Changing is = cc (quiet, is)
  by stand.Unstable is = cc (quiet, is)

-- What a row hears of a packet that was read whole.
module _ (rows : List Row) (sound : IsNegotiation rows) (ack : Option ℕ) (options : List (Result Entry OptFault)) (h : ReadingState)
    (few : changes_among options ≤ 64) (read : heeds true ack (unheeded rows) options ≡ Ok h) (k : Key) where
  heard-row : (events : List RowEvent) → said_to true ack k options ≡ events → row_at h.rows k.0 k.1 ≡ row_turned (row_at rows k.0 k.1) events
  heard-row events said =
      ap (λ (rs : List Row). row_at rs k.0 k.1) (heeds-turns true ack (unheeded rows) options h read)
      ∙ turned-row k.0 k.1 (heard_turns true ack (unheeded rows) options) rows sound.size
      ∙ ap (row_turned (row_at rows k.0 k.1)) ((whole-heard k true ack rows options h few read).events ∙ said)

  -- a Change moves no stand, and is answered by a Confirm where the row is not UNSTABLE
  change-heard : (body : List ℕ) (mandatory : Bool) → said_to true ack k options ≡ Change body mandatory ∷ []
      → (row_at rows k.0 k.1).stand ≢ stand.Unstable → (some : List ℕ) × (confirm_for k h.confirms ≡ Some some)
  change-heard body mandatory said settled =
      let hears = whole-heard k true ack rows options h few read in
      elim (change-answered (row_at rows k.0 k.1) body mandatory settled) [
        | inl (Ends code fatal) ↦ absurd (hears.lives (Change body mandatory) said code fatal)
        | inr its ↦ (its.0, hears.confirm ∙ ap (reply_due (row_at rows k.0 k.1)) said ∙ its.1)
      ]

  -- a Confirm that answers the opening makes the row STABLE
  confirm-heard : (body : List ℕ) → said_to true ack k options ≡ Confirm body ack ∷ [] → (row_at rows k.0 k.1).stand ≡ stand.Changing
      → answers_opening (row_at rows k.0 k.1).opened ack ≡ true → (row_at h.rows k.0 k.1).stand ≡ stand.Stable
  confirm-heard body said changing answers =
      let hears = whole-heard k true ack rows options h few read in
      elim (confirm-settles (row_at rows k.0 k.1) body ack changing answers) [
        | inl (Ends code fatal) ↦ absurd (hears.lives (Confirm body ack) said code fatal)
        | inr stable ↦ ap (λ (row : Row). row.stand) (heard-row (Confirm body ack ∷ []) said) ∙ stable
      ]

-- The rows of an end that asks, once its Changes went out under a number.
abbrev pub asked : List Row → ℕ → List Row
asked rows n = turned rows (sendings n (due_keys rows))

module _ (rows : List Row) (sound : IsNegotiation rows) (n : ℕ) where
  sent-row : (k : Key) (due : Bool) → is_due (row_at rows k.0 k.1) ≡ due
      → row_at (asked rows n) k.0 k.1 ≡ row_turned (row_at rows k.0 k.1) (if due then Sends n ∷ [] else [])
  sent-row k due is =
      turned-row k.0 k.1 (sendings n (due_keys rows)) rows sound.size
      ∙ ap (row_turned (row_at rows k.0 k.1))
      (events-sendings n k (due_keys rows) (due_distinct rows sound) ∙ ap (λ (b : Bool). if b then Sends n ∷ [] else []) (has-due rows k sound ∙ is))

  pub asked-changing : (k : Key) → is_due (row_at rows k.0 k.1) ≡ true → (row_at (asked rows n) k.0 k.1).stand ≡ stand.Changing
  asked-changing k due = ap (λ (row : Row). row.stand) (sent-row k true due) ∙ sent-changing (row_at rows k.0 k.1) n due

  pub asked-opened : (k : Key) → is_due (row_at rows k.0 k.1) ≡ true → (row_at (asked rows n) k.0 k.1).opened ≡ (row_step (row_at rows k.0 k.1) (Sends n)).row.opened
  asked-opened k due = ap (λ (row : Row). row.opened) (sent-row k true due)

  asked-stable : (k : Key) → is_due (row_at rows k.0 k.1) ≡ false → (row_at (asked rows n) k.0 k.1).stand ≡ stand.Stable
  asked-stable k quiet = ap (λ (row : Row). row.stand) (sent-row k false quiet) ∙ quiet-stable (row_at rows k.0 k.1) quiet

  -- no row is UNSTABLE then
  pub none-unstable : (k : Key) → (row_at (asked rows n) k.0 k.1).stand ≢ stand.Unstable
  none-unstable k is = by (is_due (row_at rows k.0 k.1)) refl where
    by : (due : Bool) → is_due (row_at rows k.0 k.1) ≡ due → ⊥
    by true due = cc (asked-changing k due, is)
    by false quiet = cc (asked-stable k quiet, is)

  -- The peer reads this.
  module _ (theirs : List Row) (their_sound : IsNegotiation theirs) (ack : Option ℕ) (has_vector : Bool) (vectors : Vectors) (set : MarkedSet) (greatest : ℕ)
      (options : List (Result Entry OptFault))
      (are : options ≡ map Ok (entries_at 0 (own_options has_vector vectors set greatest [] (asked rows n) (due_keys rows))))
      (h : ReadingState) (read : heeds true ack (unheeded theirs) options ≡ Ok h) where
    few : changes_among options ≤ 64
    few =
        subst (λ (all : List (Result Entry OptFault)). changes_among all ≤ 64) (sym are)
        (own-few has_vector vectors set greatest [] (asked rows n) (due_keys rows) (let most = due-few rows sound in omega (arith, most)))

    says : (k : Key) → said_to true ack (over k) options ≡ change_if (is_due (row_at rows k.0 k.1)) k (row_at (asked rows n) k.0 k.1)
    says k =
        ap (said_to true ack (over k)) are
        ∙ own_packets_say ack has_vector vectors set greatest [] (asked rows n) (due_keys rows) k
        ∙ ap (λ (b : Bool). change_if b k (row_at (asked rows n) k.0 k.1)) (has-due rows k sound)

    -- its stands stay
    stays-over : (k : Key) → (row_at h.rows (over k).0 (over k).1).stand ≡ (row_at theirs (over k).0 (over k).1).stand
    stays-over k = by (is_due (row_at rows k.0 k.1)) (says k) where
      by : (due : Bool) → said_to true ack (over k) options ≡ change_if due k (row_at (asked rows n) k.0 k.1)
          → (row_at h.rows (over k).0 (over k).1).stand ≡ (row_at theirs (over k).0 (over k).1).stand
      by true said =
          ap (λ (row : Row). row.stand) (heard-row theirs their_sound ack options h few read (over k) _ said)
          ∙ change-stays (row_at theirs (over k).0 (over k).1) (wish_bytes k.0 (row_at (asked rows n) k.0 k.1).active) (row_at (asked rows n) k.0 k.1).mandatory
      by false said = ap (λ (row : Row). row.stand) (heard-row theirs their_sound ack options h few read (over k) _ said)

    pub their-stands : (k : Key) → (row_at h.rows k.0 k.1).stand ≡ (row_at theirs k.0 k.1).stand
    their-stands k =
        subst (λ (other : Key). (row_at h.rows other.0 other.1).stand ≡ (row_at theirs other.0 other.1).stand) (over-twice k) (stays-over (over k))

    -- and a Confirm is due for each row that asked, where the peer's is not UNSTABLE
    pub confirm-due : (k : Key) → is_due (row_at rows k.0 k.1) ≡ true → (row_at theirs (over k).0 (over k).1).stand ≢ stand.Unstable
        → (some : List ℕ) × (confirm_for (over k) h.confirms ≡ Some some)
    confirm-due k due settled =
        change-heard theirs their_sound ack options h few read (over k) (wish_bytes k.0 (row_at (asked rows n) k.0 k.1).active) (row_at (asked rows n) k.0 k.1).mandatory
        (says k ∙ ap (λ (b : Bool). change_if b k (row_at (asked rows n) k.0 k.1)) due) settled

    confirms-few : length h.confirms ≤ 18
    confirms-few =
        let items : List Item = own_options has_vector vectors set greatest [] (asked rows n) (due_keys rows) in
        let one = heeded-few true ack (unheeded theirs) h options read in
        let two = changes-as-read 0 items in
        let three = vector-changes has_vector vectors set greatest (confirm_items [] ++ change_items (asked rows n) (due_keys rows)) in
        let four = written-changes [] (asked rows n) (due_keys rows) in
        let five = due-few rows sound in
        let six : changes_read options ≡ length (due_keys rows) = ap changes_read are ∙ two ∙ three ∙ four in
        omega (arith, one, six, five)

    -- Where nothing answers, each row whose peer's is not UNSTABLE asked for nothing.
    pub unanswered : h.confirms ≡ [] → (k : Key) → (row_at theirs (over k).0 (over k).1).stand ≢ stand.Unstable → (row_at (asked rows n) k.0 k.1).stand ≡ stand.Stable
    unanswered none k settled = by (is_due (row_at rows k.0 k.1)) refl where
      by : (due : Bool) → is_due (row_at rows k.0 k.1) ≡ due → (row_at (asked rows n) k.0 k.1).stand ≡ stand.Stable
      by true due =
          let its = confirm-due k due settled in
          let no : None ≡ Some its.0 = sym (ap (confirm_for (over k)) none) ∙ its.1 in cc no
      by false quiet = asked-stable k quiet

    -- The answer, read whole.
    module _ (answer_vector : Bool) (answer_vectors : Vectors) (answer_set : MarkedSet) (answer_greatest : ℕ) (their_rows : List Row)
        (asked_sound : IsNegotiation (asked rows n)) (answers : List (Result Entry OptFault))
        (answers_are : answers ≡ map Ok (entries_at 0 (own_options answer_vector answer_vectors answer_set answer_greatest h.confirms their_rows [])))
        (g : ReadingState) (heard : heeds true (Some n) (unheeded (asked rows n)) answers ≡ Ok g)
        (early : (k : Key) → is_due (row_at rows k.0 k.1) ≡ true → answers_opening (row_at (asked rows n) k.0 k.1).opened (Some n) ≡ true) where
      answer-few : changes_among answers ≤ 64
      answer-few =
          subst (λ (all : List (Result Entry OptFault)). changes_among all ≤ 64) (sym answers_are)
          (own-few answer_vector answer_vectors answer_set answer_greatest h.confirms their_rows [] (let most = confirms-few in omega (arith, most)))

      answer-says : (k : Key) → said_to true (Some n) k answers ≡ said_of (confirm_for (over k) h.confirms) false (Some n) (over k) (row_at their_rows (over k).0 (over k).1)
      answer-says k =
          subst (λ (key : Key). said_to true (Some n) key answers ≡ said_of (confirm_for (over k) h.confirms) false (Some n) (over k) (row_at their_rows (over k).0 (over k).1))
          (over-twice k)
          (ap (said_to true (Some n) (over (over k))) answers_are
          ∙ own_packets_say (Some n) answer_vector answer_vectors answer_set answer_greatest h.confirms their_rows [] (over k))

      unmoved : (k : Key) → confirm_for (over k) h.confirms ≡ None → row_at g.rows k.0 k.1 ≡ row_at (asked rows n) k.0 k.1
      unmoved k none =
          heard-row (asked rows n) asked_sound (Some n) answers g answer-few heard k []
          (answer-says k ∙ ap (λ (c : Option (List ℕ)). said_of c false (Some n) (over k) (row_at their_rows (over k).0 (over k).1)) none)

      settles : (k : Key) (body : List ℕ) → confirm_for (over k) h.confirms ≡ Some body → is_due (row_at rows k.0 k.1) ≡ true
          → (row_at g.rows k.0 k.1).stand ≡ stand.Stable
      settles k body some due =
          confirm-heard (asked rows n) asked_sound (Some n) answers g answer-few heard k body
          (answer-says k ∙ ap (λ (c : Option (List ℕ)). said_of c false (Some n) (over k) (row_at their_rows (over k).0 (over k).1)) some)
          (asked-changing k due) (early k due)

      -- no Confirm without a Change: a row that did not ask stays
      none-asked : (k : Key) → is_due (row_at rows k.0 k.1) ≡ false → confirm_for (over k) h.confirms ≡ None
      none-asked k quiet =
          (whole-heard (over k) true ack theirs options h few read).confirm
          ∙ ap (reply_due (row_at theirs (over k).0 (over k).1)) (says k ∙ ap (λ (b : Bool). change_if b k (row_at (asked rows n) k.0 k.1)) quiet)

      -- Each row whose peer's is not UNSTABLE is STABLE.
      pub answered-stable : (k : Key) → (row_at theirs (over k).0 (over k).1).stand ≢ stand.Unstable → (row_at g.rows k.0 k.1).stand ≡ stand.Stable
      answered-stable k settled = by (is_due (row_at rows k.0 k.1)) refl where
        by : (due : Bool) → is_due (row_at rows k.0 k.1) ≡ due → (row_at g.rows k.0 k.1).stand ≡ stand.Stable
        by true due = let its = confirm-due k due settled in settles k its.0 its.1 due
        by false quiet = ap (λ (row : Row). row.stand) (unmoved k (none-asked k quiet)) ∙ asked-stable k quiet

      pub answered-none-unstable : (k : Key) → (row_at g.rows k.0 k.1).stand ≢ stand.Unstable
      answered-none-unstable k is = by (confirm_for (over k) h.confirms) refl (is_due (row_at rows k.0 k.1)) refl where
        by : (c : Option (List ℕ)) → confirm_for (over k) h.confirms ≡ c → (due : Bool) → is_due (row_at rows k.0 k.1) ≡ due → ⊥
        by None none due is_due_so = none-unstable k (sym (ap (λ (row : Row). row.stand) (unmoved k none)) ∙ is)
        by (Some body) some true due = cc (settles k body some due, is)
        by (Some body) some false quiet = cc (none-asked k quiet, some)
