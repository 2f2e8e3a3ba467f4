-- Rows that ask: they still do when Changes go out, and then each is in CHANGING.
use Rattle.std.proofs.Common.{◌≡◌, ℕ, suc, ◌+◌, ◌<◌, ◌==◌, Bool, true, false, not, List, [], ◌∷◌, Option, length, drop, get_or, cond, refl, sym, ap, ◌∙◌, subst, arith, eqb-true, get_or-set_other, length-set}
use Rattle.std.specs.Prelude.{filter}
use Rattle.std.proofs.Math.Seq.{drop-cons}
use Rattle.std.proofs.lemmas.Bool.{eqb-false}
use Rattle.feature_lists.specs.declared.features.Feature.{Feature}
use Rattle.feature_lists.specs.declared.features.Place.{Place}
use Rattle.feature_lists.specs.declared.wishes.Wanted.{Wanted}
use Rattle.feature_machine.specs.Answers.{is_opening}
use Rattle.feature_machine.specs.Lists.{index_of}
use Rattle.feature_machine.specs.Negotiating.{IsNegotiation, due_keys, every_place, is_asking, is_due, row_at, stepped}
use Rattle.feature_machine.specs.Rows.{Offers, Prefers, Preferred, Sending, Sends, row_line, row_step}
use Rattle.feature_machine.specs.Turns.{turned}
use Rattle.feature_machine.specs.declared.row.Row.{Row}
use Rattle.feature_machine.specs.declared.stands.Stand.{Stand}
use Rattle.feature_machine.specs.declared.stands.Stand.TheVariants as stand
use Rattle.feature_machine.proofs.DueKeys.{due_order}
use Rattle.feature_machine.proofs.Places.{put_there, same_feature, same_number, same_place}
use Rattle.dccp_endpoint.specs.Heeding.{DueConfirm}
use Rattle.dccp_endpoint.specs.Speaking.{AreChanging, AreDue, asking, is_confirmed, unconfirmed}
use Rattle.dccp_endpoint.specs.Turns.{Key, offerings, sendings}

-- a row that asks is in CHANGING once its Change went out, and one in CHANGING stays there
line-changing : (row : Row) (s : Stand) (number : ℕ) (opened : Option ℕ) → is_asking s ≡ true → row.stand ≡ s
    → (row_line row s (Sending number opened)).row.stand ≡ stand.Changing
line-changing row s number opened asks is = grind (arith, asks, is)

-- a row whose Change goes out is in CHANGING
pub sent-changing : (row : Row) (number : ℕ) → is_due row ≡ true → (row_step row (Sends number)).row.stand ≡ stand.Changing
sent-changing row number due = line-changing row row.stand number row.opened due refl

-- what holds of a row and of what becomes of it when its Change goes out, holds of each row when the Change of one goes out
stepped-keeps : (P : Row → Type 0) (rows : List Row) (feature other : Feature) (place there : Place) (number : ℕ)
    → (P (row_at rows other there) → P (row_step (row_at rows other there) (Sends number)).row)
    → length rows ≡ 18 → P (row_at rows other there) → P (row_at (stepped rows feature place (Sends number)).rows other there)
stepped-keeps P rows feature other place there number keeps size has = by_row (index_of feature place == index_of other there) refl
  where
    by_row : (same : Bool) → (index_of feature place == index_of other there) ≡ same
        → P (row_at (stepped rows feature place (Sends number)).rows other there)
    by_row true is =
        let index : index_of feature place ≡ index_of other there = eqb-true (index_of feature place) (index_of other there) is in
        let features : other ≡ feature = sym (same_feature feature other (same_number feature other place there index)) in
        let places : there ≡ place = sym (same_place feature other place there index) in
        subst (λ x. P (row_at (stepped rows x place (Sends number)).rows other there)) features
        (subst (λ y. P (row_at (stepped rows other y (Sends number)).rows other there)) places
        (subst P (sym (put_there rows other there (row_step (row_at rows other there) (Sends number)).row size)) (keeps has)))
    by_row false is =
        subst P (sym (get_or-set_other rows (index_of feature place) (index_of other there) (row_step (row_at rows feature place) (Sends number)).row _
        (λ same. eqb-false (index_of feature place) (index_of other there) is (sym same)))) has

-- rows that ask still do when the Change of one has gone out
pub due_goes_on : (rows : List Row) (feature : Feature) (place : Place) (number : ℕ) (keys : List Key) → length rows ≡ 18 → AreDue rows keys
    → AreDue (stepped rows feature place (Sends number)).rows keys
due_goes_on rows feature place number [] size due = tt
due_goes_on rows feature place number (k ∷ keys) size due = (
  stepped-keeps (λ row. is_due row ≡ true) rows feature k.0 place k.1 number
      (λ asks. ap is_asking (sent-changing (row_at rows k.0 k.1) number asks)) size due.0,
  due_goes_on rows feature place number keys size due.1,
)

-- one in CHANGING stays there
changing-stays : (rows : List Row) (k : Key) (number : ℕ) (keys : List Key) → length rows ≡ 18 → (row_at rows k.0 k.1).stand ≡ stand.Changing
    → (row_at (turned rows (sendings number keys)) k.0 k.1).stand ≡ stand.Changing
changing-stays rows k number [] size is = is
changing-stays rows k number (first ∷ rest) size is =
    changing-stays (stepped rows first.0 first.1 (Sends number)).rows k number rest (length-set rows (index_of first.0 first.1) _ ∙ size)
    (stepped-keeps (λ row. row.stand ≡ stand.Changing) rows first.0 k.0 first.1 k.1 number
    (λ changing. sent-changing (row_at rows k.0 k.1) number (ap is_asking changing)) size is)

-- each row whose Change went out is in CHANGING
pub changing_then : (rows : List Row) (number : ℕ) (keys : List Key) → length rows ≡ 18 → AreDue rows keys
    → AreChanging (turned rows (sendings number keys)) keys
changing_then rows number [] size due = tt
changing_then rows number (k ∷ keys) size due = (
  changing-stays (stepped rows k.0 k.1 (Sends number)).rows k number keys (length-set rows (index_of k.0 k.1) _ ∙ size)
      (ap (λ row. row.stand) (put_there rows k.0 k.1 (row_step (row_at rows k.0 k.1) (Sends number)).row size)
      ∙ sent-changing (row_at rows k.0 k.1) number due.0),
  changing_then (stepped rows k.0 k.1 (Sends number)).rows number keys (length-set rows (index_of k.0 k.1) _ ∙ size)
      (due_goes_on rows k.0 k.1 number keys size due.1),
)

-- the rows that ask are due, and so are those of them that pass a test
passing-due : (rows : List Row) (test : Key → Bool) (keys : List Key) → AreDue rows keys → AreDue rows (filter test keys)
passing-due rows test [] due = tt
passing-due rows test (k ∷ keys) due = by_test (test k) (passing-due rows test keys due.1)
  where
    by_test : (passes : Bool) → AreDue rows (filter test keys) → AreDue rows (cond passes (k ∷ filter test keys) (filter test keys))
    by_test true later = (due.0, later)
    by_test false later = later

tested-due : (rows : List Row) (keys : List Key) → AreDue rows (filter (λ at. is_due (row_at rows at.0 at.1)) keys)
tested-due rows [] = tt
tested-due rows (k ∷ keys) = by_due (is_due (row_at rows k.0 k.1)) refl (tested-due rows keys)
  where
    rest : List Key
    rest = filter (λ at. is_due (row_at rows at.0 at.1)) keys

    by_due : (due : Bool) → is_due (row_at rows k.0 k.1) ≡ due → AreDue rows rest → AreDue rows (cond due (k ∷ rest) rest)
    by_due true is later = (is, later)
    by_due false is later = later

-- the rows that are due are due
pub due_are_due : (rows : List Row) → IsNegotiation rows → AreDue rows (due_keys rows)
due_are_due rows sound = subst (λ keys. AreDue rows keys) (sym (due_order rows sound)) (tested-due rows every_place)

-- so are those that ask
pub asking_are_due : (rows : List Row) (confirms : List DueConfirm) → IsNegotiation rows → AreDue rows (asking rows confirms)
asking_are_due rows confirms sound = passing-due rows (λ k. not (is_confirmed confirms k)) (due_keys rows) (due_are_due rows sound)

-- without Confirms all are asked for
pub unconfirmed_all : (keys : List Key) → unconfirmed [] keys ≡ keys
unconfirmed_all [] = refl
unconfirmed_all (k ∷ keys) = ap (λ rest. k ∷ rest) (unconfirmed_all keys)

-- a wish that a STABLE row takes makes it ask
line-preferred : (row : Row) (s : Stand) (wish : Wanted) → is_opening (row_line row s (Preferred wish)).answer ≡ true
    → (row_line row s (Preferred wish)).row.stand ≡ stand.Changing
line-preferred row stand.Stable wish opens = refl
line-preferred row stand.Changing wish opens = cc opens
line-preferred row stand.Unstable wish opens = cc opens

-- a row that a preference opens asks
pub preferred_asks : (rows : List Row) (feature : Feature) (place : Place) (wish : Wanted) → IsNegotiation rows
    → is_opening (row_step (row_at rows feature place) (Prefers wish)).answer ≡ true
    → AreDue (stepped rows feature place (Prefers wish)).rows ((feature, place) ∷ [])
preferred_asks rows feature place wish sound opens = (
  ap is_due (put_there rows feature place (row_step (row_at rows feature place) (Prefers wish)).row sound.size)
      ∙ ap is_asking (line-preferred (row_at rows feature place) (row_at rows feature place).stand wish opens),
  tt,
)

-- one turn more of those that are left

-- the offers from one place on
pub offered-on : (rows : List Row) (test : Key → Bool) (places : List Key) (i : ℕ) (d : Key) → i < length places
    → turned (stepped rows (get_or places i d).0 (get_or places i d).1 (Offers (test (get_or places i d)))).rows (offerings test (drop (i + 1) places))
    ≡ turned rows (offerings test (drop i places))
offered-on rows test places i d inside =
    let next : i + 1 ≡ suc i = omega arith in
    ap (λ (n : ℕ). turned (stepped rows (get_or places i d).0 (get_or places i d).1 (Offers (test (get_or places i d)))).rows
    (offerings test (drop n places))) next
    ∙ sym (ap (λ (ps : List Key). turned rows (offerings test ps)) (drop-cons places i d inside))

-- the Changes from one row on
pub sent-on : (rows : List Row) (number : ℕ) (keys : List Key) (i : ℕ) (d : Key) → i < length keys
    → turned (stepped rows (get_or keys i d).0 (get_or keys i d).1 (Sends number)).rows (sendings number (drop (i + 1) keys))
    ≡ turned rows (sendings number (drop i keys))
sent-on rows number keys i d inside =
    let next : i + 1 ≡ suc i = omega arith in
    ap (λ (n : ℕ). turned (stepped rows (get_or keys i d).0 (get_or keys i d).1 (Sends number)).rows (sendings number (drop n keys))) next
    ∙ sym (ap (λ (ks : List Key). turned rows (sendings number ks)) (drop-cons keys i d inside))

-- the other rows stay due where one Change goes out
pub due-on : (rows : List Row) (number : ℕ) (keys : List Key) (i : ℕ) (d : Key) → i < length keys → length rows ≡ 18 → AreDue rows (drop i keys)
    → AreDue (stepped rows (get_or keys i d).0 (get_or keys i d).1 (Sends number)).rows (drop (i + 1) keys)
due-on rows number keys i d inside size due =
    let next : suc i ≡ i + 1 = omega arith in
    let split : AreDue rows (get_or keys i d ∷ drop (suc i) keys) = subst (λ ks. AreDue rows ks) (drop-cons keys i d inside) due in
    subst (λ n. AreDue (stepped rows (get_or keys i d).0 (get_or keys i d).1 (Sends number)).rows (drop n keys)) next
    (due_goes_on rows (get_or keys i d).0 (get_or keys i d).1 number (drop (suc i) keys) size split.1)
