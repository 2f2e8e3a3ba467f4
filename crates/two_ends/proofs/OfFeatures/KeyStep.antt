-- What else happens to a row in a step, by the step's occasion, and when its Change goes out.
use Rattle.std.proofs.Common.{◌≡◌, ◌≢◌, ◌⊎◌, inl, inr, refl, ap, sym, ◌∙◌, subst, ℕ, ◌&&◌, not, Bool, true, false, List, [], ◌∷◌, ◌++◌, Some, None, Ok, arith}
use Rattle.std.proofs.lemmas.List.{append_assoc}
use Rattle.feature_machine.proofs.DueKeys.{due_distinct}
use Rattle.dccp_endpoint.proofs.Keys.{AreDistinct, asking-distinct, confirmed-some, events-offerings, events-sendings, has-asking, has-due, has-one, key-so, none-confirmed, none-distinct, one-distinct}
use Rattle.dccp_endpoint.proofs.OneRow.{events-append}
use Rattle.dccp_endpoint.specs.Calling.{is_asking_now}
use Rattle.dccp_endpoint.specs.Causes.{Occasion, Plain, Offering, Repeating, PrefersNow as OccasionNow, PrefersLater as OccasionLater}
use Rattle.dccp_endpoint.specs.Effects.{HeardNumber}
use Rattle.dccp_endpoint.specs.End.{EndState}
use Rattle.dccp_endpoint.specs.Heeding.{DueConfirm}
use Rattle.dccp_endpoint.specs.Inputs.{Input}
use Rattle.dccp_endpoint.specs.Saying.{confirm_for, has_key, is_key}
use Rattle.dccp_endpoint.specs.Speaking.{asking, is_confirmed}
use Rattle.dccp_endpoint.specs.Steps.{next_number}
use Rattle.dccp_endpoint.specs.Turns.{Key, offerings, sendings, turn_of}
use Rattle.feature_lists.proofs.Given.{given}
use Rattle.feature_lists.specs.Wishes.{is_wish, wish_of}
use Rattle.feature_lists.specs.declared.features.Feature.{Feature}
use Rattle.feature_lists.specs.declared.features.Place.{Place}
use Rattle.feature_lists.specs.declared.wishes.Wanted.{Wanted}
use Rattle.feature_machine.proofs.Steps.{step_its}
use Rattle.feature_machine.proofs.Turning.{turned-row}
use Rattle.feature_machine.specs.Answers.{is_opening}
use Rattle.feature_machine.specs.Negotiating.{IsNegotiation, due_keys, every_place, is_asking, is_due, row_at}
use Rattle.feature_machine.specs.Rows.{Offered, Offers, Opens, Preferred, Prefers, RowAnswer, RowEvent, row_line, row_step}
use Rattle.feature_machine.specs.Sound.{IsRowOf}
use Rattle.feature_machine.specs.Turns.{Turn, events_of, row_turned, turned}
use Rattle.feature_machine.specs.declared.offers.Offer.{Offer}
use Rattle.feature_machine.specs.declared.row.Row.{Row}
use Rattle.feature_machine.specs.declared.stands.Stand.{Stand}
use Rattle.feature_machine.specs.declared.stands.Stand.TheVariants.{Stable}
use Rattle.two_ends.proofs.OfFeatures.Moving.{Does, Rests, Asks, OfferOpens, OfferDrops, PrefersNow, PrefersLater, sends_if}
use Rattle.two_ends.proofs.OfFeatures.Turning.{turn-events, turned-append, turned-size}

opening-is : (a : RowAnswer) → is_opening a ≡ true → a ≡ Opens
opening-is Opens is = refl
opening-is _ is = cc

opening-not : (a : RowAnswer) → is_opening a ≡ false → a ≢ Opens
opening-not a is same =
    let opens : is_opening a ≡ true = ap is_opening same in
    cc (is, opens)

offer-due : (row : Row) (s : Stand) (confirmed : Bool) (o : Offer) → (row_line row s (Offered confirmed o)).answer ≡ Opens
    → is_due (row_line row s (Offered confirmed o)).row ≡ true
offer-due row s confirmed o opens = grind arith

preference-stable : (row : Row) (s : Stand) (wish : Wanted) → (row_line row s (Preferred wish)).answer ≡ Opens → s ≡ Stable
preference-stable row s wish opens = grind arith

preference-busy : (row : Row) (s : Stand) (wish : Wanted) → (row_line row s (Preferred wish)).answer ≢ Opens → s ≢ Stable
preference-busy row s wish waits stable = grind arith

-- a row whose Change is due is not in STABLE
pub due-busy : (row : Row) → is_due row ≡ true → row.stand ≢ Stable
due-busy row due stable =
    let none : is_due row ≡ false = ap is_asking stable in
    cc (due, none)

and-true : (b : Bool) → (b && true) ≡ b
and-true true = refl
and-true false = refl

does-as : (a b : Row) (xs ys : List RowEvent) (p q : Bool) → a ≡ b → xs ≡ ys → p ≡ q → Does b ys q → Does a xs p
does-as a b xs ys p q rows events asks d =
    subst (λ (x : Row). Does x xs p) (sym rows) (subst (λ (x : List RowEvent). Does b x p) (sym events) (subst (λ (x : Bool). Does b ys x) (sym asks) d))

-- what rows have heard leaves each of them its own
abbrev pub RowsHeard : List Row → List Turn → Type 0
RowsHeard rows heard = (k : Key) → IsRowOf k.0 k.1 (row_turned (row_at rows k.0 k.1) (events_of k.0 k.1 heard))

module _ (e : EndState) (input : Input) (rows : IsNegotiation e.rows) (heard : List Turn) (confirms : List DueConfirm) (its : RowsHeard e.rows heard) where
  abbrev row : Key → Row
  row k = row_at e.rows k.0 k.1

  abbrev row-heard : Key → Row
  row-heard k = row_turned (row k) (events_of k.0 k.1 heard)

  abbrev offered-turns : List Turn
  offered-turns = offerings (is_confirmed confirms) every_place

  abbrev rows-offered : List Row
  rows-offered = turned e.rows (heard ++ offered-turns)

  offered-row : (k : Key) → row_at rows-offered k.0 k.1 ≡ (row_step (row-heard k) (Offers (is_confirmed confirms k))).row
  offered-row k =
      turned-row k.0 k.1 (heard ++ offered-turns) e.rows rows.size
      ∙ ap (row_turned (row k))
      (events-append k heard offered-turns ∙ ap (λ (xs : List RowEvent). events_of k.0 k.1 heard ++ xs) (events-offerings (is_confirmed confirms) k))
      ∙ turned-append (row k) (events_of k.0 k.1 heard) (Offers (is_confirmed confirms k) ∷ [])

  pub offered-rows : IsNegotiation rows-offered
  offered-rows =
      record {
        size = turned-size e.rows (heard ++ offered-turns) ∙ rows.size;
        each =
            λ feature place.
            subst (IsRowOf feature place) (sym (offered-row (feature, place)))
            (step_its feature place (row-heard (feature, place)) (Offers (is_confirmed confirms (feature, place))) (its (feature, place)) tt);
      }

  unheard-row : (k : Key) → heard ≡ [] → row-heard k ≡ row k
  unheard-row k none = ap (λ (turns : List Turn). row_turned (row k) (events_of k.0 k.1 turns)) none

  -- the preference of this very row
  wish-is : (k : Key) (values : List ℕ) (wish : Wanted) → wish_of k.0 k.1 values ≡ Ok wish → is_wish (row k).feature (row k).place wish ≡ true
  wish-is k values wish is =
      let own = rows.each k.0 k.1 in
      subst (λ (feature : Feature). is_wish feature (row k).place wish ≡ true) (sym own.feature_is)
      (subst (λ (place : Place). is_wish k.0 place wish ≡ true) (sym own.place_is) ((given k.0 k.1 wish).1 (values, is)))

  now-own : (k : Key) (values : List ℕ) (wish : Wanted) → wish_of k.0 k.1 values ≡ Ok wish → is_asking_now e k wish ≡ true
      → Does (row k) (Prefers wish ∷ []) true
  now-own k values wish is asks =
      PrefersNow wish (wish-is k values wish is)
      (preference-stable (row k) (row k).stand wish (opening-is (row_step (row k) (Prefers wish)).answer asks))

  later-own : (k : Key) (wish : Wanted) → is_asking_now e k wish ≡ false → Does (row k) (Prefers wish ∷ []) false
  later-own k wish waits =
      PrefersLater wish (preference-busy (row k) (row k).stand wish (opening-not (row_step (row k) (Prefers wish)).answer waits))

  offers-do : (k : Key) → confirm_for k confirms ≡ None
      → Does (row-heard k) (Offers false ∷ []) (has_key k (asking rows-offered confirms))
  offers-do k none = by (is_opening (row_step (row-heard k) (Offers false)).answer) refl where
    after : Row
    after = (row_step (row-heard k) (Offers false)).row

    unconfirmed : is_confirmed confirms k ≡ false
    unconfirmed = none-confirmed confirms k none

    asks : has_key k (asking rows-offered confirms) ≡ is_due after
    asks =
        has-asking rows-offered confirms k offered-rows
        ∙ ap (λ (c : Bool). is_due (row_at rows-offered k.0 k.1) && not c) unconfirmed
        ∙ and-true (is_due (row_at rows-offered k.0 k.1))
        ∙ ap is_due (offered-row k)
        ∙ ap (λ (c : Bool). is_due (row_step (row-heard k) (Offers c)).row) unconfirmed

    by : (opens : Bool) → is_opening (row_step (row-heard k) (Offers false)).answer ≡ opens
        → Does (row-heard k) (Offers false ∷ []) (has_key k (asking rows-offered confirms))
    by true is =
        let opens = opening-is (row_step (row-heard k) (Offers false)).answer is in
        does-as (row-heard k) (row-heard k) (Offers false ∷ []) (Offers false ∷ []) _ true refl refl
        (asks ∙ offer-due (row-heard k) (row-heard k).stand false (row-heard k).offer opens) (OfferOpens false opens)
    by false is =
        OfferDrops false (has_key k (asking rows-offered confirms)) (opening-not (row_step (row-heard k) (Offers false)).answer is)
        (λ due. due-busy after (sym asks ∙ due))

  -- Where no Confirm is due for the row:
  pub key-does : (k : Key) (offered preferred : List Turn) (keys : List Key) → Occasion e input heard confirms offered preferred keys
      → confirm_for k confirms ≡ None
      → Does (row-heard k) (events_of k.0 k.1 offered ++ events_of k.0 k.1 preferred) (has_key k keys)
  key-does k _ _ _ Plain none = Rests
  key-does k _ _ _ Offering none =
      does-as (row-heard k) (row-heard k) _ (Offers false ∷ []) _ _ refl
      (ap (λ (xs : List RowEvent). xs ++ []) (events-offerings (is_confirmed confirms) k) ∙ ap (λ (c : Bool). Offers c ∷ []) (none-confirmed confirms k none))
      refl (offers-do k none)
  key-does k _ _ _ (Repeating in_flight fired deaf quiet) none = by (is_due (row k)) refl where
    by : (due : Bool) → is_due (row k) ≡ due → Does (row-heard k) [] (has_key k (due_keys e.rows))
    by true is = does-as (row-heard k) (row k) [] [] _ true (unheard-row k deaf) refl (has-due e.rows k rows ∙ is) (Asks (due-busy (row k) is))
    by false is = does-as (row-heard k) (row k) [] [] _ false (unheard-row k deaf) refl (has-due e.rows k rows ∙ is) Rests
  key-does k _ _ _ (OccasionNow other values wish called is asks deaf quiet) none = by (is_key k other) refl where
    by : (same : Bool) → is_key k other ≡ same → Does (row-heard k) (events_of k.0 k.1 (turn_of other (Prefers wish) ∷ [])) (has_key k (other ∷ []))
    by true same =
        let one : other ≡ k = sym (key-so k other same) in
        does-as (row-heard k) (row k) _ (Prefers wish ∷ []) _ true (unheard-row k deaf) (turn-events k other (Prefers wish) true same) (has-one k other ∙ same)
        (now-own k values wish (subst (λ (o : Key). wish_of o.0 o.1 values ≡ Ok wish) one is) (subst (λ (o : Key). is_asking_now e o wish ≡ true) one asks))
    by false same =
        does-as (row-heard k) (row k) _ [] _ false (unheard-row k deaf) (turn-events k other (Prefers wish) false same) (has-one k other ∙ same) Rests
  key-does k _ _ _ (OccasionLater other values wish called is waits deaf quiet) none = by (is_key k other) refl where
    by : (same : Bool) → is_key k other ≡ same → Does (row-heard k) (events_of k.0 k.1 (turn_of other (Prefers wish) ∷ [])) false
    by true same =
        let one : other ≡ k = sym (key-so k other same) in
        does-as (row-heard k) (row k) _ (Prefers wish ∷ []) false false (unheard-row k deaf) (turn-events k other (Prefers wish) true same) refl
        (later-own k wish (subst (λ (o : Key). is_asking_now e o wish ≡ false) one waits))
    by false same = does-as (row-heard k) (row k) _ [] false false (unheard-row k deaf) (turn-events k other (Prefers wish) false same) refl Rests

  -- Where one is due:
  pub key-confirmed : (k : Key) (body : List ℕ) (offered preferred : List Turn) (keys : List Key) → Occasion e input heard confirms offered preferred keys
      → confirm_for k confirms ≡ Some body
      → (events_of k.0 k.1 offered ++ events_of k.0 k.1 preferred ≡ []) ⊎ (events_of k.0 k.1 offered ++ events_of k.0 k.1 preferred ≡ Offers true ∷ [])
  key-confirmed k body _ _ _ Offering some =
      inr (ap (λ (xs : List RowEvent). xs ++ []) (events-offerings (is_confirmed confirms) k)
      ∙ ap (λ (c : Bool). Offers c ∷ []) (confirmed-some confirms k body some))
  key-confirmed k body _ _ _ (OccasionNow other values wish called is asks deaf quiet) some =
      let none : confirm_for k confirms ≡ None = ap (confirm_for k) quiet in
      cc (none, some)
  key-confirmed k body _ _ _ (OccasionLater other values wish called is waits deaf quiet) some =
      let none : confirm_for k confirms ≡ None = ap (confirm_for k) quiet in
      cc (none, some)
  key-confirmed k body _ _ _ _ some = inl refl

  pub keys-distinct : (offered preferred : List Turn) (keys : List Key) → Occasion e input heard confirms offered preferred keys → AreDistinct keys
  keys-distinct _ _ _ Offering = asking-distinct rows-offered confirms offered-rows
  keys-distinct _ _ _ (Repeating in_flight fired deaf quiet) = due_distinct e.rows rows
  keys-distinct _ _ _ (OccasionNow other values wish called is asks deaf quiet) = one-distinct other
  keys-distinct _ _ _ _ = none-distinct

  -- A row's events in the step, in order.
  pub step-events : (k : Key) (hearing : HeardNumber) (turns offered preferred : List Turn) (keys : List Key)
      → Occasion e input heard confirms offered preferred keys
      → turns ≡ heard ++ (offered ++ (preferred ++ sendings (next_number e) keys))
      → events_of k.0 k.1 turns
      ≡ events_of k.0 k.1 heard ++ ((events_of k.0 k.1 offered ++ events_of k.0 k.1 preferred) ++ sends_if (has_key k keys) (next_number e))
  step-events k hearing turns offered preferred keys occasion in_order =
      ap (events_of k.0 k.1) in_order
      ∙ events-append k heard (offered ++ (preferred ++ sendings (next_number e) keys))
      ∙ ap (λ (xs : List RowEvent). events_of k.0 k.1 heard ++ xs)
      (events-append k offered (preferred ++ sendings (next_number e) keys)
      ∙ ap (λ (xs : List RowEvent). events_of k.0 k.1 offered ++ xs)
      (events-append k preferred (sendings (next_number e) keys)
      ∙ ap (λ (xs : List RowEvent). events_of k.0 k.1 preferred ++ xs) (events-sendings (next_number e) k keys (keys-distinct offered preferred keys occasion)))
      ∙ sym (append_assoc (events_of k.0 k.1 offered) (events_of k.0 k.1 preferred) (sends_if (has_key k keys) (next_number e))))
