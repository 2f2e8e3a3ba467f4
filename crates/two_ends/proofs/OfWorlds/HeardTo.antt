-- The count of the greatest number that an end took from its peer: 0 before the first, and tied to GSR from then on.
use Rattle.std.proofs.Common.{◌≡◌, ◌⊎◌, inl, inr, refl, ap, sym, ◌∙◌, ℕ, ◌+◌, ◌-◌, ◌^◌, ◌<◌, ◌≤◌, ◌||◌, not, Bool, true, false, if◌then◌else◌, length, arith}
use Rattle.std.proofs.lemmas.Option.{slice_get_within}
use Rattle.seq_circle.specs.Circle.{residue, is_before}
use Rattle.dccp_states.specs.declared.entrance.Entrance.TheVariants as entrance
use Rattle.dccp_states.specs.declared.phase.Phase.TheVariants as phases
use Rattle.dccp_states.specs.declared.phase.Role.{Role}
use Rattle.dccp_states.specs.declared.phase.Role.TheVariants as role
use Rattle.dccp_endpoint.specs.Causes.{Came, IsHearing, Keeps as KeepsHeard, Starts, Raises, IsOpened, NotNow, ByCall, entrance_of, is_waiting}
use Rattle.dccp_endpoint.specs.Effects.{Effect, HeardNumber, Unheard, Heard, PacketFate, end_after, greatest_by, greatest_or, opened_by}
use Rattle.dccp_endpoint.specs.End.{EndState, first_phase, is_live, new_end}
use Rattle.dccp_endpoint.specs.Incoming.{Incoming, is_newest}
use Rattle.dccp_endpoint.specs.Inputs.{Input, Arrives, Opens}
use Rattle.dccp_endpoint.specs.declared.config.Config.{Config}
use Rattle.dccp_endpoint.proofs.Phases.{accept-so, answer-so, check-live}
use Rattle.two_ends.proofs.OfFeatures.FeatureOrder.{before_counts}
use Rattle.seq_circle.specs.Counts.{IsNumber, count_of, number_of}
use Rattle.two_ends.proofs.OfWorlds.Acting.{Act, config_of, end_of}
use Rattle.two_ends.proofs.OfWorlds.Numbering.{IsOrdered, came-logged, few-logged}
use Rattle.two_ends.proofs.OfWorlds.ReadBack.{IsFromLog}

pub record IsHeardTo (iss count greatest : ℕ) (e : EndState) : Type 0 where
  pub within : greatest ≤ count
  -- an end that waits for a first packet has heard nothing, nor has a client that was not opened
  pub waits : is_waiting e.phase ≡ true → greatest ≡ 0
  pub unopened : e.config.role ≡ role.Client → e.opened ≡ false → (e.phase ≡ phases.Closed) × (greatest ≡ 0)
  pub lives : is_live e.phase ≡ true → 1 ≤ greatest
  pub tied : 1 ≤ greatest → e.marks.gsr ≡ number_of iss greatest

-- How the count goes on with what is heard: it stays, or a newest packet has a greater one.
pub data HeardSo (act : Act) (greatest later : ℕ) : HeardNumber → Type 0 where
  NothingNew : later ≡ greatest → HeardSo act greatest later Unheard
  Old : (a : Incoming) (first : Bool) (how : PacketFate) → Came (end_of act.side) act.given a → later ≡ greatest → a.newest ≡ false
      → (from : IsFromLog (config_of act.peer).iss act.peer.log a)
      → HeardSo act greatest later (Heard first a.number how)
  Newest : (a : Incoming) (first : Bool) (how : PacketFate) → Came (end_of act.side) act.given a → greatest < later
      → (from : IsFromLog (config_of act.peer).iss act.peer.log a) → later ≡ from.place + 1 → HeardSo act greatest later (Heard first a.number how)

pub record HearsOn (act : Act) (greatest : ℕ) : Type 0 where
  pub later : ℕ
  pub so : HeardSo act greatest later act.effect.hearing
  pub heard : IsHeardTo (config_of act.peer).iss (length act.peer.log) later (end_after (end_of act.side) act.effect)

-- what arrives is no call
came-arrives : (e : EndState) (given : Input) (a : Incoming) → Came e given a → given ≡ Opens → ⊥
came-arrives e given a came opens =
    let arrives : Input.Opens ≡ Arrives came.bytes = sym opens ∙ came.is_given in
    cc arrives

not-opened : (old opens : Bool) → opened_by old opens ≡ false → (old ≡ false) × (opens ≡ false)
not-opened old true is = cc is
not-opened old false is = (is, refl)

-- what is kept of a packet says whether it is the newest
pub newest-is : (e : EndState) (given : Input) (a : Incoming) → Came e given a → a.newest ≡ is_newest e a.number
newest-is e given a came =
    let number : a.number ≡ came.number = ap (λ (x : Incoming). x.number) came.same in
    ap (λ (x : Incoming). x.newest) came.same ∙ ap (is_newest e) (sym number)

-- a number by its place after ISS, and its count
pub is-number : (iss place number : ℕ) → iss < 2 ^ 48 → place < 2 ^ 47 → number ≡ residue (iss + place)
    → IsNumber iss number × (count_of iss number ≡ place + 1)
is-number iss place number fits few is =
    let count : count_of iss number ≡ place + 1 = omega (arith, is) in
    (record { iss_fits = fits; fits = omega (arith, is); early = omega (arith, count) }, count)

module _ (act : Act) (peer : IsOrdered act.peer) (greatest : ℕ) (h : IsHeardTo (config_of act.peer).iss (length act.peer.log) greatest (end_of act.side)) where
  abbrev e : EndState
  e = end_of act.side

  abbrev f : Effect
  f = act.effect

  abbrev iss : ℕ
  iss = (config_of act.peer).iss

  -- a call opens a client that was not opened
  pub opened-none : f.opens ≡ true → (act.given ≡ Opens) × (greatest ≡ 0)
  opened-none is = by f.opens act.because.opened is where
    by : (opens : Bool) → IsOpened e act.given opens → opens ≡ true → (act.given ≡ Opens) × (greatest ≡ 0)
    by _ NotNow now = cc now
    by _ (ByCall called client fresh) now = (called, (h.unopened client fresh).1)

  no-call : (a : Incoming) → Came e act.given a → f.opens ≡ true → ⊥
  no-call a came opens = came-arrives e act.given a came (opened-none opens).0

  -- a client that was not opened heard nothing
  closed-deaf : (a : Incoming) → e.phase ≡ phases.Closed
      → (entrance_of e a ≡ entrance.Accept) ⊎ (entrance_of e a ≡ entrance.InRequest) ⊎ (entrance_of e a ≡ entrance.Check) → ⊥
  closed-deaf a closed (inl accepts) =
      let listens : e.phase ≡ phases.Listen = (accept-so e.phase a.kind accepts).0 in
      cc (closed, listens)
  closed-deaf a closed (inr (inl asked)) =
      let asks : e.phase ≡ phases.Request = (answer-so e.phase a.kind asked).0 in
      cc (closed, asks)
  closed-deaf a closed (inr (inr checked)) =
      let live = check-live e.phase a.kind checked in
      let dead : is_live e.phase ≡ false = ap is_live closed in
      cc (live, dead)

  -- a packet was heard, and the count is `later` then
  pub heard-on : (a : Incoming) (first : Bool) (how : PacketFate) (later : ℕ) → Heard first a.number how ≡ f.hearing → Came e act.given a
      → (entrance_of e a ≡ entrance.Accept) ⊎ (entrance_of e a ≡ entrance.InRequest) ⊎ (entrance_of e a ≡ entrance.Check)
      → later ≤ length act.peer.log → 1 ≤ later → greatest_or first a.number e.marks.gsr ≡ number_of iss later
      → IsHeardTo iss (length act.peer.log) later (end_after e f)
  heard-on a first how later is came entered within some tied =
      record {
        within = within;
        waits =
            λ waiting. elim (act.because.moves.waits waiting) [
              | inl before ↦ (let none : HeardNumber.Heard first a.number how ≡ Unheard = is ∙ before.1 in cc none)
              | inr opens ↦ absurd (no-call a came opens)
            ];
        unopened =
            λ client fresh.
            absurd (closed-deaf a (h.unopened client (not-opened e.opened f.opens fresh).0).0 entered);
        lives = λ live. some;
        tied = λ one. ap (greatest_by e.marks.gsr) (sym is) ∙ tied;
      }

  pub unheard-on : f.hearing ≡ Unheard → (is_live f.phase ≡ true → is_live e.phase ≡ true) → IsHeardTo iss (length act.peer.log) greatest (end_after e f)
  unheard-on is live =
      record {
        within = h.within;
        waits =
            λ waiting. elim (act.because.moves.waits waiting) [
              | inl before ↦ h.waits before.0
              | inr opens ↦ (opened-none opens).1
            ];
        unopened =
            λ client fresh.
            let before = h.unopened client (not-opened e.opened f.opens fresh).0 in (
              elim (act.because.moves.shut before.0) [
                | inl closed ↦ closed
                | inr opens ↦ (let none : f.opens ≡ false = (not-opened e.opened f.opens fresh).1 in cc (opens, none))
              ],
              before.1,
            );
        lives = λ now. h.lives (live now);
        tied = λ one. ap (greatest_by e.marks.gsr) is ∙ h.tied one;
      }

  hears-by : (hearing : HeardNumber) → IsHearing e act.given f.phase hearing → hearing ≡ f.hearing
      → (later : ℕ) × HeardSo act greatest later hearing × IsHeardTo iss (length act.peer.log) later (end_after e f)
  hears-by _ (KeepsHeard live) is = (greatest, NothingNew refl, unheard-on (sym is) live)
  hears-by _ (Starts a how came other entered taken passes) is =
      let from = came-logged act peer a came other in
      let inside : from.place < length act.peer.log = slice_get_within act.peer.log from.place from.logged from.is_there in
      let waiting : is_waiting e.phase ≡ true =
      elim entered [
        | inl accepts ↦ ap is_waiting (accept-so e.phase a.kind accepts).0
        | inr asked ↦ ap is_waiting (answer-so e.phase a.kind asked).0
      ] in
      let none : greatest ≡ 0 = h.waits waiting in
      let entered_so : (entrance_of e a ≡ entrance.Accept) ⊎ (entrance_of e a ≡ entrance.InRequest) ⊎ (entrance_of e a ≡ entrance.Check) =
      elim entered [ inl accepts ↦ inl accepts | inr asked ↦ inr (inl asked) ] in (
        from.place + 1,
        Newest a true how came (omega (arith, none)) from refl,
        heard-on a true how (from.place + 1) is came entered_so (omega (arith, inside)) (omega arith) (from.read.number ∙ omega arith),
      )
  hears-by _ (Raises a how came other checked valid passes) is = by a.newest refl where
    live : is_live e.phase ≡ true
    live = check-live e.phase a.kind checked

    from : IsFromLog iss act.peer.log a
    from = came-logged act peer a came other

    inside : from.place < length act.peer.log
    inside = slice_get_within act.peer.log from.place from.logged from.is_there

    some : 1 ≤ greatest
    some = h.lives live

    own : IsNumber iss a.number × (count_of iss a.number ≡ from.place + 1)
    own = is-number iss from.place a.number peer.fits.iss (omega (arith, inside, few-logged act.peer peer)) from.read.number

    held : IsNumber iss e.marks.gsr × (count_of iss e.marks.gsr ≡ (greatest - 1) + 1)
    held =
        is-number iss (greatest - 1) e.marks.gsr peer.fits.iss (omega (arith, h.within, some, few-logged act.peer peer)) (h.tied some)

    before : a.newest ≡ is_before e.marks.gsr a.number
    before = newest-is e act.given a came ∙ ap (λ (l : Bool). not l || is_before e.marks.gsr a.number) live

    by : (newest : Bool) → a.newest ≡ newest
        → (later : ℕ) × HeardSo act greatest later (Heard false a.number how) × IsHeardTo iss (length act.peer.log) later (end_after e f)
    by true newest =
        let earlier : is_before e.marks.gsr a.number ≡ true = sym before ∙ newest in
        let above : greatest < from.place + 1 = (
        let counts = before_counts iss e.marks.gsr a.number held.0 own.0 earlier in omega (arith, counts, own.1, held.1, some)) in (
          from.place + 1,
          Newest a false how came above from refl,
          heard-on a false how (from.place + 1) is came (inr (inr checked)) (omega (arith, inside)) (omega arith)
              (ap (λ (b : Bool). if b then a.number else e.marks.gsr) earlier ∙ from.read.number ∙ omega arith),
        )
    by false newest =
        let later : is_before e.marks.gsr a.number ≡ false = sym before ∙ newest in (
          greatest,
          Old a false how came refl newest from,
          heard-on a false how greatest is came (inr (inr checked)) h.within some
              (ap (λ (b : Bool). if b then a.number else e.marks.gsr) later ∙ h.tied some),
        )

  pub hears-on : HearsOn act greatest
  hears-on =
      let on = hears-by f.hearing act.because.hears refl in
      record { later = on.0; so = on.1; heard = on.2 }

-- an end begins so: nothing was heard
begins-closed : (r : Role) → r ≡ role.Client → first_phase r ≡ phases.Closed
begins-closed role.Client is = refl
begins-closed role.Server is = cc is

begins-dead : (r : Role) → is_live (first_phase r) ≡ false
begins-dead role.Client = refl
begins-dead role.Server = refl

-- at first nothing is heard
pub heard-none : (config : Config) (iss : ℕ) → IsHeardTo iss 0 0 (new_end config)
heard-none config iss =
    record {
      within = omega arith;
      waits = λ waiting. refl;
      unopened = λ client is. (begins-closed config.role client, refl);
      lives = λ live. cc (begins-dead config.role, live);
      tied = λ one. absurd (omega (arith, one));
    }

-- the peer has logged more
pub heard-more : (iss count more greatest : ℕ) (e : EndState) → count ≤ more → IsHeardTo iss count greatest e → IsHeardTo iss more greatest e
heard-more iss count more greatest e above h =
    record { within = omega (arith, h.within, above); waits = h.waits; unopened = h.unopened; lives = h.lives; tied = h.tied }
