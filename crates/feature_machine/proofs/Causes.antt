-- What leads to a Reset, what an opening leaves, and which Confirms come late.
use Rattle.std.proofs.Common.{◌≡◌, ◌≢◌, ◌↔◌, ◌⊎◌, inl, inr, ℕ, Bool, true, false, List, Option, Some, None, refl, ap, ◌∙◌, arith, if◌then◌else◌}
use Rattle.seq_circle.specs.Circle.{IsBefore, is_before}
use Rattle.feature_lists.specs.Features.{described}
use Rattle.feature_machine.specs.declared.stands.Stand.{Stand}
use Rattle.feature_machine.specs.declared.stands.Stand.TheVariants as stand
use Rattle.feature_machine.specs.declared.row.Row.{Row}
use Rattle.feature_machine.specs.declared.judging.Proposal.{Proposal}
use Rattle.feature_machine.specs.declared.judging.Proposal.TheVariants as p
use Rattle.feature_machine.specs.declared.judging.Confirmation.{Confirmation}
use Rattle.feature_machine.specs.declared.judging.Confirmation.TheVariants as c
use Rattle.feature_machine.specs.Rows.{Proposed, Confirmed, Confirm, Ignored, Fatal, says, settled, row_line, row_step, answers_opening, confirmation, timely_confirmation}

abbrev ChangeFails : Stand → Proposal → Type 0
ChangeFails s k = (k ≡ p.Invalid) ⊎ ((s ≢ stand.Unstable) × (k ≡ p.Unshared))

shared_holds : (s : Stand) (value : ℕ) → ChangeFails s (p.Shared value) → ⊥
shared_holds s value h = elim h [ inl e ↦ cc | inr q ↦ let e = q.1 in cc ]

told_holds : (s : Stand) (value : ℕ) → ChangeFails s (p.Told value) → ⊥
told_holds s value h = elim h [ inl e ↦ cc | inr q ↦ let e = q.1 in cc ]

unshared_waits : ChangeFails stand.Unstable p.Unshared → ⊥
unshared_waits h = elim h [ inl e ↦ cc | inr q ↦ q.0 refl ]

pub change_causes : (row : Row) (s : Stand) (k : Proposal) (mandatory : Bool)
    → ((row_line row s (Proposed k mandatory)).answer ≡ Fatal 6) ↔ ((mandatory ≡ true) × ChangeFails s k)
change_causes row s p.Invalid false = (λ e. cc, λ h. let m = h.0 in cc)
change_causes row s p.Invalid true = (λ e. (refl, inl refl), λ h. refl)
change_causes row stand.Unstable (p.Shared value) mandatory = (λ e. cc, λ h. absurd (shared_holds stand.Unstable value h.1))
change_causes row stand.Unstable p.Unshared mandatory = (λ e. cc, λ h. absurd (unshared_waits h.1))
change_causes row stand.Unstable (p.Told value) mandatory = (λ e. cc, λ h. absurd (told_holds stand.Unstable value h.1))
change_causes row stand.Stable (p.Shared value) mandatory = (λ e. cc, λ h. absurd (shared_holds stand.Stable value h.1))
change_causes row stand.Changing (p.Shared value) mandatory = (λ e. cc, λ h. absurd (shared_holds stand.Changing value h.1))
change_causes row stand.Stable p.Unshared false = (λ e. cc, λ h. let m = h.0 in cc)
change_causes row stand.Changing p.Unshared false = (λ e. cc, λ h. let m = h.0 in cc)
change_causes row stand.Stable p.Unshared true = (λ e. (refl, inr (λ same. cc, refl)), λ h. refl)
change_causes row stand.Changing p.Unshared true = (λ e. (refl, inr (λ same. cc, refl)), λ h. refl)
change_causes row stand.Stable (p.Told value) mandatory = (λ e. cc, λ h. absurd (told_holds stand.Stable value h.1))
change_causes row stand.Changing (p.Told value) mandatory = (λ e. cc, λ h. absurd (told_holds stand.Changing value h.1))

abbrev ConfirmFails : Row → Confirmation → Type 0
ConfirmFails row k = (k ≡ c.Wrong) ⊎ ((k ≡ c.Empty) × ((described row.feature).is_required ≡ true))

neither : (row : Row) (k : Confirmation) → k ≢ c.Wrong → k ≢ c.Empty → ConfirmFails row k → ⊥
neither row k other filled h = elim h [ inl e ↦ other e | inr q ↦ filled q.0 ]

empty_causes : (row : Row) (b : Bool) → (described row.feature).is_required ≡ b
    → ((if b then says row (Fatal 5) else settled row row.value).answer ≡ Fatal 5) ↔ ((stand.Changing ≡ stand.Changing) × ConfirmFails row c.Empty)
empty_causes row true e = (λ f. (refl, inr (refl, e)), λ h. refl)
empty_causes row false e = (λ f. cc, λ h. absurd (elim h.1 [ inl w ↦ cc | inr q ↦ let r = q.1 in cc ]))

pub confirm_causes : (row : Row) (s : Stand) (k : Confirmation)
    → ((row_line row s (Confirmed k)).answer ≡ Fatal 5) ↔ ((s ≡ stand.Changing) × ConfirmFails row k)
confirm_causes row stand.Stable k = (λ e. cc, λ h. let s = h.0 in cc)
confirm_causes row stand.Unstable k = (λ e. cc, λ h. let s = h.0 in cc)
confirm_causes row stand.Changing c.Late = (λ e. cc, λ h. absurd (neither row c.Late (λ w. cc) (λ w. cc) h.1))
confirm_causes row stand.Changing c.Empty = empty_causes row (described row.feature).is_required refl
confirm_causes row stand.Changing (c.Shared value) = (λ e. cc, λ h. absurd (neither row (c.Shared value) (λ w. cc) (λ w. cc) h.1))
confirm_causes row stand.Changing c.Held = (λ e. cc, λ h. absurd (neither row c.Held (λ w. cc) (λ w. cc) h.1))
confirm_causes row stand.Changing (c.Alone value) = (λ e. cc, λ h. absurd (neither row (c.Alone value) (λ w. cc) (λ w. cc) h.1))
confirm_causes row stand.Changing (c.Told value) = (λ e. cc, λ h. absurd (neither row (c.Told value) (λ w. cc) (λ w. cc) h.1))
confirm_causes row stand.Changing c.Wrong = (λ e. (refl, inl refl), λ h. refl)

pub no_number : (opened : Option ℕ) → answers_opening opened None ≡ false
no_number None = refl
no_number (Some n) = refl

pub unsent : (opened ack : Option ℕ) → opened ≡ None → answers_opening opened ack ≡ false
unsent None ack e = refl
unsent (Some n) ack e = cc

before_tests : (ack opened : ℕ) → IsBefore ack opened → is_before ack opened ≡ true
before_tests ack opened h = grind arith

pub before_number : (held : Option ℕ) (opened ack : ℕ) → held ≡ Some opened → IsBefore ack opened → answers_opening held (Some ack) ≡ false
before_number None opened ack e before = cc
before_number (Some n) opened ack e before = let t = before_tests ack opened before in cc

pub late_ignored : (row : Row) (body : List ℕ) (ack : Option ℕ) → row.stand ≡ stand.Changing → answers_opening row.opened ack ≡ false
    → row_step row (Confirm body ack) ≡ says row Ignored
late_ignored row body ack changing late =
    let k : confirmation row body ack ≡ c.Late = ap (λ b. if b then timely_confirmation row body else c.Late) late in
    ap (λ s. row_line row s (Confirmed (confirmation row body ack))) changing ∙ ap (λ x. row_line row stand.Changing (Confirmed x)) k
