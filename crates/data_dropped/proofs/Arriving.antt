-- Why data are dropped.
use Rattle.std.proofs.Common.{◌≡◌, ℕ, ◌≤◌, ◌↔◌, not, ◌&&◌, nat_lt, if◌then◌else◌, Bool, true, false, length, refl, ap, sym, ◌∙◌, arith}
use Rattle.std.proofs.lemmas.Bool.{ltb-false, true≢false}
use Rattle.data_dropped.specs.Inbox.{InboxState, reason, takes_more}
use Rattle.data_dropped.specs.declared.answers.Arrival.{Arrival}
use Rattle.data_dropped.specs.declared.answers.Arrival.TheVariants.{Kept, Dropped}

abbrev dropped_with : Arrival → ℕ
dropped_with Kept = 0
dropped_with (Dropped code) = code

full-if : (held : InboxState) (answer : Arrival) (stopped : Bool) → held.stopped ≡ stopped → takes_more held ≡ false → length held.items ≤ held.capacity
    → answer ≡ Dropped (reason held) → (answer ≡ Dropped 2) ↔ ((held.stopped ≡ false) × (length held.items ≡ held.capacity))
full-if held answer true is room within says =
    let one : answer ≡ Dropped 1 = says ∙ ap (λ (s : Bool). Dropped (if s then 1 else 2)) is in (
      λ two. let codes : 1 ≡ 2 = ap dropped_with (sym one ∙ two) in absurd (omega arith),
      λ both. absurd (true≢false (sym is ∙ both.0)),
    )
full-if held answer false is room within says =
    let two : answer ≡ Dropped 2 = says ∙ ap (λ (s : Bool). Dropped (if s then 1 else 2)) is in
    let full : nat_lt (length held.items) held.capacity ≡ false =
    sym (ap (λ (s : Bool). not s && nat_lt (length held.items) held.capacity) is) ∙ room in
    let past : held.capacity ≤ length held.items = ltb-false (length held.items) held.capacity full in
    (λ _. (is, omega (arith, past, within)), λ _. two)

pub full-where : (held : InboxState) (answer : Arrival) → takes_more held ≡ false → length held.items ≤ held.capacity → answer ≡ Dropped (reason held)
    → (answer ≡ Dropped 2) ↔ ((held.stopped ≡ false) × (length held.items ≡ held.capacity))
full-where held answer room within says = full-if held answer held.stopped refl room within says
