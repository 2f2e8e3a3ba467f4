-- What is valid whatever was lost: a Sync or SyncAck under the last number of its sender, and what comes next.
use Rattle.std.proofs.Common.{nat_lt, ◌-◌, ◌≡◌, ◌⊎◌, inl, inr, refl, sym, ◌∙◌, subst, ◌&&◌, ℕ, ◌+◌, ◌*◌, ◌/◌, ◌^◌, ◌<◌, ◌≤◌, Bool, true, false, if◌then◌else◌, Option, Some, arith}
use Rattle.std.proofs.lemmas.Bool.{cases_lt, le-leb, lt-ltb, and_from}
use Rattle.seq_circle.specs.Circle.{distance, is_before, is_within, later_of, open_end, residue}
use Rattle.seq_circle.specs.Counts.{count_of}
use Rattle.validity_windows.proofs.Counts.{ack-count, later_of-before, later_of-same, no_end-count, sequence-count}
use Rattle.validity_windows.specs.Verdict.{by_greatest, by_low_end, by_window, is_ack_within, is_after_greatest, is_in_window, is_not_old}
use Rattle.validity_windows.specs.Windows.{InRange, ack_high, ack_low, sequence_high, sequence_low}
use Rattle.validity_windows.specs.declared.marks.Marks.{Marks}
use Rattle.validity_windows.specs.declared.verdict.Verdict.{Verdict}
use Rattle.validity_windows.specs.declared.verdict.Verdict.TheVariants as verdicts

-- Two numbers of one sender, of which the first does not come after the second.
pub record AreInOrder (low high : ℕ) : Type 0 where
  pub first : ℕ
  pub early : ℕ
  pub late : ℕ
  pub low_is : low ≡ residue (first + early)
  pub high_is : high ≡ residue (first + late)
  pub in_order : early ≤ late
  pub few : late < 2 ^ 47

-- the later of them is the second
pub later-so : (low high : ℕ) → AreInOrder low high → later_of low high ≡ high
later-so low high o =
    elim (cases_lt o.early o.late) [
      | inl below ↦
          later_of-before low high (omega (arith, o.low_is, o.high_is, below, o.few)) (omega (arith, o.low_is, o.high_is, below, o.few))
      | inr above ↦
          later_of-same low high (omega (arith, o.low_is, o.high_is, above, o.in_order))
          ∙ omega (arith, o.low_is, o.high_is, above, o.in_order)
    ]

-- ISR, GSR and the last number that the other side sent, with the widths of the windows.
pub record AreHeard (m : Marks) (last : ℕ) : Type 0 where
  pub first : ℕ
  pub begin : ℕ
  pub greatest : ℕ
  pub end : ℕ
  pub isr_is : m.isr ≡ residue (first + begin)
  pub gsr_is : m.gsr ≡ residue (first + greatest)
  pub last_is : last ≡ residue (first + end)
  pub begins : begin ≤ greatest
  pub ends : greatest ≤ end
  pub few : end + 1 < 2 ^ 47
  pub widths : InRange m

both : (x y : Bool) (other : Verdict) → x ≡ true → y ≡ true → (if x && y then verdicts.Valid else other) ≡ verdicts.Valid
both x y other left right = rw (left, right) refl

-- a number is within each interval that ends with it, and that begins with it
within-high : (low n : ℕ) → is_within n low n ≡ true
within-high low n = le-leb (distance low n) (distance low n) (omega arith)

within-low : (n high : ℕ) → is_within n n high ≡ true
within-low n high = le-leb (distance n n) (distance n high) (omega arith)

not-old : (m : Marks) (last : ℕ) → AreHeard m last → is_not_old m last ≡ true
not-old m last h =
    let counts =
    no_end-count m (h.first + h.begin) (h.first + h.greatest) (h.first + h.end) h.widths h.isr_is h.gsr_is (omega (arith, h.begins))
    (omega (arith, h.begins, h.ends, h.few)) (omega (arith, h.begins, h.ends)) (omega (arith, h.few)) in
    let inside =
    counts.1 (omega (arith, h.begins, h.ends, h.widths.peer_least), omega (arith, h.begins, h.ends, h.few)) in
    le-leb (distance (sequence_low m) last) (distance (sequence_low m) (open_end (sequence_low m)))
    (subst (λ (n : ℕ). distance (sequence_low m) n ≤ distance (sequence_low m) (open_end (sequence_low m))) (sym h.last_is) inside)

-- A Sync or SyncAck under the peer's last number that acknowledges the own last one is valid.
pub low-end-valid : (m : Marks) (last : ℕ) → AreHeard m last → by_low_end m last (Some m.gss) ≡ verdicts.Valid
low-end-valid m last h = both (is_not_old m last) _ verdicts.Drop (not-old m last h) (within-high (ack_low m) m.gss)

-- The number after GSR is valid with what acknowledges GSS or GAR, and so is the one after that with GSS.
pub next-valid : (m : Marks) (n answer : ℕ) → n ≡ residue (m.gsr + 1) → by_greatest m n (Some m.gss) answer ≡ verdicts.Valid
next-valid m n answer same =
    both (is_after_greatest m n) _ (verdicts.SyncFor answer)
    (subst (λ (k : ℕ). is_within k (residue (m.gsr + 1)) (sequence_high m) ≡ true) (sym same) (within-low (residue (m.gsr + 1)) (sequence_high m)))
    (within-high m.gar m.gss)

pub gar-valid : (m : Marks) (n answer : ℕ) → n ≡ residue (m.gsr + 1) → by_greatest m n (Some m.gar) answer ≡ verdicts.Valid
gar-valid m n answer same =
    both (is_after_greatest m n) _ (verdicts.SyncFor answer)
    (subst (λ (k : ℕ). is_within k (residue (m.gsr + 1)) (sequence_high m) ≡ true) (sym same) (within-low (residue (m.gsr + 1)) (sequence_high m)))
    (within-low m.gar m.gss)

second-within : (gsr width n : ℕ) → 32 ≤ width → width < 2 ^ 46 → n ≡ residue (residue (gsr + 1) + 1)
    → distance (residue (gsr + 1)) n ≤ distance (residue (gsr + 1)) (residue (gsr + (3 * width + 3) / 4))
second-within gsr width n least most same = omega (arith, least, most, same)

pub second-valid : (m : Marks) (n answer : ℕ) → InRange m → n ≡ residue (residue (m.gsr + 1) + 1)
    → by_greatest m n (Some m.gss) answer ≡ verdicts.Valid
second-valid m n answer range same =
    both (is_after_greatest m n) _ (verdicts.SyncFor answer)
    (le-leb (distance (residue (m.gsr + 1)) n) (distance (residue (m.gsr + 1)) (sequence_high m))
    (second-within m.gsr m.peer_w n range.peer_least range.peer_most same))
    (within-high m.gar m.gss)

-- A Close, CloseReq or Reset is valid, or a Sync answers it.
pub greatest-or : (m : Marks) (n : ℕ) (ack : Option ℕ) (answer : ℕ)
    → (by_greatest m n ack answer ≡ verdicts.Valid) ⊎ (by_greatest m n ack answer ≡ verdicts.SyncFor answer)
greatest-or m n ack answer = by (is_after_greatest m n && is_ack_within m.gar (ack_high m) ack) where
  by : (b : Bool) → ((if b then verdicts.Valid else verdicts.SyncFor answer) ≡ verdicts.Valid)
      ⊎ ((if b then verdicts.Valid else verdicts.SyncFor answer) ≡ verdicts.SyncFor answer)
  by true = inl refl
  by false = inr refl

-- The number after GSR that acknowledges GSS lies in both windows.
pub window-valid : (m : Marks) (last n : ℕ) → AreHeard m last → n ≡ residue (m.gsr + 1) → by_window m n (Some m.gss) ≡ verdicts.Valid
window-valid m last n h same =
    let counts =
    sequence-count m (h.first + h.begin) (h.first + h.greatest) (h.first + h.greatest + 1) h.widths h.isr_is h.gsr_is (omega (arith, h.begins))
    (omega (arith, h.begins, h.ends, h.few)) (omega (arith, h.begins)) (omega (arith, h.ends, h.few)) in
    let inside =
    counts.1 (omega (arith, h.begins, h.widths.peer_least), omega (arith, h.widths.peer_least)) in
    let is : n ≡ residue (h.first + h.greatest + 1) = same ∙ omega (arith, h.gsr_is) in
    both (is_in_window m n) _ (verdicts.SyncFor n)
    (le-leb (distance (sequence_low m) n) (distance (sequence_low m) (sequence_high m))
    (subst (λ (k : ℕ). distance (sequence_low m) k ≤ distance (sequence_low m) (sequence_high m)) (sym is) inside))
    (within-high (ack_low m) m.gss)

-- An Ack is valid, or a Sync answers it.
pub window-or : (m : Marks) (n : ℕ) (ack : Option ℕ) → (by_window m n ack ≡ verdicts.Valid) ⊎ (by_window m n ack ≡ verdicts.SyncFor n)
window-or m n ack = by (is_in_window m n && is_ack_within (ack_low m) (ack_high m) ack) where
  by : (b : Bool) → ((if b then verdicts.Valid else verdicts.SyncFor n) ≡ verdicts.Valid)
      ⊎ ((if b then verdicts.Valid else verdicts.SyncFor n) ≡ verdicts.SyncFor n)
  by true = inl refl
  by false = inr refl

-- What acknowledges GSS is in the window of what was sent.
pub newest-within : (m : Marks) → is_ack_within (ack_low m) (ack_high m) (Some m.gss) ≡ true
newest-within m = within-high (ack_low m) m.gss

-- A number one or two after GSR is in the window.
pub near-in-window : (m : Marks) (last n : ℕ) → AreHeard m last → (n ≡ residue (m.gsr + 1)) ⊎ (n ≡ residue (residue (m.gsr + 1) + 1))
    → is_in_window m n ≡ true
near-in-window m last n h which =
    elim which [
      | inl one ↦ within 1 (omega arith) (omega arith) (one ∙ omega (arith, h.gsr_is))
      | inr two ↦ within 2 (omega arith) (omega arith) (two ∙ omega (arith, h.gsr_is))
    ]
  where
    within : (more : ℕ) → 1 ≤ more → more ≤ 2 → n ≡ residue (h.first + h.greatest + more) → is_in_window m n ≡ true
    within more some few is =
        let counts =
        sequence-count m (h.first + h.begin) (h.first + h.greatest) (h.first + h.greatest + more) h.widths h.isr_is h.gsr_is (omega (arith, h.begins))
        (omega (arith, h.begins, h.ends, h.few)) (omega (arith, h.begins)) (omega (arith, h.ends, h.few, few)) in
        let inside = counts.1 (omega (arith, h.begins, h.widths.peer_least, some), omega (arith, h.widths.peer_least, few)) in
        le-leb (distance (sequence_low m) n) (distance (sequence_low m) (sequence_high m))
        (subst (λ (k : ℕ). distance (sequence_low m) k ≤ distance (sequence_low m) (sequence_high m)) (sym is) inside)

-- GAR is in the window of what was sent, where GSS is that or the next.
pub gar-within : (m : Marks) → InRange m → (o : AreInOrder m.gar m.gss) → m.iss ≡ residue o.first → (m.gss ≡ m.gar) ⊎ (m.gss ≡ residue (m.gar + 1))
    → is_ack_within (ack_low m) (ack_high m) (Some m.gar) ≡ true
gar-within m range o first near =
    let close : o.late ≤ o.early + 1 =
    elim near [
      | inl same ↦ omega (arith, same, o.low_is, o.high_is, o.in_order, o.few)
      | inr after ↦ omega (arith, after, o.low_is, o.high_is, o.in_order, o.few)
    ] in
    let counts =
    ack-count m (o.first) (o.first + o.late) (o.first + o.early) range first o.high_is (omega arith) (omega (arith, o.few)) (omega arith)
    (omega (arith, o.in_order, o.few)) in
    let inside = counts.1 (omega (arith, close, range.own_least), omega (arith, o.in_order)) in
    le-leb (distance (ack_low m) m.gar) (distance (ack_low m) (ack_high m))
    (subst (λ (k : ℕ). distance (ack_low m) k ≤ distance (ack_low m) (ack_high m)) (sym o.low_is) inside)

pub window-both : (m : Marks) (n : ℕ) (ack : Option ℕ) → is_in_window m n ≡ true → is_ack_within (ack_low m) (ack_high m) ack ≡ true
    → by_window m n ack ≡ verdicts.Valid
window-both m n ack left right = both (is_in_window m n) (is_ack_within (ack_low m) (ack_high m) ack) (verdicts.SyncFor n) left right

-- What a side sends next is newer than all that the other has received.
pub next-newest : (m : Marks) (last n : ℕ) → AreHeard m last → n ≡ residue (last + 1) → is_before m.gsr n ≡ true
next-newest m last n h same =
    let few = h.few in
    let far : distance m.gsr n ≡ h.end + 1 - h.greatest = omega (arith, h.gsr_is, h.last_is, same, h.ends, few) in
    and_from (nat_lt 0 (distance m.gsr n)) (nat_lt (distance m.gsr n) (2 ^ 47)) (lt-ltb 0 (distance m.gsr n) (omega (arith, far, h.ends)))
    (lt-ltb (distance m.gsr n) (2 ^ 47) (omega (arith, far, few)))

-- A number of a frame that was sent is not after the next one.
pub sent-before : (iss count n o : ℕ) → n ≡ residue (iss + count) → count < 2 ^ 47 → o < 2 ^ 48 → iss < 2 ^ 48 → count_of iss o ≤ count
    → is_before n o ≡ false
sent-before iss count n o same few fits iss_fits early =
    let far : 2 ^ 47 ≤ distance n o = omega (arith, same, few, fits, iss_fits, early) in
    grind (arith, far)

pub self-before : (n : ℕ) → is_before n n ≡ false
self-before n = let none : distance n n ≡ 0 = omega arith in grind (arith, none)
