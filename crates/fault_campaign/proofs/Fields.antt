-- Reports that are added field by field.
use Rattle.std.proofs.Common.{◌≡◌, refl, sym, ap, ℕ, zero, suc, ◌+◌, ◌*◌, ◌≤◌, List, [], ◌∷◌, ◌++◌, length, sum_by, arith}
use Rattle.std.proofs.lemmas.List.Sums.{sum_by-cons, sum_by_push}
use Rattle.campaign_claims.specs.Numbers.{sum_below}
use Rattle.fault_campaign.specs.Reports.{nothing, of_fields, plus, size}
use Rattle.fault_campaign.specs.Seeded.{seeded_report}
use Rattle.fault_campaign.specs.Totals.{claimed_report, field_at, totals}
use Rattle.fault_campaign.specs.declared.report.Report.{Report}

-- reports whose fields are the same are the same
same : (f g : (Report → ℕ) → ℕ) → ((field : Report → ℕ) → f field ≡ g field) → of_fields f ≡ of_fields g
same f g each =
    cc (
      each (λ r. r.seeds),
      each (λ r. r.events),
      each (λ r. r.client_frames),
      each (λ r. r.server_frames),
      each (λ r. r.took),
      each (λ r. r.delivered),
      each (λ r. r.dropped),
      each (λ r. r.synced),
      each (λ r. r.was_reset),
      each (λ r. r.sent_reset),
      each (λ r. r.refused),
      each (λ r. r.settled),
    )

module _ (first events : ℕ) where
  pub none : nothing ≡ claimed_report first events []
  none = refl

  pub one-more : (numbers : List ℕ) (k : ℕ)
      → plus (claimed_report first events numbers) (seeded_report (first + k) events) ≡ claimed_report first events (numbers ++ k ∷ [])
  one-more numbers k =
      same (λ field. sum_by (field_at first events field) numbers + field_at first events field k)
      (λ field. sum_by (field_at first events field) (numbers ++ k ∷ []))
      (λ field. sym (sum_by_push (field_at first events field) numbers k))

  -- numbers that are those below m, each once
  pub all-once : (numbers : List ℕ) (m : ℕ) → ((f : ℕ → ℕ) → sum_by f numbers ≡ sum_below f m) → claimed_report first events numbers ≡ totals first m events
  all-once numbers m sums =
      same (λ field. sum_by (field_at first events field) numbers) (λ field. sum_below (field_at first events field) m)
      (λ field. sums (field_at first events field))

  -- one field, of seeds in two parts
  sum-of-parts : (field : Report → ℕ) (some more : ℕ) → sum_below (field_at first events field) (some + more)
      ≡ sum_below (field_at first events field) some + sum_below (field_at (first + some) events field) more
  sum-of-parts field some zero =
      let none : some + 0 ≡ some = omega arith in
      let whole : sum_below (field_at first events field) (some + 0) ≡ sum_below (field_at first events field) some =
      ap (sum_below (field_at first events field)) none in
      omega (arith, whole)
  sum-of-parts field some (suc more) =
      let next : some + suc more ≡ suc (some + more) = omega arith in
      let whole : sum_below (field_at first events field) (some + suc more)
      ≡ sum_below (field_at first events field) (some + more) + field (seeded_report (first + (some + more)) events) =
      ap (sum_below (field_at first events field)) next in
      let seed : first + (some + more) ≡ first + some + more = omega arith in
      let last : field (seeded_report (first + (some + more)) events) ≡ field (seeded_report (first + some + more) events) =
      ap (λ (n : ℕ). field (seeded_report n events)) seed in
      let rest = sum-of-parts field some more in
      omega (arith, whole, last, rest)

  pub parts-add : (some more : ℕ) → plus (totals first some events) (totals (first + some) more events) ≡ totals first (some + more) events
  parts-add some more =
      same (λ field. sum_below (field_at first events field) some + sum_below (field_at (first + some) events field) more)
      (λ field. sum_below (field_at first events field) (some + more)) (λ field. sym (sum-of-parts field some more))

  pub size-of : ((seed : ℕ) → size (seeded_report seed events) ≤ 20499) → (numbers : List ℕ)
      → size (claimed_report first events numbers) ≤ length numbers * 20499
  size-of each [] = omega arith
  size-of each (k ∷ ks) =
      let rest = size-of each ks in
      let one = each (first + k) in
      omega (
        arith,
        sum_by-cons (field_at first events (λ r. r.seeds)) k ks,
        sum_by-cons (field_at first events (λ r. r.events)) k ks,
        sum_by-cons (field_at first events (λ r. r.client_frames)) k ks,
        sum_by-cons (field_at first events (λ r. r.server_frames)) k ks,
        sum_by-cons (field_at first events (λ r. r.took)) k ks,
        sum_by-cons (field_at first events (λ r. r.delivered)) k ks,
        sum_by-cons (field_at first events (λ r. r.dropped)) k ks,
        sum_by-cons (field_at first events (λ r. r.synced)) k ks,
        sum_by-cons (field_at first events (λ r. r.was_reset)) k ks,
        sum_by-cons (field_at first events (λ r. r.sent_reset)) k ks,
        sum_by-cons (field_at first events (λ r. r.refused)) k ks,
        sum_by-cons (field_at first events (λ r. r.settled)) k ks,
      )
