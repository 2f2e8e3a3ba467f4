-- What a worker keeps while it claims, and what all workers have in the end.
use Rattle.std.proofs.Common.{◌≡◌, sym, ap, subst, ◌∙◌, ℕ, ◌+◌, ◌^◌, ◌≤◌, ◌<◌, min, List, [], ◌∷◌, ◌++◌, length, length-append, All, sum_by, Result, Ok, Err, IfOk, arith}
use Rattle.std.proofs.lemmas.List.Elements.{All-head, All-tail}
use Rattle.atomic_table.specs.Seated.{TableId}
use Rattle.seq_circle.specs.declared.memory.NoMemory.{NoMemory}
use Rattle.campaign_claims.specs.Numbers.{AreOnceBelow, sum_below}
use Rattle.campaign_claims.specs.Views.{Claimant, held, with_claimed, with_none}
use Rattle.campaign_claims.specs.declared.rule.View.{View}
use Rattle.fault_campaign.specs.Reports.{plus, size}
use Rattle.fault_campaign.specs.Seeded.{seeded_report}
use Rattle.fault_campaign.specs.Totals.{CanWork, HaveWorked, IsWholeReport, claimed_report, totals}
use Rattle.fault_campaign.specs.declared.report.Report.{Report}
use Rattle.fault_campaign.specs.declared.workers.Job.{Job}
use Rattle.fault_campaign.proofs.Fields.{all-once, one-more, size-of}
use Rattle.fault_campaign.proofs.Short.{report-size}

-- No claim was in vain yet, and the numbers rise: a bound of all of them is no less than how many they are.
pub record IsClaiming (job : Job) (claims : TableId) (view : View) (now : Claimant) (report : Report) : Type 0 where
  pub can : CanWork 1 job view
  pub same : now.claims ≡ claims
  pub share : now.view.share ≡ view.share
  pub limit : now.view.limit ≡ view.limit
  pub drawn : now.view.drawn ≡ length now.view.numbers
  pub rising : (k : ℕ) → All (λ x. x < k) now.view.numbers → length now.view.numbers ≤ k
  pub most : length now.view.numbers ≤ view.limit
  pub sum : report ≡ claimed_report job.first job.events now.view.numbers

-- each report of this job counts so much at most
pub each-size : (job : Job) → 1 ≤ job.events → job.events ≤ 4096 → (seed : ℕ) → size (seeded_report seed job.events) ≤ 20499
each-size job some most seed = omega (arith, report-size seed job.events some)

pub sum-size : (job : Job) (numbers : List ℕ) → 1 ≤ job.events → job.events ≤ 4096 → length numbers ≤ 1600000
    → size (claimed_report job.first job.events numbers) < 2 ^ 62
sum-size job numbers some most few = omega (arith, size-of job.first job.events (each-size job some most) numbers)

above-last : (numbers : List ℕ) (index k : ℕ) → All (λ x. x < k) (numbers ++ index ∷ []) → index < k
above-last [] index k all = All-head (λ x. x < k) index [] all
above-last (y ∷ numbers) index k all = above-last numbers index k (All-tail (λ x. x < k) y (numbers ++ index ∷ []) all)

pub one-turn : (job : Job) (claims : TableId) (view : View) (now next : Claimant) (report after one : Report) (index : ℕ) → IsClaiming job claims view now report
    → next ≡ held now.claims (with_claimed now.view index) → index < now.view.limit → All (λ x. x < index) now.view.numbers
    → one ≡ seeded_report (job.first + index) job.events → after ≡ plus report one → IsClaiming job claims view next after
one-turn job claims view now next report after one index before is below greater ran added =
    subst (λ (h : Claimant). IsClaiming job claims view h after) (sym is)
    (record {
      can = before.can;
      same = before.same;
      share = before.share;
      limit = before.limit;
      drawn = omega (arith, before.drawn, longer);
      rising = λ k all. let over = above-last now.view.numbers index k all in let low = before.rising index greater in omega (arith, longer);
      most = let low = before.rising index greater in omega (arith, longer, before.limit);
      sum = added ∙ ap (plus report) ran ∙ ap (λ (r : Report). plus r (seeded_report (job.first + index) job.events)) before.sum
          ∙ one-more job.first job.events now.view.numbers index;
    }) where
      longer : length (now.view.numbers ++ index ∷ []) ≡ length now.view.numbers + 1
      longer = length-append now.view.numbers (index ∷ [])

-- and the sum fits
pub fits : (job : Job) (claims : TableId) (view : View) (now : Claimant) (report one : Report) (index : ℕ) → IsClaiming job claims view now report
    → one ≡ seeded_report (job.first + index) job.events → size report + size one < 2 ^ 64
fits job claims view now report one index before ran =
    let few : length now.view.numbers ≤ 1600000 = omega (arith, before.most, before.can.few) in
    let mine : size report < 2 ^ 62 =
    subst (λ (x : Report). size x < 2 ^ 62) (sym before.sum) (sum-size job now.view.numbers before.can.some before.can.most few) in
    let its : size one ≤ 20499 = subst (λ (x : Report). size x ≤ 20499) (sym ran) (each-size job before.can.some before.can.most (job.first + index)) in
    omega (arith, mine, its)

pub in-vain : (job : Job) (claims : TableId) (view : View) (now last : Claimant) (report : Report) → IsClaiming job claims view now report
    → last ≡ held now.claims (with_none now.view) → HaveWorked 1 job claims view last (Ok report)
in-vain job claims view now last report before is =
    subst (λ (h : Claimant). HaveWorked 1 job claims view h (Ok report)) (sym is)
    (record {
      same = before.same;
      share = before.share;
      limit = before.limit;
      few = omega (arith, before.most, before.can.few);
      whole = record { sum = before.sum; in_vain = omega (arith, before.drawn) };
    })

-- what workers have counted fits
pub small : (workers : ℕ) (job : Job) (claims : TableId) (view : View) (now : Claimant) (report : Result Report NoMemory) → workers ≤ 16 → 1 ≤ job.events
    → job.events ≤ 4096
    → HaveWorked workers job claims view now report → IfOk report (λ r. size r < 2 ^ 62)
small workers job claims view now (Ok r) most some few have =
    subst (λ (x : Report). size x < 2 ^ 62) (sym have.whole.sum) (sum-size job now.view.numbers some few (omega (arith, have.few)))
small workers job claims view now (Err lacks) most some few have = tt

-- a claimer that has all numbers once has the report of all seeds
pub all-seeds : ((f : ℕ → ℕ) (m : ℕ) (numbers : List ℕ) → AreOnceBelow m numbers → sum_by f numbers ≡ sum_below f m)
    → ((limit drawn : ℕ) (numbers : List ℕ) → AreOnceBelow (min limit drawn) numbers → length numbers < drawn → AreOnceBelow limit numbers)
    → (job : Job) (seeds word : ℕ) (view : View) (report : Result Report NoMemory) → view.limit ≡ seeds → word ≡ view.drawn
    → AreOnceBelow (min view.limit word) view.numbers → IfOk report (IsWholeReport job view) → IfOk report (λ r. r ≡ totals job.first seeds job.events)
all-seeds sums vain job seeds word view (Ok r) limit drawn once whole =
    let each = subst (λ (d : ℕ). AreOnceBelow (min view.limit d) view.numbers) drawn once in
    let below = subst (λ (m : ℕ). AreOnceBelow m view.numbers) limit (vain view.limit view.drawn view.numbers each whole.in_vain) in
    whole.sum ∙ all-once job.first job.events view.numbers seeds (λ f. sums f seeds view.numbers below)
all-seeds sums vain job seeds word view (Err lacks) limit drawn once whole = tt
