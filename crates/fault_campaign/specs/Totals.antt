-- The report of a campaign (own): that of its seeds, added up; and what each worker has of it.
use Rattle.std.specs.Prelude.{◌≡◌, ℕ, ◌+◌, ◌*◌, ◌^◌, ◌<◌, ◌≤◌, nat_le, if◌then◌else◌, List, [], ◌∷◌, ◌++◌, length, sum_by, Result, Ok, Err, IfOk}
use Rattle.atomic_table.specs.Seated.{TableId}
use Rattle.seq_circle.specs.declared.memory.NoMemory.{NoMemory}
use Rattle.campaign_claims.specs.Numbers.{sum_below}
use Rattle.campaign_claims.specs.Views.{Claimant}
use Rattle.campaign_claims.specs.declared.rule.View.{View}
use Rattle.fault_campaign.specs.Reports.{of_fields, plus}
use Rattle.fault_campaign.specs.Seeded.{seeded_report}
use Rattle.fault_campaign.specs.declared.report.Report.{Report}
use Rattle.fault_campaign.specs.declared.workers.Job.{Job}

-- one field of the seed after the first by so many
abbrev pub field_at : ℕ → ℕ → (Report → ℕ) → ℕ → ℕ
field_at first events field index = field (seeded_report (first + index) events)

-- the seeds from the first on
abbrev pub totals : ℕ → ℕ → ℕ → Report
totals first seeds events = of_fields (λ field. sum_below (field_at first events field) seeds)

-- those that were claimed by these numbers
abbrev pub claimed_report : ℕ → ℕ → List ℕ → Report
claimed_report first events numbers = of_fields (λ field. sum_by (field_at first events field) numbers)

-- the share that lets this many workers claim, each half of them with half of it
abbrev pub room_for : ℕ → ℕ
room_for workers =
    if nat_le workers 1 then 2 ^ 57
    else if nat_le workers 2 then 2 ^ 58
    else if nat_le workers 4 then 2 ^ 59
    else if nat_le workers 8 then 2 ^ 60
    else 2 ^ 61

-- What workers begin with: nothing claimed, room for their claims, and seeds below 2^64.
pub record CanWork (workers : ℕ) (job : Job) (view : View) : Type 0 where
  pub none : view.numbers ≡ []
  pub undrawn : view.drawn ≡ 0
  pub room : room_for workers ≤ view.share
  pub few : view.limit ≤ 100000
  pub last : job.first + view.limit ≤ 2 ^ 64
  pub some : 1 ≤ job.events
  pub most : job.events ≤ 4096

-- So many workers may begin, with what one of them holds of these claims.
abbrev pub MayBegin : ℕ → Job → TableId → Claimant → Type 0
MayBegin workers job claims now = (1 ≤ workers) × (workers ≤ 16) × (now.claims ≡ claims) × CanWork workers job now.view

-- What they end with: all seeds of their numbers were run, and a claim gave no number.
pub record IsWholeReport (job : Job) (view : View) (report : Report) : Type 0 where
  pub sum : report ≡ claimed_report job.first job.events view.numbers
  pub in_vain : length view.numbers < view.drawn

-- this many workers have ended: the claims are the same, and the report covers all numbers that were claimed
pub record HaveWorked (workers : ℕ) (job : Job) (claims : TableId) (view : View) (now : Claimant) (report : Result Report NoMemory) : Type 0 where
  pub same : now.claims ≡ claims
  pub share : now.view.share ≡ view.share
  pub limit : now.view.limit ≡ view.limit
  pub few : length now.view.numbers ≤ workers * 100000
  pub whole : IfOk report (IsWholeReport job now.view)

-- two reports in one, where there are both
abbrev pub both_reports : Result Report NoMemory → Result Report NoMemory → Result Report NoMemory
both_reports (Ok one) (Ok other) = Ok (plus one other)
both_reports (Ok one) (Err none) = Err none
both_reports (Err none) other = Err none
