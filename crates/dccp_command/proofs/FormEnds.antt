-- How a program ends that answers a form.
use Rattle.std.proofs.Common.{◌≡◌, subst}
use Rattle.tool_text.proofs.Ending.{on-job-end}
use Rattle.tool_text.specs.Ends.{OnJobEnd, status_of}
use Rattle.tool_text.specs.declared.output.status.JobEnd.{JobEnd}
use Rattle.tool_text.specs.declared.output.status.JobEnd.TheVariants as ended
use Rattle.tool_text.specs.declared.output.status.Status.{Status}
use Rattle.tool_text.specs.declared.output.status.Status.TheVariants as status

-- it ends as its job does
pub ends_as_its_job : (end : JobEnd) (now : Status) (Holds : JobEnd → Type 0) → now ≡ status_of end → Holds end → OnJobEnd now Holds
ends_as_its_job = on-job-end

-- what holds of its job's end has more that holds of it
pub at-each-end : (now : Status) (Holds More : JobEnd → Type 0) → OnJobEnd now Holds → ((end : JobEnd) → Holds end → More end) → OnJobEnd now More
at-each-end status.Done Holds More holds more = more ended.Done holds
at-each-end status.Input Holds More holds more = more ended.Input holds
at-each-end status.Words Holds More holds more = holds
at-each-end status.Read Holds More holds more = more ended.Read holds
at-each-end status.Write Holds More holds more = more ended.Write holds
at-each-end status.Memory Holds More holds more = more ended.Memory holds

-- and what follows from any end of its job holds
pub at-some-end : (now : Status) (Holds : JobEnd → Type 0) (More : Type 0) → OnJobEnd now Holds → ((end : JobEnd) → Holds end → More) → More
at-some-end status.Done Holds More holds more = more ended.Done holds
at-some-end status.Input Holds More holds more = more ended.Input holds
at-some-end status.Words Holds More holds more = absurd holds
at-some-end status.Read Holds More holds more = more ended.Read holds
at-some-end status.Write Holds More holds more = more ended.Write holds
at-some-end status.Memory Holds More holds more = more ended.Memory holds

-- no job ends with Words
pub never-words : (now : Status) (Holds : JobEnd → Type 0) → OnJobEnd now Holds → now ≡ status.Words → ⊥
never-words now Holds holds is = subst (λ (s : Status). OnJobEnd s Holds) is holds
