-- Lines of an end with a receive buffer: data that it delivers can be told, and what is taken is the first item's.
use Rattle.std.proofs.Common.{ℕ, List, Some, None}
use Rattle.dccp_states.specs.declared.outcome.Outcome.{Outcome}
use Rattle.dccp_states.specs.declared.outcome.Outcome.TheVariants.{Took, Dropped, Synced, WasReset, SentReset}
use Rattle.data_dropped.specs.Buffering.{HasDataWithin}
use Rattle.schedule_text.specs.Results.{HasItsData}

pub data-told : (bytes : List ℕ) (outcome : Outcome) → HasDataWithin bytes outcome → HasItsData bytes outcome
data-told bytes (Took (Some place)) within = within
data-told bytes _ within = tt
