use Rattle.tool_jobs.specs.Transcript.{performed, world_at_first, world_of}
use Rattle.tool_jobs.proofs.SchedulesRunning.{every-run, prefix-safe}
use Rattle.tool_jobs.proofs.run.laws.the_first_events_lead_to_a_safe_world.Goals as goal

pub returns : goal.returns
returns c = λ input n safe.
    prefix-safe (world_at_first (performed input)) (performed input).deeds (world_of (performed input).last) (every-run input) safe.0 safe.1 n
