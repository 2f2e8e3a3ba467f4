use Rattle.tool_jobs.proofs.Room.{never-full}
use Rattle.tool_jobs.proofs.run.laws.no_schedule_fills_a_world.Goals as goal

pub returns : goal.returns
returns c = never-full
