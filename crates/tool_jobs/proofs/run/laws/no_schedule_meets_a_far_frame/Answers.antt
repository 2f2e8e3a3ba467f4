use Rattle.tool_jobs.proofs.Room.{never-far}
use Rattle.tool_jobs.proofs.run.laws.no_schedule_meets_a_far_frame.Goals as goal

pub returns : goal.returns
returns c = never-far c.few_frames_are_never_far.ensures
