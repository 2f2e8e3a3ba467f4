use Rattle.tool_jobs.proofs.SchedulesRunning.{every-run, run-last, run-nth, run-text}
use Rattle.tool_jobs.proofs.run.laws.every_schedule_is_a_run.Goals as goal

pub returns : goal.returns
returns c = record {
  run = every-run;
  nth = λ input n scene found. run-nth _ _ _ (every-run input) n scene found;
  last = λ input. run-last _ _ _ (every-run input);
  ends = run-text;
}
