use Rattle.fault_campaign.proofs.Schedules.{many, once, safe, schedule}
use Rattle.fault_campaign.proofs.laws.seeded_runs_are_safe.Goals as goal

pub returns : goal.returns
returns c =
    record { schedule = schedule; many = many; safe = safe c.every_run_is_safe.ensures; once = once c.data_are_delivered_once.ensures }
