use Rattle.bridge_command.proofs.UnwrappedShowing.{ethernet-stays, raw-stays}
use Rattle.bridge_command.proofs.unwrap.laws.what_show_shows_stays.Goals as goal

pub returns-clause-raw : goal.returns-clause-raw
returns-clause-raw c = raw-stays

pub returns-clause-ethernet : goal.returns-clause-ethernet
returns-clause-ethernet c = ethernet-stays
