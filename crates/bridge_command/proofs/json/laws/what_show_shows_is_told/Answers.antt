use Rattle.bridge_command.proofs.ShowAgreeing.{ethernet-agrees, raw-agrees}
use Rattle.bridge_command.proofs.json.laws.what_show_shows_is_told.Goals as goal

pub returns-clause-raw : goal.returns-clause-raw
returns-clause-raw c = raw-agrees

pub returns-clause-ethernet : goal.returns-clause-ethernet
returns-clause-ethernet c = ethernet-agrees
