use Rattle.data_dropped.proofs.Table.{drop_code-push}
use Rattle.data_dropped.proofs.laws.the_latest_drop_counts.Goals as goal

pub returns : goal.returns
returns c = drop_code-push
