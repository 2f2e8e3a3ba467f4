use Rattle.std.proofs.Common.{◌∙◌}
use Rattle.run_list.specs.Nodes.{all_nodes}
use Rattle.run_list.proofs.Links.{all_parted}
use Rattle.run_list.proofs.linked.clear.Goals as goal

pub release-requires : goal.release-requires
release-requires c = record { parted = (all_parted (all_nodes c.args.runs.now.nodes) c.args.runs.now.first c.args.runs.now.free c.requires.linked).0 }

pub returns-clause-empty : goal.returns-clause-empty
returns-clause-empty c = c.release.ensures.stays ∙ (all_parted (all_nodes c.args.runs.now.nodes) c.args.runs.now.first c.args.runs.now.free c.requires.linked).1
