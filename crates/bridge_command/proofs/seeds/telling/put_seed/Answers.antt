use Rattle.std.proofs.Common.{ap, ◌∙◌}
use Rattle.serde_json.specs.Written.{members_have_float}
use Rattle.bridge_command.proofs.SeedObjects.{whole_seed}
use Rattle.bridge_command.proofs.seeds.telling.put_seed.Goals as goal

pub put_line-requires : goal.put_line-requires
put_line-requires c = ap members_have_float c.in_ok-seed_object.ensures ∙ whole_seed c.args.seed _
