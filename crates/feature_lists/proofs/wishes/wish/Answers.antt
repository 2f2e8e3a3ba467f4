use Rattle.feature_lists.proofs.Allowed.{allowed_bytes}
use Rattle.feature_lists.proofs.wishes.wish.Goals as goal

-- a permitted value of a server-priority feature is a byte
pub of-requires-clause-bytes : goal.of-requires-clause-bytes
of-requires-clause-bytes c = allowed_bytes c.args.feature c.args.place c.args.values.now (cc) (cc)
