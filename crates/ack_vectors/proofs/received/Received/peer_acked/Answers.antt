use Rattle.std.proofs.Common.{◌∙◌, ap, None}
use Rattle.std.specs.Prelude.{is_some}
use Rattle.ack_vectors.proofs.Records.{newest_from-some}
use Rattle.ack_vectors.proofs.received.Received.peer_acked.Goals as goal

pub returns-in_default-clause-cause : goal.returns-in_default-clause-cause
returns-in_default-clause-cause c =
    rw (← c.self.view_is) (ap is_some c.in_default.ensures ∙ newest_from-some c.args.n None c.self.inside.records.items)

pub returns-clause-cause : goal.returns-clause-cause
returns-clause-cause c =
    rw (← c.self.view_is) (ap is_some c.in-Some.ensures ∙ newest_from-some c.args.n None c.self.inside.records.items)
