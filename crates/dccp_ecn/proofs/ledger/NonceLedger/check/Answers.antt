use Rattle.dccp_ecn.specs.Ledger.{nonce_kept}
use Rattle.dccp_ecn.specs.Nonces.{zeros_in}
use Rattle.dccp_ecn.proofs.Sums.{check-unknown}
use Rattle.dccp_ecn.proofs.ledger.NonceLedger.check.Goals as goal

pub returns-clause-unknown : goal.returns-clause-unknown
returns-clause-unknown c =
    rw (c.check_verdict.ensures, c.sum_of.ensures) (check-unknown (nonce_kept c.args.self.now) c.args.kind (zeros_in c.args.ack c.args.body.now))
