use Rattle.std.proofs.Common.{rules, ◌≡◌, ◌<◌, ◌^◌, length}
use Rattle.dccp_ecn.proofs.Kept.{ledger-sent}
use Rattle.dccp_ecn.proofs.ledger.NonceLedger.sent.Goals as goal

pub returns-clause-value : goal.returns-clause-value
returns-clause-value c =
    let size : length c.self.inside.nonces ≡ 4096 = search rules in
    let fits : c.self.inside.next < 2 ^ 48 = search rules in
    rw (← c.self.view_is)
    (rw c.next-self-inside.ensures
    (ledger-sent c.self.inside.nonces c.self.inside.next c.place_in_ring.result c.self.inside.kept c.min-self-inside.result c.args.nonce
    fits size c.place_in_ring.ensures.place c.min-self-inside.ensures))
