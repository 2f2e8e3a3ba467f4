use Rattle.std.proofs.Common.{rules, ◌≡◌, ◌<◌, ◌^◌, ◌∙◌, ap, sym, false, slice_index_or}
use Rattle.std.specs.Prelude.{Some}
use Rattle.seq_circle.specs.Circle.{distance, down}
use Rattle.dccp_ecn.proofs.Kept.{kept-far, kept-near}
use Rattle.dccp_ecn.proofs.ledger.NonceLedgerNonces.nonce.Goals as goal

pub returns-then-below-self : goal.returns-then-below-self
returns-then-below-self c =
    let n_fits : c.args.n < 2 ^ 48 = search rules in
    let below : c.distance-below.result ≡ distance c.args.n (down c.self.inside.next 1) =
    c.distance-below.ensures.value ∙ ap (λ top. distance c.args.n top) c.sub.ensures in
    rw (← c.self.view_is)
    (ap (λ place. Some (slice_index_or c.self.inside.nonces place false)) c.place_in_ring.ensures.place
    ∙ sym (kept-near c.self.inside.nonces c.self.inside.next c.self.inside.kept c.args.n c.distance-below.result n_fits below c.if-below-self.true))

pub returns-else-below-self : goal.returns-else-below-self
returns-else-below-self c =
    let n_fits : c.args.n < 2 ^ 48 = search rules in
    let below : c.distance-below.result ≡ distance c.args.n (down c.self.inside.next 1) =
    c.distance-below.ensures.value ∙ ap (λ top. distance c.args.n top) c.sub.ensures in
    rw (← c.self.view_is)
    (sym (kept-far c.self.inside.nonces c.self.inside.next c.self.inside.kept c.args.n c.distance-below.result n_fits below c.if-below-self.false))
