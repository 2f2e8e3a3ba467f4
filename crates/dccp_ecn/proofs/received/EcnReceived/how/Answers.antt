use Rattle.std.proofs.Common.{rules, ◌≡◌, ◌<◌, ◌≤◌, ◌^◌, ◌∙◌, ap, sym}
use Rattle.seq_circle.specs.Circle.{distance}
use Rattle.dccp_ecn.proofs.Taking.{how-far, how-near}
use Rattle.dccp_ecn.proofs.received.EcnReceived.how.Goals as goal

pub returns-then-distance-lt-PLACES : goal.returns-then-distance-lt-PLACES
returns-then-distance-lt-PLACES c =
    let fits : c.args.n < 2 ^ 48 = search rules in
    let is : c.distance.result ≡ distance c.self.inside.set.floor c.args.n =
    c.distance.ensures.value ∙ ap (λ f. distance f c.args.n) c.floor.ensures.value in
    let near : distance c.self.inside.set.floor c.args.n < 2048 = rw is at c.if-distance-lt-PLACES.true in
    rw (← c.self.view_is) (c.at.ensures ∙ sym (how-near c.self.inside.set c.self.inside.ring c.args.n fits near c.self.invariant))

pub returns-else-distance-lt-PLACES : goal.returns-else-distance-lt-PLACES
returns-else-distance-lt-PLACES c =
    let is : c.distance.result ≡ distance c.self.inside.set.floor c.args.n =
    c.distance.ensures.value ∙ ap (λ f. distance f c.args.n) c.floor.ensures.value in
    let far : 2048 ≤ distance c.self.inside.set.floor c.args.n = rw is at c.if-distance-lt-PLACES.false in
    rw (← c.self.view_is) (sym (how-far c.self.inside.set c.self.inside.ring c.args.n c.floor.ensures.sound far))
