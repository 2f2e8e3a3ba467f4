use Rattle.std.proofs.Common.{◌<◌, length, subst, sym, arith, set}
use Rattle.feature_machine.proofs.Loud.{loud_among, loud_put, loud_within}
use Rattle.feature_machine.proofs.Places.{put_negotiation}
use Rattle.feature_machine.specs.Negotiating.{IsNegotiation}
use Rattle.feature_machine.proofs.negotiation.Negotiation.put.Goals as goal

pub loud_after-self-inside-requires-clause-some : goal.loud_after-self-inside-requires-clause-some
loud_after-self-inside-requires-clause-some c =
    let size = c.self.invariant.0.size in
    let fits = c.index_of-index.ensures.fits in
    let inside : c.index_of-index.result < length c.self.inside.rows = omega arith in
    let counted = c.self.invariant.1 in
    let among = loud_among c.self.inside.rows c.index_of-index.result c.index-self-index.result inside in
    omega arith

pub loud_after-self-inside-requires-clause-few : goal.loud_after-self-inside-requires-clause-few
loud_after-self-inside-requires-clause-few c =
    let size = c.self.invariant.0.size in
    let counted = c.self.invariant.1 in
    let few = loud_within c.self.inside.rows in
    omega arith

-- the put row is the row of its place, and counts for the one before it
pub invariant_of-self : goal.invariant_of-self
invariant_of-self c =
    let size = c.self.invariant.0.size in
    let fits = c.index_of-index.ensures.fits in
    let inside : c.index_of-index.result < length c.self.inside.rows = omega arith in
    let counted = c.self.invariant.1 in
    let told = c.loud_after-self-inside.ensures in
    let all = loud_put c.self.inside.rows c.index_of-index.result c.index-self-index.result c.args.row inside in (
      subst (λ i. IsNegotiation (set c.self.inside.rows i c.args.row)) (sym c.index_of-index.ensures.value)
          (put_negotiation c.self.inside.rows c.args.feature c.args.place c.args.row c.self.invariant.0 c.requires),
      omega arith,
    )
