use Rattle.std.proofs.Common.{◌-◌, length, subst, refl, ◌∙◌, arith}
use Rattle.std.proofs.lemmas.List.{length-set}
use Rattle.congestion_trait.specs.Walk.{IsAlong, received_walk}
use Rattle.congestion_trait.proofs.Received.{turn_received, begins_received}
use Rattle.congestion_trait.proofs.walk.settle_received.Goals as goal

pub loop-index-init : goal.loop-index-init
loop-index-init c = (
  c.requires.from,
  omega arith,
  refl,
  refl,
  λ told mark unheard received. begins_received told mark c.args.entries.now.items c.args.to unheard,
)

pub loop-index-preserved : goal.loop-index-preserved
loop-index-preserved c =
    let old = c.args.entries.now.items in
    let now = c.loop-index.entries.items in
    let index = c.loop-index.index in
    let entry = c.entry_at-entry.result in
    let written = c.set_standing.ensures entry c.entry_at-entry.ensures in (
      omega arith,
      omega arith,
      rw written (length-set now (index - 1) _ ∙ c.loop-index.invariant.2),
      rw written c.loop-index.invariant.3,
      λ told mark unheard received. rw written (turn_received told mark old now c.args.from c.args.to index (index - 1) entry
          (length old - c.args.to) (omega arith) (omega arith) c.requires.to (omega arith) received c.entry_at-entry.ensures
          (c.loop-index.invariant.4 told mark unheard received)),
    )

pub returns-clause-along : goal.returns-clause-along
returns-clause-along c = λ told mark unheard received.
    let old = c.args.entries.now.items in
    let to = c.args.to in
    subst (λ i. IsAlong told mark old i c.loop-index.entries.items (received_walk (length old - to) (to - i) to)) (omega arith)
    (c.loop-index.invariant.4 told mark unheard received)
