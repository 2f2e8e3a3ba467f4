-- A flow that was not seen, put after the set where that is full.
use Rattle.std.proofs.Common.{◌≡◌, ap, ◌∙◌, List}
use Rattle.packet_show.specs.Flows.{Flow, number_if_seen}
use Rattle.packet_show.proofs.Numbered.{none_further, noted_further}
use Rattle.packet_show.proofs.flows.Flows.add.Goals as goal

pub add-requires : goal.add-requires
add-requires c =
    none_further c.args.flow c.self.inside.first.keys c.self.inside.further c.self.invariant
    (ap (λ (list : List Flow). number_if_seen c.args.flow list) c.self.view_is ∙ c.requires)

pub returns-else-len-lt-MOST_FIRST-clause-ok : goal.returns-else-len-lt-MOST_FIRST-clause-ok
returns-else-len-lt-MOST_FIRST-clause-ok c =
    noted_further c.add.result c.args.flow c.self.inside.first.keys c.self.inside.further c.add.new.self c.args.self.now c.self.view_is c.requires
    c.add.ensures.ok
