use Rattle.std.proofs.Common.{◌≡◌}
use Rattle.dccp_options.specs.Grammar.{options_of}
use Rattle.dccp_endpoint.specs.Heeding.{heeds, read_beside}
use Rattle.dccp_endpoint.proofs.heeding.heed.Given as goal

abbrev pub invariant-loop-item : goal.invariant-loop-item
invariant-loop-item l =
    heeds l.count l.ack (read_beside l.rows l.reading) l.item-iterator
    ≡ heeds l.count l.ack (read_beside l.initial.rows l.initial.reading) (options_of l.area l.on_data)
