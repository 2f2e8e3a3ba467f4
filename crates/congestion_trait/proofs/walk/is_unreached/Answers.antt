use Rattle.std.proofs.Common.{◌∙◌, ap, arith, option_copied, sym}
use Rattle.dccp_options.specs.Vectors.{state_at}
use Rattle.congestion_trait.proofs.Unheard.{none_unheard, out_from, unheard_after}
use Rattle.congestion_trait.proofs.walk.is_unreached.Goals as goal

pub returns-in-Some : goal.returns-in-Some
returns-in-Some c = λ far. unheard_after c.args.report.now.ack c.args.report.now.bytes c.args.counts.now.span c.args.counts.now.settled c.args.entries.now.items
    c.in-Some.entry.now c.is_out_of_reach.ensures.few (sym c.get.ensures ∙ ap option_copied c.in-Some.is)
    (out_from c.args.counts.now.heard c.args.counts.now.settled c.args.entries.now.items (omega arith) c.requires.kept.unheard) c.requires.kept.near
    (c.is_out_of_reach.ensures.value far)

pub returns-in-None : goal.returns-in-None
returns-in-None c = λ said. none_unheard (state_at c.args.report.now.ack c.args.report.now.bytes) c.args.counts.now.settled c.args.entries.now.items
    (sym c.get.ensures ∙ ap option_copied c.in-None.is)
