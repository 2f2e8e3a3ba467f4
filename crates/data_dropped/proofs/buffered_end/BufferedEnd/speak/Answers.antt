use Rattle.std.proofs.Common.{ap, ◌∙◌, subst}
use Rattle.dccp_sum.specs.declared.pseudo_header.Pseudo.{Pseudo}
use Rattle.data_dropped.specs.Buffering.{BufferedState}
use Rattle.data_dropped.specs.Drops.{HaveCodes}
use Rattle.data_dropped.specs.Frames.{buffered_frame}
use Rattle.data_dropped.proofs.buffered_end.BufferedEnd.speak.Goals as goal

pub returns-clause-says : goal.returns-clause-says
returns-clause-says g c =
    c.buffer.ensures.says
    ∙ ap (λ (p : Pseudo). buffered_frame p c.self.inside.inbox c.args.out.now) c.pseudo_out.ensures
    ∙ ap (λ (b : BufferedState _). buffered_frame b.end.state.config.pseudo_out b.inbox c.args.out.now) c.self.view_is

pub returns-clause-codes : goal.returns-clause-codes
returns-clause-codes g c = subst (λ (b : BufferedState _). HaveCodes b.inbox.drops) c.self.view_is c.buffer.ensures.codes
