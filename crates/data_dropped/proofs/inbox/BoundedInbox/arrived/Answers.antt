use Rattle.std.proofs.Common.{sym, ◌∙◌}
use Rattle.data_dropped.proofs.Arriving.{full-where}
use Rattle.data_dropped.proofs.inbox.BoundedInbox.arrived.Goals as goal

pub returns-else-takes_more-clause-full : goal.returns-else-takes_more-clause-full
returns-else-takes_more-clause-full g c =
    full-where c.args.self.now c.note_drop.result
    (sym c.takes_more.ensures.value ∙ c.if-takes_more.false) c.takes_more.ensures.within c.note_drop.ensures.answer
