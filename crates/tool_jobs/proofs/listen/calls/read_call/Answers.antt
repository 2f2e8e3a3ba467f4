use Rattle.std.proofs.Common.{sym, subst, Option, Result}
use Rattle.std.specs.Prelude.{IfOk, IfSome}
use Rattle.dccp_listener.specs.declared.peer.Peer.{Peer}
use Rattle.tool_text.specs.declared.words.faults.LineFault.{LineFault}
use Rattle.tool_jobs.specs.Calls.{SealsInFull}
use Rattle.tool_jobs.specs.declared.listen.calls.PeerCall.{PeerCall}
use Rattle.tool_jobs.proofs.Sealing.{calls_sealed}
use Rattle.tool_jobs.proofs.listen.calls.read_call.Goals as goal

pub returns-clause-seals : goal.returns-clause-seals
returns-clause-seals c =
    subst (λ (r : Result (Option (Peer × PeerCall)) LineFault). IfOk r (λ said. IfSome said (λ s. SealsInFull s.1)))
    (sym c.read_line.ensures) (calls_sealed c.args.line.now)
