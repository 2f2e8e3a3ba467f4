use Rattle.std.proofs.Common.{◌≡◌, ◌≤◌, sym, subst, length, true, Option, Result}
use Rattle.std.specs.Prelude.{IfOk, IfSome}
use Rattle.tool_text.specs.declared.words.faults.LineFault.{LineFault}
use Rattle.schedule_text.specs.declared.line.FrameLine.{FrameLine}
use Rattle.schedule_text.proofs.FrameForms.{frames_sealed}
use Rattle.schedule_text.proofs.frames.read_frame.Goals as goal

pub returns-clause-seals : goal.returns-clause-seals
returns-clause-seals c =
    subst (λ (r : Result (Option FrameLine) LineFault). IfOk r (λ said. IfSome said (λ frame. frame.seal ≡ true → 8 ≤ length frame.bytes)))
    (sym c.read_line.ensures) (frames_sealed c.args.line.now)
