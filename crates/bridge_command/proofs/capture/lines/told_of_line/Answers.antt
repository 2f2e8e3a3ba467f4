-- A frame that came is whole.
use Rattle.std.proofs.Common.{sym, subst, Option, Result}
use Rattle.std.specs.Prelude.{IfOk, IfSome}
use Rattle.tool_text.specs.declared.words.faults.LineFault.{LineFault}
use Rattle.bridge_command.specs.TranscriptLines.{CanArrive}
use Rattle.bridge_command.specs.declared.capture.lines.TranscriptLine.{TranscriptLine}
use Rattle.bridge_command.proofs.FrameFitting.{lines-arrive}
use Rattle.bridge_command.proofs.capture.lines.told_of_line.Goals as goal

pub returns-clause-arrives : goal.returns-clause-arrives
returns-clause-arrives c =
    subst (λ (r : Result (Option TranscriptLine) LineFault). IfOk r (λ said. IfSome said CanArrive)) (sym c.read_line.ensures) (lines-arrive c.args.line.now)
