use Rattle.schedule_text.proofs.LineForms.{line-spelled, spelled-line}
use Rattle.schedule_text.proofs.laws.lines_are_their_forms.Goals as goal

pub returns : goal.returns
returns c = λ text said. (line-spelled text said, spelled-line text said)
