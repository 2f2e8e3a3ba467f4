use Rattle.schedule_text.proofs.FrameForms.{frame-spelled, spelled-frame}
use Rattle.schedule_text.proofs.laws.frames_are_their_forms.Goals as goal

pub returns : goal.returns
returns c = λ text said. (frame-spelled text said, spelled-frame text said)
