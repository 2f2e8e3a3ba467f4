use Rattle.schedule_text.proofs.FrameForms.{first-frame-fault}
use Rattle.schedule_text.proofs.laws.the_first_fault_of_a_frame_is_answered.Goals as goal

pub returns : goal.returns
returns c = first-frame-fault
