use Rattle.two_inboxes.proofs.Alike.{longer_frames_are_taken_alike}
use Rattle.two_inboxes.proofs.laws.longer_frames_are_taken_alike.Goals as goal

pub returns : goal.returns
returns c = longer_frames_are_taken_alike
