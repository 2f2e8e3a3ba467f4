use Rattle.bridge_command.proofs.FrameReadingBack.{comment-ends, comment-read, none-read, sealed-read}
use Rattle.bridge_command.proofs.frames.laws.lines_read_back.Goals as goal

pub returns-clause-frame : goal.returns-clause-frame
returns-clause-frame c = sealed-read

pub returns-clause-none : goal.returns-clause-none
returns-clause-none c = none-read

pub returns-clause-comment : goal.returns-clause-comment
returns-clause-comment c = comment-ends

pub returns-clause-nothing : goal.returns-clause-nothing
returns-clause-nothing c = comment-read
