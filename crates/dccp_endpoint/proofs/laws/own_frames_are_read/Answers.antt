use Rattle.dccp_endpoint.proofs.OwnFrames.{own_frames_read, own_frames_read_in_widths}
use Rattle.dccp_endpoint.proofs.laws.own_frames_are_read.Goals as goal

pub returns-clause-whole : goal.returns-clause-whole
returns-clause-whole c = own_frames_read

pub returns-clause-in_widths : goal.returns-clause-in_widths
returns-clause-in_widths c = own_frames_read_in_widths
