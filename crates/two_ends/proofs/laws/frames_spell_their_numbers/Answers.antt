use Rattle.std.proofs.Common.{ap, Result}
use Rattle.std.specs.Prelude.{is_some}
use Rattle.std.specs.Result.{result_ok}
use Rattle.dccp_packets.specs.Grammar.{Parts}
use Rattle.dccp_packets.specs.declared.reading.Malformed.{Malformed}
use Rattle.two_ends.proofs.OfWorlds.Spelling.{ack-spelled, frame-spelled, number-spelled}
use Rattle.two_ends.proofs.laws.frames_spell_their_numbers.Goals as goal

pub returns-clause-packet : goal.returns-clause-packet
returns-clause-packet c = λ w facts side index frame there. ap (λ (r : Result Parts Malformed). is_some (result_ok r)) (frame-spelled w facts side index frame there).is_packet

pub returns-clause-number : goal.returns-clause-number
returns-clause-number c = λ w facts side index frame packet there read. number-spelled frame (frame-spelled w facts side index frame there) packet read

pub returns-clause-ack : goal.returns-clause-ack
returns-clause-ack c = λ w facts side index frame packet there read. ack-spelled frame (frame-spelled w facts side index frame there) packet read
