use Rattle.ack_vectors.specs.Vector.{room_of}
use Rattle.ack_vectors.proofs.Telling.{heard-member}
use Rattle.ack_vectors.proofs.laws.only_members_are_heard.Goals as goal

pub returns : goal.returns
returns c = λ vectors. heard-member (room_of vectors)
