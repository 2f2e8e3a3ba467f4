use Rattle.std.proofs.Common.{ap, ◌∙◌}
use Rattle.dccp_endpoint.specs.Receiving.{receives}
use Rattle.two_inboxes.specs.Alike.{without_place}
use Rattle.tests_claims.proofs.Inboxed.{delivered-so, dropped-so, quiet-so}
use Rattle.tests_claims.proofs.inboxes.longer_frames_are_taken_as_shorter_ones.Goals as goal

pub returns-clause-alike : goal.returns-clause-alike
returns-clause-alike c = λ e held own frame tells. (c.longer_frames_are_taken_alike.ensures e held own frame tells).same_end

pub returns-clause-answered : goal.returns-clause-answered
returns-clause-answered c = λ e held own frame tells. (c.longer_frames_are_taken_alike.ensures e held own frame tells).same_frame

pub returns-clause-dropped : goal.returns-clause-dropped
returns-clause-dropped c = λ e held own frame why tells is.
    dropped-so (receives e frame.bytes).answer why ((c.longer_frames_are_taken_alike.ensures e held own frame tells).same_outcome ∙ ap without_place is)

pub returns-clause-quiet : goal.returns-clause-quiet
returns-clause-quiet c = λ e held own frame tells is.
    quiet-so (receives e frame.bytes).answer ((c.longer_frames_are_taken_alike.ensures e held own frame tells).same_outcome ∙ ap without_place is)

pub returns-clause-delivered : goal.returns-clause-delivered
returns-clause-delivered c = λ e held own frame place tells is.
    delivered-so (receives e frame.bytes).answer ((c.longer_frames_are_taken_alike.ensures e held own frame tells).same_outcome ∙ ap without_place is)
