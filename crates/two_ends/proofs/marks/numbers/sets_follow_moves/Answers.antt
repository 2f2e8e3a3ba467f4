use Rattle.two_ends.proofs.OfMarks.MarkSets.{new_by_counts, counts_are_new, begun_are, begun_shut_are, joined_are, raised_are}
use Rattle.two_ends.proofs.marks.numbers.sets_follow_moves.Goals as goal

pub returns-clause-new : goal.returns-clause-new
returns-clause-new c = λ iss n set side are some early.
    (new_by_counts iss set side are n some early, counts_are_new iss set side are n some early)

pub returns-clause-begins : goal.returns-clause-begins
returns-clause-begins c = λ iss n side. begun_are iss side n

pub returns-clause-begins_shut : goal.returns-clause-begins_shut
returns-clause-begins_shut c = λ iss n side. begun_shut_are iss side n

pub returns-clause-joins : goal.returns-clause-joins
returns-clause-joins c = λ iss n set side are some early new. joined_are iss set side are n some early new

pub returns-clause-raises : goal.returns-clause-raises
returns-clause-raises c = λ iss n set side are some early. raised_are iss set side are n some early
