use Rattle.two_ends.proofs.facts.frames_say_one_thing_of_a_feature.Goals as goal

pub returns-clause-once : goal.returns-clause-once
returns-clause-once c = λ w facts side index frame pair there. (facts.spoken side index frame there).of_each_pair pair

pub returns-clause-vectors : goal.returns-clause-vectors
returns-clause-vectors c = λ w facts side index frame packet there read none. (facts.spoken side index frame there).vectors_acknowledge packet read none
