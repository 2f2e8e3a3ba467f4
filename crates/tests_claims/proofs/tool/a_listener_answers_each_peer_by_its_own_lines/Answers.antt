use Rattle.tests_claims.proofs.tool.a_listener_answers_each_peer_by_its_own_lines.Goals as goal

pub returns-clause-alone : goal.returns-clause-alone
returns-clause-alone c = λ most input peer.
    c.each_peer_is_answered_by_its_chain.ensures.chains most input peer

pub returns-clause-text : goal.returns-clause-text
returns-clause-text c = λ most input whole.
    c.each_peer_is_answered_by_its_chain.ensures.text most input whole

pub returns-clause-lines : goal.returns-clause-lines
returns-clause-lines c = λ most input whole.
    c.each_peer_is_answered_by_its_chain.ensures.lines most input whole

pub returns-clause-ordered : goal.returns-clause-ordered
returns-clause-ordered c = λ most input.
    c.each_peer_is_answered_by_its_chain.ensures.ordered most input

pub returns-clause-busy : goal.returns-clause-busy
returns-clause-busy c = λ l peer deed.
    c.each_peer_is_answered_by_its_chain.ensures.busy l peer deed
