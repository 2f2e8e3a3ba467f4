use Rattle.tests_claims.proofs.tables.ccid_two_has_one_to_1024_packets_in_flight.Goals as goal

pub returns : goal.returns
returns c = λ calls.
    (c.window_stays_in_range.ensures.low calls, c.window_stays_in_range.ensures.high calls)
