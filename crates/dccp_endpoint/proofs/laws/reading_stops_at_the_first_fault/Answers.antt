use Rattle.dccp_endpoint.proofs.FirstFaults.{goes_through, stops_at_the_first_fault}
use Rattle.dccp_endpoint.proofs.laws.reading_stops_at_the_first_fault.Goals as goal

pub returns-clause-stops : goal.returns-clause-stops
returns-clause-stops c = stops_at_the_first_fault

pub returns-clause-goes_through : goal.returns-clause-goes_through
returns-clause-goes_through c = goes_through
