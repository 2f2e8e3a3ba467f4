use Rattle.dccp_packets.proofs.FaultLemmas.{short_fault, reserved_fault, small_fault, large_fault, form_fault}
use Rattle.dccp_packets.proofs.laws.the_first_fault_is_answered.Goals as goal

pub returns-clause-short : goal.returns-clause-short
returns-clause-short c = short_fault

pub returns-clause-reserved_type : goal.returns-clause-reserved_type
returns-clause-reserved_type c = reserved_fault

pub returns-clause-offset_small : goal.returns-clause-offset_small
returns-clause-offset_small c = small_fault

pub returns-clause-offset_large : goal.returns-clause-offset_large
returns-clause-offset_large c = large_fault

pub returns-clause-short_numbers : goal.returns-clause-short_numbers
returns-clause-short_numbers c = form_fault
