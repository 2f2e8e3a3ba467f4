use Rattle.dccp_endpoint.proofs.OneConfirm.{confirms_are_single, rows_hear_the_packet}
use Rattle.dccp_endpoint.proofs.laws.packets_say_one_thing_to_a_row.Goals as goal

pub returns-clause-heard : goal.returns-clause-heard
returns-clause-heard c = rows_hear_the_packet

pub returns-clause-single : goal.returns-clause-single
returns-clause-single c = confirms_are_single
