use Rattle.dccp_packets.proofs.Shortened.{ack_found, formed, number_form, number_found}
use Rattle.dccp_packets.proofs.laws.numbers_in_a_form_are_read_in_full.Goals as goal

pub returns-clause-number : goal.returns-clause-number
returns-clause-number c = number_found

pub returns-clause-ack : goal.returns-clause-ack
returns-clause-ack c = ack_found

pub returns-clause-form : goal.returns-clause-form
returns-clause-form c = λ short k n long may. (number_form short n, formed short k long may)
