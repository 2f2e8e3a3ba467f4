use Rattle.dccp_packets.proofs.TableLemmas.{read_table, table_read}
use Rattle.dccp_packets.proofs.laws.what_is_read_is_the_table.Goals as goal

pub returns-clause-sound : goal.returns-clause-sound
returns-clause-sound c = read_table

pub returns-clause-complete : goal.returns-clause-complete
returns-clause-complete c = table_read
