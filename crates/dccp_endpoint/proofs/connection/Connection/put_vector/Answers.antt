use Rattle.std.proofs.Common.{rules}
use Rattle.dccp_endpoint.proofs.connection.Connection.put_vector.Goals as goal

pub returns-clause-bytes : goal.returns-clause-bytes
returns-clause-bytes c = search rules
