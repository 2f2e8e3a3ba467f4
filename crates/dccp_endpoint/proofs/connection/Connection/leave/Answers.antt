use Rattle.std.proofs.Common.{rules}
use Rattle.dccp_endpoint.proofs.connection.Connection.leave.Goals as goal

pub returns-in-Sync : goal.returns-in-Sync
returns-in-Sync c = search rules
