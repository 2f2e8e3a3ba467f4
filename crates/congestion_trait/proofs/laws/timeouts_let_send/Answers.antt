use Rattle.congestion_trait.proofs.Keeping.{sends-after-timeout}
use Rattle.congestion_trait.proofs.laws.timeouts_let_send.Goals as goal

pub returns : goal.returns
returns g c = λ state. sends-after-timeout g.C.Congestion.control g.met.C.Congestion.lawful state
