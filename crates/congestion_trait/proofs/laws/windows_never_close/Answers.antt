use Rattle.congestion_trait.proofs.Keeping.{open_run}
use Rattle.congestion_trait.proofs.laws.windows_never_close.Goals as goal

pub returns : goal.returns
returns g c =
    let control = g.C.Congestion.control in
    let keeps = g.met.C.Congestion.lawful.keeps_window in
    record {
      starts = λ state ccid calls. open_run control keeps (control.started state ccid) calls (keeps.start_opens state ccid);
      timeouts = λ state calls. open_run control keeps (control.timed_out state) calls (keeps.timeout_opens state);
    }
