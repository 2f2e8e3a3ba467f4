use Rattle.std.proofs.Common.{sym, subst}
use Rattle.tests_claims.proofs.Inboxed.{alone}
use Rattle.two_ends.specs.Safe.{Safe}
use Rattle.two_inboxes.specs.Inboxes.{of_ends}
use Rattle.tests_claims.proofs.inboxes.ends_with_inboxes_are_safe.Goals as goal

pub returns : goal.returns
returns g c = λ w r.
    subst (Safe g.C.Congestion.control) (sym (alone g.C.Congestion.control c.ends_with_inboxes_run_as_alone.ensures w r))
    (c.every_run_is_safe.ensures r.client r.server r.for_client r.for_server (of_ends r.events) r.is_client r.is_server r.client_fits r.server_fits)
