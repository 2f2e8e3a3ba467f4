-- What is known of a number that may be that of a packet.
use Rattle.std.proofs.Common.{ℕ, ◌^◌, ◌<◌, Option, Some}
use Rattle.ccid_two.specs.Kinds.{Both, kinds_control}
use Rattle.congestion_trait.specs.Flight.{Has}
use Rattle.dccp_endpoint.specs.Controlled.{End}
use Rattle.dccp_c.specs.Fates.{IsFate, StandSo}

pub fate-bounded : (e : End Both) (number : ℕ) (code : Option ℕ) (fate : ℕ) → number < 2 ^ 48
    → IsFate (λ standing. Has (kinds_control.flight e.congestion) number standing) code fate → IsFate (StandSo (Some e) number) code fate
fate-bounded e number code fate low is = record {
  delivered = (λ so. let h = is.delivered.0 so in ((low, h.0), h.1), λ has. is.delivered.1 (has.0.1, has.1));
  dropped = λ c. (λ so. let h = (is.dropped c).0 so in ((low, h.0), h.1), λ has. (is.dropped c).1 (has.0.1, has.1));
  lost = (λ so. let h = is.lost.0 so in ((low, h.0), λ has. h.1 has.1), λ has. is.lost.1 (has.0.1, λ h. has.1 (low, h)));
  in_flight = (
    λ so. let h = is.in_flight.0 so in ((low, h.0), λ has. h.1 has.1, λ has. h.2 has.1),
    λ has. is.in_flight.1 (has.0.1, λ h. has.1 (low, h), λ h. has.2 (low, h)),
  );
}
