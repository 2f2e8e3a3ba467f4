use Rattle.std.proofs.Common.{◌≡◌, true, Some, subst, rules}
use Rattle.dccp_uses.specs.Timed.{TimedState, timed_takes}
use Rattle.dccp_uses.proofs.Told.{taken_as}
use Rattle.dccp_uses.proofs.timed_end.TimedEnd.receive.Goals as goal

pub returns-clause-step : goal.returns-clause-step
returns-clause-step g c =
    let control = g.C.Congestion.control in
    let now = c.args.now in
    let s : TimedState _ = record { end = c.self.inside.end; upkeep = c.self.inside.upkeep } in
    let heard : c.admit-heard.result ≡ true = search rules in
    subst
    (λ (x : TimedState _). record { timed = c.hear.new.self; frame = c.hear.new.out; answer = Some c.hear.result } ≡ timed_takes control now x c.args.datagram.now)
    c.self.view_is
    (taken_as control now s c.hear.new.self c.args.datagram.now c.hear.new.out c.hear.result c.admit-heard.result
    c.admit-heard.new.path c.admit-heard.ensures.heard c.admit-heard.ensures.path heard c.hear.ensures.step)
