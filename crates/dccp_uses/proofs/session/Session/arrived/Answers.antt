use Rattle.std.proofs.Common.{sym, ap, ◌∙◌, subst, ◌≤◌, ℕ, List, length, arith}
use Rattle.data_dropped.specs.Intakes.{HasDataIfHeard}
use Rattle.dccp_endpoint.specs.Controlled.{End}
use Rattle.dccp_uses.specs.Holding.{HoldingState}
use Rattle.dccp_uses.specs.Sessions.{Does, holding_hears}
use Rattle.dccp_uses.proofs.Beside.{datagram_handed}
use Rattle.dccp_uses.proofs.Delivering.{heard_within, never_said_long, news_inside, told_as_data, told_as_long}
use Rattle.dccp_uses.proofs.session.Session.arrived.Goals as goal

pub settle_heard-arrival-requires : goal.settle_heard-arrival-requires
settle_heard-arrival-requires g c =
    subst (λ (bytes : List ℕ). HasDataIfHeard bytes c.receive-outcome.result) c.new-decoded.ensures
    (heard_within c.self.inside.timed.end.state c.new-decoded.result c.receive-outcome.result c.receive-outcome.ensures.cause)

pub returns-clause-too_long : goal.returns-clause-too_long
returns-clause-too_long g c = (
  λ is. absurd (never_said_long c.receive-outcome.result c.phase-was.result c.phase-is.result
      (sym c.news_if.ensures ∙ told_as_long c.settle_heard-arrival.result c.news_if.result (sym c.news_kept.ensures ∙ is))),
  λ long. absurd (omega (arith, long, c.if-datagram-gt-MOST_FRAME_BYTES.false)),
)

pub returns-clause-inside : goal.returns-clause-inside
returns-clause-inside g c = λ first past is.
    subst (λ (bytes : List ℕ). (first ≤ past) × (past ≤ length bytes)) c.new-decoded.ensures
    (news_inside c.self.inside.timed.end.state c.new-decoded.result c.receive-outcome.result c.phase-was.result c.phase-is.result first past
    c.receive-outcome.ensures.cause
    (sym c.news_if.ensures ∙ told_as_data c.settle_heard-arrival.result c.news_if.result first past (sym c.news_kept.ensures ∙ is)))

pub returns-clause-does : goal.returns-clause-does
returns-clause-does g c =
    let control = g.C.Congestion.control in
    let h : HoldingState _ = record { timed = c.self.inside.timed; inbox = c.self.inside.intake; cookie = c.self.inside.cookie } in
    subst
    (λ (x : HoldingState _). Does g.N.Network.sends (holding_hears control c.args.now x c.args.datagram.now)
    (record { timed = c.receive-outcome.new.self; inbox = c.settle_heard-arrival.new.intake; cookie = c.keep.new.self })
    c.args.network.now c.hand.new.network c.news_kept.result)
    c.self.view_is
    (datagram_handed g.N.Network.sends control c.args.now h c.args.datagram.now c.new-decoded.result c.receive-outcome.new.self c.receive-outcome.new.out
    c.receive-outcome.result c.settle_heard-arrival.new.intake c.settle_heard-arrival.result c.keep.new.self c.phase-was.result c.phase-is.result
    c.news_if.result c.news_kept.result c.args.network.now c.hand.new.network
    (omega (arith, c.if-datagram-gt-MOST_FRAME_BYTES.false)) c.new-decoded.ensures
    (c.phase-was.ensures ∙ ap (λ (e : End _). e.state.phase) c.end.ensures) (c.phase-is.ensures ∙ ap (λ (e : End _). e.state.phase) c.end-2.ensures)
    c.receive-outcome.ensures.step c.keep.ensures c.settle_heard-arrival.ensures c.hand.ensures.handed c.news_if.ensures c.news_kept.ensures)

pub returns-clause-unchanged : goal.returns-clause-unchanged
returns-clause-unchanged g c = λ long. absurd (omega (arith, long, c.if-datagram-gt-MOST_FRAME_BYTES.false))
