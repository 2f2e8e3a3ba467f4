-- Who is at the place has an end, and the flow there is that peer's.
use Rattle.std.proofs.Common.{◌≡◌, ◌++◌, sym, ap, ◌∙◌, subst, ℕ, List}
use Rattle.std.specs.Prelude.{OnOk}
use Rattle.tool_jobs.specs.Telling.{flow_line_if, peer_in_phase}
use Rattle.tool_jobs.proofs.AtPlaces.{always_there, flow_there}
use Rattle.tool_jobs.proofs.listen.flow_lines.put_flow_at.Goals as goal

pub returns-in_default-flow : goal.returns-in_default-flow
returns-in_default-flow c =
    absurd (always_there c.args.listener.now.flows c.args.place c.in-Some.peer c.in-Some.ensures.ordered (sym c.in-Some.ensures.value)
    c.in_default-flow.ensures.value)

pub returns : goal.returns
returns c =
    let found = flow_there c.args.listener.now.flows c.args.place c.in-Some.peer c.in-Some-flow.end.now c.in-Some.ensures.ordered
    (sym c.in-Some.ensures.value) c.in-Some-flow.ensures.value in
    subst (λ (line : List ℕ). OnOk c.put_flow.result (c.put_flow.new.text.items ≡ c.args.text.now.items ++ line))
    (ap (peer_in_phase c.in-Some.peer) c.phase.ensures ∙ sym (ap flow_line_if found)) c.put_flow.ensures
