use Rattle.std.proofs.Common.{◌≡◌, Some, subst}
use Rattle.dccp_listener.specs.Calls.{seen_if}
use Rattle.dccp_listener.specs.Chain.{Calls, asked}
use Rattle.dccp_listener.specs.Runs.{Stepped}
use Rattle.dccp_server.specs.Serving.{Does, ServedListener, deed_served, served}
use Rattle.dccp_server.proofs.Going.{call_goes_on}
use Rattle.dccp_server.proofs.Tying.{place_after, tied_then}
use Rattle.dccp_server.proofs.timed_listener.TimedListener.ask.Goals as goal

pub arrange-requires : goal.arrange-requires
arrange-requires c =
    place_after (served c.self.inside.listener c.self.inside.pace c.self.inside.upkeeps) c.ask-answer.new.listener c.args.peer (Some (asked c.args.call))
    c.self.invariant c.ask-answer.ensures.0

-- what is kept goes on with the end
goes : (c : goal.After-arrange) → served c.ask-answer.new.listener c.self.inside.pace c.arrange.new.upkeeps
    ≡ deed_served c.args.now (served c.self.inside.listener c.self.inside.pace c.self.inside.upkeeps) c.args.peer (Calls (asked c.args.call))
goes c =
    call_goes_on c.args.now c.self.inside.listener c.self.inside.pace c.self.inside.upkeeps c.arrange.new.upkeeps c.args.peer c.ask-answer.new.listener
    (asked c.args.call) c.ask-answer.new.out (Stepped (seen_if c.ask-answer.result)) c.upkeep_at-upkeep.result c.called_so-happening.result
    c.ask-answer.ensures c.arrange.ensures c.upkeep_at-upkeep.ensures c.called_so-happening.ensures

pub returns-clause-after : goal.returns-clause-after
returns-clause-after c =
    subst
    (λ (x : ServedListener).
    served c.ask-answer.new.listener c.self.inside.pace c.arrange.new.upkeeps ≡ deed_served c.args.now x c.args.peer (Calls (asked c.args.call)))
    c.self.view_is (goes c)

pub invariant_of-self : goal.invariant_of-self
invariant_of-self c = tied_then c.args.now _ _ c.args.peer (Does (Calls (asked c.args.call))) (goes c) c.self.invariant
