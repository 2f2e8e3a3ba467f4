use Rattle.std.proofs.Common.{◌≡◌, subst}
use Rattle.dccp_listener.specs.Peers.{end_of_peer}
use Rattle.dccp_server.specs.Serving.{Follows, ServedListener, call_due, frame_if, rule_followed, served}
use Rattle.dccp_server.specs.Upkeeps.{call_for_rule}
use Rattle.dccp_server.proofs.Going.{rule_goes_on, rule_sends}
use Rattle.dccp_server.proofs.Tying.{place_after, tied_then}
use Rattle.dccp_server.proofs.timed_listener.TimedListener.follow.Goals as goal

pub arrange-requires : goal.arrange-requires
arrange-requires c =
    place_after (served c.self.inside.listener c.self.inside.pace c.self.inside.upkeeps) c.obey_at.new.listener c.args.peer
    (call_for_rule c.due_rule-rule.result c.upkeep_at-upkeep.result.path.aim (end_of_peer c.self.inside.listener.flows c.args.peer))
    c.self.invariant c.obey_at.ensures.after

-- what is kept goes on with the end
goes : (c : goal.After-arrange) → served c.obey_at.new.listener c.self.inside.pace c.arrange.new.upkeeps
    ≡ rule_followed c.args.now (served c.self.inside.listener c.self.inside.pace c.self.inside.upkeeps) c.args.peer
goes c =
    rule_goes_on c.args.now c.self.inside.listener c.self.inside.pace c.self.inside.upkeeps c.arrange.new.upkeeps c.args.peer c.obey_at.new.listener
    c.upkeep_at-upkeep.result c.due_rule-rule.result c.obey_at.ensures.after c.arrange.ensures c.upkeep_at-upkeep.ensures c.due_rule-rule.ensures

pub returns-clause-after : goal.returns-clause-after
returns-clause-after c =
    subst
    (λ (x : ServedListener). served c.obey_at.new.listener c.self.inside.pace c.arrange.new.upkeeps ≡ rule_followed c.args.now x c.args.peer)
    c.self.view_is (goes c)

pub returns-clause-sent : goal.returns-clause-sent
returns-clause-sent c =
    subst (λ (x : ServedListener). c.obey_at.new.out ≡ frame_if x.listening c.args.peer (call_due c.args.now x c.args.peer)) c.self.view_is
    (rule_sends c.args.now c.self.inside.listener c.self.inside.pace c.self.inside.upkeeps c.arrange.new.upkeeps c.args.peer c.obey_at.new.out c.upkeep_at-upkeep.result
    c.due_rule-rule.result c.obey_at.ensures.sent c.upkeep_at-upkeep.ensures c.due_rule-rule.ensures)

pub invariant_of-self : goal.invariant_of-self
invariant_of-self c = tied_then c.args.now _ _ c.args.peer Follows (goes c) c.self.invariant
