use Rattle.std.proofs.Common.{◌≡◌, ap, ◌∙◌}
use Rattle.dccp_server.specs.Meeting.{going_by, hurrying}
use Rattle.server_peers.specs.CookieUses.{hurried}
use Rattle.dccp_server.specs.Rooms.{RuledRoom}
use Rattle.server_peers.specs.declared.rules.Rules.{Rules}
use Rattle.dccp_server.proofs.Reopening.{hurried_maker, hurried_open, hurried_shut}
use Rattle.dccp_server.proofs.server.Server.arrive_hurrying.Goals as goal

rules-are : (c : goal.After-set_rules-2) → c.self.inside.rules ≡ c.args.self.now.rules
rules-are c = ap (λ (x : RuledRoom). x.rules) c.self.view_is

mid-is : (c : goal.After-set_rules-2) → c.set_rules.new.self ≡ hurrying c.args.self.now
mid-is c = c.set_rules.ensures ∙ ap (λ (r : Rules). going_by r c.args.self.now) (c.hurried.ensures ∙ ap hurried (rules-are c))

last-is : (c : goal.After-set_rules-2) → c.set_rules-2.new.self ≡ going_by c.args.self.now.rules c.arrive-arrival.new.self
last-is c = c.set_rules-2.ensures ∙ ap (λ (r : Rules). going_by r c.arrive-arrival.new.self) (rules-are c)

pub returns-clause-opened : goal.returns-clause-opened
returns-clause-opened c =
    hurried_open c.args.now c.args.self.now c.set_rules.new.self c.arrive-arrival.new.self c.set_rules-2.new.self c.args.peer c.args.iss c.args.datagram.now
    c.arrive-arrival.new.out c.arrive-arrival.result.evicted c.arrive-arrival.result.anew (mid-is c) (last-is c) c.arrive-arrival.result.heard
    c.arrive-arrival.ensures

pub returns-clause-evicted : goal.returns-clause-evicted
returns-clause-evicted c =
    hurried_maker c.args.now c.args.self.now c.set_rules.new.self c.arrive-arrival.new.self c.set_rules-2.new.self c.args.peer c.args.iss c.args.datagram.now
    c.arrive-arrival.new.out c.arrive-arrival.result.evicted c.arrive-arrival.result.anew (mid-is c) (last-is c) c.arrive-arrival.result.heard
    c.arrive-arrival.ensures

pub returns-clause-unopened : goal.returns-clause-unopened
returns-clause-unopened c =
    hurried_shut c.args.now c.args.self.now c.set_rules.new.self c.arrive-arrival.new.self c.set_rules-2.new.self c.args.peer c.args.iss c.args.datagram.now
    c.arrive-arrival.new.out c.arrive-arrival.result.evicted c.arrive-arrival.result.anew (mid-is c) (last-is c) c.arrive-arrival.result.heard
    c.arrive-arrival.ensures
