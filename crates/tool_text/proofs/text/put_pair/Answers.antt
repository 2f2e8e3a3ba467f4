use Rattle.std.proofs.Common.{rules, arith, ◌≤◌, ◌<◌}
use Rattle.tool_text.proofs.Decimals.{digit_after}
use Rattle.tool_text.proofs.text.put_pair.Goals as goal

pub returns-clause-ok : goal.returns-clause-ok
returns-clause-ok c =
    let many : 10 ≤ c.args.number = omega (arith, c.if-number-lt10.false) in
    let small : c.args.number < 256 = search rules in
    digit_after c.args.text.now.items c.put_digit-2.new.text.items c.push.new.self.items c.args.number many small c.in_ok-put_digit.ensures.ok
    c.in_ok-push.ensures.items
