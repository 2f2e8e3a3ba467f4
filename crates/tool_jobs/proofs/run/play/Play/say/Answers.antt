-- The lines that come before all events are judged as their calls say, and put no text.
use Rattle.std.proofs.Common.{rules, ◌≡◌}
use Rattle.schedule_text.specs.declared.line.Line.TheVariants as line
use Rattle.tool_jobs.proofs.run.play.Play.say.Goals as goal

pub returns-in-Version-clause-verdict : goal.returns-in-Version-clause-verdict
returns-in-Version-clause-verdict c =
    let is : c.args.said.now ≡ line.Version c.in-Version.number = search rules in
    rw is (c.say_version.ensures.verdict c.args.text.now.items)

pub returns-in-Plain-clause-verdict : goal.returns-in-Plain-clause-verdict
returns-in-Plain-clause-verdict c =
    let is : c.args.said.now ≡ line.Plain = search rules in
    rw is (c.say_plain.ensures.verdict c.args.text.now.items)

pub returns-in-Iss-clause-verdict : goal.returns-in-Iss-clause-verdict
returns-in-Iss-clause-verdict c =
    let is : c.args.said.now ≡ line.Iss c.in-Iss.side c.in-Iss.number = search rules in
    rw is (c.say_iss.ensures.verdict c.args.text.now.items)

pub returns-in-Set-clause-verdict : goal.returns-in-Set-clause-verdict
returns-in-Set-clause-verdict c =
    let is : c.args.said.now ≡ line.Set c.in-Set.side c.in-Set.place c.in-Set.feature c.numbers.result.now = search rules in
    rw is (c.say_set.ensures.verdict c.args.text.now.items)

pub returns-in-Offer-clause-verdict : goal.returns-in-Offer-clause-verdict
returns-in-Offer-clause-verdict c =
    let is : c.args.said.now ≡ line.Offer c.in-Offer.side c.in-Offer.place c.in-Offer.feature c.in-Offer.mandatory = search rules in
    rw is (c.say_offer.ensures.verdict c.args.text.now.items)
