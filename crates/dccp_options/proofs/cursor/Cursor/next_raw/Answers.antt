use Rattle.dccp_options.proofs.RawOptions.{raw_options-cut}
use Rattle.dccp_options.proofs.cursor.Cursor.next_raw.Goals as goal

pub returns-in-Some-clause-first : goal.returns-in-Some-clause-first
returns-in-Some-clause-first c =
    raw_options-cut c.args.self.now.place c.in_ok-kind.kind.now c.args.self.now.rest.now c.in_ok-kind.following.now
    c.in-Some.body.now c.in-Some.rest.now c.in_ok-kind.ensures.cases.0 c.in-Some.ensures.0 c.in-Some.ensures.1 c.in-Some.ensures.2
