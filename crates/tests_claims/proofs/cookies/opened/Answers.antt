use Rattle.std.proofs.Common.{sym, ◌∙◌}
use Rattle.tests_claims.proofs.CookieRead.{good}
use Rattle.tests_claims.proofs.cookies.opened.Goals as goal

pub returns-clause-early : goal.returns-clause-early
returns-clause-early c = λ o is. (good c.args.keys.now c.args.now c.args.route.now c.args.bytes.now o (sym c.read.ensures ∙ is)).early

pub returns-clause-late : goal.returns-clause-late
returns-clause-late c = λ o is. (good c.args.keys.now c.args.now c.args.route.now c.args.bytes.now o (sym c.read.ensures ∙ is)).late

pub returns-clause-tagged : goal.returns-clause-tagged
returns-clause-tagged c = λ o is. (good c.args.keys.now c.args.now c.args.route.now c.args.bytes.now o (sym c.read.ensures ∙ is)).tagged

pub returns-clause-short : goal.returns-clause-short
returns-clause-short c = λ o is. (good c.args.keys.now c.args.now c.args.route.now c.args.bytes.now o (sym c.read.ensures ∙ is)).short

pub returns-clause-long : goal.returns-clause-long
returns-clause-long c = λ o is. (good c.args.keys.now c.args.now c.args.route.now c.args.bytes.now o (sym c.read.ensures ∙ is)).long
