-- A refused file header.
use Rattle.std.proofs.Common.{rules}
use Rattle.capture_reader.proofs.Opening.{passed-ahead}
use Rattle.capture_reader.proofs.captures.Captures.new.Goals as goal

pub returns-in-Err-open : goal.returns-in-Err-open
returns-in-Err-open g c = record {
  never_falls = search rules;
  same_lender = search rules;
  past = passed-ahead 262144 c.open.new.ahead.pending (g.S.Source.left c.open.new.source) (g.S.Source.left c.args.source) (search rules) (search rules);
  cause = c.in-Err-open.ensures.read.1;
}
