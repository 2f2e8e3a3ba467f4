use Rattle.std.proofs.Common.{rules, append_assoc, ◌≡◌}
use Rattle.tool_jobs.proofs.replay.buffered.put_dropped.Goals as goal

pub returns : goal.returns
returns c =
    let same : c.from.result ≡ c.args.code = search rules in
    search (rules, append_assoc, same, c.in_ok-put.ensures.ok, c.in_ok-put_counted.ensures.ok, c.in_ok-put_number.ensures.ok)
