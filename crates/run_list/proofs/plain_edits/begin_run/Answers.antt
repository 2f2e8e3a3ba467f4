use Rattle.std.proofs.Common.{◌≡◌, ◌<◌, ◌∙◌, true, length, arith, rules, IsOk, is_ok}
use Rattle.run_list.proofs.Laid.{begins_at, room_for_one}
use Rattle.run_list.proofs.plain_edits.begin_run.Goals as goal

pub returns-clause-adds : goal.returns-clause-adds
returns-clause-adds c =
    let adds = begins_at c.args.floor 2048 c.args.n c.args.at c.args.runs.now.items (search rules)
    (search rules) c.requires.laid c.requires.above c.requires.below in
    let room : length c.args.runs.now.items < 1024 = room_for_one c.args.floor c.args.n c.args.at c.args.runs.now.items adds in
    let done : IsOk c.insert.result = c.insert.ensures.succeeds (omega arith) in
    let test : is_ok c.insert.result ≡ true = search rules in
    let items = c.insert.ensures.items in
    rw (items, test) adds

pub returns-clause-room : goal.returns-clause-room
returns-clause-room c =
    let adds = begins_at c.args.floor 2048 c.args.n c.args.at c.args.runs.now.items (search rules)
    (search rules) c.requires.laid c.requires.above c.requires.below in
    let room : length c.args.runs.now.items < 1024 = room_for_one c.args.floor c.args.n c.args.at c.args.runs.now.items adds in
    let same = c.insert.ensures.in_place (omega arith) in
    same.1.0 ∙ c.requires.room
