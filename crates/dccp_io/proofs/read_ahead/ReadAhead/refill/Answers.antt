-- What came follows what was pending.
use Rattle.std.proofs.Common.{rules, ◌≡◌, ◌≤◌, ◌+◌, ◌++◌, take, drop, length, ap, ◌∙◌, List, ℕ}
use Rattle.std.specs.Io.KnownBytes.{prepend_known}
use Rattle.std.specs.Vec.{with_items}
use Rattle.std.proofs.lemmas.List.{take_at}
use Rattle.dccp_io.proofs.Ahead.{ahead, pending-grows, length-came, same-ahead, no-longer}
use Rattle.dccp_io.proofs.read_ahead.ReadAhead.refill.Goals as goal

pub returns : goal.returns
returns g c =
    let from = c.make_room-from.result.0 in
    let to = c.make_room-from.result.1 in
    let count = c.in_ok-count.count in
    let block = c.read_after.new.block in
    let got = take count (drop to block) in
    let same : drop from (take to c.make_room-from.new.block.items) ≡ c.args.self.now.pending = search rules in
    let size : c.make_room-from.new.block.len ≡ c.args.self.now.size = search rules in
    let fits : to + count ≤ length block = search rules in
    let inside : to ≤ length c.make_room-from.new.block.items = search rules in
    let front : take to block ≡ take to c.make_room-from.new.block.items = search rules in
    let came : g.S.Source.left c.args.source.now ≡ prepend_known got (g.S.Source.left c.read_after.new.source) = search rules in
    let shown : (with_items c.make_room-from.new.block block).items ≡ block =
    take_at block (drop (length block) c.make_room-from.new.block.items) c.make_room-from.new.block.len (search rules) in
    let grown : drop from (take (to + count) (with_items c.make_room-from.new.block block).items) ≡ c.args.self.now.pending ++ got =
    ap (λ (xs : List ℕ). drop from (take (to + count) xs)) shown
    ∙ pending-grows c.make_room-from.new.block.items block from to count c.make_room-from.ensures.order inside front
    ∙ ap (λ (xs : List ℕ). xs ++ got) same in
    record {
      same_ahead = same-ahead c.args.self.now.pending (drop from (take (to + count) (with_items c.make_room-from.new.block block).items)) got
          (g.S.Source.left c.args.source.now) (g.S.Source.left c.read_after.new.source) grown came;
      same_size = size;
      never_falls = search rules;
      same_lender = search rules;
      read = (
        got,
        came,
        record {
          came = length-came block to count fits;
          following = ap (λ (xs : List ℕ). ahead xs c.make_room-from.new.block.len) grown ∙ ap (λ (n : ℕ). ahead (c.args.self.now.pending ++ got) n) size;
          fits = no-longer (block ++ drop (length block) c.make_room-from.new.block.items) from (to + count) c.make_room-from.new.block.len;
          end = search rules;
        },
      );
    }
