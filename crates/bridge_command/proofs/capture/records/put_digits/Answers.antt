-- The text was made longer by as many bytes as are put.
use Rattle.std.proofs.Common.{rules, ◌≡◌, ◌∙◌, ◌+◌, length}
use Rattle.bridge_command.proofs.RecordPutting.{put-after}
use Rattle.bridge_command.proofs.capture.records.put_digits.Goals as goal

pub returns : goal.returns
returns c =
    let held : c.args.text.now.len ≡ length c.args.text.now.items = search rules in
    let begin : c.len-begin.result ≡ length c.args.text.now.items = search rules in
    let now = c.deref_mut.ensures.value ∙ c.in_ok-resize.ensures.items in
    let size : c.resize.new.self.len ≡ c.len-begin.result + c.len.result = search rules in
    put-after c.args.text.now.items c.args.digits.now c.deref_mut.result.now c.put.new.room _ c.args.text.now.len c.len-begin.result c.len.result
    c.resize.new.self.len
    held begin c.len.ensures.value now c.put.ensures size
