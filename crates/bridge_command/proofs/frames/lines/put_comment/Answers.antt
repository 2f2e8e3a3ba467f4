-- A comment follows the text that was there.
use Rattle.std.proofs.Common.{◌≡◌, ◌∙◌, ap, subst, arith, ℕ, List, ◌++◌, length, vec_len, OnOk}
use Rattle.capture_reader.specs.Records.{entry_of}
use Rattle.packet_show.specs.Network.{carried_by}
use Rattle.packet_show.specs.Lines.{packet_line, parts_by}
use Rattle.bridge_command.proofs.Commenting.{comment_put}
use Rattle.bridge_command.proofs.frames.lines.put_comment.Goals as goal

pub returns : goal.returns
returns c =
    let old : List ℕ = c.args.text.now.items in
    let line : List ℕ = packet_line (entry_of c.args.item.now) (carried_by c.args.there.now) (parts_by c.args.packet.now) c.args.flow in
    let size : vec_len c.args.text.now ≡ length old = omega arith in
    subst (λ (text : List ℕ). OnOk c.cut_comment.result (c.cut_comment.new.text.items ≡ text))
    (comment_put old line c.put_packet.new.text.items c.len-start.result (c.len-start.ensures ∙ size)
    (c.in_ok-put_packet.ensures.ok ∙ ap (λ (text : List ℕ). text ++ line) c.in_ok-put.ensures.ok))
    c.cut_comment.ensures
