use Rattle.std.proofs.Common.{◌≡◌, None}
use Rattle.data_dropped.specs.Drops.{last_code}
use Rattle.dccp_uses.proofs.drop_record.last_code.Given as goal

-- the code that the drops so far give, and the drops that are left
abbrev pub invariant-loop-drop : goal.invariant-loop-drop
invariant-loop-drop g l =
    let is_meant = g.D.DropMark.is_meant l.key l.number in
    last_code is_meant g.D.DropMark.code_kept l.found l.drop-iterator ≡ last_code is_meant g.D.DropMark.code_kept None l.drops.items
