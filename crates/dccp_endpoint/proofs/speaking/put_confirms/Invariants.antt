use Rattle.std.proofs.Common.{◌≡◌, ◌+◌, ◌++◌, drop, length}
use Rattle.dccp_options.specs.Written.{written}
use Rattle.dccp_endpoint.specs.Speaking.{confirm_items}
use Rattle.dccp_endpoint.proofs.speaking.put_confirms.Given as goal

abbrev pub invariant-loop-confirm : goal.invariant-loop-confirm
invariant-loop-confirm l = record {
  room : length l.frame + length (written (confirm_items (drop l.confirm-index l.confirms))) ≡ length l.initial.frame + length
      (written (confirm_items l.confirms));
  joins : l.frame ++ written (confirm_items (drop l.confirm-index l.confirms)) ≡ l.initial.frame ++ written (confirm_items l.confirms);
}
