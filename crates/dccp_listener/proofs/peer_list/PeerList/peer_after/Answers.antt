use Rattle.std.proofs.Common.{ap, arith, slice_get, suc, sym, ◌∙◌, ℕ}
use Rattle.std.specs.Map.{keys_of}
use Rattle.dccp_listener.proofs.Searching.{after_between, after_there, between}
use Rattle.dccp_listener.proofs.peer_list.PeerList.peer_after.Goals as goal

pub returns-in-Ok : goal.returns-in-Ok
returns-in-Ok g c =
    c.peer.ensures.value
    ∙ ap (λ (i : ℕ). slice_get (keys_of c.args.self.now) i) {y = suc c.in-Ok.place} (omega arith)
    ∙ sym (after_there c.args.peer c.args.self.now c.in-Ok.place c.peer.ensures.ordered c.in-Ok.ensures.bound c.in-Ok.ensures.position)

pub returns-in-Err : goal.returns-in-Err
returns-in-Err g c =
    c.peer-in-Err.ensures.value
    ∙ sym
    (after_between c.args.peer c.args.self.now c.in-Err.place c.in-Err.ensures.bound
    (between c.args.peer c.args.self.now c.in-Err.place c.peer-in-Err.ensures.ordered c.in-Err.ensures.position))
