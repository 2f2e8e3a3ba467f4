-- What is done one after another is computed as the listener's own definitions compute it.
use Rattle.std.proofs.Common.{◌≡◌, refl, sym, ap, ◌∙◌, subst, ℕ, List, [], ◌∷◌, ◌++◌, Option, Some, None}
use Rattle.std.specs.List.Sorted.{IsStrictlySortedBy}
use Rattle.dccp_listener.proofs.Computing.{computed_runs}
use Rattle.dccp_listener.specs.Listens.{AreInOrder, listening_through, turns_of}
use Rattle.dccp_listener.specs.Peers.{FlowEnd, ListenerState, end_of_peer}
use Rattle.dccp_listener.specs.Runs.{IsRunOfTurns}
use Rattle.dccp_listener.specs.Chain.{Deed, FlowCall}
use Rattle.dccp_listener.specs.declared.peer.Peer.{Peer}
use Rattle.dccp_server.specs.Serving.{CallsAreARun, Does, PeerDeed, Follows, ServedListener, Spends, TimedDeed, call_due, deed_if, deeds_by, deeds_through, listening_if, served_by, served_through, serving_begins, served_counted_by, upkeep_at}
use Rattle.dccp_uses.specs.declared.upkeep.Upkeep.{Upkeep}

pub spent_same : (now : ℕ) (s : ServedListener) (peer : Peer) (bytes : List ℕ) (u : Upkeep) (found : Option FlowEnd)
    → (served_counted_by now s peer bytes u found).listening ≡ s.listening
spent_same now s peer bytes u None = refl
spent_same now s peer bytes u (Some e) = refl

called-if : (l : ListenerState) (peer : Peer) (call : Option FlowCall) (rest : List (Peer × Deed))
    → listening_through (listening_if l peer call) rest ≡ listening_through l (deed_if peer call ++ rest)
called-if l peer None rest = refl
called-if l peer (Some call) rest = refl

done-so : (s : ServedListener) (it : TimedDeed) (doing : PeerDeed) (rest : List (Peer × Deed))
    → listening_through (served_by it.now s it.peer doing).listening rest ≡ listening_through s.listening (deeds_by s it doing ++ rest)
done-so s it (Does deed) rest = refl
done-so s it (Spends bytes) rest =
    ap (λ (l : ListenerState). listening_through l rest)
    (spent_same it.now s it.peer bytes (upkeep_at s.pace s.upkeeps it.peer) (end_of_peer s.listening.flows it.peer))
done-so s it Follows rest = called-if s.listening it.peer (call_due it.now s it.peer) rest

through : (s : ServedListener) (all : List TimedDeed) → (served_through s all).listening ≡ listening_through s.listening (deeds_through s all)
through s [] = refl
through s (it ∷ later) =
    through (served_by it.now s it.peer it.doing) later ∙ done-so s it it.doing (deeds_through (served_by it.now s it.peer it.doing) later)

pub none_in_order : AreInOrder []
unfolding IsStrictlySortedBy
none_in_order = tt

pub run_through : CallsAreARun
run_through config pace all =
    let begun : ServedListener = serving_begins config pace in
    subst (λ (after : ListenerState). IsRunOfTurns begun.listening after (turns_of begun.listening (deeds_through begun all))) (sym (through begun all))
    (computed_runs begun.listening (deeds_through begun all) none_in_order).0
