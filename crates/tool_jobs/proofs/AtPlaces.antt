-- The flow at a place is that of the peer who is there.
use Rattle.std.proofs.Common.{◌≡◌, refl, sym, ap, ◌∙◌, ℕ, zero, suc, ◌+◌, List, [], ◌∷◌, ◌++◌, drop, append_assoc, Option, Some, None, arith}
use Rattle.std.specs.Prelude.{flat_map, option_map, slice_get}
use Rattle.std.specs.Map.{keys_of}
use Rattle.dccp_listener.specs.Listens.{AreInOrder}
use Rattle.dccp_listener.specs.Peers.{FlowEnd, Flows, end_of_peer}
use Rattle.dccp_listener.specs.declared.peer.Peer.{Peer}
use Rattle.dccp_listener.proofs.Places.{found_at_places}
use Rattle.tool_jobs.specs.Telling.{flow_line, flow_line_if}

keys-at : (flows : Flows) (place : ℕ) → slice_get (keys_of flows) place ≡ option_map (λ (flow : Peer × FlowEnd). flow.0) (slice_get flows place)
keys-at [] zero = refl
keys-at [] (suc place) = refl
keys-at (flow ∷ flows) zero = refl
keys-at (flow ∷ flows) (suc place) = keys-at flows place

flow-by : (flows : Flows) (place : ℕ) (peer : Peer) (e : Option FlowEnd) (found : Option (Peer × FlowEnd)) → AreInOrder flows → slice_get flows place ≡ found
    → option_map (λ (flow : Peer × FlowEnd). flow.0) found ≡ Some peer → end_of_peer flows peer ≡ e → (e ≡ None → ⊥)
    × ((end : FlowEnd) → e ≡ Some end → found ≡ Some (peer, end))
flow-by flows place peer e None ordered there key has = cc key
flow-by flows place peer e (Some flow) ordered there key has =
    let same : flow.0 ≡ peer = cc key in
    let own : end_of_peer flows flow.0 ≡ Some flow.1 = found_at_places flows ordered place flow.0 flow.1 there in
    let here : Some flow.1 ≡ e = sym own ∙ ap (end_of_peer flows) same ∙ has in (
      λ none. cc (here ∙ none),
      λ end some. let equal : flow.1 ≡ end = cc (here ∙ some) in
          ap (λ (p : Peer). Some (p, flow.1)) same ∙ ap (λ (x : FlowEnd). Some (peer, x)) equal,
    )

-- a peer is there, and has an end
pub flow_there : (flows : Flows) (place : ℕ) (peer : Peer) (end : FlowEnd) → AreInOrder flows → slice_get (keys_of flows) place ≡ Some peer
    → end_of_peer flows peer ≡ Some end → slice_get flows place ≡ Some (peer, end)
flow_there flows place peer end ordered key has =
    (flow-by flows place peer (Some end) (slice_get flows place) ordered refl (sym (keys-at flows place) ∙ key) has).1 end refl

-- who is there has an end
pub always_there : (flows : Flows) (place : ℕ) (peer : Peer) → AreInOrder flows → slice_get (keys_of flows) place ≡ Some peer → end_of_peer flows peer ≡ None
    → ⊥
always_there flows place peer ordered key has =
    (flow-by flows place peer None (slice_get flows place) ordered refl (sym (keys-at flows place) ∙ key) has).0 refl

nothing-left : (place : ℕ) → flat_map flow_line (drop place []) ≡ []
nothing-left zero = refl
nothing-left (suc place) = refl

-- one place further
pub flow_further : (flows : Flows) (place : ℕ)
    → flat_map flow_line (drop place flows) ≡ flow_line_if (slice_get flows place) ++ flat_map flow_line (drop (place + 1) flows)
flow_further [] zero = refl
flow_further [] (suc place) = sym (nothing-left (suc place + 1))
flow_further (flow ∷ flows) zero = refl
flow_further (flow ∷ flows) (suc place) =
    let more : suc (place + 1) ≡ suc place + 1 = omega arith in
    flow_further flows place
    ∙ ap (λ (n : ℕ). flow_line_if (slice_get flows place) ++ flat_map flow_line (drop n (flow ∷ flows))) more

pub flow_put : (flows : Flows) (place : ℕ) (before after whole : List ℕ) → after ≡ before ++ flow_line_if (slice_get flows place)
    → before ++ flat_map flow_line (drop place flows) ≡ whole → after ++ flat_map flow_line (drop (place + 1) flows) ≡ whole
flow_put flows place before after whole put same =
    ap (λ (front : List ℕ). front ++ flat_map flow_line (drop (place + 1) flows)) put
    ∙ append_assoc before (flow_line_if (slice_get flows place)) (flat_map flow_line (drop (place + 1) flows))
    ∙ ap (λ (following : List ℕ). before ++ following) (sym (flow_further flows place))
    ∙ same
