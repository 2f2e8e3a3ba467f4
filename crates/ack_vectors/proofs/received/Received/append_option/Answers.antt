use Rattle.std.proofs.Common.{◌≡◌, ◌∙◌, ℕ, ◌+◌, List, [], ◌∷◌, ◌++◌, ap, take}
use Rattle.run_list.specs.MarkedSet.{has}
use Rattle.ack_vectors.specs.Vector.{all_bytes, set_states}
use Rattle.ack_vectors.proofs.Appended.{cut-option, with-length}
use Rattle.ack_vectors.proofs.received.Received.append_option.Goals as goal

pub returns-clause-bytes : goal.returns-clause-bytes
returns-clause-bytes g c =
    let old : List ℕ = c.args.out.now.items in
    let set = c.args.self.now.set in
    let all : List ℕ = all_bytes (set_states (has set.numbers)) set.floor c.args.ack in
    let is : c.append-whole.new.out.items ≡ old ++ 38 ∷ 0 ∷ take 253 all =
    c.append-whole.ensures.bytes
    ∙ ap (λ (front : List ℕ). take (c.len-begin.result + 255) (front ++ all))
    (c.push-2.ensures.items ∙ ap (λ (front : List ℕ). front ++ 0 ∷ []) c.push.ensures.items)
    ∙ ap (λ (n : ℕ). take (n + 255) (old ++ 38 ∷ [] ++ 0 ∷ [] ++ all)) c.len-begin.ensures.value
    ∙ cut-option old all in
    with-length old (take 253 all) c.append-whole.new.out.items c.deref_mut.result.now c.len-begin.result c.len.result is
    c.deref_mut.ensures.value c.len-begin.ensures.value c.len.ensures.value
