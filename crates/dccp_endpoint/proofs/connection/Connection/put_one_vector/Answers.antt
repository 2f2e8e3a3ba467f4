use Rattle.std.proofs.Common.{◌≤◌, ◌∙◌, ◌++◌, ℕ, false, List, ap, arith, length, length-append, map, sym}
use Rattle.ack_vectors.specs.Vector.{option_data, set_states, vector_under}
use Rattle.ack_vectors.specs.declared.room.Vectors.{Vectors}
use Rattle.ack_vectors.specs.declared.room.Vectors.TheVariants.{One}
use Rattle.ack_vectors.proofs.Telling.{room-vector}
use Rattle.dccp_options.specs.Written.{spelled, written}
use Rattle.run_list.specs.MarkedSet.{MarkedSet, has}
use Rattle.dccp_endpoint.specs.End.{EndState}
use Rattle.dccp_endpoint.specs.Reporting.{vector_item}
use Rattle.dccp_endpoint.proofs.Writing.{vector_in_one}
use Rattle.dccp_endpoint.proofs.connection.Connection.put_one_vector.Goals as goal

pub returns-clause-bytes : goal.returns-clause-bytes
returns-clause-bytes c =
    let set : MarkedSet = c.args.self.now.received.set in
    let ack : ℕ = c.args.self.now.marks.gsr in
    let bytes : List ℕ = vector_under (has set.numbers) set.floor ack One in
    let fits : length bytes ≤ 253 = room-vector 253 (set_states (has set.numbers)) set.floor ack in
    let items : Vectors → List ℕ = λ vectors. written (map vector_item (option_data (vector_under (has set.numbers) set.floor ack vectors))) in
    c.append_option.ensures.bytes
    ∙ ap (λ (front : List ℕ). front ++ spelled false 38 (vector_under (has c.self.inside.received.set.numbers) c.self.inside.received.set.floor c.self.inside.marks.gsr One))
    c.vector_mut.ensures.value
    ∙ ap (λ (option : List ℕ). c.args.frame.now ++ option)
    (ap (λ (x : EndState). spelled false 38 (vector_under (has x.received.set.numbers) x.received.set.floor x.marks.gsr One)) c.self.view_is
    ∙ vector_in_one bytes fits ∙ ap items (sym c.requires.one))

pub returns-clause-short : goal.returns-clause-short
returns-clause-short c =
    let set : MarkedSet = c.self.inside.received.set in
    let bytes : List ℕ = vector_under (has set.numbers) set.floor c.self.inside.marks.gsr One in
    let fits : length bytes ≤ 253 = room-vector 253 (set_states (has set.numbers)) set.floor c.self.inside.marks.gsr in
    let long = length-append c.vector_mut.result.now.items (spelled false 38 bytes) in
    let all = ap length c.append_option.ensures.bytes in
    let front = ap length c.vector_mut.ensures.value in
    omega (arith, fits, long, all, front)
