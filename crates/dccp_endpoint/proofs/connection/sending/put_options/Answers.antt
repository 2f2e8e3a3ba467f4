use Rattle.std.proofs.Common.{◌≤◌, ◌<◌, ◌∙◌, ◌++◌, ℕ, List, ap, arith, length}
use Rattle.dccp_endpoint.proofs.Writing.{vector_in_one, vector_in_two}
use Rattle.dccp_endpoint.proofs.connection.sending.put_options.Goals as goal

pub returns-then-bytes-le-MOST_OPTION_BYTES-clause-bytes : goal.returns-then-bytes-le-MOST_OPTION_BYTES-clause-bytes
returns-then-bytes-le-MOST_OPTION_BYTES-clause-bytes c =
    let fits : length c.args.bytes.now ≤ 253 = omega (arith, c.if-bytes-le-MOST_OPTION_BYTES.true) in
    c.put_option.ensures.bytes ∙ ap (λ (vector : List ℕ). c.args.frame.now ++ vector) (vector_in_one c.args.bytes.now fits)

pub returns-else-bytes-le-MOST_OPTION_BYTES-clause-bytes : goal.returns-else-bytes-le-MOST_OPTION_BYTES-clause-bytes
returns-else-bytes-le-MOST_OPTION_BYTES-clause-bytes c =
    let long : 253 < length c.args.bytes.now = omega (arith, c.if-bytes-le-MOST_OPTION_BYTES.false) in
    c.put_two.ensures.bytes ∙ ap (λ (vector : List ℕ). c.args.frame.now ++ vector) (vector_in_two c.args.bytes.now long)
