use Rattle.std.proofs.Common.{◌≤◌, ◌∙◌, length, ap, sym, false, arith}
use Rattle.std.specs.List.{concat}
use Rattle.dccp_options.specs.Vectors.{vector_bytes}
use Rattle.dccp_options.specs.Left.{entries_left}
use Rattle.dccp_options.proofs.Sizes.{vector_bytes_fit}
use Rattle.dccp_options.proofs.joined.JoinedBytes.of.Goals as goal

pub returns : goal.returns
returns c =
    let options = c.args.options in
    let found = sym c.vectors.ensures.vectors ∙ c.in_ok-vector.ensures.0 in
    let joined = ap concat (sym found) in
    let fits : length (vector_bytes (entries_left false options)) ≤ length options.rest.now =
    vector_bytes_fit false options.on_data options.place options.rest.now in
    (λ none. cc, joined, omega (arith, fits, options.fits, ap length joined))
