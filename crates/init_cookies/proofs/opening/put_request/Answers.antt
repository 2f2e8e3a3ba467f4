use Rattle.std.proofs.Common.{List, [], ℕ, ap, ◌∙◌}
use Rattle.dccp_packets.specs.Grammar.{spelling}
use Rattle.dccp_packets.specs.declared.header.Header.{Header}
use Rattle.dccp_sum.specs.Checksum.{sealed}
use Rattle.init_cookies.proofs.opening.put_request.Goals as goal

pub returns : goal.returns
returns c =
    c.seal_frame.ensures
    ∙ ap (sealed c.args.route.now.pseudo)
    (c.spell.ensures.spelled
    ∙ ap (λ (o : List ℕ). spelling c.request_header-header.result o []) c.options.ensures.value
    ∙ ap (λ (h : Header). spelling h c.args.opening.now.options []) c.request_header-header.ensures)
