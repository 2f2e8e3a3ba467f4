use Rattle.std.proofs.Common.{ap, ◌∙◌, List, ℕ}
use Rattle.init_cookies.specs.Appending.{appended}
use Rattle.dccp_sum.specs.Checksum.{reversed}
use Rattle.server_peers.proofs.cookie_use.append_cookie.Goals as goal

pub returns : goal.returns
returns c =
    c.append_option.ensures
    ∙ ap (λ (more : List ℕ). appended (reversed c.args.route.now.pseudo) more c.args.out.now) c.put_option.ensures.value
