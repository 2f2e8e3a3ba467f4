use Rattle.std.proofs.Common.{ap, ◌∙◌, subst}
use Rattle.init_cookies.specs.Openings.{request_bytes}
use Rattle.dccp_c.specs.CookieCalls.{GreetsBy}
use Rattle.dccp_c.specs.Doing.{c_end}
use Rattle.dccp_c.specs.Framing.{handed_in}
use Rattle.dccp_c.specs.Stepping.{CEnd, c_receives}
use Rattle.dccp_c.proofs.cookie_calls.greet.Goals as goal

pub returns : goal.returns
returns c =
    subst
    (λ (e : CEnd). GreetsBy c.args.keys.now c.args.route.now c.args.opening.now
    (c_receives (request_bytes c.args.route.now c.args.opening.now) c.args.now e) (handed_in c.hear_request.new.frame) c.hear_request.result)
    (ap c_end c.deref_mut.ensures.value ∙ c.in-Ok.ensures.end) c.hear_request.ensures
