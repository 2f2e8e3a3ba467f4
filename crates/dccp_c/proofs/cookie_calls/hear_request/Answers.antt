use Rattle.std.proofs.Common.{ap, ◌∙◌, sym, subst, inr, Bool, false, List, ℕ, if◌then◌else◌}
use Rattle.dccp_options.specs.Kinds.{init_cookie}
use Rattle.dccp_options.specs.Written.{spelled}
use Rattle.dccp_sum.specs.Checksum.{reversed}
use Rattle.dccp_uses.specs.declared.holding.Reading.{Reading}
use Rattle.init_cookies.specs.Appending.{appended}
use Rattle.init_cookies.specs.Cookies.{cookie_bytes}
use Rattle.dccp_c.specs.CookieCalls.{GreetsBy}
use Rattle.dccp_c.specs.Doing.{c_end}
use Rattle.dccp_c.specs.Framing.{handed_in, handed_of}
use Rattle.dccp_c.specs.Stepping.{CStep, c_receives}
use Rattle.dccp_c.proofs.cookie_calls.hear_request.Goals as goal

pub returns-then-is_heard_so : goal.returns-then-is_heard_so
returns-then-is_heard_so c =
    let keys = c.args.keys.now in
    let route = c.args.route.now in
    let opening = c.args.opening.now in
    let out = c.receive-reading.new.held.out in
    let heard = sym c.if-is_heard_so.true ∙ c.is_heard_so.ensures in
    subst (λ (s : CStep Reading). GreetsBy keys route opening s (handed_in c.fill.new.self) 0)
    (c.receive-reading.ensures.step
    ∙ ap (λ (bytes : List ℕ). c_receives bytes c.args.now (c_end c.args.held.now)) (c.bytes.ensures.value ∙ c.put_request.ensures))
    (inr (
      c.fill.ensures
          ∙ ap handed_of
          (c.append_cookie.ensures
          ∙ ap (λ (b : Bool). if b then appended (reversed route.pseudo) (spelled false init_cookie (cookie_bytes keys route opening)) out else out) heard),
      ap (λ (b : Bool). if b then 0 else 13) heard,
    ))

pub returns : goal.returns
returns c =
    let keys = c.args.keys.now in
    let route = c.args.route.now in
    let opening = c.args.opening.now in
    let out = c.receive-reading.new.held.out in
    let heard = sym c.if-is_heard_so.false ∙ c.is_heard_so.ensures in
    subst (λ (s : CStep Reading). GreetsBy keys route opening s (handed_in c.fill-2.new.self) 13)
    (c.receive-reading.ensures.step
    ∙ ap (λ (bytes : List ℕ). c_receives bytes c.args.now (c_end c.args.held.now)) (c.bytes.ensures.value ∙ c.put_request.ensures))
    (inr (
      c.fill-2.ensures
          ∙ ap handed_of
          (ap (λ (b : Bool). if b then appended (reversed route.pseudo) (spelled false init_cookie (cookie_bytes keys route opening)) out else out) heard),
      ap (λ (b : Bool). if b then 0 else 13) heard,
    ))
