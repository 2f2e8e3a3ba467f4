use Rattle.std.proofs.Common.{ap, ◌∙◌, subst, ℕ, Result, Ok}
use Rattle.dccp_endpoint.specs.declared.config.Config.{Config}
use Rattle.dccp_c.specs.Accepting.{AcceptsCode, accept_step, accepted_end, step_frame, step_told}
use Rattle.dccp_c.specs.Making.{care_by, configured_by}
use Rattle.dccp_c.specs.declared.making.Care.{Care}
use Rattle.dccp_c.specs.declared.making.Settings.{Settings}
use Rattle.dccp_c.proofs.calls.dccp_accept.Goals as goal

pub returns-in-Ok-clause-end : goal.returns-in-Ok-clause-end
returns-in-Ok-clause-end c =
    c.accept.ensures.end
    ∙ ap (λ (care : Care). accepted_end c.args.datagram.now c.args.now care c.accept.result (Ok c.in-Ok.config)) c.care_by-care.ensures.value
    ∙ ap (λ (config : Result Config ℕ). accepted_end c.args.datagram.now c.args.now (care_by c.args.settings.now) c.accept.result config)
    (c.in-Ok.ensures ∙ ap (λ (s : Settings). configured_by s c.args.wishes.now) c.as_server.ensures)

pub returns-in-Ok-clause-frame : goal.returns-in-Ok-clause-frame
returns-in-Ok-clause-frame c =
    c.accept.ensures.frame
    ∙ ap (λ (care : Care). step_frame (accept_step c.args.datagram.now c.args.now care c.accept.result (Ok c.in-Ok.config))) c.care_by-care.ensures.value
    ∙ ap (λ (config : Result Config ℕ). step_frame (accept_step c.args.datagram.now c.args.now (care_by c.args.settings.now) c.accept.result config))
    (c.in-Ok.ensures ∙ ap (λ (s : Settings). configured_by s c.args.wishes.now) c.as_server.ensures)

pub returns-in-Ok-clause-told : goal.returns-in-Ok-clause-told
returns-in-Ok-clause-told c =
    c.accept.ensures.told
    ∙ ap (λ (care : Care). step_told (accept_step c.args.datagram.now c.args.now care c.accept.result (Ok c.in-Ok.config)) c.args.told.now)
    c.care_by-care.ensures.value
    ∙ ap (λ (config : Result Config ℕ). step_told (accept_step c.args.datagram.now c.args.now (care_by c.args.settings.now) c.accept.result config) c.args.told.now)
    (c.in-Ok.ensures ∙ ap (λ (s : Settings). configured_by s c.args.wishes.now) c.as_server.ensures)

pub returns-in-Ok-clause-code : goal.returns-in-Ok-clause-code
returns-in-Ok-clause-code c =
    subst (λ (config : Result Config ℕ). AcceptsCode c.args.datagram.now c.args.now (care_by c.args.settings.now) config c.accept.result)
    (c.in-Ok.ensures ∙ ap (λ (s : Settings). configured_by s c.args.wishes.now) c.as_server.ensures)
    (subst (λ (care : Care). AcceptsCode c.args.datagram.now c.args.now care (Ok c.in-Ok.config) c.accept.result) c.care_by-care.ensures.value
    c.accept.ensures.code)
