use Rattle.std.proofs.Common.{◌∙◌, ap, sym, ℕ, Result}
use Rattle.ccid_two.specs.Kinds.{Both}
use Rattle.dccp_states.specs.declared.calls.UserCall.{UserCall}
use Rattle.dccp_listener.specs.Chain.{asked}
use Rattle.dccp_uses.specs.Timed.{TimedStep}
use Rattle.feature_lists.specs.declared.wishes.PreferFault.{PreferFault}
use Rattle.dccp_c.specs.Codes.{called_code, unwished_code}
use Rattle.dccp_c.specs.Stepping.{timed_acts}
use Rattle.dccp_c.proofs.steps.act_alone.Goals as goal

pub returns-in-Prefer : goal.returns-in-Prefer
returns-in-Prefer c =
    ap (λ (code : ℕ). record { timed = c.prefer.new.self; frame = c.prefer.new.out; answer = code }) c.wish_code.ensures
    ∙ ap
    (λ (step : TimedStep Both (Result (Unit {0}) PreferFault)). record { timed = step.timed; frame = step.frame; answer = called_code unwished_code step.answer })
    c.prefer.ensures.step
    ∙ ap (λ (call : UserCall). timed_acts (asked call) c.args.now c.args.timed.now) (sym c.in-Prefer.is)
