-- A session that a server keeps, or does not.
use Rattle.std.proofs.Common.{◌≡◌, sym, ap, ◌∙◌, subst, ℕ, List, true, false, Some, None}
use Rattle.congestion_trait.specs.Control.{Control}
use Rattle.dccp_endpoint.specs.declared.config.Config.{Config}
use Rattle.dccp_uses.specs.Holding.{HoldingState, without_inbox}
use Rattle.dccp_uses.specs.Listening.{Accepts}
use Rattle.dccp_uses.specs.Session.{is_listening}
use Rattle.dccp_uses.specs.Sessions.{Does, holding_hears, unless_it_listens}
use Rattle.dccp_uses.specs.Timed.{timed_begins}
use Rattle.dccp_uses.specs.declared.pace.Pace.{Pace}
use Rattle.dccp_uses.specs.declared.news.News.{News}

made-some : {C : Type 0} (new x : HoldingState C) → new ≡ x → is_listening new.timed.end.state.phase ≡ false
    → Some new ≡ unless_it_listens x (is_listening x.timed.end.state.phase)
made-some {C} new x is left =
    let quiet : is_listening x.timed.end.state.phase ≡ false = subst (λ (y : HoldingState C). is_listening y.timed.end.state.phase ≡ false) is left in
    ap (λ (y : HoldingState C). Some y) is ∙ ap (unless_it_listens x) (sym quiet)

pub accepts_made : {C N : Type 0} (sends : N → List ℕ → N → Type 0) (control : Control C) (now : ℕ) (config : Config) (congestion : C) (pace : Pace) (bytes : List ℕ)
    (before after : N) (s new : HoldingState C) (answer : News) → s ≡ without_inbox (timed_begins control config congestion pace)
    → Does sends (holding_hears control now s bytes) new before after answer → is_listening new.timed.end.state.phase ≡ false
    → Accepts sends control now config congestion pace bytes before after (Some new)
accepts_made {C} {N} sends control now config congestion pace bytes before after s new answer is does left =
    let heard = subst (λ (x : HoldingState C). Does sends (holding_hears control now x bytes) new before after answer) is does in
    record { made_is = made-some new _ heard.session_is left; handed = heard.handed }

made-none : {C : Type 0} (new x : HoldingState C) → new ≡ x → is_listening new.timed.end.state.phase ≡ true
    → None ≡ unless_it_listens x (is_listening x.timed.end.state.phase)
made-none {C} new x is listens =
    ap (unless_it_listens x) (sym (subst (λ (y : HoldingState C). is_listening y.timed.end.state.phase ≡ true) is listens))

pub accepts_none : {C N : Type 0} (sends : N → List ℕ → N → Type 0) (control : Control C) (now : ℕ) (config : Config) (congestion : C) (pace : Pace) (bytes : List ℕ)
    (before after : N) (s new : HoldingState C) (answer : News) → s ≡ without_inbox (timed_begins control config congestion pace)
    → Does sends (holding_hears control now s bytes) new before after answer → is_listening new.timed.end.state.phase ≡ true
    → Accepts sends control now config congestion pace bytes before after None
accepts_none {C} {N} sends control now config congestion pace bytes before after s new answer is does listens =
    let heard = subst (λ (x : HoldingState C). Does sends (holding_hears control now x bytes) new before after answer) is does in
    record { made_is = made-none new _ heard.session_is listens; handed = heard.handed }
