-- A step of an end beside an inbox and a cookie, whose frame was handed over.
use Rattle.std.proofs.Common.{◌≡◌, refl, sym, ap, ◌∙◌, subst, ℕ, ◌≤◌, Bool, List, length, Option, None, if◌then◌else◌}
use Rattle.std.proofs.lemmas.Bool.{le-leb}
use Rattle.congestion_trait.specs.Control.{Control}
use Rattle.data_dropped.specs.Inbox.{InboxState}
use Rattle.data_dropped.specs.Intakes.{IntakeDelivery, came_in}
use Rattle.data_dropped.specs.declared.answers.Arrival.{Arrival}
use Rattle.dccp_endpoint.specs.End.{last_taken}
use Rattle.dccp_packets.specs.Outgoing.{Outgoing}
use Rattle.dccp_states.specs.declared.outcome.Outcome.{Outcome}
use Rattle.dccp_states.specs.declared.phase.Phase.{Phase}
use Rattle.dccp_uses.specs.ClientCookies.{cookie_kept}
use Rattle.dccp_uses.specs.Handing.{Hands}
use Rattle.dccp_uses.specs.Holding.{HoldingState, holding_frame, holds_heard, holds_settled, steps_beside}
use Rattle.dccp_uses.specs.Sessions.{Does, holding_hears, news_if, news_kept, tells_reading}
use Rattle.dccp_uses.specs.Timed.{TimedState, TimedStep, timed_takes}
use Rattle.dccp_uses.specs.declared.news.News.{News}
use Rattle.dccp_uses.specs.declared.news.News.TheVariants as news

pub step_handed : {C N Answer : Type 0} (sends : N → List ℕ → N → Type 0) (step : TimedState C → TimedStep C Answer) (h old : HoldingState C) → h ≡ old
    → (new : TimedState C) (out : Option Outgoing) (before after : N) (answer : Answer)
    → record { timed = new; frame = out; answer = answer } ≡ step h.timed
    → Hands sends before (holding_frame (record h { timed = new }) out) after
    → Does sends (steps_beside old (step old.timed)) (record h { timed = new }) before after answer
step_handed {C} {N} {Answer} sends step h old same new out before after answer is hands =
    subst (λ (x : HoldingState C). Does sends (steps_beside x (step x.timed)) (record h { timed = new }) before after answer) same
    (subst (λ (s : TimedStep C Answer). Does sends (steps_beside h s) (record h { timed = new }) before after answer) is
    (record { session_is = refl; handed = hands; answer_is = refl }))

-- the cookie and the news by the phases before and after the datagram
kept-as : (was is before after : Phase) (read bytes cookie : List ℕ) → was ≡ before → is ≡ after → read ≡ bytes
    → cookie_kept was is read cookie ≡ cookie_kept before after bytes cookie
kept-as was is before after read bytes cookie was-so is-so same =
    ap (λ (p : Phase). cookie_kept p is read cookie) was-so ∙ ap (λ (p : Phase). cookie_kept before p read cookie) is-so
    ∙ ap (λ (it : List ℕ). cookie_kept before after it cookie) same

told-as : (heard : Option Outcome) (was is before after : Phase) → was ≡ before → is ≡ after → news_if heard was is ≡ news_if heard before after
told-as heard was is before after was-so is-so = ap (λ (p : Phase). news_if heard p is) was-so ∙ ap (news_if heard before) is-so

-- A datagram that is not too long was heard or left out, and the frame that its end left was handed over.
pub datagram_handed : {C N : Type 0} (sends : N → List ℕ → N → Type 0) (control : Control C) (now : ℕ) (h : HoldingState C) (bytes read : List ℕ)
    (timed : TimedState C) (out : Option Outgoing) (heard : Option Outcome) (inbox : Option InboxState) (arrival : Option Arrival) (cookie : List ℕ)
    (was is : Phase) (told answer : News) (before after : N)
    → length bytes ≤ 2044 → read ≡ bytes → was ≡ h.timed.end.state.phase → is ≡ timed.end.state.phase
    → record { timed = timed; frame = out; answer = heard } ≡ timed_takes control now h.timed read
    → cookie ≡ cookie_kept was is read h.cookie
    → record { inbox = inbox; arrival = arrival } ≡ came_in h.inbox (last_taken timed.end.state) bytes heard
    → Hands sends before (holding_frame (record { timed = timed; inbox = inbox; cookie = cookie }) out) after
    → told ≡ news_if heard was is → answer ≡ news_kept arrival told
    → Does sends (holding_hears control now h bytes) (record { timed = timed; inbox = inbox; cookie = cookie }) before after answer
datagram_handed {C} {N} sends control now h bytes read timed out heard inbox arrival cookie was is told answer before after short same was-so is-so
    step kept came hands told-so answered =
    let new : HoldingState C = record { timed = timed; inbox = inbox; cookie = cookie } in
    let taken : TimedStep C (Option Outcome) = record { timed = timed; frame = out; answer = heard } in
    let settled : IntakeDelivery = record { inbox = inbox; arrival = arrival } in
    let p : Phase = h.timed.end.state.phase in
    let q : Phase = timed.end.state.phase in
    let news-so : answer ≡ news_kept arrival (news_if heard p q) =
    answered ∙ ap (news_kept arrival) (told-so ∙ told-as heard was is p q was-so is-so) in
    let first : Does sends (tells_reading h (holds_settled cookie settled taken)) new before after answer =
    record { session_is = refl; handed = hands; answer_is = news-so } in
    let second = subst (λ (c : List ℕ). Does sends (tells_reading h (holds_settled c settled taken)) new before after answer)
    (kept ∙ kept-as was is p q read bytes h.cookie was-so is-so same) first in
    let third = subst (λ (it : IntakeDelivery). Does sends (tells_reading h (holds_settled (cookie_kept p q bytes h.cookie) it taken)) new before after answer)
    came second in
    let fourth = subst (λ (s : TimedStep C (Option Outcome)). Does sends (tells_reading h (holds_heard h bytes s)) new before after answer)
    (step ∙ ap (timed_takes control now h.timed) same) third in
    subst (λ (b : Bool). Does sends (if b then tells_reading h (holds_heard h bytes (timed_takes control now h.timed bytes))
    else record { holding = h; frame = None; answer = news.TooLong }) new before after answer)
    (sym (le-leb (length bytes) 2044 short)) fourth
