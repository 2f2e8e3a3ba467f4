-- Data that the owner is told of are within the datagram.
use Rattle.std.proofs.Common.{◌≡◌, sym, ap, subst, ℕ, ◌≤◌, List, length, Bool, true, false, if◌then◌else◌, Option, Some, None, unwrap_or, arith}
use Rattle.dccp_packets.specs.Grammar.{Parts}
use Rattle.dccp_states.specs.declared.phase.Phase.{Phase}
use Rattle.dccp_endpoint.specs.End.{EndState}
use Rattle.dccp_endpoint.specs.Incoming.{Incoming, incoming}
use Rattle.dccp_endpoint.specs.Inputs.{Input, Arrives}
use Rattle.dccp_endpoint.specs.Inputs as input
use Rattle.dccp_endpoint.specs.Outcomes.{HasCause, IsTaken}
use Rattle.dccp_endpoint.specs.Reporting.{delivered_if}
use Rattle.dccp_states.specs.declared.outcome.Outcome.{Outcome}
use Rattle.dccp_states.specs.declared.outcome.Outcome.TheVariants.{Took, Dropped, Synced, WasReset, SentReset}
use Rattle.std.specs.Prelude.{IfSome}
use Rattle.dccp_uses.specs.Session.{has_closed, news_of}
use Rattle.data_dropped.specs.Intakes.{HasDataIfHeard}
use Rattle.data_dropped.specs.declared.answers.Arrival.{Arrival}
use Rattle.data_dropped.specs.declared.answers.Arrival.TheVariants.{Kept}
use Rattle.data_dropped.specs.declared.answers.Arrival.TheVariants as arrivals
use Rattle.data_dropped.proofs.Places.{IsWithin, data_within}
use Rattle.dccp_uses.specs.Sessions.{news_if, news_kept}
use Rattle.dccp_uses.specs.declared.news.News.{News}
use Rattle.dccp_uses.specs.declared.news.News.TheVariants as news

incoming-within : (e : EndState) (bytes : List ℕ) (p : Parts) (number : ℕ) → IsWithin bytes (incoming e bytes p number).data_place
incoming-within e bytes p number = (omega arith, omega arith)

place-of : (new : Bool) (place its : ℕ × ℕ) → Some place ≡ delivered_if new its → its ≡ place
place-of true place its is = sym (ap (λ (o : Option (ℕ × ℕ)). unwrap_or o place) is)
place-of false place its is = cc is

-- the bytes of an input
abbrev bytes-or : List ℕ → Input → List ℕ
bytes-or none (Arrives bytes) = bytes
bytes-or none input.Opens = none
bytes-or none input.Closes = none
bytes-or none input.Aborts = none
bytes-or none (input.Prefers key values) = none
bytes-or none (input.Sends payload may_send) = none
bytes-or none (input.SendsEarly payload may_send) = none
bytes-or none (input.Fires timer in_flight) = none

taken-within : (e : EndState) (bytes : List ℕ) (place : ℕ × ℕ) → IsTaken e bytes (Some place) → IsWithin bytes place
taken-within e bytes place taken =
    let came = taken.admitted.valid.came in
    subst (IsWithin bytes) (place-of _ place taken.packet.data_place taken.delivery)
    (subst (λ (a : Incoming). IsWithin bytes a.data_place) (sym came.same)
    (subst (λ (b : List ℕ). IsWithin b (incoming e came.bytes came.packet came.number).data_place) (sym (ap (bytes-or bytes) came.is_given))
    (incoming-within e came.bytes came.packet came.number)))

abbrev first-or : News → ℕ
first-or (news.Data first past) = first
first-or (news.Ended code) = 0
first-or news.Waits = 0
first-or (news.Dropped code) = 0
first-or news.Quiet = 0
first-or news.TooLong = 0

abbrev past-or : News → ℕ
past-or (news.Data first past) = past
past-or (news.Ended code) = 0
past-or news.Waits = 0
past-or (news.Dropped code) = 0
past-or news.Quiet = 0
past-or news.TooLong = 0

-- News of data are those of an outcome that delivers.
data-news : (place : ℕ × ℕ) (first past : ℕ) → news.Data place.0 place.1 ≡ news.Data first past → (bytes : List ℕ) → IsWithin bytes place
    → (first ≤ past) × (past ≤ length bytes)
data-news place first past is bytes within =
    let first_is : place.0 ≡ first = ap first-or is in
    let past_is : place.1 ≡ past = ap past-or is in
    (subst (λ n. n ≤ past) first_is (subst (λ n. place.0 ≤ n) past_is within.0), subst (λ n. n ≤ length bytes) past_is within.1)

ended-news : (ended : Bool) (code first past : ℕ) → (if ended then news.Ended code else news.Quiet) ≡ news.Data first past → ⊥
ended-news true code first past is = cc is
ended-news false code first past is = cc is

-- What the owner is told to be data is within the bytes that arrived.
pub news_within : (e : EndState) (bytes : List ℕ) (outcome : Outcome) (was now : Phase) (first past : ℕ) → HasCause e bytes outcome
    → news_of outcome was now ≡ news.Data first past → (first ≤ past) × (past ≤ length bytes)
news_within e bytes (Took (Some place)) was now first past cause is = data-news place first past is bytes (taken-within e bytes place cause)
news_within e bytes (SentReset code detail) was now first past cause is = absurd (ended-news (has_closed was now) code first past is)
news_within e bytes _ was now first past cause is = cc is

ended-short : (ended : Bool) (code : ℕ) → (if ended then news.Ended code else news.Quiet) ≡ news.TooLong → ⊥
ended-short true code is = cc is
ended-short false code is = cc is

-- Where a datagram was heard or left out, the same.
pub news_inside : (e : EndState) (bytes : List ℕ) (outcome : Option Outcome) (was now : Phase) (first past : ℕ)
    → IfSome outcome (λ (o : Outcome). HasCause e bytes o)
    → news_if outcome was now ≡ news.Data first past → (first ≤ past) × (past ≤ length bytes)
news_inside e bytes (Some outcome) was now first past cause is = news_within e bytes outcome was now first past cause is
news_inside e bytes None was now first past cause is = cc is

-- No outcome says that the bytes were too long.
pub never_too_long : (outcome : Outcome) (was now : Phase) → news_of outcome was now ≡ news.TooLong → ⊥
never_too_long (Took (Some place)) was now is = cc is
never_too_long (SentReset code detail) was now is = ended-short (has_closed was now) code is
never_too_long _ was now is = cc is

-- nor does a datagram that was left out
pub never_said_long : (outcome : Option Outcome) (was now : Phase) → news_if outcome was now ≡ news.TooLong → ⊥
never_said_long (Some outcome) was now is = never_too_long outcome was now is
never_said_long None was now is = cc is

-- Data that came into an inbox are told as such, and all else as without one.
pub told_as_data : (arrival : Option Arrival) (told : News) (first past : ℕ) → news_kept arrival told ≡ news.Data first past → told ≡ news.Data first past
told_as_data None told first past is = is
told_as_data (Some Kept) told first past is = cc is
told_as_data (Some (arrivals.Dropped code)) told first past is = cc is

pub told_as_long : (arrival : Option Arrival) (told : News) → news_kept arrival told ≡ news.TooLong → told ≡ news.TooLong
told_as_long None told is = is
told_as_long (Some Kept) told is = cc is
told_as_long (Some (arrivals.Dropped code)) told is = cc is

-- data that come into it lie within the datagram
pub heard_within : (e : EndState) (bytes : List ℕ) (outcome : Option Outcome) → IfSome outcome (λ (o : Outcome). HasCause e bytes o)
    → HasDataIfHeard bytes outcome
heard_within e bytes None cause = tt
heard_within e bytes (Some outcome) cause = data_within e bytes outcome cause
