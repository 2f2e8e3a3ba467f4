-- The result of an input is a run of the listener: what comes next leads it on by one turn, and the induction over all lines.
use Rattle.std.proofs.Common.{◌≡◌, refl, sym, subst, ℕ, ◌+◌, List, [], ◌∷◌, length, Bool, true, false, if◌then◌else◌, nat_lt, Option, Some, None, Result, Ok, Err}
use Rattle.std.specs.Prelude.{map}
use Rattle.std.specs.List.Sorted.{IsStrictlySortedBy}
use Rattle.dccp_io.specs.Lines.{Next, End, Line, Long, Much, lines_of, next_in_lines, text_of}
use Rattle.dccp_listener.specs.Listens.{AreInOrder, computed_turn, listening_after}
use Rattle.dccp_listener.specs.Peers.{ListenerState}
use Rattle.dccp_listener.specs.Runs.{CallTurn, IsRunOfTurns, IsTurn}
use Rattle.dccp_listener.specs.declared.peer.Peer.{Peer}
use Rattle.dccp_listener.proofs.Chains.{each_has_its_chain}
use Rattle.dccp_listener.proofs.Computing.{computed_runs}
use Rattle.tool_text.specs.Jobs.{Accepted, LinesResult, Refused, LineVerdict, by_next, gone_by, gone_from, most_events}
use Rattle.tool_text.specs.Refusals.{whole_line}
use Rattle.tool_text.specs.declared.words.faults.LineFault.{LineFault}
use Rattle.tool_text.specs.declared.words.faults.LineWhy.TheVariants as why
use Rattle.tool_jobs.specs.Calls.{read_call}
use Rattle.tool_jobs.specs.Listen.{EachPeerOfAnInputHasItsChain, EveryInputIsARun, by_exchange, by_peer_line, deed_of, exchange_at, first_listening, first_serving, listen_job, listened, peer_line_judged, turns_of_input}
use Rattle.tool_jobs.specs.Telling.{Exchange}
use Rattle.tool_jobs.specs.declared.listen.calls.PeerCall.{PeerCall}
use Rattle.tool_jobs.specs.declared.listen.serving.ListenLines.{ListenLines}

abbrev turned : Exchange → CallTurn
turned x = computed_turn x.before x.peer x.deed

-- one exchange is a turn
one-turn : (x : Exchange) → AreInOrder x.before.flows
    → IsTurn x.before (listening_after x.before x.peer x.deed) (turned x) × AreInOrder (listening_after x.before x.peer x.deed).flows
one-turn x ordered =
    let run = computed_runs x.before ((x.peer, x.deed) ∷ []) ordered in
    (subst (λ (l : ListenerState). IsTurn x.before l (turned x)) (sym run.0.2) run.0.1, run.1)

-- a verdict leads the listener on as its exchange does
abbrev Leads : ListenerState → LineVerdict Exchange ListenLines → Type 0
Leads l (Accepted None next) = next.listener ≡ l
Leads l (Accepted (Some x) next) = (x.before ≡ l) × (next.listener ≡ listening_after x.before x.peer x.deed)
Leads l (Refused fault) = Unit {0}

call-leads : (s : ListenLines) (x : Exchange) (few : Bool) → x.before ≡ s.listener
    → Leads s.listener (if few then by_exchange s x else Refused (whole_line why.TooManyEvents))
call-leads s x true is = (is, refl)
call-leads s x false is = tt

said-leads : (s : ListenLines) (number : ℕ) (said : Result (Option (Peer × PeerCall)) LineFault) → Leads s.listener (by_peer_line s number said)
said-leads s number (Err fault) = tt
said-leads s number (Ok None) = refl
said-leads s number (Ok (Some said)) = call-leads s (exchange_at s.listener number said.0 (deed_of said.0 said.1)) (nat_lt s.events most_events) refl

line-leads : (s : ListenLines) (number : ℕ) (line : List ℕ) → Leads s.listener (peer_line_judged s number line)
unfolding peer_line_judged
line-leads s number line = said-leads s number (read_call line)

next-leads : (s : ListenLines) (number : ℕ) (next : Next) → Leads s.listener (by_next listen_job s number next)
next-leads s number (Line line) = line-leads s number (text_of line)
next-leads s number (Long front) = tt
next-leads s number Much = tt
next-leads s number End = refl

abbrev RunsFrom : ListenerState → LinesResult Exchange ListenLines → Type 0
RunsFrom l gone = IsRunOfTurns l gone.last.listener (map turned gone.deeds)

runs-by : (s : ListenLines) (number given : ℕ) (verdict : LineVerdict Exchange ListenLines) (rest : ListenLines → LinesResult Exchange ListenLines) → AreInOrder s.listener.flows
    → Leads s.listener verdict → ((next : ListenLines) → AreInOrder next.listener.flows → RunsFrom next.listener (rest next))
    → RunsFrom s.listener (gone_by s number given verdict rest)
runs-by s number given (Refused fault) rest ordered leads runs = refl
runs-by s number given (Accepted None next) rest ordered leads runs =
    subst (λ (l : ListenerState). RunsFrom l (rest next)) leads (runs next (subst (λ (l : ListenerState). AreInOrder l.flows) (sym leads) ordered))
runs-by s number given (Accepted (Some x) next) rest ordered leads runs =
    let turn = one-turn x (subst (λ (l : ListenerState). AreInOrder l.flows) (sym leads.0) ordered) in
    let here : IsTurn s.listener next.listener (turned x) =
    subst (λ (l : ListenerState). IsTurn l next.listener (turned x)) leads.0 (subst (λ (l : ListenerState). IsTurn x.before l (turned x)) (sym leads.1) turn.0) in
    (next.listener, here, runs next (subst (λ (l : ListenerState). AreInOrder l.flows) (sym leads.1) turn.1))

runs-on : (s : ListenLines) (number given : ℕ) (lines : List (List ℕ)) → AreInOrder s.listener.flows
    → RunsFrom s.listener (gone_from listen_job s number given lines)
runs-on s number given [] ordered = refl
runs-on s number given (line ∷ lines) ordered =
    runs-by s number given (by_next listen_job s number (next_in_lines given (line ∷ lines)))
    (λ next. gone_from listen_job next (number + 1) (given + length line) lines) ordered
    (next-leads s number (next_in_lines given (line ∷ lines))) (λ next in_order. runs-on next (number + 1) (given + length line) lines in_order)

pub every_input_runs : EveryInputIsARun
unfolding IsStrictlySortedBy
every_input_runs most input = runs-on (first_serving most) 1 0 (lines_of input) tt

-- the flows stay in order
ordered-by : (s : ListenLines) (number given : ℕ) (verdict : LineVerdict Exchange ListenLines) (rest : ListenLines → LinesResult Exchange ListenLines)
    → AreInOrder s.listener.flows → Leads s.listener verdict
    → ((next : ListenLines) → AreInOrder next.listener.flows → AreInOrder (rest next).last.listener.flows)
    → AreInOrder (gone_by s number given verdict rest).last.listener.flows
ordered-by s number given (Refused fault) rest ordered leads on = ordered
ordered-by s number given (Accepted None next) rest ordered leads on =
    on next (subst (λ (l : ListenerState). AreInOrder l.flows) (sym leads) ordered)
ordered-by s number given (Accepted (Some x) next) rest ordered leads on =
    let turn = one-turn x (subst (λ (l : ListenerState). AreInOrder l.flows) (sym leads.0) ordered) in
    on next (subst (λ (l : ListenerState). AreInOrder l.flows) (sym leads.1) turn.1)

ordered-on : (s : ListenLines) (number given : ℕ) (lines : List (List ℕ)) → AreInOrder s.listener.flows
    → AreInOrder (gone_from listen_job s number given lines).last.listener.flows
ordered-on s number given [] ordered = ordered
ordered-on s number given (line ∷ lines) ordered =
    ordered-by s number given (by_next listen_job s number (next_in_lines given (line ∷ lines)))
    (λ next. gone_from listen_job next (number + 1) (given + length line) lines) ordered
    (next-leads s number (next_in_lines given (line ∷ lines))) (λ next in_order. ordered-on next (number + 1) (given + length line) lines in_order)

pub input-ordered : (most : ℕ) (input : List ℕ) → AreInOrder (listened most input).last.listener.flows
unfolding IsStrictlySortedBy
input-ordered most input = ordered-on (first_serving most) 1 0 (lines_of input) tt

pub each_peer_chained : EachPeerOfAnInputHasItsChain
each_peer_chained most input peer =
    each_has_its_chain (first_listening most) (listened most input).last.listener (turns_of_input most input) (every_input_runs most input) peer
