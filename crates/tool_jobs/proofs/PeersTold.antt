-- The exchanges of an input are what its lines say, in order; the flows that are written are in the order of their peers; and Busy is
-- answered where the table is full.
use Rattle.std.proofs.Common.{◌≡◌, ◌↔◌, refl, ap, sym, ◌∙◌, subst, ℕ, ◌+◌, ◌≤◌, List, [], ◌∷◌, ◌++◌, length, Bool, true, false, if◌then◌else◌, nat_le, nat_lt, Option, Some, None, Result, Ok, Err}
use Rattle.std.proofs.lemmas.Bool.{le-leb, leb-true}
use Rattle.std.proofs.lemmas.List.{map-append}
use Rattle.std.specs.Prelude.{IsSome, flat_map, is_some, map}
use Rattle.dccp_endpoint.specs.End.{is_begun}
use Rattle.dccp_io.specs.Lines.{Next, End, Line, Long, Much, lines_of, next_in_lines, text_of}
use Rattle.dccp_listener.specs.Calls.{IsBusy}
use Rattle.dccp_listener.specs.Chain.{Arrives, Calls, Deed, chain_step, fresh_end, flow_step}
use Rattle.dccp_listener.specs.Listens.{AreInOrder, fresh_met, is_table_full, listens, listens_by}
use Rattle.dccp_listener.specs.Peers.{FlowEnd, ListenerState, end_of_peer}
use Rattle.dccp_listener.specs.Runs.{CallTold, WasBusy}
use Rattle.dccp_listener.specs.declared.peer.Peer.{Peer}
use Rattle.tool_text.specs.Jobs.{Accepted, LinesResult, Refused, LineVerdict, by_next, deeds_of, gone_by, gone_from, last_lines, most_events}
use Rattle.tool_text.specs.Refusals.{whole_line}
use Rattle.tool_text.specs.declared.words.faults.LineFault.{LineFault}
use Rattle.tool_text.specs.declared.words.faults.LineWhy.TheVariants as why
use Rattle.tool_jobs.specs.Calls.{read_call}
use Rattle.tool_jobs.specs.Listen.{by_exchange, by_peer_line, deed_of, exchange_at, first_serving, listen_job, listen_refused, listen_text, listened, peer_line_judged}
use Rattle.tool_jobs.specs.PeerLines.{exchange_said, said_by_line, said_by_lines, said_next}
use Rattle.tool_jobs.specs.Telling.{Exchange, exchange_text, flow_lines}
use Rattle.tool_jobs.specs.declared.listen.calls.PeerCall.{PeerCall}
use Rattle.tool_jobs.specs.declared.listen.serving.ListenLines.{ListenLines}
use Rattle.tool_jobs.proofs.PeersRunning.{input-ordered}

-- an accepted line does what it says
abbrev Does : List (ℕ × Peer × Deed) → LineVerdict Exchange ListenLines → Type 0
Does said (Accepted deed next) = map exchange_said (deeds_of deed) ≡ said
Does said (Refused fault) = Unit {0}

call-does : (s : ListenLines) (number : ℕ) (peer : Peer) (deed : Deed) (few : Bool)
    → Does ((number, peer, deed) ∷ []) (if few then by_exchange s (exchange_at s.listener number peer deed) else Refused (whole_line why.TooManyEvents))
call-does s number peer deed true = refl
call-does s number peer deed false = tt

said-does : (s : ListenLines) (number : ℕ) (said : Result (Option (Peer × PeerCall)) LineFault) → Does (said_by_line number said) (by_peer_line s number said)
said-does s number (Err fault) = tt
said-does s number (Ok None) = refl
said-does s number (Ok (Some said)) = call-does s number said.0 (deed_of said.0 said.1) (nat_lt s.events most_events)

line-does : (s : ListenLines) (number : ℕ) (line : List ℕ) → Does (said_by_line number (read_call line)) (peer_line_judged s number line)
unfolding peer_line_judged
line-does s number line = said-does s number (read_call line)

next-does : (s : ListenLines) (number : ℕ) (next : Next) → Does (said_next number next) (by_next listen_job s number next)
next-does s number (Line line) = line-does s number (text_of line)
next-does s number (Long front) = tt
next-does s number Much = tt
next-does s number End = refl

does-by : (s : ListenLines) (number given : ℕ) (verdict : LineVerdict Exchange ListenLines) (rest : ListenLines → LinesResult Exchange ListenLines)
    (said later : List (ℕ × Peer × Deed)) → Does said verdict
    → ((next : ListenLines) → is_some (rest next).refusal ≡ false → map exchange_said (rest next).deeds ≡ later)
    → is_some (gone_by s number given verdict rest).refusal ≡ false → map exchange_said (gone_by s number given verdict rest).deeds ≡ said ++ later
does-by s number given (Refused fault) rest said later does on none = cc none
does-by s number given (Accepted deed next) rest said later does on none =
    map-append exchange_said (deeds_of deed) (rest next).deeds
    ∙ ap (λ (xs : List (ℕ × Peer × Deed)). xs ++ map exchange_said (rest next).deeds) does
    ∙ ap (λ (xs : List (ℕ × Peer × Deed)). said ++ xs) (on next none)

lines-do : (s : ListenLines) (number given : ℕ) (lines : List (List ℕ)) → is_some (gone_from listen_job s number given lines).refusal ≡ false
    → map exchange_said (gone_from listen_job s number given lines).deeds ≡ said_by_lines number given lines
lines-do s number given [] none = refl
lines-do s number given (line ∷ lines) none =
    does-by s number given (by_next listen_job s number (next_in_lines given (line ∷ lines)))
    (λ next. gone_from listen_job next (number + 1) (given + length line) lines) (said_next number (next_in_lines given (line ∷ lines)))
    (said_by_lines (number + 1) (given + length line) lines) (next-does s number (next_in_lines given (line ∷ lines)))
    (λ next later. lines-do next (number + 1) (given + length line) lines later) none

pub exchanges-said : (most : ℕ) (input : List ℕ) → listen_refused most input ≡ false
    → map exchange_said (listened most input).deeds ≡ said_by_lines 1 0 (lines_of input)
exchanges-said most input none = lines-do (first_serving most) 1 0 (lines_of input) none

refused-none : (refusal : Option LineFault) → is_some refusal ≡ false → refusal ≡ None
refused-none None is = refl
refused-none (Some fault) is = cc is

pub input-text : (most : ℕ) (input : List ℕ) → listen_refused most input ≡ false
    → listen_text most input ≡ flat_map exchange_text (listened most input).deeds ++ flow_lines (listened most input).last.listener.flows
input-text most input none =
    let whole = listened most input in
    ap (λ (refusal : Option LineFault). flat_map exchange_text whole.deeds ++ last_lines listen_job whole.last whole.number refusal)
    (refused-none whole.refusal none)

-- the table is full, and a fresh end would stay

met-busy : (l : ListenerState) (peer : Peer) (iss : ℕ) (bytes : List ℕ) → end_of_peer l.flows peer ≡ None → (stays full : Bool)
    → is_begun (flow_step (fresh_end l.config peer iss bytes) (Arrives iss bytes)).after.state.phase ≡ stays → is_table_full l ≡ full
    → (fresh_met l peer iss bytes (flow_step (fresh_end l.config peer iss bytes) (Arrives iss bytes)) stays full).told ≡ WasBusy
    → IsBusy l peer (Arrives iss bytes)
met-busy l peer iss bytes none false full stays_is full_is told = cc told
met-busy l peer iss bytes none true false stays_is full_is told = cc told
met-busy l peer iss bytes none true true stays_is full_is told =
    let step = flow_step (fresh_end l.config peer iss bytes) (Arrives iss bytes) in
    record {
      has_none = none;
      is_table_full = leb-true l.config.most (length l.flows) full_is;
      would_stay = ap (λ (b : Bool). is_some (if b then Some step.after else None)) stays_is;
    }

busy-so : (l : ListenerState) (peer : Peer) (found : Option FlowEnd) (deed : Deed) → end_of_peer l.flows peer ≡ found
    → (listens_by l peer found deed).told ≡ WasBusy → IsBusy l peer deed
busy-so l peer (Some e) deed is told = cc told
busy-so l peer None (Calls call) is told = cc told
busy-so l peer None (Arrives iss bytes) is told =
    met-busy l peer iss bytes is (is_begun (flow_step (fresh_end l.config peer iss bytes) (Arrives iss bytes)).after.state.phase) (is_table_full l) refl refl told

kept-stays : (b : Bool) (e : FlowEnd) → IsSome (if b then Some e else None) → b ≡ true
kept-stays true e some = refl
kept-stays false e some = cc some

told-busy : (l : ListenerState) (peer : Peer) (deed : Deed) → IsBusy l peer deed → (listens_by l peer None deed).told ≡ WasBusy
told-busy l peer (Calls call) busy = (let some = busy.would_stay in cc some)
told-busy l peer (Arrives iss bytes) busy =
    let step = flow_step (fresh_end l.config peer iss bytes) (Arrives iss bytes) in
    ap (λ (b : Bool). (fresh_met l peer iss bytes step b (is_table_full l)).told) (kept-stays (is_begun step.after.state.phase) step.after busy.would_stay)
    ∙ ap (λ (b : Bool). (fresh_met l peer iss bytes step true b).told) (le-leb l.config.most (length l.flows) busy.is_table_full)

pub busy-exactly : (l : ListenerState) (peer : Peer) (deed : Deed) → ((listens l peer deed).told ≡ WasBusy) ↔ IsBusy l peer deed
busy-exactly l peer deed = (
  λ told. busy-so l peer (end_of_peer l.flows peer) deed refl told,
  λ busy. ap (λ (found : Option FlowEnd). (listens_by l peer found deed).told) busy.has_none ∙ told-busy l peer deed busy,
)

pub flows-ordered : (most : ℕ) (input : List ℕ) → AreInOrder (listened most input).last.listener.flows
flows-ordered most input = input-ordered most input
