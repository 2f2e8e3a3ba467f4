-- What `listen` writes for an input: the answer to each line, then the flows or the line of the first refusal (own).
use Rattle.std.specs.Prelude.{ℕ, ◌+◌, nat_lt, Bool, if◌then◌else◌, is_some, List, [], ◌∷◌, map, Option, Some, None, Result, Ok, Err}
use Rattle.dccp_listener.specs.Chain.{Deed, Arrives, Calls, Sends, Fires, Closes, Aborts}
use Rattle.dccp_listener.specs.Listens.{computed_turn, listening_after}
use Rattle.dccp_listener.specs.Peers.{ListenerState, end_of_peer}
use Rattle.dccp_listener.specs.Runs.{CallTurn, IsChain, IsRunOfTurns, peer_turns}
use Rattle.dccp_listener.specs.Standing.{unoffering}
use Rattle.dccp_listener.specs.declared.config.ListenConfig.{ListenConfig}
use Rattle.dccp_listener.specs.declared.peer.Peer.{Peer}
use Rattle.dccp_sum.specs.declared.pseudo_header.Pseudo.{Pseudo}
use Rattle.dccp_sum.specs.declared.pseudo_header.Pseudo.TheVariants.{V4}
use Rattle.feature_machine.specs.Lists.{usual_lists}
use Rattle.tool_text.specs.Jobs.{Accepted, LinesResult, Job, Refused, LineVerdict, gone_through, text_of_job, most_events}
use Rattle.tool_jobs.specs.Ends.{arriving}
use Rattle.tool_text.specs.Refusals.{whole_line}
use Rattle.tool_text.specs.declared.words.faults.LineFault.{LineFault}
use Rattle.tool_text.specs.declared.words.faults.LineWhy.TheVariants as why
use Rattle.tool_jobs.specs.Calls.{read_call}
use Rattle.tool_jobs.specs.Telling.{Exchange, exchange_text, flow_lines}
use Rattle.tool_jobs.specs.declared.listen.calls.PeerCall.{PeerCall}
use Rattle.tool_jobs.specs.declared.listen.calls.PeerCall.TheVariants as call
use Rattle.tool_jobs.specs.declared.listen.serving.ListenLines.{ListenLines}

-- the initial sequence number of each end
abbrev pub first_number : ℕ
first_number = 2000

-- the destination address of all datagrams
abbrev pub own_address : List ℕ
own_address = 10 ∷ 0 ∷ 0 ∷ 2 ∷ []

-- a listener at port 5001 of this address, for two services and at most this many flows, whose ends have the usual lists
abbrev pub listen_config : ℕ → ListenConfig
listen_config most =
    record { own_address = own_address; own_port = 5001; services = record { items = 42 ∷ 43 ∷ [] }; lists = usual_lists; most = most }

-- Before the first line: there are no flows, and their ends will make no offers.
abbrev pub first_listening : ℕ → ListenerState
first_listening most = record { config = unoffering (listen_config most); flows = [] }

-- the state before the first line, in which nothing has happened
abbrev pub first_serving : ℕ → ListenLines
first_serving most = record { listener = first_listening most; events = 0 }

-- the addresses of a frame that a peer sends
abbrev pub peer_addresses : Peer → Pseudo
peer_addresses peer = V4 peer.address own_address

-- what a line says happens to a peer, as the listener takes it
abbrev pub deed_of : Peer → PeerCall → Deed
deed_of peer (call.Frame frame) = Arrives first_number (arriving (peer_addresses peer) frame)
deed_of peer (call.Send payload) = Calls (Sends payload)
deed_of peer (call.Timer timer) = Calls (Fires timer)
deed_of peer call.Close = Calls Closes
deed_of peer call.Abort = Calls Aborts

-- what happens to a peer by the line of this number
abbrev pub exchange_at : ListenerState → ℕ → Peer → Deed → Exchange
exchange_at l number peer deed = record { number = number; before = l; peer = peer; deed = deed }

-- one more line counts, and the listener is as the exchange leaves it
abbrev pub by_exchange : ListenLines → Exchange → LineVerdict Exchange ListenLines
by_exchange s x = Accepted (Some x) (record { listener = listening_after x.before x.peer x.deed; events = s.events + 1 })

-- a line by which something happens is refused once there were as many as are allowed
abbrev pub by_call : ListenLines → ℕ → Peer → PeerCall → LineVerdict Exchange ListenLines
by_call s number peer said =
    if nat_lt s.events most_events then by_exchange s (exchange_at s.listener number peer (deed_of peer said)) else Refused (whole_line why.TooManyEvents)

-- a line that says nothing is accepted and does nothing
abbrev pub by_peer_line : ListenLines → ℕ → Result (Option (Peer × PeerCall)) LineFault → LineVerdict Exchange ListenLines
by_peer_line s number (Err fault) = Refused fault
by_peer_line s number (Ok None) = Accepted None s
by_peer_line s number (Ok (Some said)) = by_call s number said.0 said.1

-- a line without its newline
unfoldable pub peer_line_judged : ListenLines → ℕ → List ℕ → LineVerdict Exchange ListenLines
peer_line_judged s number line = by_peer_line s number (read_call line)

-- What a line does is an exchange, and the flows are the last.
abbrev pub listen_job : Job Exchange ListenLines
listen_job = record { judged = peer_line_judged; told = exchange_text; ending = λ s. flow_lines s.listener.flows }

-- the result of an input, from a listener without flows that may have this many
abbrev pub listened : ℕ → List ℕ → LinesResult Exchange ListenLines
listened most input = gone_through listen_job (first_serving most) input

-- What `listen` writes for an input.
abbrev pub listen_text : ℕ → List ℕ → List ℕ
listen_text most input = text_of_job listen_job (listened most input)

-- The input is refused at some line.
abbrev pub listen_refused : ℕ → List ℕ → Bool
listen_refused most input = is_some (listened most input).refusal

-- How many bytes the accepted lines of an input have: those before the first that is refused.
abbrev pub listen_accepted : ℕ → List ℕ → ℕ
listen_accepted most input = (listened most input).accepted

-- The exchanges of an input, each as a turn of the listener: a call, its answer and its frame, as they are computed.
abbrev pub turns_of_input : ℕ → List ℕ → List CallTurn
turns_of_input most input = map (λ x. computed_turn x.before x.peer x.deed) (listened most input).deeds

-- The turns of an input are a run of a listener without flows, which leaves the flows that are written last.
abbrev pub EveryInputIsARun : Type 0
EveryInputIsARun = (most : ℕ) (input : List ℕ) → IsRunOfTurns (first_listening most) (listened most input).last.listener (turns_of_input most input)

-- So the answers and frames of each peer are the chain of its lines, from no end to the end that it finally has.
abbrev pub EachPeerOfAnInputHasItsChain : Type 0
EachPeerOfAnInputHasItsChain =
    (most : ℕ) (input : List ℕ) (peer : Peer)
    → IsChain (first_listening most).config peer None (end_of_peer (listened most input).last.listener.flows peer) (peer_turns peer (turns_of_input most input))
