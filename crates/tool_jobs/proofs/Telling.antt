-- Data that an end delivers are within the bytes that arrived, so that a line can have them.
use Rattle.std.proofs.Common.{◌≡◌, sym, ap, subst, ℕ, List, Bool, true, false, if◌then◌else◌, Option, Some, Result, Ok, Err, IfOk, arith}
use Rattle.ccid_two.specs.Kinds.{Both, kinds_control}
use Rattle.dccp_packets.specs.Grammar.{Parts, decoded}
use Rattle.dccp_packets.specs.declared.reading.Malformed.{Malformed}
use Rattle.dccp_packets.specs.Outgoing.{Outgoing}
use Rattle.dccp_states.specs.Entrance.{gate}
use Rattle.dccp_states.specs.Phases.{after}
use Rattle.dccp_states.specs.declared.phase.Phase.{Phase}
use Rattle.dccp_states.specs.declared.reply.Reply.{Reply}
use Rattle.dccp_states.specs.declared.reply.Reply.TheVariants as reply
use Rattle.run_list.specs.MarkedSet.{answer_to}
use Rattle.run_list.specs.declared.answers.Marked.{Marked}
use Rattle.dccp_endpoint.specs.Controlled.{End, EndStep, with_control}
use Rattle.dccp_endpoint.specs.End.{EndState, with_rows}
use Rattle.dccp_endpoint.specs.Heeding.{DueConfirm, ReadingState}
use Rattle.dccp_endpoint.specs.Incoming.{Incoming}
use Rattle.dccp_endpoint.specs.Receiving.{Course, Goes, Leaves, accounted, acknowledges, arrives, checks_header, delivering, ends_as, heeded, leaves, moved_to, moves, needs_ack, reads_options, received, receives, replies, the_steps, through, with_own_number, with_packet}
use Rattle.dccp_endpoint.specs.Reporting.{counts_data, delivered_if, delivers}
use Rattle.dccp_endpoint.specs.Steps.{Step, idle}
use Rattle.dccp_endpoint.specs.declared.exit.Exit.{Exit}
use Rattle.dccp_endpoint.specs.declared.exit.Exit.TheVariants as exits
use Rattle.dccp_states.specs.declared.outcome.Fault.{Fault}
use Rattle.dccp_states.specs.declared.outcome.Outcome.{Outcome}
use Rattle.dccp_states.specs.declared.outcome.Outcome.TheVariants.{Took}
use Rattle.dccp_states.specs.declared.outcome.Why.{Why}
use Rattle.schedule_text.specs.Results.{HasItsData, IsPlaceIn}

-- the data of a packet end where its bytes do
numbered-place : (e : EndState) (bytes : List ℕ) (p : Parts) (number : Result ℕ Why)
    → IfOk (with_own_number e bytes p number) (λ (a : Incoming). IsPlaceIn bytes (Some a.data_place))
numbered-place e bytes p (Ok number) = (omega arith, omega arith)
numbered-place e bytes p (Err why) = tt

packet-place : (e : EndState) (bytes : List ℕ) (read : Result Parts Malformed)
    → IfOk (with_packet e bytes read) (λ (a : Incoming). IsPlaceIn bytes (Some a.data_place))
packet-place e bytes (Ok p) = numbered-place e bytes p (checks_header e bytes p.header)
packet-place e bytes (Err fault) = tt

delivered-in : (bytes : List ℕ) (place : ℕ × ℕ) (new : Bool) → IsPlaceIn bytes (Some place) → HasItsData bytes (Took (delivered_if new place))
delivered-in bytes place true inside = inside
delivered-in bytes place false inside = tt

-- an Ack that is needed, or nothing
acking-in : (bytes : List ℕ) (ack none : Step Outcome) (needed : Bool) → HasItsData bytes ack.answer → HasItsData bytes none.answer
    → HasItsData bytes (if needed then ack else none).answer
acking-in bytes ack none true in_ack in_none = in_ack
acking-in bytes ack none false in_ack in_none = in_none

replied-in : (bytes : List ℕ) (e : EndState) (a : Incoming) (confirms : List DueConfirm) (took : Outcome) (answer : Reply) → HasItsData bytes took
    → HasItsData bytes (replies e a confirms took answer).answer
replied-in bytes e a confirms took reply.Nothing inside =
    acking-in bytes (acknowledges e confirms took) (idle e took) (needs_ack e.phase confirms e.rows e.unacked) inside inside
replied-in bytes e a confirms took reply.ResetClosed inside = tt
replied-in bytes e a confirms took _ inside = inside

delivering-in : (bytes : List ℕ) (e : EndState) (a : Incoming) (confirms : List DueConfirm) (new : Bool) (answer : Reply) → IsPlaceIn bytes (Some a.data_place)
    → HasItsData bytes (delivering e a confirms new answer).answer
delivering-in bytes e a confirms new answer inside =
    replied-in bytes (counts_data e new) a confirms (Took (delivered_if new a.data_place)) answer (delivered-in bytes a.data_place new inside)

left-in : (bytes : List ℕ) (x : EndState) (a : Incoming) (exit : Exit) → HasItsData bytes (leaves x a exit).answer
left-in bytes x a (exits.Drop why) = tt
left-in bytes x a _ = tt

moved-in : (bytes : List ℕ) (e : EndState) (a : Incoming) (confirms : List DueConfirm) (mark : Marked) (to : Phase × Reply) → IsPlaceIn bytes (Some a.data_place)
    → HasItsData bytes (moves e a confirms mark to).answer
moved-in bytes e a confirms mark to inside =
    delivering-in bytes (moved_to e to.0 a.number) a confirms (delivers a.kind to.0 mark) to.1 inside

heeded-in : (bytes : List ℕ) (x : EndState) (a : Incoming) (heeding : Result ReadingState Fault) → IsPlaceIn bytes (Some a.data_place)
    → HasItsData bytes (heeded x a heeding).answer
heeded-in bytes x a (Ok h) inside =
    let e = with_rows x h.rows in
    moved-in bytes (accounted e a) a h.confirms (answer_to e.received.set a.number) (after e.phase a.kind) inside
heeded-in bytes x a (Err fault) inside = tt

ended-in : (bytes : List ℕ) (a : Incoming) (course : Course) → IsPlaceIn bytes (Some a.data_place) → HasItsData bytes (ends_as a course).answer
ended-in bytes a (Goes x) inside = heeded-in bytes x a (reads_options x a) inside
ended-in bytes a (Leaves x exit) inside = left-in bytes x a exit

received-in : (e : EndState) (bytes : List ℕ) (read : Result Incoming Why) → IfOk read (λ (a : Incoming). IsPlaceIn bytes (Some a.data_place))
    → HasItsData bytes (received e read).answer
received-in e bytes (Ok a) inside = ended-in bytes a (through (Goes e) (the_steps a (gate e.phase a.kind))) inside
received-in e bytes (Err why) inside = tt

pub data-in-frame : (e : EndState) (bytes : List ℕ) → HasItsData bytes (receives e bytes).answer
unfolding receives
data-in-frame e bytes = received-in e bytes (arrives e bytes) (packet-place e bytes (decoded bytes))

-- Whatever an end answers, the bytes that arrived have the data that it delivers.
pub answer_is_told : (e : EndState) (congestion : Both) (bytes : List ℕ) (next : End Both) (frame : Option Outgoing) (answer : Outcome)
    → record { after = next; frame = frame; answer = answer } ≡ with_control kinds_control congestion (receives e bytes) → HasItsData bytes answer
answer_is_told e congestion bytes next frame answer is =
    subst (HasItsData bytes) (sym (ap (λ (step : EndStep Both Outcome). step.answer) is)) (data-in-frame e bytes)
