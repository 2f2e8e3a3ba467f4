-- What a step of an end is, and what it sends (RFC 4340, section 7.1).
use Rattle.std.specs.Prelude.{ℕ, ◌+◌, List, [], ◌∷◌, Option, Some, None}
use Rattle.seq_circle.specs.Circle.{residue}
use Rattle.congestion_trait.specs.Calls.{Call}
use Rattle.dccp_packets.specs.Outgoing.{Outgoing}
use Rattle.dccp_packets.specs.declared.header.Kind.TheVariants as kind
use Rattle.dccp_states.specs.declared.phase.Phase.{Phase}
use Rattle.dccp_endpoint.specs.Drafts.{Draft, alone, sent_of}
use Rattle.dccp_endpoint.specs.End.{EndState}
use Rattle.dccp_endpoint.specs.ShortForm.{goes_short}
use Rattle.dccp_states.specs.declared.outcome.Fault.{Fault}

-- An end after a step, the frame that it sends with its numbers, if any, the calls that are due to its congestion control, in order, and
-- its answer.
pub record Step (EndAnswer : Type 0) : Type 0 where
  pub after : EndState
  pub frame : Option Outgoing
  pub calls : List Call
  pub answer : EndAnswer

-- nothing changes and nothing is sent
abbrev pub idle : {EndAnswer : Type 0} → EndState → EndAnswer → Step EndAnswer
idle e answer = record { after = e; frame = None; calls = []; answer = answer }

-- the number of the next packet (section 7.1)
abbrev pub next_number : EndState → ℕ
next_number e = residue (e.marks.gss + 1)

-- the greatest number sent is that of the next packet
abbrev pub with_next_number : EndState → EndState
with_next_number e = record e { marks = record e.marks { gss = next_number e } }

-- the frame of a packet under the next number, in the form in which the end sends it
abbrev pub next_frame : EndState → Draft → Outgoing
next_frame e draft = sent_of e.config (goes_short e draft) (next_number e) draft

-- a packet goes out under the next number
abbrev pub sends : {EndAnswer : Type 0} → EndState → Draft → EndAnswer → Step EndAnswer
sends e draft answer =
    record { after = with_next_number e; frame = Some (next_frame e draft); calls = []; answer = answer }

-- the step with these calls due to the congestion control
abbrev pub with_calls : {EndAnswer : Type 0} → List Call → Step EndAnswer → Step EndAnswer
with_calls calls step = record step { calls = calls }

-- the three bytes of a Reset's detail
abbrev pub detail_of : Fault → List ℕ
detail_of fault = fault.first ∷ fault.second ∷ fault.third ∷ []

-- a Reset code without details
abbrev pub without_detail : ℕ → Fault
without_detail code = record { code = code; first = 0; second = 0; third = 0 }

-- a Reset that acknowledges this number and names a fault
abbrev pub reset_of : ℕ → Fault → Draft
reset_of ack fault = alone (kind.Reset ack fault.code (detail_of fault))

-- the same end in another phase
abbrev pub in_phase : EndState → Phase → EndState
in_phase e phase = record e { phase = phase }
