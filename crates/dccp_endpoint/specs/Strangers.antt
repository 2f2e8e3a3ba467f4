-- How a server's end that has received nothing yet answers a packet, if it does not stay: for an answer without the end (RFC 4340, section 8.5).
use Rattle.std.specs.Prelude.{◌≡◌, true, false, Option, Some, None, Result, Ok, Err, ℕ}
use Rattle.dccp_packets.specs.Outgoing.{Outgoing}
use Rattle.dccp_endpoint.specs.Drafts.{sent_of}
use Rattle.dccp_endpoint.specs.End.{is_begun, new_end}
use Rattle.dccp_endpoint.specs.Steps.{Step, detail_of, next_number, reset_of}
use Rattle.dccp_endpoint.specs.declared.config.Config.{Config}
use Rattle.dccp_states.specs.declared.outcome.Fault.{Fault}
use Rattle.dccp_states.specs.declared.outcome.Outcome.{Outcome}
use Rattle.dccp_states.specs.declared.outcome.Outcome.TheVariants.{SentReset}

-- What is returned for the step of a fresh end, with the frame that goes out: its answer if it does not stay, and otherwise nothing. An end
-- stays once it has left LISTEN, until it is CLOSED (own).
abbrev pub IsStrangerAnswered : Step Outcome → Option Outgoing → Option Outcome → Type 0
IsStrangerAnswered step frame (Some outcome) = (step.frame ≡ frame) × (step.answer ≡ outcome) × (is_begun step.after.phase ≡ false)
IsStrangerAnswered step frame None = (frame ≡ None) × (is_begun step.after.phase ≡ true)

-- the same of a Request with this number for its service, by the fault of the options, if there is one
abbrev pub IsRequestAnswered : Config → ℕ → Result (Unit {0}) Fault → Option Outgoing → Option Outcome → Type 0
IsRequestAnswered config number (Ok _) frame told = (frame ≡ None) × (told ≡ None)
IsRequestAnswered config number (Err fault) frame told =
    (frame ≡ Some (sent_of config false (next_number (new_end config)) (reset_of number fault))) × (told ≡ Some (SentReset fault.code (detail_of fault)))
