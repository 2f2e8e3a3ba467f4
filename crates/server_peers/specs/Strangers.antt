-- How many answers go to strangers: peers that have no flow (RFC 4340, section 8.1.3; own).
use Rattle.std.specs.Prelude.{ℕ, ◌==◌, Bool, true, false, Option, Some, None, if◌then◌else◌, Result, Ok, Err}
use Rattle.dccp_packets.specs.Outgoing.{Outgoing}
use Rattle.dccp_packets.specs.ResetCodes.{number_of_code}
use Rattle.dccp_packets.specs.declared.reset_code.ResetCode.TheVariants as codes
use Rattle.dccp_listener.specs.Runs.{CallTold, Stepped, told_of}
use Rattle.dccp_states.specs.declared.outcome.Outcome.TheVariants.{SentReset}
use Rattle.dccp_states.specs.declared.seen.Seen.TheVariants.{Received}
use Rattle.path_rules.specs.Limits.{full, resets_to_strangers, token_taken}
use Rattle.path_rules.specs.declared.limits.Bucket.{Bucket}
use Rattle.path_rules.specs.declared.limits.Limit.{Limit}
use Rattle.path_rules.specs.declared.limits.TokenGrant.{TokenGrant}
use Rattle.server_peers.specs.Rules.{answers_to_strangers}
use Rattle.server_peers.specs.declared.rules.Rules.{Rules}
use Rattle.server_peers.specs.declared.strangers.StrangerAnswer.{StrangerAnswer}
use Rattle.server_peers.specs.declared.strangers.Strangers.{Strangers}
use Rattle.dccp_listener.specs.declared.calls.Heard.{Heard}
use Rattle.seq_circle.specs.declared.memory.NoMemory.{NoMemory}

-- no answer has gone out yet
abbrev pub strangers_begin : Strangers
strangers_begin = record { answers = full answers_to_strangers 0; resets = full resets_to_strangers 0 }

-- a token is taken; without a limit none is needed
abbrev pub taken_if : Option Limit → Bucket → ℕ → TokenGrant
taken_if None bucket now = record { granted = true; bucket = bucket }
taken_if (Some limit) bucket now = token_taken limit bucket now

-- the result of a datagram: nothing if it was left out, or if there was no memory
abbrev pub told_of_arrival : Result (Option Heard) NoMemory → Option CallTold
told_of_arrival (Ok None) = None
told_of_arrival (Ok (Some it)) = Some (told_of (Ok it))
told_of_arrival (Err _) = None

-- the answer is a Reset to a packet that belongs to no connection (RFC 4340, section 5.6: No Connection)
abbrev pub is_no_connection : Option CallTold → Bool
is_no_connection (Some (Stepped (Some (Received (SentReset code detail))))) = code == number_of_code codes.NoConnection
is_no_connection _ = false

-- the answer, with what is left of the limit of all answers
abbrev pub answers_spared : Strangers → TokenGrant → StrangerAnswer
answers_spared it taking = record { goes = taking.granted; strangers = record it { answers = taking.bucket } }

-- an answer takes one token
abbrev pub answer_spared : ℕ → Rules → Strangers → StrangerAnswer
answer_spared now rules it = answers_spared it (taken_if rules.answers it.answers now)

-- a Reset without a connection takes another one first, and does not go out if there is none
abbrev pub reset_spared : ℕ → Rules → Strangers → TokenGrant → StrangerAnswer
reset_spared now rules it taking =
    if taking.granted then answer_spared now rules (record it { resets = taking.bucket })
    else record { goes = false; strangers = record it { resets = taking.bucket } }

-- whether an answer to a stranger goes out, by what it is
abbrev pub spared : ℕ → Rules → Strangers → Bool → StrangerAnswer
spared now rules it true = reset_spared now rules it (taken_if rules.resets it.resets now)
spared now rules it false = answer_spared now rules it

-- whether a frame goes out, and what is left of the limits; one to a peer with a flow always goes out
abbrev pub spared_if : ℕ → Rules → Strangers → Bool → Option CallTold → StrangerAnswer
spared_if now rules it true told = spared now rules it (is_no_connection told)
spared_if now rules it false told = record { goes = true; strangers = it }

-- the frame, if it goes out
abbrev pub frame_if_goes : Bool → Option Outgoing → Option Outgoing
frame_if_goes goes frame = if goes then frame else None
