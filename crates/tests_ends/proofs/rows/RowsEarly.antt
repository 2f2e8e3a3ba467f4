-- Worked data of a client that speaks first, computed from the definitions: what `send_early` puts out, what it is refused for, and what a
-- server in RESPOND and in OPEN does with it.
use Rattle.std.proofs.Common.{◌≡◌, refl, true, false, [], ◌∷◌, Some, None, Ok, Err}
use Prim.Native.String.{String}
use Rattle.dccp_states.specs.declared.phase.Phase.TheVariants as phase
use Rattle.dccp_endpoint.specs.Calling.{Called, opens}
use Rattle.dccp_endpoint.specs.Drafts.{framed}
use Rattle.dccp_endpoint.specs.Early.{sends_early}
use Rattle.dccp_endpoint.specs.End.{EndState}
use Rattle.dccp_endpoint.specs.Receiving.{receives}
use Rattle.dccp_endpoint.specs.Steps.{Step}
use Rattle.dccp_states.specs.declared.calls.SendFault.{SendFault}
use Rattle.dccp_states.specs.declared.calls.SendFault.TheVariants.{NotNegotiated, NotOpen, TooLong, WindowFull}
use Rattle.dccp_states.specs.declared.outcome.Outcome.{Outcome}
use Rattle.dccp_states.specs.declared.outcome.Outcome.TheVariants.{Took}
use Rattle.tests_ends.proofs.rows.RowsData.{longest, too_long, usual_client}
use Rattle.tests_ends.proofs.rows.RowsOffers.{usual_ack, usual_open, usual_part_open, usual_responding}
use Rattle.tests_ends.proofs.rows.RowsSeen.{Reported, Sent, arrives, calls_at, requesting, response, seen, sent}

-- The client of the usual connection sends two packets with data after its Ack 1001, before the server's first Ack: each a DataAck that
-- acknowledges the Response, though nothing is owed.
abbrev early_aa : Called SendFault
early_aa = sends_early usual_part_open (170 ∷ []) true

abbrev early_bb : Called SendFault
early_bb = sends_early early_aa.after (187 ∷ []) true

abbrev first_data : String
first_data = "9c4013890700503709000000000003ea00000000000007d026030000aa"

early-data-of-client :
    (usual_part_open.owed ≡ false)
    × (seen early_aa ≡ (Ok tt, sent first_data, phase.PartOpen))
    × (calls_at [] early_aa ≡ Sent 1002 ∷ [])
    × (early_aa.after.received.records ≡ record { number = 1001; ack = 2000; whole = true } ∷ record { number = 1002; ack = 2000; whole = true } ∷ [])
    × (seen early_bb ≡ (Ok tt, sent "9c40138907003f3609000000000003eb00000000000007d026030000bb", phase.PartOpen))
    × (calls_at [] early_bb ≡ Sent 1003 ∷ [])
unfolding receives opens sends_early framed
early-data-of-client = (refl, refl, refl, refl, refl, refl)

-- In RESPOND such a packet opens the server, is delivered, and is answered by the Ack that reports it and not 1001. The client's Ack, which
-- comes late, changes nothing more. In OPEN it is data as any other.
abbrev heard_first : Step Outcome
heard_first = arrives usual_responding first_data

abbrev first_answer : String
first_answer = "13899c400800fa7107000000000007d100000000000003ea260500c000000000"

early-data-at-server :
    (seen heard_first ≡ (Took (Some (28, 29)), sent first_answer, phase.Open))
    × (seen (arrives heard_first.after usual_ack) ≡ (Took None, None, phase.Open))
    × (seen (arrives heard_first.after first_data) ≡ (Took None, None, phase.Open))
    × (seen (arrives usual_open first_data) ≡ (Took (Some (28, 29)), None, phase.Open))
    × (seen (arrives early_aa.after first_answer) ≡ (Took None, None, phase.Open))
    × (calls_at (1003 ∷ 1002 ∷ 1001 ∷ 1000 ∷ []) (arrives early_aa.after first_answer) ≡ Reported (None ∷ Some 0 ∷ Some 3 ∷ Some 0 ∷ []) 2 ∷ [])
unfolding receives opens sends_early framed
early-data-at-server = (refl, refl, refl, refl, refl, refl)

-- Each reason comes before the next, as for `send`: another phase, the length, the Ack Vectors that CCID 2 needs, and the window.
abbrev plain_part_open : EndState
plain_part_open = (arrives requesting response).after

refused-early :
    (seen (sends_early usual_client too_long false) ≡ (Err NotOpen, None, phase.Open))
    × (seen (sends_early usual_responding too_long false) ≡ (Err NotOpen, None, phase.Respond))
    × (seen (sends_early plain_part_open too_long false) ≡ (Err TooLong, None, phase.PartOpen))
    × (seen (sends_early plain_part_open (170 ∷ []) false) ≡ (Err NotNegotiated, None, phase.PartOpen))
    × (seen (sends_early usual_part_open (170 ∷ []) false) ≡ (Err WindowFull, None, phase.PartOpen))
    × ((sends_early usual_part_open longest true).answer ≡ Ok tt)
unfolding receives opens sends_early framed
refused-early = (refl, refl, refl, refl, refl, refl)
