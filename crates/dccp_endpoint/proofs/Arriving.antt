-- What step 1 lets pass.
use Rattle.std.proofs.Common.{◌≡◌, ◌∙◌, ap, sym, ℕ, List, Ok}
use Rattle.dccp_packets.specs.Grammar.{Parts, decoded}
use Rattle.dccp_endpoint.specs.End.{EndState}
use Rattle.dccp_endpoint.specs.Incoming.{incoming}
use Rattle.dccp_endpoint.specs.Receiving.{arrives, checks_header, received, receives, takes, with_own_number, with_packet}

-- bytes that pass step 1 are the incoming packet
pub arrives_so : (e : EndState) (bytes : List ℕ) (p : Parts) (number : ℕ) → decoded bytes ≡ Ok p → checks_header e bytes p.header ≡ Ok number
    → arrives e bytes ≡ Ok (incoming e bytes p number)
arrives_so e bytes p number is numbered = ap (with_packet e bytes) is ∙ ap (with_own_number e bytes p) numbered

-- and the rest of the step is of that packet
pub arrived_step : (e : EndState) (bytes : List ℕ) (p : Parts) (number : ℕ) → decoded bytes ≡ Ok p → checks_header e bytes p.header ≡ Ok number
    → takes e (incoming e bytes p number) ≡ receives e bytes
unfolding receives
arrived_step e bytes p number is numbered = sym (ap (received e) (arrives_so e bytes p number is numbered))
