-- A word with more parts than a peer or an address has is none.
use Rattle.std.proofs.Common.{◌≡◌, ap, ℕ, ◌==◌, List, ◌∷◌, None}
use Rattle.tool_text.specs.Words.{parted_by}
use Rattle.tool_text.proofs.Pieces.{has_first}
use Rattle.tool_jobs.specs.Peers.{address_of_parts, peer_of_parts}

pub five_parts : (a b c d rest : List ℕ) → address_of_parts (a ∷ (b ∷ (c ∷ (d ∷ parted_by 46 rest)))) ≡ None
five_parts a b c d rest = ap (λ (parts : List (List ℕ)). address_of_parts (a ∷ (b ∷ (c ∷ (d ∷ parts))))) (has_first (λ byte. byte == 46) rest).2

pub three_parts : (address port rest : List ℕ) → peer_of_parts (address ∷ (port ∷ parted_by 58 rest)) ≡ None
three_parts address port rest = ap (λ (parts : List (List ℕ)). peer_of_parts (address ∷ (port ∷ parts))) (has_first (λ byte. byte == 58) rest).2
