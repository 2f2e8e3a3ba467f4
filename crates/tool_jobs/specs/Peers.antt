-- Peers as lines have them (own): an IPv4 address and a port in decimal, without leading zeros, such as `10.0.0.1:40000`.
use Rattle.std.specs.Prelude.{◌≡◌, ℕ, ◌<◌, ◌++◌, List, [], ◌∷◌, length, All, codes, decimal, Option, Some, None}
use Rattle.dccp_listener.specs.declared.peer.Peer.{Peer}
use Rattle.tool_text.specs.Numbers.{number_below}
use Rattle.tool_text.specs.Text.{v4_text}
use Rattle.tool_text.specs.Kinds.{KindOfWords, found_kind}
use Rattle.tool_text.specs.Words.{parted_by}
use Rattle.tool_text.specs.declared.words.faults.LineWhy.TheVariants as why

-- a peer as text
unfoldable pub peer_text : Peer → List ℕ
peer_text peer = v4_text peer.address ++ codes ":" ++ decimal peer.port

-- four numbers, if each is there
abbrev pub all_four : Option ℕ → Option ℕ → Option ℕ → Option ℕ → Option (List ℕ)
all_four (Some a) (Some b) (Some c) (Some d) = Some (a ∷ b ∷ c ∷ d ∷ [])
all_four _ _ _ _ = None

-- an address: four numbers below 256
abbrev pub address_of_parts : List (List ℕ) → Option (List ℕ)
address_of_parts (a ∷ (b ∷ (c ∷ (d ∷ [])))) = all_four (number_below 256 a) (number_below 256 b) (number_below 256 c) (number_below 256 d)
address_of_parts _ = None

-- a peer of this address and port, if both are there
abbrev pub peer_at : Option (List ℕ) → Option ℕ → Option Peer
peer_at (Some address) (Some port) = Some (record { address = address; port = port })
peer_at _ _ = None

-- an address, whose numbers are separated by dots, and a port below 65,536
abbrev pub peer_of_parts : List (List ℕ) → Option Peer
peer_of_parts (address ∷ (port ∷ [])) = peer_at (address_of_parts (parted_by 46 address)) (number_below 65536 port)
peer_of_parts _ = None

-- the peer that a word spells, if it spells one: a colon separates address and port
abbrev pub peer_of : List ℕ → Option Peer
peer_of word = peer_of_parts (parted_by 58 word)

-- the possible peers
pub record IsPeer (peer : Peer) : Type 0 where
  pub four : length peer.address ≡ 4
  pub bytes : All (λ byte. byte < 256) peer.address
  pub small : peer.port < 65536

-- peers, each with its only spelling
abbrev pub peer_kind : KindOfWords Peer
peer_kind = found_kind why.BadPeer peer_of (λ peer text. (text ≡ peer_text peer) × IsPeer peer)
