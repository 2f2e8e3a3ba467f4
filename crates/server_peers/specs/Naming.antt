-- The name under which a listener of IPv4 knows a peer whose packets travel between other addresses: addresses of IPv6, or those on which both
-- ends have agreed if addresses are translated on the way (own; RFC 4340, section 9.1; RFC 1071).
use Rattle.std.specs.Prelude.{◌≡◌, ◌<◌, ◌+◌, ◌-◌, ◌%◌, ◌^◌, ◌++◌, ℕ, List, length}
use Rattle.byteorder.specs.Endian.{big_bytes}
use Rattle.dccp_listener.specs.declared.peer.Peer.{Peer}
use Rattle.dccp_sum.specs.Checksum.{checked, sealed}
use Rattle.dccp_sum.specs.Words.{word_sum}
use Rattle.dccp_sum.specs.declared.pseudo_header.Pseudo.{Pseudo}
use Rattle.dccp_sum.specs.declared.pseudo_header.Pseudo.TheVariants.{V4, V6}

-- what the addresses add to the checksum's sum
abbrev pub address_words : Pseudo → ℕ
address_words (V4 from to) = word_sum from + word_sum to
address_words (V6 from to) = word_sum from + word_sum to

-- the addresses have the length of their family
abbrev pub IsSized : Pseudo → Type 0
IsSized (V4 from to) = (length from ≡ 4) × (length to ≡ 4)
IsSized (V6 from to) = (length from ≡ 16) × (length to ≡ 16)

-- the word that is to be added to a sum, so that it counts as the wanted one
abbrev pub missing_word : ℕ → ℕ → ℕ
missing_word wanted held = (wanted + (65535 - held % 65535)) % 65535

-- A name for the peer of this path, at a listener at this address. Each turn gives another name, all with the path's sum. Its port is that of
-- the peer's packets.
abbrev pub stand_in : List ℕ → Pseudo → ℕ → ℕ → Peer
stand_in own path port turn =
    record { address = big_bytes 2 turn ++ big_bytes 2 (missing_word (address_words path) (word_sum own + turn)); port = port }

-- Between addresses with the same sum, every packet has the same verdict and gets the same checksum.
abbrev pub EqualSumsReadAlike : Type 0
EqualSumsReadAlike =
    (one other : Pseudo) (bytes : List ℕ) → IsSized one → IsSized other → length bytes < 2 ^ 16
    → address_words one % 65535 ≡ address_words other % 65535
    → (checked one bytes ≡ checked other bytes) × (sealed one bytes ≡ sealed other bytes)

-- A stand-in has the same sum as the peer of its path.
abbrev pub StandInsCountAlike : Type 0
StandInsCountAlike =
    (own : List ℕ) (path : Pseudo) (port turn : ℕ) → length own ≡ 4 → turn < 2 ^ 16
    → address_words (V4 own (stand_in own path port turn).address) % 65535 ≡ address_words path % 65535
