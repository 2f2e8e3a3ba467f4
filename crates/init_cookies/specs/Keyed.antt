-- A keyed hash: HMAC (RFC 2104) over SHA-256 (FIPS 180-4).
use Rattle.std.specs.Prelude.{ℕ, List, ◌++◌, bit_xor, map, replicate}
use Rattle.sha2.specs.Sha256.{sha256}

-- a key, each of its bytes combined with this one by an exclusive or
abbrev pub masked_key : ℕ → List ℕ → List ℕ
masked_key mask key = map (λ byte. bit_xor byte mask) key

-- The hash of a block and of a text after it. The block is a key of 32 bytes, filled with zeros to 64, each byte combined with this one by an
-- exclusive or (RFC 2104, section 2).
abbrev pub hash_after : ℕ → List ℕ → List ℕ → List ℕ
hash_after mask key text = sha256 ((masked_key mask key ++ replicate 32 mask) ++ text)

-- H(K XOR opad, H(K XOR ipad, text)), where ipad is the byte 0x36 repeated and opad 0x5c (RFC 2104, section 2)
abbrev pub keyed_hash : List ℕ → List ℕ → List ℕ
keyed_hash key text = hash_after 92 key (hash_after 54 key text)
