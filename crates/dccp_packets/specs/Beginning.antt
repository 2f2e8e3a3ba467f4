-- A packet that is written in pieces (own): first its header, then its options, and last its Data Offset and its data.
use Rattle.std.specs.Prelude.{◌≡◌, ℕ, List, ◌++◌, length}
use Rattle.dccp_packets.specs.declared.header.Header.{Header}
use Rattle.dccp_packets.specs.Grammar.{header_bytes, header_length}

-- The bytes begin a packet: a whole header, whose Data Offset is zero, and then these options.
pub record Begins (header : Header) (options bytes : List ℕ) : Type 0 where
  pub is : bytes ≡ header_bytes header 0 ++ options
  pub whole : length (header_bytes header 0) ≡ header_length header
