-- Options after those of a frame (RFC 4340, section 5.8).
use Rattle.std.specs.Prelude.{List, ℕ, Option, Some, None, Result, Ok, Err}
use Rattle.dccp_packets.specs.Grammar.{Parts, decoded}
use Rattle.dccp_packets.specs.Outgoing.{Outgoing}
use Rattle.dccp_packets.specs.declared.reading.Malformed.{Malformed}
use Rattle.dccp_sum.specs.declared.pseudo_header.Pseudo.{Pseudo}
use Rattle.dccp_endpoint.specs.Lengthening.{lengthened_if, says_more}

-- a frame that is this packet, with these options after its own, or unchanged if it has no room for them
abbrev pub appended_packet : Pseudo → List ℕ → List ℕ → Result Parts Malformed → List ℕ
appended_packet pseudo more frame (Ok p) = lengthened_if (says_more p more) pseudo p frame more
appended_packet pseudo more frame (Err fault) = frame

-- the same of its bytes
abbrev pub appended_bytes : Pseudo → List ℕ → List ℕ → List ℕ
appended_bytes pseudo more frame = appended_packet pseudo more frame (decoded frame)

-- A frame that goes out, if one does, with these options after its own.
abbrev pub appended : Pseudo → List ℕ → Option Outgoing → Option Outgoing
appended pseudo more None = None
appended pseudo more (Some sent) = Some (record sent { bytes = appended_bytes pseudo more sent.bytes })
