-- What a Request asked for, and how it was answered (RFC 4340, sections 5.1, 5.2 and 8.1.4; its bytes are own).
use Rattle.std.specs.Prelude.{ℕ, ◌<◌, ◌≤◌, ◌^◌, List, [], ◌++◌, length, drop}
use Rattle.byteorder.specs.Endian.{big_bytes, big_number}
use Rattle.dccp_packets.specs.Grammar.{spelling}
use Rattle.dccp_packets.specs.declared.header.Header.{Header}
use Rattle.dccp_packets.specs.declared.header.Kind.TheVariants as kind
use Rattle.dccp_packets.specs.declared.header.Number.TheVariants.{Long}
use Rattle.dccp_sum.specs.Checksum.{sealed}
use Rattle.init_cookies.specs.declared.route.Route.{Route}

-- when the Request was answered, in milliseconds, the first number of the server that answered it, and the Request's
-- number, Service Code and option area
pub record OpeningState : Type 0 where
  pub time : ℕ
  pub iss : ℕ
  pub number : ℕ
  pub service : ℕ
  pub options : List ℕ

-- an opening as bytes: 64 bits, twice 48, 32, and the options
abbrev pub opening_bytes : OpeningState → List ℕ
opening_bytes o = big_bytes 8 o.time ++ (big_bytes 6 o.iss ++ (big_bytes 6 o.number ++ (big_bytes 4 o.service ++ o.options)))

-- what such bytes hold
abbrev pub opening_read : List ℕ → OpeningState
opening_read bytes =
    record {
      time = big_number 8 bytes;
      iss = big_number 6 (drop 8 bytes);
      number = big_number 6 (drop 14 bytes);
      service = big_number 4 (drop 20 bytes);
      options = drop 24 bytes;
    }

-- its fields have their widths, and its options fit one Init Cookie with the rest
pub record FitsCookie (o : OpeningState) : Type 0 where
  pub time : o.time < 2 ^ 64
  pub iss : o.iss < 2 ^ 48
  pub number : o.number < 2 ^ 48
  pub service : o.service < 2 ^ 32
  pub options : length o.options ≤ 220

-- the header of the Request, with a checksum of zero
abbrev pub request_header : Route → OpeningState → Header
request_header r o =
    record { from = r.from; to = r.to; ccval = 0; cscov = 0; checksum = 0; number = Long o.number; kind = kind.Request o.service }

-- The Request written again, without the data that it may have had.
abbrev pub request_bytes : Route → OpeningState → List ℕ
request_bytes r o = sealed r.pseudo (spelling (request_header r o) o.options [])
