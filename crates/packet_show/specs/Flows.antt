-- Flows: the two ends between which packets go, in either direction (own).
use Rattle.std.specs.Prelude.{◌≡◌, ℕ, ◌≤◌, ◌<◌, ◌+◌, ◌*◌, ◌%◌, ◌^◌, Bool, ◌&&◌, ◌||◌, ◌==◌, nat_lt, if◌then◌else◌, List, [], ◌∷◌, ◌++◌, length, position, Option, Some, None}
use Rattle.std.specs.BTreeMap.{is_at}
use Rattle.std.specs.List.{list_any, position_from}
use Rattle.std.specs.Map.{lookup}
use Rattle.std.specs.Ordering.{nat_cmp, ordering_then}
use Rattle.std.specs.declared.cmp.Ordering.{Ordering}
use Rattle.byteorder.specs.Endian.{big_number}
use Rattle.dccp_sum.specs.declared.pseudo_header.Pseudo.{Pseudo}
use Rattle.dccp_sum.specs.declared.pseudo_header.Pseudo.TheVariants.{V4, V6}

-- one end: its address as a number, and its port
abbrev pub AddressAndPort : Type 0
AddressAndPort = ℕ × ℕ

-- the version of IP, and both ends, the lesser first
abbrev pub Flow : Type 0
Flow = ℕ × AddressAndPort × AddressAndPort

-- the version of IP of two addresses
abbrev pub version_of : Pseudo → ℕ
version_of (V4 from to) = 4
version_of (V6 from to) = 6

-- the end that sends a packet: its source address, and this port
abbrev pub from_end : Pseudo → ℕ → AddressAndPort
from_end (V4 from to) port = (big_number 4 from, port)
from_end (V6 from to) port = (big_number 16 from, port)

-- the end that receives a packet: its destination address, and this port
abbrev pub to_end : Pseudo → ℕ → AddressAndPort
to_end (V4 from to) port = (big_number 4 to, port)
to_end (V6 from to) port = (big_number 16 to, port)

-- ends have an order: by address, then by port
abbrev pub is_lesser_end : AddressAndPort → AddressAndPort → Bool
is_lesser_end a b = nat_lt a.0 b.0 || (a.0 == b.0 && nat_lt a.1 b.1)

-- the flow between two ends, whichever sends
abbrev pub flow_between : ℕ → AddressAndPort → AddressAndPort → Flow
flow_between version a b = if is_lesser_end b a then (version, b, a) else (version, a, b)

-- the flow of a packet between these addresses and ports
abbrev pub flow_of : Pseudo → ℕ → ℕ → Flow
flow_of pseudo from to = flow_between (version_of pseudo) (from_end pseudo from) (to_end pseudo to)

-- two ends are the same if address and port are
abbrev pub same_end : AddressAndPort → AddressAndPort → Bool
same_end a b = a.0 == b.0 && a.1 == b.1

-- two flows are the same if the version of IP and both ends are
abbrev pub same_flow : Flow → Flow → Bool
same_flow a b = (a.0 == b.0 && same_end a.1 b.1) && same_end a.2 b.2

-- the number of the flow at this place, from 1; a new one has the next number
abbrev pub flow_number_at : Option ℕ → List Flow → ℕ
flow_number_at (Some place) seen = place + 1
flow_number_at None seen = length seen + 1

-- the flow's number, if these flows were seen
abbrev pub flow_number : Flow → List Flow → ℕ
flow_number flow seen = flow_number_at (position (same_flow flow) seen) seen

-- the flows that were seen once this one was seen too
abbrev pub with_flow : Flow → List Flow → List Flow
with_flow flow seen = if list_any (same_flow flow) seen then seen else seen ++ flow ∷ []

-- a number times a factor, plus another, in 64 bits
abbrev pub blended : ℕ → ℕ → ℕ → ℕ
blended number factor more = (number * factor % 2 ^ 64 + more) % 2 ^ 64

-- a number of 64 bits that is computed from both ends, and is seldom the same for two flows
abbrev pub mixed : Flow → ℕ
mixed flow =
    blended (flow.1.0 % 2 ^ 64) 11400714819323198485
    (blended (flow.2.0 % 2 ^ 64) 7640891576956012809 (blended flow.1.1 65536 flow.2.1))

-- the key under which a flow is found: its mixed number, both ports and the version, and both addresses
abbrev pub FlowKey : Type 0
FlowKey = ℕ × (ℕ × ℕ × ℕ) × (ℕ × ℕ)

-- the key of a flow
abbrev pub key_of : Flow → FlowKey
key_of flow = (mixed flow, (flow.1.1, flow.2.1, flow.0), (flow.1.0, flow.2.0))

-- the order of keys: by the mixed number, then by the rest from the left
abbrev pub key_cmp : FlowKey → FlowKey → Ordering
key_cmp a b =
    ordering_then
    (ordering_then (nat_cmp a.0 b.0) (ordering_then (ordering_then (nat_cmp a.1.0 b.1.0) (nat_cmp a.1.1 b.1.1)) (nat_cmp a.1.2 b.1.2)))
    (ordering_then (nat_cmp a.2.0 b.2.0) (nat_cmp a.2.1 b.2.1))

-- the number of a flow that was seen, if the first of these has this number
abbrev pub flow_number_from : ℕ → Flow → List Flow → Option ℕ
flow_number_from first flow seen = position_from (same_flow flow) first seen

-- the number of a flow that was seen, from 1 in the order in which they were
abbrev pub number_if_seen : Flow → List Flow → Option ℕ
number_if_seen flow seen = flow_number_from 1 flow seen

-- This many flows are in a set, and further ones in an ordered map (own).
abbrev pub most_first : ℕ
most_first = 4096

-- the number of the first further one
abbrev pub first_further : ℕ
first_further = 4097

-- Flows are in a set, and further ones after it once the set is full.
pub record IsSplit (first further : List Flow) : Type 0 where
  pub few : length first ≤ most_first
  pub full : length first < most_first → further ≡ []

-- A map in the order of keys has, under the key of each further flow that was seen, its number, and nothing under the keys of other flows.
abbrev pub HasNumbers : List (FlowKey × ℕ) → List Flow → Type 0
HasNumbers numbers further = (flow : Flow) → lookup (is_at (key_cmp (key_of flow))) numbers ≡ flow_number_from first_further flow further
