-- The lengths of the packets of data, and that the longest data fit them.
use Rattle.std.proofs.Common.{◌≡◌, ◌≢◌, ℕ, ◌+◌, ◌-◌, ◌*◌, ◌/◌, ◌%◌, ◌≤◌, nat_lt, nat_le, Bool, true, false, not, IsTrue, List, [], ◌∷◌, ◌++◌, length, replicate, min, Option, Some, None, Err, IfSome, refl, ap, arith, if◌then◌else◌}
use Rattle.std.proofs.lemmas.Bool.{le-leb, le-ltb}
use Rattle.std.proofs.lemmas.List.{length-append, length-replicate, length-take}
use Rattle.run_list.specs.MarkedSet.{MarkedSet, has}
use Rattle.ack_vectors.specs.declared.room.Vectors.TheVariants.{One}
use Rattle.ack_vectors.specs.Vector.{all_bytes, numbers_between, set_states, vector_under}
use Rattle.ack_vectors.proofs.ReadBack.{length-states_down, plain-set, states-all_bytes, states-long}
use Rattle.ccid_two.specs.Kinds.{Both}
use Rattle.dccp_packets.specs.Forms.{in_form, number_in_form}
use Rattle.dccp_packets.specs.Grammar.{fixed_length, header_bytes, header_length, is_long, is_valid, packet_type, padded, spelling}
use Rattle.dccp_packets.specs.Widths.{HasDetail}
use Rattle.dccp_packets.specs.declared.header.Kind.{Kind}
use Rattle.dccp_packets.specs.declared.header.Kind.TheVariants.{Data, DataAck}
use Rattle.dccp_packets.specs.declared.header.Number.TheVariants.{Long}
use Rattle.dccp_packets.proofs.Lengths.{length-header_bytes, shortest}
use Rattle.dccp_sum.specs.Checksum.{checksum, sealed, sealed_over, with_checksum}
use Rattle.dccp_sum.specs.Coverage.{covered}
use Rattle.dccp_sum.specs.declared.pseudo_header.Pseudo.{Pseudo}
use Rattle.dccp_states.specs.declared.calls.SendFault.{SendFault}
use Rattle.dccp_states.specs.declared.calls.SendFault.TheVariants as fault
use Rattle.dccp_endpoint.specs.declared.config.Config.{Config}
use Rattle.dccp_endpoint.specs.Calling.{lacks_vectors, sends_payload, sends_unless, send_fault}
use Rattle.dccp_endpoint.specs.Controlled.{End}
use Rattle.dccp_endpoint.specs.Drafts.{frame_of, framed, own_header}
use Rattle.dccp_endpoint.specs.End.{EndState, is_open}
use Rattle.dccp_endpoint.specs.Reporting.{sends_vectors, vector_items}
use Rattle.dccp_endpoint.specs.Steps.{next_number}
use Rattle.dccp_c.specs.Fates.{longest_in, most_options_beside}
use Rattle.dccp_c.specs.Fitting.{LongestDataFit}

-- a checksum takes the place of two bytes
length-with_checksum : (sum : ℕ) (bytes : List ℕ) → 8 ≤ length bytes → length (with_checksum sum bytes) ≡ length bytes
length-with_checksum sum [] long = absurd (omega arith)
length-with_checksum sum (a ∷ []) long = absurd (omega arith)
length-with_checksum sum (a ∷ b ∷ []) long = absurd (omega arith)
length-with_checksum sum (a ∷ b ∷ c ∷ []) long = absurd (omega arith)
length-with_checksum sum (a ∷ b ∷ c ∷ d ∷ []) long = absurd (omega arith)
length-with_checksum sum (a ∷ b ∷ c ∷ d ∷ e ∷ []) long = absurd (omega arith)
length-with_checksum sum (a ∷ b ∷ c ∷ d ∷ e ∷ f ∷ []) long = absurd (omega arith)
length-with_checksum sum (a ∷ b ∷ c ∷ d ∷ e ∷ f ∷ g ∷ []) long = absurd (omega arith)
length-with_checksum sum (a ∷ b ∷ c ∷ d ∷ e ∷ f ∷ g ∷ h ∷ rest) long = refl

length-sealed_over : (pseudo : Pseudo) (bytes : List ℕ) (count : Option ℕ) → 8 ≤ length bytes → length (sealed_over pseudo bytes count) ≡ length bytes
length-sealed_over pseudo bytes None long = refl
length-sealed_over pseudo bytes (Some count) long = length-with_checksum (checksum pseudo bytes count) bytes long

length-sealed : (pseudo : Pseudo) (bytes : List ℕ) → 8 ≤ length bytes → length (sealed pseudo bytes) ≡ length bytes
length-sealed pseudo bytes long = length-sealed_over pseudo bytes (covered bytes) long

length-padded : (area : List ℕ) → length (padded area) ≡ 4 * ((length area + 3) / 4)
length-padded area =
    let whole = length-append area (replicate ((4 - length area % 4) % 4) 0) in
    let zeros = length-replicate {A = ℕ} ((4 - length area % 4) % 4) 0 in
    omega (arith, whole, zeros)

-- a frame has its fixed part, its options and its data
length-framed : (config : Config) (short : Bool) (number : ℕ) (kind : Kind) (area payload : List ℕ) → HasDetail (in_form short kind)
    → IsTrue (is_valid (own_header config short number kind))
    → length (framed config short number kind area payload)
    ≡ fixed_length (is_long (number_in_form short number)) (packet_type (in_form short kind)) + 4 * ((length area + 3) / 4) + length payload
unfolding framed
length-framed config short number kind area payload detailed valid =
    let header = own_header config short number kind in
    let words = (header_length header + length (padded area)) / 4 in
    let front = length-header_bytes header words detailed valid in
    let all = length-append (header_bytes header words) (padded area ++ payload) in
    let following = length-append (padded area) payload in
    let filled = length-padded area in
    let least = shortest (is_long header.number) (packet_type header.kind) in
    let same = length-sealed config.pseudo_out (spelling header area payload) (omega (arith, front, all, least)) in
    omega (arith, front, all, following, filled, same)

-- a vector has no more bytes than numbers, nor than one option has room for
length-vector : (set : List ℕ) (floor ack : ℕ) → length (vector_under (has set) floor ack One) ≤ min (numbers_between floor ack) 253
length-vector set floor ack =
    let all = all_bytes (set_states (has set)) floor ack in
    let told = ap (λ (l : List ℕ). length l) (states-all_bytes (set_states (has set)) floor ack (plain-set (has set))) in
    let long = states-long all in
    let count = length-states_down (set_states (has set)) (numbers_between floor ack) ack in
    let cut = length-take 253 all in
    omega (arith, told, long, count, cut)

-- the bytes of data, on a DataAck with these options and on a Data
length-data_ack : (config : Config) (short : Bool) (number ack : ℕ) (area payload : List ℕ)
    → length (framed config short number (DataAck (Long ack)) area payload) ≤ 24 + 4 * ((length area + 3) / 4) + length payload
length-data_ack config true number ack area payload =
    let all = length-framed config true number (DataAck (Long ack)) area payload tt refl in omega (arith, all)
length-data_ack config false number ack area payload =
    let all = length-framed config false number (DataAck (Long ack)) area payload tt refl in omega (arith, all)

length-data : (config : Config) (short : Bool) (number : ℕ) (payload : List ℕ)
    → length (framed config short number Data [] payload) ≤ 24 + length payload
length-data config true number payload = let all = length-framed config true number Data [] payload tt refl in omega (arith, all)
length-data config false number payload = let all = length-framed config false number Data [] payload tt refl in omega (arith, all)

-- what is too long is no other fault's
never_too_long : (in_phase lacks may_send : Bool) → (if not in_phase then Some fault.NotOpen
    else if false then Some fault.TooLong
    else if lacks then Some fault.NotNegotiated
    else if not may_send then Some fault.WindowFull
    else None) ≢ Some fault.TooLong
never_too_long false lacks may_send = λ h. cc
never_too_long true true may_send = λ h. cc
never_too_long true false false = λ h. cc
never_too_long true false true = λ h. cc

-- a DataAck with the vector of a set, if one goes out
data_ack_fits : (config : Config) (short sends : Bool) (number ack most : ℕ) (set : MarkedSet) (payload : List ℕ) → 1 ≤ length payload
    → length payload ≤ min 1024 (most - (24 + most_options_beside sends (numbers_between set.floor ack)))
    → length (frame_of config short number (record { kind = DataAck (Long ack); options = vector_items sends One set ack ++ []; payload = payload })) ≤ most
data_ack_fits config short false number ack most set payload some fits =
    let all = length-data_ack config short number ack [] payload in
    omega (arith, all)
data_ack_fits config short true number ack most set payload some fits =
    let vector = vector_under (has set.numbers) set.floor ack One in
    let few = length-vector set.numbers set.floor ack in
    let one : nat_le (length vector) 253 ≡ true = le-leb (length vector) 253 (omega (arith, few)) in
    let body = length-append vector [] in
    let all = length-data_ack config short number ack (38 ∷ (length vector + 2) ∷ (vector ++ [])) payload in
    rw one (omega (arith, all, body, few))

data_fits : (config : Config) (short : Bool) (number most beside : ℕ) (payload : List ℕ) → 1 ≤ length payload
    → length payload ≤ min 1024 (most - (24 + beside))
    → length (frame_of config short number (record { kind = Data; options = []; payload = payload })) ≤ most
data_fits config short number most beside payload some fits = let all = length-data config short number payload in omega (arith, all)

-- data of up to 1,024 bytes are not too long
not_too_long : (e : EndState) (payload : List ℕ) (may_send : Bool) → length payload ≤ 1024 → send_fault e payload may_send ≢ Some fault.TooLong
not_too_long e payload may_send few =
    let short : nat_lt 1024 (length payload) ≡ false = le-ltb 1024 (length payload) few in
    rw short (never_too_long (is_open e.phase) (lacks_vectors e.rows) may_send)

data_fit : (e : End Both) (payload : List ℕ) (most : ℕ) (acknowledges : Bool) (why : Option SendFault) → e.state.config.vectors ≡ One
    → 1 ≤ length payload → length payload ≤ longest_in most (Some e) → why ≢ Some fault.TooLong
    → ((sends_unless e.state payload acknowledges why).answer ≢ Err fault.TooLong)
    × IfSome (sends_unless e.state payload acknowledges why).frame (λ frame. length frame.bytes ≤ most)
unfolding framed
data_fit e payload most acknowledges (Some other) one some fits else_is = (λ h. else_is (cc), tt)
data_fit e payload most true None one some fits else_is = (
  λ h. cc,
  rw one (data_ack_fits e.state.config _ (sends_vectors e.state.rows) (next_number e.state) e.state.marks.gsr most e.state.received.set payload some fits),
)
data_fit e payload most false None one some fits else_is = (
  λ h. cc,
  data_fits e.state.config _ (next_number e.state) most _ payload some fits,
)

pub longest_data_fit : LongestDataFit
unfolding sends_payload
longest_data_fit e payload most may_send one some fits =
    data_fit e payload most e.state.owed (send_fault e.state payload may_send) one some fits
    (not_too_long e.state payload may_send (omega (arith, fits)))
