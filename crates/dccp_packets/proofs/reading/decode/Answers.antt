-- Where no fault holds, the packet has the parts of the definition.
use Rattle.std.proofs.Common.{◌≡◌, ◌∙◌, ℕ, ◌≤◌, List, Some, Ok, ap, arith, drop, length, slice_range, sym}
use Rattle.std.proofs.lemmas.Bool.{ltb-false}
use Rattle.std.proofs.lemmas.List.{take_rest}
use Rattle.dccp_packets.specs.declared.header.PacketType.{PacketType}
use Rattle.dccp_packets.specs.Grammar.{data_offset_bytes, fixed_length, type_code, type_of}
use Rattle.dccp_packets.proofs.Pieces.{decoded_ok, same_parts}
use Rattle.dccp_packets.proofs.reading.decode.Goals as goal

pub returns-clause-exact : goal.returns-clause-exact
returns-clause-exact c =
    let bytes : List ℕ = c.args.bytes.now in
    let kind : PacketType = c.in-Some.packet_type in
    let long = c.has_long_numbers-long.result in
    let fixed : ℕ = c.fixed_length-fixed.result in
    let offset : ℕ = c.data_offset_bytes-offset.result in
    let typed : type_of (type_code bytes) ≡ Some kind = sym (ap type_of c.type_code.ensures) ∙ sym c.of.ensures ∙ c.in-Some.is in
    let fixed_is : fixed ≡ fixed_length long kind = c.fixed_length-fixed.ensures in
    let offset_is : offset ≡ data_offset_bytes bytes = c.data_offset_bytes-offset.ensures.value in
    let after : fixed ≤ offset = ltb-false offset fixed (sym c.ends_before.ensures ∙ c.if-ends_before.false) in
    let above : fixed_length long kind ≤ data_offset_bytes bytes = omega (arith, after, fixed_is, offset_is) in
    let within : data_offset_bytes bytes ≤ length bytes = omega (arith, offset_is, c.if-bytes-offset.false) in
    let options : slice_range bytes fixed offset ≡ slice_range bytes (fixed_length long kind) (data_offset_bytes bytes) =
    ap (λ (n : ℕ). slice_range bytes n offset) fixed_is ∙ ap (slice_range bytes (fixed_length long kind)) offset_is in
    let payload : slice_range bytes offset (length bytes) ≡ drop (data_offset_bytes bytes) bytes =
    take_rest bytes offset ∙ ap (λ (n : ℕ). drop n bytes) offset_is in
    decoded_ok kind long bytes c.if-bytes-lt-SHORTEST.false typed (sym c.has_long_numbers-long.ensures) above within
    (sym c.has_form.ensures ∙ c.if-not-has_form.false)
    ∙ ap Ok (sym (same_parts c.header.ensures options payload))
