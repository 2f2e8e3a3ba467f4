-- The packet of a record is IPv4 that carries the frame.
use Rattle.std.proofs.Common.{arith, ◌≡◌, ◌≤◌, ℕ, ◌+◌, ◌-◌, List, ◌∷◌, ◌++◌, length, length-append, Some, refl, ap, ◌∙◌, true, nat_le, take}
use Rattle.std.proofs.lemmas.Bool.{le-leb}
use Rattle.std.proofs.lemmas.List.{take_all}
use Rattle.byteorder.specs.Endian.{big_bytes}
use Rattle.byteorder.specs.Numbers.{big_number-reads_back}
use Rattle.packet_show.specs.Network.{carried, in_ip, v4_total}
use Rattle.bridge_command.specs.FrameReading.{travels, whole_frame}
use Rattle.bridge_command.specs.FrameRecords.{TimedFrame, both_addresses, ip_checksum, ip_header, ip_packet}
use Rattle.bridge_command.specs.declared.capture.records.Travel.{Travel}

ip-header-length : (t : Travel) (total : ℕ) → length (ip_header t total) ≡ 20
ip-header-length t total = refl

pub packet_length : (t : Travel) (frame : List ℕ) → length (ip_packet t frame) ≡ 20 + length frame
unfolding ip_packet
packet_length t frame =
    length-append (ip_header t (20 + length frame)) frame ∙ ap (λ (n : ℕ). n + length frame) (ip-header-length t (20 + length frame))

-- the total length that the header has
total-of : (t : Travel) (frame : List ℕ) → length frame ≤ 2044 → v4_total (ip_header t (20 + length frame) ++ frame) ≡ 20 + length frame
total-of t frame fits = big_number-reads_back 2 (20 + length frame)
    (0 ∷ 0 ∷ 64 ∷ 0 ∷ 64 ∷ 33 ∷ (big_bytes 2 (ip_checksum t (20 + length frame)) ++ (both_addresses t ++ frame))) (omega (arith, fits))

carries : (t : Travel) (frame : List ℕ) → length frame ≤ 2044
    → in_ip (ip_header t (20 + length frame) ++ frame) ≡ Some (record { pseudo = travels t; bytes = frame; whole = true })
carries t frame fits =
    let bytes = ip_header t (20 + length frame) ++ frame in
    let total = total-of t frame fits in
    let size = length-append (ip_header t (20 + length frame)) frame in
    let front = ip-header-length t (20 + length frame) in
    let there : nat_le 20 (length bytes) ≡ true = le-leb 20 (length bytes) (omega (arith, size, front)) in
    let holds : nat_le 20 (v4_total bytes) ≡ true = le-leb 20 (v4_total bytes) (omega (arith, total)) in
    let whole : nat_le (v4_total bytes) (length bytes) ≡ true = le-leb (v4_total bytes) (length bytes) (omega (arith, total, size, front)) in
    let all : take (v4_total bytes - 20) frame ≡ frame = take_all (v4_total bytes - 20) frame (omega (arith, total)) in
    rw (there, holds, whole, all) refl

pub frame-carried : (f : TimedFrame) → length f.frame ≤ 2044 → carried 101 (ip_packet f.travel f.frame) ≡ Some (whole_frame f)
unfolding ip_packet
frame-carried f fits = carries f.travel f.frame fits
