-- A packet is not longer without its extension headers.
use Rattle.std.proofs.Common.{arith, ◌≡◌, ◌∙◌, sym, ap, refl, ℕ, ◌+◌, ◌-◌, ◌≤◌, List, [], ◌∷◌, ◌++◌, length, length-append, length-drop, take, drop}
use Rattle.std.proofs.lemmas.List.{length-take-le}
use Rattle.byteorder.specs.Endian.{big_bytes}
use Rattle.capture_reader.specs.Records.{bytes_at}
use Rattle.bridge_links.specs.Extensions.{plain_length, without_extensions}
use Rattle.bridge_links.specs.declared.extensions.Upper.{Upper}

-- some bytes that are there
part-length : (place count : ℕ) (bytes : List ℕ) → place + count ≤ length bytes → length (bytes_at place count bytes) ≡ count
part-length place count bytes there = length-take-le count (drop place bytes) (let size = length-drop place bytes in omega (arith, size, there))

pub without_length : (upper : Upper) (ip : List ℕ) → 40 ≤ upper.place → upper.to + 16 ≤ upper.place → upper.place ≤ length ip
    → length (without_extensions upper ip) ≡ 40 + (length ip - upper.place)
unfolding without_extensions
without_length upper ip least to inside =
    let front = part-length 0 4 ip (omega (arith, least, inside)) in
    let middle = part-length 7 17 ip (omega (arith, least, inside)) in
    let address = part-length upper.to 16 ip (omega (arith, to, inside)) in
    let size : List ℕ = big_bytes 2 (plain_length upper ip) in
    let following = length-drop upper.place ip in
    let two : List ℕ = bytes_at 0 4 ip ++ size in
    let three : List ℕ = two ++ (33 ∷ []) in
    let four : List ℕ = three ++ bytes_at 7 17 ip in
    let five : List ℕ = four ++ bytes_at upper.to 16 ip in
    let same : length (without_extensions upper ip) ≡ length (five ++ drop upper.place ip) = refl in
    let some : length size ≡ 2 = refl in
    let a = length-append (bytes_at 0 4 ip) size in
    let b = length-append two (33 ∷ []) in
    let c = length-append three (bytes_at 7 17 ip) in
    let d = length-append four (bytes_at upper.to 16 ip) in
    let e = length-append five (drop upper.place ip) in
    omega (arith, front, middle, address, following, same, some, a, b, c, d, e, least, to, inside)

pub without_fits : (upper : Upper) (ip : List ℕ) → 40 ≤ upper.place → upper.to + 16 ≤ upper.place → upper.place ≤ length ip
    → length (without_extensions upper ip) ≤ length ip
without_fits upper ip least to inside = let is = without_length upper ip least to inside in omega (arith, is, least, inside)
